-- The contract of joining determines its answer and the first sheet's numbers at exit, for every input.
use Prim.Native.Nat.{ℕ}
use mathlib.Core.List.{List}
use contract.Lifetimes.{Lfts}
use Rattle.std.specs.Prelude.{Result, ⊤}
use Rattle.refusals.specs.declared.Reason.{Reason}
use Rattle.seconds.specs.Determined.{Determines, determined, two}
use Rattle.sheet.specs.Sheet.{join_refusal, joined_after}
use Rattle.sheet.proofs.join.Reads as join

pub join-determined : (κs : Lfts 2) → Determines {Z = Result ⊤ Reason × List ℕ} (join.Post κs) (λ r x. (r, x.0.now))
join-determined κs =
    determined (join.Post κs) (λ r x. (r, x.0.now))
    (λ a. (join_refusal a.0.now a.1.0.now, joined_after a.0.now a.1.0.now))
    (λ a r x h. two h.answer h.lent)
