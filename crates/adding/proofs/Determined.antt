-- The contract of one order more determines its answer and both lent buffers at exit, for every input.
use Prim.Native.Nat.{ℕ}
use mathlib.Core.List.{List}
use contract.Lifetimes.{Lfts}
use lib.IntN.{ℤ}
use Rattle.std.specs.Prelude.{Result, ⊤}
use Rattle.refusals.specs.declared.Reason.{Reason}
use Rattle.seconds.specs.Determined.{Determines, determined, three}
use Rattle.adding.specs.Calls.{add_refusal, add_after, add_work_after}
use Rattle.adding.proofs.add.Reads as add

pub add-determined : (κs : Lfts 3)
    → Determines {Z = Result ⊤ Reason × List ℕ × List ℤ} (add.Post κs) (λ r x. (r, x.0.now, x.1.1.0.now))
add-determined κs =
    determined (add.Post κs) (λ r x. (r, x.0.now, x.1.1.0.now))
    (λ a. (
      add_refusal a.0.now a.1.1.0.now,
      add_after a.0.now a.1.0.now a.1.1.0.now,
      add_work_after a.0.now a.1.1.0.now,
    ))
    (λ a r x h. three h.answer h.lent h.area)
