-- The contract of telling a sheet determines the answer and the lent bytes at exit, for every input.
use Prim.Native.Nat.{ℕ}
use mathlib.Core.List.{List}
use contract.Lifetimes.{Lfts}
use Rattle.std.specs.Prelude.{Result}
use Rattle.seconds.specs.Determined.{Determines, determined, two}
use Rattle.refusals.specs.declared.Reason.{Reason}
use Rattle.sheet_text.specs.SheetText.{told_of, text_after}
use Rattle.sheet_text.proofs.tell.Reads as tell

pub tell-determined : (κs : Lfts 2) → Determines {Z = Result ℕ Reason × List ℕ} (tell.Post κs) (λ r x. (r, x.1.1.0.now))
tell-determined κs =
    determined (tell.Post κs) (λ r x. (r, x.1.1.0.now))
    (λ a. (told_of a.0.now a.1.0 a.1.1.0.now, text_after a.0.now a.1.0 a.1.1.0.now))
    (λ a r x h. two h.answer h.text)
