-- The contract of framing determines its answer and the lent bytes at exit, for every input: two outcomes that it allows are equal.
use Prim.Native.Nat.{ℕ}
use mathlib.Core.List.{List}
use lib.ListN.{length}
use contract.Lifetimes.{Lfts}
use Rattle.seconds.specs.Determined.{Determines, determined, two}
use Rattle.framing.specs.Answer.{Framed, framed_of, order_after}
use Rattle.framing.proofs.frame.Reads as frame

pub frame-determined : (κs : Lfts 2) → Determines {Z = Framed × List ℕ} (frame.Post κs) (λ r x. (r, x.1.0.now))
frame-determined κs =
    determined (frame.Post κs) (λ r x. (r, x.1.0.now))
    (λ a. (framed_of a.0.now (length a.1.0.now), order_after a.0.now a.1.0.now))
    (λ a r x h. two h.0 h.1)
