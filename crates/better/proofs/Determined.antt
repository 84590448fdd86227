-- The contract of better-of determines its answer and the lent numbers at exit, for every input.
use mathlib.Core.List.{List}
use contract.Lifetimes.{Lfts}
use lib.IntN.{ℤ}
use Rattle.seconds.specs.Determined.{Determines, determined, two}
use Rattle.better.specs.Answer.{Joined, joined_of, out_after}
use Rattle.better.proofs.better_of.Reads as better-of

pub better-of-determined : (κs : Lfts 3) → Determines {Z = Joined × List ℤ} (better-of.Post κs) (λ r x. (r, x.1.1.0.now))
better-of-determined κs =
    determined (better-of.Post κs) (λ r x. (r, x.1.1.0.now))
    (λ a. (joined_of a.0.now a.1.0.now a.1.1.0.now, out_after a.0.now a.1.0.now a.1.1.0.now))
    (λ a r x h. two h.0 h.1)
