-- The contract of unpacking determines its answer and the lent numbers at exit, for every input: two outcomes that it allows
-- are equal.
use mathlib.Core.List.{List}
use contract.Lifetimes.{Lfts}
use lib.IntN.{ℤ}
use lib.ListN.{length}
use Rattle.seconds.specs.Determined.{Determines, determined, two}
use Rattle.unpack.specs.Answer.{Answer, unpack_of, numbers_after}
use Rattle.unpack.proofs.unpack.Reads as unpack

pub unpack-determined : (κs : Lfts 2) → Determines {Z = Answer × List ℤ} (unpack.Post κs) (λ r x. (r, x.1.0.now))
unpack-determined κs =
    determined (unpack.Post κs) (λ r x. (r, x.1.0.now))
    (λ a. (unpack_of a.0.now (length a.1.0.now), numbers_after a.0.now a.1.0.now))
    (λ a r x h. two h.0 h.1)
