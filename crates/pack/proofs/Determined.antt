-- The contract of packing determines its answer and the lent bytes at exit, for every input: two outcomes that it allows are
-- equal.
use Prim.Native.Nat.{ℕ}
use mathlib.Core.List.{List}
use lib.ListN.{length}
use contract.Lifetimes.{Lfts}
use Rattle.seconds.specs.Determined.{Determines, determined, two}
use Rattle.pack.specs.Answer.{Packed, pack_of, bytes_after}
use Rattle.pack.proofs.pack.Reads as pack

pub pack-determined : (κs : Lfts 2) → Determines {Z = Packed × List ℕ} (pack.Post κs) (λ r x. (r, x.1.1.0.now))
pack-determined κs =
    determined (pack.Post κs) (λ r x. (r, x.1.1.0.now))
    (λ a. (pack_of a.0 a.1.0.now (length a.1.1.0.now), bytes_after a.0 a.1.0.now a.1.1.0.now))
    (λ a r x h. two h.0 h.1)
