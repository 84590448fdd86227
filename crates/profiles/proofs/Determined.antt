-- The contract of each call determines its answer, for every input.
use contract.Lifetimes.{Lfts}
use Rattle.profiles.specs.Numbers.{holds_profile}
use Rattle.profiles.specs.Answer.{lookup_of}
use Rattle.seconds.specs.Determined.{Determines, determined}
use Rattle.profiles.proofs.valid.Reads as valid
use Rattle.profiles.proofs.lookup.Reads as lookup

pub valid-determined : (κs : Lfts 1) → Determines (valid.Post κs) (λ r x. r)
valid-determined κs = determined (valid.Post κs) (λ r x. r) (λ a. holds_profile a.0.now) (λ a r x h. h)

pub lookup-determined : (κs : Lfts 1) → Determines (lookup.Post κs) (λ r x. r)
lookup-determined κs = determined (lookup.Post κs) (λ r x. r) (λ a. lookup_of a.0.now a.1.0) (λ a r x h. h)
