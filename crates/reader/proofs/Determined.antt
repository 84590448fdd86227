-- The contract of each call determines its answer, for every input: two outcomes that it allows are equal.
use contract.Lifetimes.{Lfts}
use Rattle.seconds.specs.Determined.{Determines, determined}
use Rattle.reader.specs.Reading.{open_of, step_of}
use Rattle.reader.proofs.open.Reads as opens
use Rattle.reader.proofs.step.Reads as step

pub open-determined : (κs : Lfts 1) → Determines (opens.Post κs) (λ r x. r)
open-determined κs = determined (opens.Post κs) (λ r x. r) (λ a. open_of a.0.now) (λ a r x h. h)

pub step-determined : (κs : Lfts 1) → Determines (step.Post κs) (λ r x. r)
step-determined κs = determined (step.Post κs) (λ r x. r) (λ a. step_of a.0.now a.1.0) (λ a r x h. h)
