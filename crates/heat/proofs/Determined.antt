-- The contract of the heat-up call determines its answer, for every byte: two outcomes that it allows are equal.
use contract.Lifetimes.{Lfts}
use Rattle.seconds.specs.Determined.{Determines, determined}
use Rattle.heat.specs.Answer.{heating_of}
use Rattle.heat.proofs.heat_up.Reads as heat-up

pub heat-up-determined : (κs : Lfts 0) → Determines (heat-up.Post κs) (λ r x. r)
heat-up-determined κs = determined (heat-up.Post κs) (λ r x. r) (λ a. heating_of a.0) λ a r x h. h
