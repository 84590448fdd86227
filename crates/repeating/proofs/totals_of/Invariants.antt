-- `repeating::totals_of` meets its contract. The loop's invariant: the repeats of the jobs before the place are counted and weighed,
-- and are few and light enough that both sums fit. Assumes nothing.
use Rattle.repeating.specs.RepeatingLaws.{CountedTo}
use Rattle.repeating.proofs.totals_of.Given as goal

abbrev pub invariant-loop-place : goal.invariant-loop-place
invariant-loop-place l = CountedTo l.numbers l.place l.count l.weight
