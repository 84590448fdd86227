-- `best_plan::kept_weight` meets its contract. The loop's invariant: the weight so far and that of the jobs from here on are the
-- whole weight.
-- Assumes nothing.
use Rattle.best_plan.specs.WeightLaws.{Summing}
use Rattle.best_plan.proofs.kept_weight.Given as goal

abbrev pub invariant-loop-place : goal.invariant-loop-place
invariant-loop-place l = Summing l.records.bytes.now l.records.count l.mask l.weight l.place
