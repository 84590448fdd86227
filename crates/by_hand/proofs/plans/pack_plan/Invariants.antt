-- `by_hand::plans::pack_plan` is safe: no more than 48 jobs are kept. Assumes nothing.
use Rattle.std.proofs.Common.{◌≤◌}
use Rattle.by_hand.proofs.plans.pack_plan.Given as goal

abbrev pub invariant-loop-place : goal.invariant-loop-place
invariant-loop-place l = l.kept ≤ 48
