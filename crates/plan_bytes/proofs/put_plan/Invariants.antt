-- `plan_bytes::put_plan` meets its contract: the starts written are those of the jobs kept at the places passed.
-- Assumes nothing.
use Rattle.plan_bytes.specs.Plans.{Writing}
use Rattle.plan_bytes.proofs.put_plan.Given as goal

abbrev pub invariant-loop-start : goal.invariant-loop-start
invariant-loop-start l = Writing l.initial.bytes l.mask l.starts l.bytes l.kept l.start-index
