-- `best_plan::kept_weight` meets its contract: a turn weighs one job.
-- Assumes nothing.
use Prim.Native.Nat.{◌<◌}
use native.Mathlib.Omega.{arith}
use Rattle.best_plan.specs.WeightLaws.{sum-starts, job-weighs, gain-small, sum-on, sum-ends}
use Rattle.best_plan.proofs.kept_weight.Goals as goal
use Rattle.best_plan.proofs.kept_weight.Goals.{In-loop-place}

pub loop-place-init : goal.loop-place-init
loop-place-init c = sum-starts c.args.records.bytes.now c.args.records.count c.args.mask c.requires

-- There are at most 48 jobs.
few : (c : In-loop-place) → c.loop-place.place < 48
few c = let i = c.loop-place.invariant in omega (arith, c.loop-place-test.true, i.count, i.order.header.few)

pub keeps-requires : goal.keeps-requires
keeps-requires c = few (goal.at.keeps-requires c).In-loop-place

pub weight_of-weight-requires : goal.weight_of-weight-requires
weight_of-weight-requires c = job-weighs c.loop-place.invariant c.loop-place-test.true c.job_at-job.result c.job_at-job.ensures

-- What the job counts is small.
pub overflow_add-weight : goal.overflow_add-weight
overflow_add-weight c =
    let small = gain-small c.loop-place.invariant c.loop-place-test.true c.job_at-job.result c.job_at-job.ensures c.keeps.ensures
    c.weight_of-weight.ensures in
    omega (arith, small, few (goal.at.overflow_add-weight c).In-loop-place, c.loop-place.invariant.light)

pub loop-place-preserved : goal.loop-place-preserved
loop-place-preserved c =
    sum-on c.loop-place.invariant c.loop-place-test.true c.job_at-job.result c.job_at-job.ensures c.keeps.ensures
    c.weight_of-weight.ensures

pub returns : goal.returns
returns c = sum-ends c.loop-place.invariant c.loop-place-test.false
