-- `repeating::totals_of` meets its contract: a turn counts and weighs the repeats of one job.
-- Assumes nothing.
use mathlib.Core.Path.{◌∙◌}
use Prim.Native.Nat.{◌<◌}
use native.Mathlib.Omega.{arith}
use Rattle.frames.specs.Frames.{jobs_given}
use Rattle.repeating.specs.RepeatingLaws.{jobs-are, JobRead, job_read, times-few, count-on, count-ends}
use Rattle.repeating.proofs.totals_of.Goals as goal
use Rattle.repeating.proofs.totals_of.Goals.{After-read-job, In-loop-place}

-- The place is below the jobs that are given.
below : (c : In-loop-place) → c.loop-place.place < jobs_given c.args.numbers.now
below c = omega (arith, c.loop-place-test.true, jobs-are c.args.numbers.now)

-- The job that was read is the job at the place.
read : (c : After-read-job) → JobRead c.args.numbers.now c.loop-place.place c.read-job.result
read c =
    job_read c.args.numbers.now c.loop-place.place c.read-job.result c.requires.given (below (goal.at.After-read-job c).In-loop-place)
    c.read-job.ensures

pub count_of-requires : goal.count_of-requires
count_of-requires c = (read (goal.at.count_of-requires c).After-read-job).period.low

pub nonzero_div-times : goal.nonzero_div-times
nonzero_div-times c =
    let r = read (goal.at.nonzero_div-times c).After-read-job in
    omega (arith, c.count_of.ensures, r.period.is, r.runs)

pub count_of-requires-in-loop-place : goal.count_of-requires-in-loop-place
count_of-requires-in-loop-place c = (read (goal.at.count_of-requires-in-loop-place c).After-read-job).weight.low

pub weighed-weight-requires : goal.weighed-weight-requires
weighed-weight-requires c =
    let r = read (goal.at.weighed-weight-requires c).After-read-job in
    record {
      few = times-few c.requires c.count_of.result;
      light = omega (arith, c.count_of-in-loop-place.ensures, r.weight.is, r.light);
    }

pub loop-place-preserved : goal.loop-place-preserved
loop-place-preserved c =
    let r = read (goal.at.loop-place-preserved c).After-read-job in
    count-on c.requires r c.count_of.result c.count_of-in-loop-place.result c.weighed-weight.result c.loop-place.count
    c.loop-place.weight (c.count_of.ensures ∙ r.period.is) (c.count_of-in-loop-place.ensures ∙ r.weight.is) c.weighed-weight.ensures
    c.loop-place.invariant

pub returns : goal.returns
returns c =
    let zs = c.args.numbers.now in
    count-ends zs c.loop-place.place _ (omega (arith, jobs-are zs)) c.loop-place.invariant
