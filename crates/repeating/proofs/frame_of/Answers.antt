-- `repeating::frame_of` meets its contract: a turn takes the period of one job in.
-- Assumes nothing.
use mathlib.Core.Path.{◌∙◌}
use Prim.Native.Nat.{◌<◌}
use native.Mathlib.Omega.{arith}
use Rattle.frames.specs.Frames.{jobs_given}
use Rattle.repeating.specs.RepeatingLaws.{jobs-are, JobRead, job_read, frame-starts, frame-grows, frame-ends}
use Rattle.repeating.proofs.frame_of.Goals as goal
use Rattle.repeating.proofs.frame_of.Goals.{After-read-job, In-loop-place}

pub loop-place-init : goal.loop-place-init
loop-place-init c = frame-starts c.args.numbers.now

-- The place is below the jobs that are given.
below : (c : In-loop-place) → c.loop-place.place < jobs_given c.args.numbers.now
below c = omega (arith, c.loop-place-test.true, jobs-are c.args.numbers.now)

-- The job that was read is the job at the place.
read : (c : After-read-job) → JobRead c.args.numbers.now c.loop-place.place c.read-job.result
read c =
    job_read c.args.numbers.now c.loop-place.place c.read-job.result c.requires (below (goal.at.After-read-job c).In-loop-place)
    c.read-job.ensures

pub count_of-requires : goal.count_of-requires
count_of-requires c = (read (goal.at.count_of-requires c).After-read-job).period.low

pub grown-frame-requires : goal.grown-frame-requires
grown-frame-requires c =
    let r = read (goal.at.grown-frame-requires c).After-read-job in
    record { first = c.loop-place.invariant.some; second = omega (arith, c.count_of.ensures, r.period.is, r.runs) }

pub loop-place-preserved : goal.loop-place-preserved
loop-place-preserved c =
    let r = read (goal.at.loop-place-preserved c).After-read-job in
    let b = below (goal.at.loop-place-preserved c).In-loop-place in
    frame-grows c.requires c.loop-place.place c.loop-place.frame c.count_of.result c.grown-frame.result b
    (c.count_of.ensures ∙ r.period.is) c.loop-place.invariant c.grown-frame.ensures

pub returns : goal.returns
returns c =
    let zs = c.args.numbers.now in
    frame-ends zs c.loop-place.place c.loop-place.frame (omega (arith, jobs-are zs)) c.loop-place.invariant
