-- `walking::walk` meets its contract. The loop's invariant: the trail after the jobs that are left, which ends as the whole
-- walk does. Assumes nothing.
use Rattle.std.proofs.Common.{ℕ, suc, ◌-◌, ◌≡◌, arith, w32, to_z, of_z, to_z-of_z}
use Rattle.seconds.specs.RangesLaws.{free-fits}
use Rattle.reading.specs.declared.Found.{Found}
use Rattle.filling.specs.Lists.{noted}
use Rattle.walking.specs.declared.Trail.{Trail}
use Rattle.walking.specs.Trail.{Walks}
use Rattle.walking.specs.TrailLaws.{Trails, trail-start, trail-end, CanStep, can-step}
use Rattle.walking.proofs.walk.Goals as goal
use Rattle.walking.proofs.walk.Goals.{After-job_at-job, Start}

-- What is given, with the end as the code reads it back.
module _ (s : Start) where
  abbrev end : Found
  end = record { weight = s.args.end.weight; time = to_z w32 (of_z w32 s.args.end.time) }

  time-back : end.time ≡ s.args.end.time
  time-back = to_z-of_z (free-fits s.requires.free)

  walks : Walks s.args.work.now s.args.records.bytes.now s.args.records.count s.args.notes.now end
  walks = rw time-back s.requires

pub loop-k-init : goal.loop-k-init
loop-k-init c = trail-start (walks (goal.at.loop-k-init c).Start)

-- The trail, with the job at its place read.
module _ (c : After-job_at-job) where
  abbrev entry : Start
  entry = (goal.at.After-job_at-job c).Start

  abbrev k : ℕ
  k = c.loop-k.k - 1

  abbrev trail : Trail
  trail = c.loop-k.trail

  on : Trails c.args.records.bytes.now (end entry).weight (end entry).time (suc k) trail
  on = let e : suc k ≡ c.loop-k.k = omega (arith, c.loop-k-test.true) in rw e c.loop-k.invariant

  step : CanStep c.args.work.now c.args.records.bytes.now (noted c.args.notes.now k) (end entry).weight (end entry).time k c.job_at-job.result trail
  step = can-step (walks entry) k trail on c.job_at-job.result c.job_at-job.ensures

pub step_back-trail-requires : goal.step_back-trail-requires
step_back-trail-requires c = rw c.bit_at.ensures (step (goal.at.step_back-trail-requires c).After-job_at-job).asks

pub loop-k-preserved : goal.loop-k-preserved
loop-k-preserved c =
    (step (goal.at.loop-k-preserved c).After-job_at-job).keeps c.step_back-trail.result (rw c.bit_at.ensures at c.step_back-trail.ensures)

pub returns : goal.returns
returns c =
    let s = (goal.at.returns c).Start in
    let none : c.loop-k.k ≡ 0 = omega (arith, c.loop-k-test.false) in
    rw (time-back s) at (trail-end (walks s) (rw none at c.loop-k.invariant))
