-- `walking::step_back` meets its contract: the test is that of the job's source, and each number is the one for a job left out
-- or the one for a job kept. Assumes nothing.
use Rattle.std.proofs.Common.{◌+◌, ◌-◌, ◌≤◌, ◌≡◌, sym, ap₂, ◌∙◌, Bool, cond, ℤ, nat_abs, rules, w32, to_z, of_z, to_z-of_z}
use mathlib.Core.List.{List}
use mathlib.Core.Option.{some}
use mir.Val.{SFits}
use Rattle.seconds.specs.RangesLaws.{free-fits}
use Rattle.seconds.specs.Signed.{signed, abs_is}
use Rattle.order.specs.Job.{Point}
use Rattle.packed.specs.Packed.{is_critical}
use Rattle.fields.specs.Fields.{fields_of, as_job}
use Rattle.fields.specs.Facts.{JobFacts, job-facts, JobFits, facts-fit, mark-bits}
use Rattle.codes.specs.Code.{points_at}
use Rattle.walking.specs.Trail.{leaves_out, last_start_of, step_back}
use Rattle.walking.specs.Sources.{step-either}
use Rattle.walking.proofs.step_back.Goals as goal
use Rattle.walking.proofs.step_back.Goals.{After-leaves-left, After-last_start-last}

-- What is given: the job's numbers and the time as the code reads them back from their bits, and the list before the job.
module _ (c : After-leaves-left) where
  facts : JobFacts c.args.job
  facts = (job-facts c.args.job).0 c.requires.within

  fitting : JobFits c.args.job
  fitting = facts-fit c.args.job facts

  weight-back : to_z w32 (of_z w32 c.args.job.weight) ≡ c.args.job.weight
  weight-back = to_z-of_z fitting.weight

  by-back : to_z w32 (of_z w32 c.args.trail.by) ≡ c.args.trail.by
  by-back = to_z-of_z (free-fits c.requires.free)

  abbrev list : List Point
  list = points_at c.args.work.now c.args.list

  abbrev last : ℤ
  last = last_start_of c.args.job.length c.args.job.deadline c.args.trail.by

  abbrev left : Bool
  left = c.leaves-left.result

  -- The test is whether the job is left out.
  left_is : left ≡ leaves_out (is_critical (fields_of c.args.job)) list c.args.trail.weight c.args.trail.by
  left_is =
      c.leaves-left.ensures
      ∙ ap₂ (λ (b : Bool) (t : ℤ). leaves_out b list c.args.trail.weight t) (mark-bits c.args.job.critical facts.critical) by-back

  -- The step back, whichever it is.
  step_is : (cond left 0 (nat_abs c.args.job.weight) ≤ c.args.trail.weight)
      × (step_back (as_job c.args.job) c.args.bit list c.args.trail
      ≡ some (record {
        mask = c.args.trail.mask + cond left 0 c.args.bit;
        weight = c.args.trail.weight - cond left 0 (nat_abs c.args.job.weight);
        by = cond left c.args.trail.by last;
      }))
  step_is =
      step-either c.args.job c.args.bit list c.args.trail facts c.requires.source c.requires.found left (sym left_is)

pub last_start-last-requires : goal.last_start-last-requires
last_start-last-requires c =
    let told = (goal.at.last_start-last-requires c).After-leaves-left in
    let f = facts told in
    let g = fitting told in
    record {
      takes = omega (signed, f.long, g.long);
      ends = omega (signed, f.ready, g.ready, f.deadline, g.deadline);
      free = omega (signed, c.requires.free, by-back told);
    }

-- The last start that the call gives.
last-is : (c : After-last_start-last) → to_z w32 (of_z w32 c.last_start-last.result) ≡ last (goal.at.After-last_start-last c).After-leaves-left
last-is c =
    let told = (goal.at.After-last_start-last c).After-leaves-left in
    let f : SFits w32 c.last_start-last.result = search rules in
    to_z-of_z f ∙ rw (to_z-of_z (fitting told).long, to_z-of_z (fitting told).deadline, by-back told) at c.last_start-last.ensures

pub overflow_cast-job : goal.overflow_cast-job
overflow_cast-job c =
    let told = (goal.at.overflow_cast-job c).After-leaves-left in
    rw (weight-back told) (omega (signed, (facts told).weight, abs_is c.args.job.weight))

pub overflow_sub-result : goal.overflow_sub-result
overflow_sub-result c =
    let told = (goal.at.overflow_sub-result c).After-leaves-left in
    rw (c.select_unpredictable-gain.ensures, weight-back told) (step_is told).0

pub returns : goal.returns
returns c =
    let told = (goal.at.returns c).After-leaves-left in
    let f : SFits w32 c.select_unpredictable.result = search rules in
    let gain = rw (weight-back told) at c.select_unpredictable-gain.ensures in
    let by = to_z-of_z f ∙ rw (by-back told, last-is (goal.at.returns c).After-last_start-last) at c.select_unpredictable.ensures in
    rw (c.select_unpredictable-worth.ensures, gain, by) (sym (step_is told).1)
