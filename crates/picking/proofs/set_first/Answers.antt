-- `picking::set_first` meets its contract: a turn sets the time of one job.
-- Assumes nothing.
use Prim.Native.Nat.{◌/◌, ◌≤◌}
use mathlib.Core.Path.{◌≡◌, ◌∙◌}
use native.Mathlib.Omega.{arith}
use lib.ListN.{length}
use Rattle.seconds.specs.Signed.{signed}
use Rattle.judge.specs.Gathering.{noted-on}
use Rattle.frames.specs.Frames.{jobs_given, phase_at}
use Rattle.repeating.specs.RepeatingLaws.{JobRead, job_read}
use Rattle.picking.specs.PickingLaws.{none_done}
use Rattle.picking.proofs.set_first.Goals as goal
use Rattle.picking.proofs.set_first.Goals.{After-read-job, At-loop-p}

-- The job that was read is the one given at its place.
read : (c : After-read-job) → JobRead c.args.numbers.now c.loop-p.p c.read-job.result
unfolding jobs_given
read c = job_read c.args.numbers.now c.loop-p.p c.read-job.result c.requires.given (omega arith) c.read-job.ensures

pub count_of-requires : goal.count_of-requires
count_of-requires c = omega (signed, read (goal.at.count_of-requires c).After-read-job)

-- There is room for a time at its place.
room : (l : At-loop-p) → length l.args.numbers.now / 6 ≤ length l.loop-p.next
unfolding jobs_given
room l = omega (arith, l.requires.room)

pub loop-p-preserved : goal.loop-p-preserved
loop-p-preserved c =
    let zs = c.args.numbers.now in
    let phase = c.count_of.result in
    let counted : c.count_of.result ≡ phase_at c.args.numbers.now c.loop-p.p =
    c.count_of.ensures ∙ (read (goal.at.loop-p-preserved c).After-read-job).phase.is in
    noted-on (λ i n. n ≡ phase_at zs i) c.loop-p.next c.loop-p.p phase (omega (arith, room (goal.at.loop-p-preserved c).At-loop-p)) counted
    c.loop-p.invariant

pub returns : goal.returns
unfolding jobs_given
returns c =
    none_done c.requires.given c.loop-p.next (room (goal.at.returns c).At-loop-p) (λ p h. c.loop-p.invariant p (omega arith))
