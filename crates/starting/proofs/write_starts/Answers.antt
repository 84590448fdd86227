-- `starting::write_starts` meets its contract. The loop's invariant: the starts of the jobs passed are written, and the mask
-- has the picks of those still to come. Assumes nothing.
use Rattle.std.proofs.Common.{◌≡◌, length, arith, rules, w32, to_z, of_z, to_z-of_z}
use mir.Val.{SFits}
use Rattle.packed.specs.Packed.{jobs_in}
use Rattle.fields.specs.Places.{jobs-count}
use Rattle.starting.specs.PicksLaws.{highest-is}
use Rattle.starting.specs.StartsLaws.{writing-all, CanTurn, can-turn}
use Rattle.starting.proofs.write_starts.Goals as goal
use Rattle.starting.proofs.write_starts.Goals.{After-job_at}

-- The turn of the job at the place.
turn : (c : After-job_at) → CanTurn c.args.records.bytes.now c.args.records.count (to_z w32 (of_z w32 c.args.t0)) c.args.mask
    c.args.starts.now c.loop-i.starts (to_z w32 c.loop-i.free-bits) c.loop-i.left c.loop-i.i c.job_at.result
turn c =
    can-turn c.args.records.bytes.now c.requires.order c.args.records.count c.requires.count (to_z w32 (of_z w32 c.args.t0))
    c.args.mask c.args.starts.now c.requires.room c.loop-i.starts (to_z w32 c.loop-i.free-bits) c.loop-i.left c.loop-i.i
    c.loop-i.invariant c.loop-i-test.true c.job_at.result c.job_at.ensures

pub take_turn-turn-requires : goal.take_turn-turn-requires
take_turn-turn-requires c = rw (highest-is c.loop-i.left c.loop-i.invariant.fits) (turn (goal.at.take_turn-turn-requires c).After-job_at).asks

pub loop-i-preserved : goal.loop-i-preserved
loop-i-preserved c =
    let taken = c.take_turn-turn in
    let f : SFits w32 taken.result.start = search rules in
    let g : SFits w32 taken.result.free = search rules in
    rw (to_z-of_z f, to_z-of_z g)
    ((turn (goal.at.loop-i-preserved c).After-job_at).keeps taken.result (rw (highest-is c.loop-i.left c.loop-i.invariant.fits) at taken.ensures))

pub returns : goal.returns
returns c =
    let count : length (jobs_in c.args.records.bytes.now) ≡ c.args.records.count = omega (arith, jobs-count c.args.records.bytes.now, c.requires.count) in
    let all : c.loop-i.i ≡ c.args.records.count = omega (arith, c.loop-i.invariant.few) in
    writing-all (jobs_in c.args.records.bytes.now) c.args.records.count c.args.t0 c.args.mask c.args.starts.now c.loop-i.starts
    (to_z w32 c.loop-i.free-bits) c.loop-i.left count (rw (to_z-of_z c.ranges.t0, all) at c.loop-i.invariant)
