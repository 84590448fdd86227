-- `halves::first_offending` meets its contract: a turn takes one job.
-- Assumes nothing.
use mathlib.Core.Path.{sym, ◌∙◌}
use Rattle.halves.specs.AwaitingLaws.{search-room, search-starts, can-take, room-kept, search-ends, search-on, search-lacks}
use Rattle.halves.proofs.first_offending.Goals as goal

pub loop-place-init : goal.loop-place-init
loop-place-init c = search-starts c.args.records.bytes.now c.args.records.count c.args.awaited.now c.requires

pub take_half-requires : goal.take_half-requires
take_half-requires c = can-take c.loop-place.invariant c.loop-place-test.true c.job_at-job.result c.job_at-job.ensures

pub shape_of-awaited-then-take_half : goal.shape_of-awaited-then-take_half
shape_of-awaited-then-take_half c =
    room-kept c.loop-place.invariant c.loop-place-test.true c.job_at-job.result c.job_at-job.ensures _ c.take_half.ensures.notes
    ∙ sym (search-room c.args.records.bytes.now c.args.records.count c.args.awaited.now c.requires)

pub returns-then-take_half : goal.returns-then-take_half
returns-then-take_half c =
    search-ends c.loop-place.invariant c.loop-place-test.true c.job_at-job.result c.job_at-job.ensures
    (sym c.if-take_half.true ∙ c.take_half.ensures.tells)

pub loop-place-preserved : goal.loop-place-preserved
loop-place-preserved c =
    search-on c.loop-place.invariant c.loop-place-test.true c.job_at-job.result c.job_at-job.ensures _
    (sym c.if-take_half.false ∙ c.take_half.ensures.tells) c.take_half.ensures.notes

pub shape_of-awaited : goal.shape_of-awaited
shape_of-awaited c =
    c.loop-place.invariant.room ∙ sym (search-room c.args.records.bytes.now c.args.records.count c.args.awaited.now c.requires)

pub returns : goal.returns
returns c = search-lacks c.loop-place.invariant c.loop-place-test.false
