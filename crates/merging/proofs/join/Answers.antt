-- `merging::join` meets its contract. Assumes nothing.
use Rattle.std.proofs.Common.{arith, length-set}
use Rattle.codes.specs.Code.{past_all}
use Rattle.merging.specs.JoinLaws.{join-few, high, can-weigh, can-merge, joins}
use Rattle.merging.proofs.join.Goals as goal

pub copy-requires : goal.copy-requires
copy-requires c =
    let g = c.requires in
    let used = c.end-used.ensures in
    let long = length-set c.args.work.now c.end-used.result past_all in
    record { apart = omega (arith, high g, g.cut.count); room = omega (arith, high g, g.cut.count, join-few g, g.room) }

-- The front is copied.
pub light_before-lightest-requires : goal.light_before-lightest-requires
light_before-lightest-requires c = can-weigh c.requires (rw c.end-used.ensures at c.copy.ensures)

pub overflow_sub-back : goal.overflow_sub-back
overflow_sub-back c = rw c.end-used.ensures (high c.requires)

pub overflow_add-used-3 : goal.overflow_add-used-3
overflow_add-used-3 c = omega (arith, c.end-used.ensures, high c.requires, c.requires.cut.count, c.requires.room)

pub merge-end-requires : goal.merge-end-requires
merge-end-requires c = rw c.end-used.ensures (can-merge c.requires (rw c.end-used.ensures at c.copy.ensures) c.light_before-lightest.ensures)

pub returns : goal.returns
returns c = rw c.end-used.ensures (joins c.requires (rw c.end-used.ensures at c.copy.ensures) c.light_before-lightest.ensures (rw c.end-used.ensures at c.merge-end.ensures))
