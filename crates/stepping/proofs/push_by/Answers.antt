-- `stepping::push_by` meets its contract: the points up to the last start are found and pushed. Assumes nothing.
use Rattle.std.proofs.Common.{rules, w32, to_z-of_z}
use mir.Val.{SFits}
use Rattle.stepping.specs.Cases.{pushes}
use Rattle.stepping.proofs.push_by.Goals as goal

pub push-list-requires : goal.push-list-requires
push-list-requires c =
    let ready : SFits w32 c.args.job.ready = search rules in
    rw (to_z-of_z ready) ((pushes c.requires).push _ c.startable_to-end.ensures)

pub overflow_sub-result : goal.overflow_sub-result
overflow_sub-result c =
    let ready : SFits w32 c.args.job.ready = search rules in
    (pushes c.requires).fits _ _ _ c.startable_to-end.ensures (rw (to_z-of_z ready) at c.push-list.ensures)

pub returns : goal.returns
returns c =
    let ready : SFits w32 c.args.job.ready = search rules in
    (pushes c.requires).gives _ _ _ c.startable_to-end.ensures (rw (to_z-of_z ready) at c.push-list.ensures)
