-- `report::report` meets its contract: nothing where there is too little room, else the text.
-- Assumes nothing.
use Rattle.report.specs.Telling.{nothing-reported, text-reported}
use Rattle.report.proofs.report.Goals as goal
use Rattle.report.proofs.report.Goals.{After-plan_and_tell, Else-out-lt-ROOM, Start}

pub returns-then-out-lt-ROOM : goal.returns-then-out-lt-ROOM
returns-then-out-lt-ROOM c =
    let s : Start = (goal.at.returns-then-out-lt-ROOM c).Start in
    nothing-reported s.args.bytes.now s.args.out.now c.if-out-lt-ROOM.true

pub returns : goal.returns
returns c =
    let told : After-plan_and_tell = (goal.at.returns c).After-plan_and_tell in
    let else1 : Else-out-lt-ROOM = (goal.at.After-plan_and_tell told).Else-out-lt-ROOM in
    let s : Start = (goal.at.After-plan_and_tell told).Start in
    text-reported s.args.bytes.now s.args.out.now else1.if-out-lt-ROOM.false
    told.plan_and_tell.ensures
