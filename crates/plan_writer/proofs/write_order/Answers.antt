-- `plan_writer::write_order` meets its contract: the test judges the room.
-- Assumes nothing.
use native.Mathlib.Omega.{arith}
use Rattle.plan_writer.specs.CallLaws.{write-no-room}
use Rattle.plan_writer.proofs.write_order.Goals as goal

pub returns-then-out-lt-PLAN_ROOM : goal.returns-then-out-lt-PLAN_ROOM
returns-then-out-lt-PLAN_ROOM c =
    rw c.into.ensures
    (write-no-room c.args.order.now c.args.out.now c.args.work.now c.requires (omega (arith, c.if-out-lt-PLAN_ROOM.true)))
