-- `plan_order::main` meets its contract: what is written is the text for what was read. Assumes nothing.
use Rattle.std.proofs.Common.{arith, ◌≡◌, length, take}
use Rattle.report.specs.Report.{printed}
use Rattle.planner.specs.Longer.{longest-is}
use Rattle.report.specs.Telling.{front-told}
use Rattle.plan_order.proofs.main.Goals as goal

pub read-count-requires : goal.read-count-requires
read-count-requires c = omega (arith, longest-is)

-- The text's length is said of the bytes read too, so that a report of other bytes is refused by what differs.
pub write-requires : goal.write-requires
write-requires c =
    let told = c.report_read-end in
    let bytes = take c.read-count.result c.read-count.new.input in
    let count : told.result ≡ length (printed bytes _) = told.ensures.count in
    front-told bytes _ (omega arith) told.ensures
