-- `week_sheet::read_all` meets its contract: what is held is what the bytes read so far leave, and with every byte fewer can come.
-- Assumes nothing.
use Rattle.feeding.specs.Feeding.{left}
use Rattle.week_report.specs.Telling.{Reached}
use Rattle.week_sheet.proofs.read_all.Given as goal

abbrev pub invariant-loop-part : goal.invariant-loop-part
invariant-loop-part g l = Reached l.part l.figures l.front

abbrev pub decreases-loop-part : goal.decreases-loop-part
decreases-loop-part g l = left l.part l.figures
