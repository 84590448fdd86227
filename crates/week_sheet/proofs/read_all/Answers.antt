-- `week_sheet::read_all` meets its contract: it begins with nothing read, and a read goes on from there. Assumes nothing.
use Rattle.week_report.specs.TellingLaws.{reached-none, reached-more}
use Rattle.week_sheet.proofs.read_all.Goals as goal

pub loop-part-init : goal.loop-part-init
loop-part-init g c = reached-none c.args.figures.now c.args.front.now c.args.work.now c.requires

pub returns-then-read-eq0 : goal.returns-then-read-eq0
returns-then-read-eq0 g c = reached-more c.loop-part.invariant _ _ c.in_ok-read.read.part _ _ _ c.in_ok-read.ensures.fed

pub loop-part-preserved : goal.loop-part-preserved
loop-part-preserved g c = reached-more c.loop-part.invariant _ _ c.in_ok-read.read.part _ _ _ c.in_ok-read.ensures.fed
