-- `report::put_plan` meets its contract: the parts of the line, one behind the other.
-- Assumes nothing.
use mir.Syntax.{w32}
use mir.Val.{SFits}
use borrow.Author.Rules.{rules}
use Rattle.text.specs.WritingLaws.{writes-more, writes-number}
use Rattle.report.specs.WritingLaws.{plan-line}
use Rattle.report.proofs.put_plan.Goals as goal

pub returns : goal.returns
returns c =
    let fits : SFits w32 c.args.figures.finish = search rules in
    let first = writes-more c.put_front.ensures c.put_kept.ensures in
    let second = writes-more first (writes-number fits c.number.ensures) in
    rw (plan-line c.args.figures) (writes-more (writes-more second c.byte.ensures) c.figure.ensures)
