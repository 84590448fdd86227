-- `report::put_refusal` meets its contract: the front of the line, and the field behind it.
-- Assumes nothing.
use borrow.Author.Rules.{rules}
use Rattle.text.specs.Buffer.{Wrote}
use Rattle.text.specs.WritingLaws.{writes-more}
use Rattle.report.specs.Report.{refusal_line}
use Rattle.report.specs.WritingLaws.{refusal-line}
use Rattle.report.proofs.put_refusal.Goals as goal

pub returns : goal.returns
returns c =
    let all = writes-more c.put_front.ensures c.figure.ensures in
    let told : Wrote c.args.out.now 0 (refusal_line c.args.refusal) c.figure.new.self.out.now c.figure.new.self.at =
    rw (refusal-line c.args.refusal, ← c.number.ensures, ← c.place.ensures, ← c.figure-field.ensures) all.wrote in
    let same = all.same in
    search rules
