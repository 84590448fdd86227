-- `sheet_text::put_top` meets its contract: nothing to tell, or the total and the place.
-- Assumes nothing.
use native.Mathlib.Omega.{arith}
use Rattle.text.specs.WritingLaws.{writes-more, writes-wider}
use Rattle.sheet_text.specs.WritingLaws.{top-none, top-some}
use Rattle.sheet_text.proofs.put_top.Goals as goal

pub returns-then-top-eq0 : goal.returns-then-top-eq0
returns-then-top-eq0 c = rw (top-none c.args.top c.args.place (omega (arith, c.if-top-eq0.true))) (writes-wider (omega arith) c.bytes.ensures)

pub returns-else-top-eq0 : goal.returns-else-top-eq0
returns-else-top-eq0 c =
    rw (top-some c.args.top c.args.place (omega (arith, c.if-top-eq0.false))) (writes-more c.figure.ensures c.figure-else-top-eq0.ensures)
