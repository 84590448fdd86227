-- `sheet_text::put_last` meets its contract: the one word or the other.
-- Assumes nothing.
use native.Mathlib.Omega.{arith}
use Rattle.text.specs.WritingLaws.{writes-wider}
use Rattle.sheet_text.specs.SheetText.{last_line}
use Rattle.sheet_text.proofs.put_last.Goals as goal

pub returns-then-cut : goal.returns-then-cut
unfolding last_line
returns-then-cut c = rw c.if-cut.true (writes-wider (omega arith) c.bytes.ensures)

pub returns-else-cut : goal.returns-else-cut
unfolding last_line
returns-else-cut c = rw c.if-cut.false c.bytes-else-cut.ensures
