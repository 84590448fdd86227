-- `report::put_start` meets its contract: the two words for a start.
-- Assumes nothing.
use mathlib.Core.Path.{ap}
use native.Mathlib.Omega.{arith}
use mir.Syntax.{w32}
use mir.Val.{of_z}
use Rattle.seconds.specs.Limits.{left_out}
use Rattle.seconds.specs.Signed.{signed, same_bits}
use Rattle.text.specs.WritingLaws.{writes-wider, writes-number}
use Rattle.report.specs.WritingLaws.{word-left-out, word_kept}
use Rattle.report.proofs.put_start.Goals as goal

pub returns-then-start-eq-LEFT_OUT : goal.returns-then-start-eq-LEFT_OUT
returns-then-start-eq-LEFT_OUT c =
    let left_out = same_bits {y = left_out} c.ranges.start (omega signed) c.if-start-eq-LEFT_OUT.true in
    rw (word-left-out left_out) (writes-wider (omega arith) c.byte.ensures)

pub returns-else-start-eq-LEFT_OUT : goal.returns-else-start-eq-LEFT_OUT
returns-else-start-eq-LEFT_OUT c =
    rw (word_kept (λ e. c.if-start-eq-LEFT_OUT.false (ap (of_z w32) e))) (writes-number c.ranges.start c.number.ensures)
