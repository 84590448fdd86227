-- `sheet_text::put_fraction` meets its contract: nothing to tell, or both numbers of the fraction in lowest terms.
-- Assumes nothing.
use native.Mathlib.Omega.{arith}
use Rattle.text.specs.WritingLaws.{writes-more, writes-wider}
use Rattle.sheet_text.specs.WritingLaws.{fraction-none, fraction-some}
use Rattle.sheet_text.proofs.put_fraction.Goals as goal

pub returns-then-lower-eq0 : goal.returns-then-lower-eq0
returns-then-lower-eq0 c = rw (fraction-none c.args.upper c.args.lower (omega (arith, c.if-lower-eq0.true))) (writes-wider (omega arith) c.bytes.ensures)

pub returns-else-lower-eq0 : goal.returns-else-lower-eq0
returns-else-lower-eq0 c =
    rw (fraction-some c.args.upper c.args.lower c.lowest_terms-fraction.result c.lowest_terms-fraction.ensures (omega (arith, c.if-lower-eq0.false))) (writes-more c.figure.ensures c.figure-else-lower-eq0.ensures)
