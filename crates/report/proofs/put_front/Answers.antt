-- `report::put_front` meets its contract: the number and the place, a space behind each.
-- Assumes nothing.
use mathlib.Core.List.{append_assoc}
use Rattle.text.specs.WritingLaws.{writes-more}
use Rattle.report.proofs.put_front.Goals as goal

pub returns : goal.returns
returns c = simp append_assoc at (writes-more c.figure.ensures c.figure-2.ensures)
