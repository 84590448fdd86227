-- `report::put_kept` meets its contract: three figures, one behind the other.
-- Assumes nothing.
use mathlib.Core.List.{append_assoc}
use Rattle.text.specs.WritingLaws.{writes-more}
use Rattle.report.specs.Writing.{kept_words}
use Rattle.report.proofs.put_kept.Goals as goal

pub returns : goal.returns
unfolding kept_words
returns c = simp append_assoc at (writes-more (writes-more c.figure.ensures c.figure-2.ensures) c.figure-3.ensures)
