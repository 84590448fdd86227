-- `text::Writer::figure` meets its contract: the figures, and behind them the byte.
-- Assumes nothing.
use Rattle.text.specs.WritingLaws.{writes-more}
use Rattle.text.proofs.Writer.figure.Goals as goal

pub returns : goal.returns
returns c = writes-more c.count.ensures c.byte.ensures
