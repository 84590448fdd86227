-- `checking::mask_of` meets its contract: the mask is the number of the first six bytes.
-- Assumes nothing.
use Rattle.packed_plan.specs.Plan.{mask_in}
use Rattle.checking.proofs.mask_of.Goals as goal

pub returns : goal.returns
unfolding mask_in
returns c = c.word_at.ensures.is
