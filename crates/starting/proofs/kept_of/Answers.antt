-- `starting::kept_of` meets its contract: the ones in the mask are the jobs that it keeps.
-- Assumes nothing.
use Rattle.starting.specs.PicksLaws.{ones-kept}
use Rattle.starting.proofs.kept_of.Goals as goal

pub returns : goal.returns
returns c = ones-kept c.args.mask c.ranges.mask.fits
