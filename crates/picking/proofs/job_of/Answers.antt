-- `picking::job_of` meets its contract: a number below 48, a ready time and a deadline within a frame have room in their types.
-- Assumes nothing.
use Rattle.picking.specs.PuttingLaws.{job-made}
use Rattle.picking.proofs.job_of.Goals as goal

pub returns : goal.returns
returns c = job-made c.requires
