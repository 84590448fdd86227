-- `jobs::Records::count` meets its contract.
-- Assumes nothing.
use mathlib.Core.Path.{sym, ◌∙◌}
use Rattle.packed.proofs.PackedLaws.{numbers-count}
use Rattle.jobs.proofs.RecordsJobs.count.Goals as goal

pub returns-clause-all : goal.returns-clause-all
returns-clause-all c = c.args.self.now.stand.counted ∙ sym (numbers-count c.args.self.now.bytes.now)
