-- `jobs::Given::count` meets its contract.
-- Assumes nothing.
use mathlib.Core.Path.{sym}
use Prim.Native.Nat.{◌/◌}
use lib.ListN.{length}
use Rattle.packed.proofs.PackedLaws.{whole-count}
use Rattle.jobs.proofs.GivenJobs.count.Goals as goal

pub returns-clause-all : goal.returns-clause-all
returns-clause-all c =
    let zs = c.args.self.now.numbers.now in sym (whole-count zs (length zs / 7) c.args.self.now.whole.whole)
