-- `jobs::Given::job` meets its contract: the numbers of the job are there.
-- Assumes nothing.
use Prim.Native.Nat.{◌*◌, ◌/◌}
use mathlib.Core.Path.{refl}
use native.Mathlib.Omega.{arith}
use lib.ListN.{length}
use Rattle.packed.proofs.PackedLaws.{whole-count}
use Rattle.fields.specs.Facts.{read-from}
use Rattle.jobs.proofs.GivenJobs.job.Goals as goal

pub overflow_mul-place : goal.overflow_mul-place
overflow_mul-place c =
    let zs = c.args.self.now.numbers.now in
    let held = c.args.self.now.whole in
    omega (arith, c.requires, held.few, whole-count zs (length zs / 7) held.whole)

pub job_from-requires : goal.job_from-requires
job_from-requires c =
    let zs = c.args.self.now.numbers.now in
    let held = c.args.self.now.whole in
    omega (arith, c.requires, held.whole, whole-count zs (length zs / 7) held.whole)

pub returns : goal.returns
returns c = read-from c.args.self.now.numbers.now c.args.place (7 * c.args.place) c.job_from.result refl c.job_from.ensures
