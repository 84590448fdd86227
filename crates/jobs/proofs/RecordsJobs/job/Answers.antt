-- `jobs::Records::job` meets its contract: the record of the job is there.
-- Assumes nothing.
use Prim.Native.Nat.{◌<◌}
use mathlib.Core.Path.{sym, ◌∙◌}
use native.Mathlib.Omega.{arith}
use Rattle.packed.specs.Packed.{count_of}
use Rattle.packed.proofs.PackedLaws.{numbers-count, fields-of-numbers}
use Rattle.jobs.proofs.RecordsJobs.job.Goals as goal

pub job_at-requires : goal.job_at-requires
job_at-requires c =
    let held = c.args.self.now.stand in
    omega (arith, c.requires, held.counted, numbers-count c.args.self.now.bytes.now)

pub returns : goal.returns
returns c =
    let bytes = c.args.self.now.bytes.now in
    let below : c.args.place < count_of bytes = omega (arith, c.requires, numbers-count bytes) in
    c.job_at.ensures ∙ sym (fields-of-numbers bytes c.args.place below)
