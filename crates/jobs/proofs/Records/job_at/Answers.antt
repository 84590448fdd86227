-- `jobs::Records::job_at` meets its contract: the record of the job is there.
-- Assumes nothing.
use Rattle.jobs.proofs.Records.job_at.Goals as goal

pub job_by_kind-requires : goal.job_by_kind-requires
job_by_kind-requires c =
    record { there = c.args.self.stand.there c.args.place c.requires; kinded = c.args.self.stand.kinded }
