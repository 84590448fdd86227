-- `fields::job_in` meets its contract: the kind is the header's. Assumes nothing.
use Rattle.fields.proofs.job_in.Goals as goal

pub job_by_kind-requires : goal.job_by_kind-requires
job_by_kind-requires c = record { there = c.requires; kinded = c.kind_in-kind.ensures }

pub returns : goal.returns
returns c = c.job_by_kind.ensures
