-- `filling::task_in` meets its contract: the numbers read are the job's. Assumes nothing.
use Rattle.filling.specs.JobLaws.{weight-casts, long-casts, task-is}
use Rattle.filling.proofs.task_in.Goals as goal

pub overflow_cast-rate : goal.overflow_cast-rate
overflow_cast-rate c = long-casts c.args.records.bytes.now c.args.k c.requires.order c.requires.there _ c.job_at-job.ensures

pub overflow_cast-rate-2 : goal.overflow_cast-rate-2
overflow_cast-rate-2 c = weight-casts c.args.records.bytes.now c.args.k c.requires.order c.requires.there _ c.job_at-job.ensures

pub returns : goal.returns
returns c = task-is c.args.records.bytes.now c.args.k c.requires.order c.requires.there _ c.job_at-job.ensures
