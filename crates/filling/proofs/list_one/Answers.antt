-- `filling::list_one` meets its contract: the job steps the list by the three cases. Assumes nothing.
use Rattle.filling.specs.JobLaws.{list-can, list-readable, list-filled}
use Rattle.filling.proofs.list_one.Goals as goal

pub step-list-requires : goal.step-list-requires
step-list-requires c = list-can c.task_in-task.ensures c.requires

pub many_late-late-requires : goal.many_late-late-requires
many_late-late-requires c = list-readable c.task_in-task.ensures c.requires c.step-list.ensures

pub returns : goal.returns
returns c = list-filled c.task_in-task.ensures c.requires c.step-list.ensures
