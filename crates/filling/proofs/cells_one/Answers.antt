-- `filling::cells_one` meets its contract: the job steps the list by its cells. Assumes nothing.
use Rattle.filling.specs.JobLaws.{cells-can, cells-filled}
use Rattle.filling.proofs.cells_one.Goals as goal

pub sweep-stretch-requires : goal.sweep-stretch-requires
sweep-stretch-requires c = cells-can c.task_in-task.ensures c.requires

pub returns : goal.returns
returns c = cells-filled c.task_in-task.ensures c.requires c.sweep-stretch.ensures
