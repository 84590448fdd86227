-- `stepping::merge_pushed` meets its contract: the pushed list is laid behind the list, or joined with it. Assumes nothing.
use Rattle.std.proofs.Common.{rules}
use Rattle.stepping.specs.Cases.{merges}
use Rattle.stepping.proofs.merge_pushed.Goals as goal

pub lay-requires : goal.lay-requires
lay-requires c = rw c.end-used.ensures ((merges c.requires).lay _ _ (search rules) c.push_by-moved.ensures)

pub returns-then-job : goal.returns-then-job
returns-then-job c =
    rw c.end-used.ensures
    ((merges c.requires).laid _ _ _ (search rules) c.push_by-moved.ensures c.if-job.true (rw c.end-used.ensures at c.lay.ensures))

pub join-requires : goal.join-requires
join-requires c = (merges c.requires).join _ _ (search rules) c.push_by-moved.ensures c.if-job.false

pub returns : goal.returns
returns c =
    (merges c.requires).joined _ _ _ _ (search rules) c.push_by-moved.ensures c.if-job.false c.join.ensures
