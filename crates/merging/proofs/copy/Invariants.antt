-- `merging::copy` meets its contract: the first k numbers are copied, as far as they stand before their copy. Assumes nothing.
use Rattle.merging.specs.Joins.{CopiedOver}
use Rattle.merging.proofs.copy.Given as goal

abbrev pub invariant-loop-k : goal.invariant-loop-k
invariant-loop-k l = CopiedOver l.from l.at l.k l.initial.work l.work
