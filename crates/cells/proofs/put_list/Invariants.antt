-- `cells::put_list` meets its contract: between turns the row has the cells of the points so far. Assumes nothing.
use Rattle.cells.specs.Spreading.{Spreading}
use Rattle.cells.proofs.put_list.Given as goal

abbrev pub invariant-loop-code : goal.invariant-loop-code
invariant-loop-code l = Spreading l.work l.fn.list.place l.fn.list.count l.code-index l.x l.row
