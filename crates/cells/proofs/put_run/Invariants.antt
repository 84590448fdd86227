-- `cells::put_run` meets its contract: between turns the cells before x are put. Assumes nothing.
use lib.IntN.{pos, ◌-ℤ◌}
use Rattle.cells.specs.Cells.{Put}
use Rattle.cells.proofs.put_run.Given as goal

abbrev pub invariant-loop-x : goal.invariant-loop-x
invariant-loop-x l = Put (λ y. l.top -ℤ pos y) l.from l.x l.initial.row l.row
