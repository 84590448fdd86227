-- `gathering::gather` meets its contract: between turns the points of the cells before x are written. Assumes nothing.
use Rattle.gathering.specs.Points.{Gathered}
use Rattle.gathering.proofs.gather.Given as goal

abbrev pub invariant-loop-x : goal.invariant-loop-x
invariant-loop-x l = Gathered l.row l.x l.initial.work l.n l.work
