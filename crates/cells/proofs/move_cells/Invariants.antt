-- `cells::move_cells` meets its contract: between turns the cells before x are moved on. Assumes nothing.
use Prim.Native.Nat.{◌+◌, ◌-◌}
use Rattle.codes.specs.Code.{at0}
use Rattle.cells.specs.Cells.{Put, moved_on}
use Rattle.cells.proofs.move_cells.Given as goal

abbrev pub invariant-loop-x : goal.invariant-loop-x
invariant-loop-x l =
    Put (λ y. moved_on l.limit l.delta (at0 l.row (y - l.gain)) (y - l.gain)) l.gain (l.gain + l.x) l.initial.pushed l.pushed
