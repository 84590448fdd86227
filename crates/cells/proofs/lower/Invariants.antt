-- `cells::lower` meets its contract: between turns the cells before x are lowered, laid and counted. Assumes nothing.
use mathlib.Core.Path.{◌≡◌}
use Rattle.cells.specs.Cells.{Put}
use Rattle.cells.specs.Laying.{before, rises_to, lowered, Laid}
use Rattle.cells.proofs.lower.Given as goal

abbrev pub invariant-loop-x : goal.invariant-loop-x
invariant-loop-x l = record {
  row : Put (lowered l.initial.row l.pushed) 0 l.x l.initial.row l.row;
  laid : Laid (lowered l.initial.row l.pushed) 0 l.x l.at l.initial.work l.work;
  counted : l.n ≡ rises_to (lowered l.initial.row l.pushed) l.x;
  told : l.last ≡ before (lowered l.initial.row l.pushed) l.x;
}
