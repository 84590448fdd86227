-- `filling::fill_by_cells` meets its contract. The loop's invariant is `Filling`, from every work area from which the lists so far
-- are filled: the lists of the first k jobs are said, and the row has the cells of the last. Assumes nothing.
use Prim.Native.Nat.{ℕ}
use mathlib.Core.Bool.{true}
use mathlib.Core.List.{List}
use lib.IntN.{ℤ}
use Rattle.stepping.specs.Stepping.{Buffer}
use Rattle.filling.specs.Lists.{CanFill, FilledSofar, Filling}
use Rattle.filling.proofs.fill_by_cells.Given as goal

abbrev pub invariant-loop-k : goal.invariant-loop-k
invariant-loop-k l = record {
  filling : (count : ℕ) (first : List ℤ) → CanFill l.records.bytes.now l.records.count count first
      → FilledSofar l.records.bytes.now l.records.count count first l.fn.sofar l.initial.notes l.initial.work
      → Filling l.records.bytes.now count first l.k l.last true l.totals l.notes l.work l.row;
  buffer : Buffer l.pushed;
}
