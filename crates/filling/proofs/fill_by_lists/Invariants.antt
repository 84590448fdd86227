-- `filling::fill_by_lists` meets its contract. The loop's invariant is `Filling`: the lists of the first k jobs stand.
-- Assumes nothing.
use mathlib.Core.Bool.{false}
use mathlib.Core.List.{[]}
use Rattle.stepping.specs.Stepping.{Buffer}
use Rattle.filling.specs.Lists.{noted, as_stretch, Filling}
use Rattle.filling.proofs.fill_by_lists.Given as goal

abbrev pub invariant-loop-k : goal.invariant-loop-k
invariant-loop-k l = record {
  filling : Filling l.records.bytes.now (noted l.initial.notes 0).count l.initial.work l.k (as_stretch l.list) false l.totals l.notes l.work [];
  buffer : Buffer l.pushed;
}
