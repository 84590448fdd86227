-- `filling::start_profile` meets its contract: the points before a place of the numbers stand. Assumes nothing.
use Prim.Native.Nat.{◌*◌}
use Rattle.profiles.specs.Places.{AtPoint}
use Rattle.filling.specs.Begin.{Beginning}
use Rattle.filling.proofs.start_profile.Given as goal

abbrev pub invariant-loop-k : goal.invariant-loop-k
invariant-loop-k l = record {
  place : AtPoint l.numbers (2 * l.k);
  begun : Beginning l.numbers (2 * l.k) l.k l.initial.work l.work;
}
