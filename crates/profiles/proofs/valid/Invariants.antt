-- `profiles::valid` meets its contract. The loop's invariant: from an even place on, the numbers that are left decide the
-- answer, judged after the time and the weight of the last point passed. Assumes nothing.
use mathlib.Core.Path.{◌≡◌}
use Prim.Native.Nat.{◌*◌}
use lib.ListN.{drop}
use Rattle.profiles.specs.Numbers.{holds_profile}
use Rattle.profiles.specs.OnePass.{passes}
use Rattle.profiles.proofs.valid.Given as goal

abbrev pub invariant-loop-point : goal.invariant-loop-point
invariant-loop-point l = holds_profile l.numbers ≡ passes l.time l.weight (drop (2 * l.point) l.numbers)
