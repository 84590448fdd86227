-- `profiles::count_by` meets its contract. The loop's invariant: what is counted is what was passed and what is counted of
-- the rest. Assumes nothing.
use mathlib.Core.Path.{◌≡◌}
use Prim.Native.Nat.{◌+◌, ◌*◌}
use lib.ListN.{drop}
use Rattle.profiles.specs.ByTime.{count_by}
use Rattle.profiles.proofs.count_by.Given as goal

abbrev pub invariant-loop-point : goal.invariant-loop-point
invariant-loop-point l = count_by l.t l.numbers ≡ 2 * l.point + count_by l.t (drop (2 * l.point) l.numbers)
