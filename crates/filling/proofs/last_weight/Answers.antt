-- `filling::last_weight` meets its contract: the last number is the weight of the last point.
-- Assumes nothing.
use Prim.Native.Nat.{◌-◌}
use mathlib.Core.Path.{◌≡◌, ap}
use native.Mathlib.Omega.{arith}
use lib.IntN.{pos, nat_abs}
use lib.ListN.{length, get_or}
use mir.Syntax.{w32}
use mir.Val.{to_z, of_z}
use Rattle.profile.specs.Profile.{last_weight}
use Rattle.profiles.specs.Places.{points_of}
use Rattle.profiles.specs.NumbersLaws.{held}
use Rattle.filling.specs.BeginLaws.{last-light, last-number, weight-read}
use Rattle.filling.proofs.last_weight.Goals as goal
use Rattle.filling.proofs.last_weight.Goals.{Else-n-eq0}

-- The last number, as the code reads it.
last-read : (c : Else-n-eq0)
    → let ns = c.args.numbers.now in
    to_z w32 (of_z w32 (get_or ns (length ns - 1) (pos 0))) ≡ pos (last_weight (points_of ns))
last-read c =
    let ns = c.args.numbers.now in
    let valid = c.requires in
    weight-read _ _ (last-number (points_of ns) ns (held ns valid).numbers c.if-n-eq0.false) (last-light ns valid)

pub overflow_cast-result : goal.overflow_cast-result
overflow_cast-result c =
    rw (last-read (goal.at.overflow_cast-result c).Else-n-eq0) (tt, omega (arith, last-light c.args.numbers.now c.requires))

pub returns : goal.returns
returns c = ap nat_abs (last-read (goal.at.returns c).Else-n-eq0)
