-- `limits::between` meets its contract: the two tests are those of the range.
-- Assumes nothing.
use mathlib.Core.Path.{◌≡◌}
use mathlib.Core.Bool.{true, false}
use lib.Signed.{le_z}
use mir.Facts.{to_z-of_z}
use Rattle.seconds.specs.Signed.{signed}
use Rattle.limits.proofs.between.Goals as goal

pub returns-then-z-least : goal.returns-then-z-least
returns-then-z-least c =
    let e : le_z c.args.least c.args.z ≡ false = omega signed in
    rw e

pub returns : goal.returns
returns c =
    let e : le_z c.args.least c.args.z ≡ true = omega signed in
    rw (e, to_z-of_z c.ranges.z, to_z-of_z c.ranges.greatest)
