-- `limits::is_time` meets its contract, by that of `between`.
-- Assumes nothing.
use mathlib.Core.Path.{◌∙◌, ap}
use mir.Facts.{to_z-of_z}
use Rattle.seconds.specs.Ranges.{is_time}
use Rattle.limits.proofs.is_time.Goals as goal

pub returns : goal.returns
returns c = c.between.ensures ∙ ap is_time (to_z-of_z c.ranges.z)
