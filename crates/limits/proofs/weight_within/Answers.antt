-- `limits::weight_within` meets its contract: the branch picks the range.
-- Assumes nothing.
use mathlib.Core.Path.{◌∙◌, ap}
use lib.IntN.{pos}
use mir.Facts.{to_z-of_z}
use Rattle.seconds.specs.Ranges.{is_between}
use Rattle.limits.proofs.weight_within.Goals as goal

pub returns-then-critical : goal.returns-then-critical
returns-then-critical c =
    rw c.if-critical.true (c.between.ensures ∙ ap (is_between (pos 0) (pos 0)) (to_z-of_z c.ranges.weight))

pub returns : goal.returns
returns c =
    rw c.if-critical.false (c.between-2.ensures ∙ ap (is_between (pos 1) (pos 50)) (to_z-of_z c.ranges.weight))
