-- `clock::rested` meets its contract: the rest of the code is the rest of the definitions. No other proof opens it.
-- Assumes nothing.
use mathlib.Core.Path.{ap, ◌∙◌}
use lib.IntN.{ℤ, pos, ◌+ℤ◌}
use mir.Facts.{to_z-of_z}
use Rattle.seconds.specs.Limits.{rest}
use Rattle.seconds.specs.Signed.{signed}
use Rattle.clock.proofs.rested.Goals as goal

pub overflow_add-result : goal.overflow_add-result
overflow_add-result c = omega signed

pub returns : goal.returns
unfolding rest
returns c = to_z-of_z (overflow_add-result c) ∙ ap (λ (z : ℤ). z +ℤ pos rest) (to_z-of_z c.ranges.finish)
