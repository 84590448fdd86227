-- `pushing::delta_of` meets its contract: the rest of the code is the rest of the definitions. No other proof here opens it.
-- Assumes nothing.
use mathlib.Core.Path.{ap, ◌∙◌}
use native.Mathlib.Omega.{arith}
use lib.IntN.{pos}
use mir.Syntax.{w32}
use mir.Facts.{to_z_pos}
use Rattle.seconds.specs.Signed.{signed}
use Rattle.seconds.specs.Limits.{rest}
use Rattle.pushing.proofs.delta_of.Goals as goal

pub returns : goal.returns
unfolding rest
returns c = let f = c.requires in to_z_pos w32 (omega signed) ∙ ap pos (omega arith)
