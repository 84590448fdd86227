-- `text::Writer::count` meets its contract: from the last to the first, the figures up to the place are still to be put.
-- Assumes nothing.
use mathlib.Core.Path.{refl}
use native.Mathlib.Omega.{arith}
use Rattle.text.specs.Filling.{filling-none, filling-more}
use Rattle.text.proofs.Writer.count.Goals as goal

pub loop-place-init : goal.loop-place-init
loop-place-init c =
    (filling-none (omega (arith, c.figure_count.ensures.count)) (omega (arith, c.requires.fits, c.figure_count.ensures.upper_bound)), refl, refl)

pub loop-place-preserved : goal.loop-place-preserved
loop-place-preserved c =
    let f = c.loop-place.invariant in (filling-more f.0 (omega arith), f.1, f.2)
