-- `text::figure_count` meets its contract: the figures of what is left and those counted are one more than all.
-- Assumes nothing.
use mathlib.Core.Path.{ap}
use native.Mathlib.Omega.{arith}
use lib.ListN.{length}
use Rattle.text.specs.Figures.{digits-one, digits-word, length_more}
use Rattle.text.proofs.figure_count.Goals as goal

pub overflow_add-count : goal.overflow_add-count
overflow_add-count c = omega (arith, digits-word c.args.value c.ranges.value.fits)

pub loop-rest-preserved : goal.loop-rest-preserved
loop-rest-preserved c = omega (arith, length_more c.loop-rest.rest c.loop-rest-test.true)

pub returns : goal.returns
returns c =
    omega (arith, ap length (digits-one c.loop-rest.rest (omega arith)), digits-word c.args.value c.ranges.value.fits)
