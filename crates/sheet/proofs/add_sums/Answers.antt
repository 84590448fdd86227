-- `sheet::add_sums` meets its contract: the first i places are added. Assumes nothing.
use mathlib.Core.Path.{◌≡◌, ap, ◌∙◌}
use native.Mathlib.Omega.{arith}
use lib.ListN.{get_or}
use Rattle.sheet.specs.NumbersLaws.{partly_here, add_step}
use Rattle.sheet.proofs.add_sums.Goals as goal

pub overflow_add-to : goal.overflow_add-to
overflow_add-to c =
    let i = c.loop-i.i in
    let same : get_or c.loop-i.to i 0 ≡ get_or c.args.to.now i 0 =
    ap (λ x. get_or x i 0) c.loop-i.invariant ∙ partly_here i c.args.to.now c.args.from.now in
    omega (arith, c.requires.small i (omega arith), c.requires.second-small i (omega arith))

pub loop-i-preserved : goal.loop-i-preserved
loop-i-preserved c =
    add_step c.loop-i.i c.loop-i.to c.args.to.now c.args.from.now c.loop-i.invariant (omega (arith, c.requires.room))
    (omega (arith, c.requires.second-room))
