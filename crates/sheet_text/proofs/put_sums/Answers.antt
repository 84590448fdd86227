-- `sheet_text::put_sums` meets its contract. The loop's invariant: the lines of the numbers passed are written, and each has at most
-- eleven bytes. Assumes nothing.
use Prim.Native.Nat.{◌<◌}
use native.Mathlib.Omega.{arith}
use Rattle.std.proofs.Common.{length-take, get_or-take}
use Rattle.text.specs.WritingLaws.{writes-more, writes-wider}
use Rattle.sheet_text.specs.WritingLaws.{sums-more}
use Rattle.sheet_text.proofs.put_sums.Goals as goal

pub loop-value-preserved : goal.loop-value-preserved
loop-value-preserved c =
    let l = c.loop-value in
    let figures = c.args.figures.now in
    let few : l.value-index < 24 = omega (arith, length-take 24 figures) in
    rw (sums-more figures l.value-index (omega (arith, c.requires.numbers)), ← get_or-take 24 figures l.value-index 0 few)
    (writes-wider (omega arith) (writes-more l.invariant c.figure.ensures))
