-- `text::Writer::number` meets its contract: the sign, if there is one, and then the figures of the size.
-- Assumes nothing.
use mathlib.Core.Path.{◌≡◌, ◌∙◌, sym, ap, subst}
use native.Mathlib.Omega.{arith}
use lib.IntN.{nat_abs}
use mir.Val.{to_z, of_z}
use mir.Syntax.{w32}
use Rattle.std.proofs.Common.{to_z-of_z}
use Rattle.seconds.specs.Signed.{signed}
use Rattle.text.specs.Decimal.{digits}
use Rattle.text.specs.Figures.{figure-below, figure-above}
use Rattle.text.specs.Writing.{Writes}
use Rattle.text.specs.WritingLaws.{writes-more, writes-wider}
use Rattle.text.proofs.Writer.number.Goals.{then-value-lt0, else-value-lt0}
use Rattle.text.proofs.Writer.number.Goals as goal

pub returns : goal.returns
returns c =
    let is : to_z w32 (of_z w32 c.args.value) ≡ c.args.value = to_z-of_z c.ranges.value in
    let size : nat_abs c.args.value ≡ c.unsigned_abs.result = sym (c.unsigned_abs.ensures.value ∙ ap nat_abs is) in
    elim c.if-value-lt0.branch [
      | then-value-lt0 w ↦ rw (figure-below c.args.value (omega (signed, is, w.if-value-lt0.true)), size)
          (writes-more w.byte.ensures (subst (λ s. Writes (digits c.unsigned_abs.result) 10 s c.count.new.self) w.self-is c.count.ensures))
      | else-value-lt0 w ↦ rw (figure-above c.args.value (omega (signed, is, w.if-value-lt0.false)), size)
          (writes-wider (omega arith) (subst (λ s. Writes (digits c.unsigned_abs.result) 10 s c.count.new.self) w.self-is c.count.ensures))
    ]
