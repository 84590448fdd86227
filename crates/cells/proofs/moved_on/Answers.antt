-- `cells::moved_on` meets its contract. Assumes nothing.
use borrow.Author.Rules.{rules}
use mathlib.Core.Path.{◌≡◌, ap, ap₂, ◌∙◌}
use lib.IntN.{ℤ, pos, ◌+ℤ◌, ◌-ℤ◌}
use mir.Syntax.{w32}
use mir.Val.{SFits, to_z, of_z}
use mir.Facts.{to_z-of_z}
use Rattle.seconds.specs.Signed.{read_back_lem, max_z}
use Rattle.cells.proofs.Lesser.{greater-is}
use Rattle.cells.proofs.moved_on.Goals as goal

pub returns : goal.returns
returns c =
    let less : to_z w32 (of_z w32 c.below.result) ≡ (c.args.limit -ℤ pos c.args.x) =
    read_back_lem _ c.below.type_inv ∙ c.below.ensures ∙ ap (λ (z : ℤ). z -ℤ pos c.args.x) (to_z-of_z c.ranges.limit) in
    let most : c.max.result ≡ max_z c.args.cell (c.args.limit -ℤ pos c.args.x) =
    greater-is (to_z-of_z c.ranges.cell) less c.max.ensures.value in
    let f : SFits w32 (to_z w32 (of_z w32 c.max.result) +ℤ to_z w32 (of_z w32 c.args.delta)) = search rules in
    to_z-of_z f ∙ ap₂ ◌+ℤ◌ (read_back_lem _ c.max.type_inv ∙ most) (to_z-of_z c.ranges.delta)
