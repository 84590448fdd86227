-- `cells::move_cells` meets its contract: between turns the cells before x are moved on. Assumes nothing.
use borrow.Author.Rules.{rules}
use Prim.Native.Nat.{ℕ, ◌+◌, ◌-◌}
use mathlib.Core.Path.{◌≡◌, sym, ap, ◌∙◌}
use native.Mathlib.Omega.{arith}
use lib.IntN.{ℤ}
use mir.Syntax.{w32}
use mir.Val.{SFits, to_z, of_z}
use mir.Facts.{to_z-of_z}
use Rattle.seconds.specs.Signed.{read_back_lem}
use Rattle.codes.specs.Code.{at0}
use Rattle.cells.specs.Cells.{moved_on}
use Rattle.cells.specs.Putting.{put-more}
use Rattle.cells.proofs.move_cells.Goals as goal

pub loop-x-preserved : goal.loop-x-preserved
loop-x-preserved c =
    let x = c.loop-x.x in
    let gain = c.args.gain in
    let row = c.args.row.now in
    let back : gain + x - gain ≡ x = omega arith in
    let next : gain + x + 1 ≡ gain + (x + 1) = omega arith in
    let cell-fits : SFits w32 (at0 row x) = search rules in
    let limit = to_z w32 (of_z w32 c.args.limit) in
    let delta = to_z w32 (of_z w32 c.args.delta) in
    let moved = read_back_lem c.moved_on.result c.moved_on.type_inv ∙ c.moved_on.ensures
    ∙ ap (λ (z : ℤ). moved_on limit delta z x) (to_z-of_z cell-fits)
    ∙ ap (λ (k : ℕ). moved_on limit delta (at0 row k) k) (sym back) in
    rw next at (put-more c.loop-x.invariant (omega arith) (omega (arith, c.requires.room)) _ moved)
