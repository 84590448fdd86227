-- `cells::push_cells` meets its contract. Assumes nothing.
use borrow.Author.Rules.{rules}
use Prim.Native.Nat.{◌+◌, ◌-◌}
use mathlib.Core.Path.{◌≡◌, ap, ◌∙◌}
use lib.IntN.{ℤ, pos, ◌+ℤ◌}
use mir.Syntax.{w32}
use mir.Val.{SFits, to_z, of_z}
use mir.Facts.{to_z-of_z}
use Rattle.seconds.specs.Signed.{read_back_lem}
use Rattle.codes.specs.Code.{at0}
use Rattle.cells.specs.Cells.{Put, moved_on}
use Rattle.cells.specs.Pushing.{can-run, pushes}
use Rattle.cells.proofs.push_cells.Goals as goal
use Rattle.cells.proofs.push_cells.Goals.{After-above-first}

-- The cells are moved on, and the number of the first at no weight is made.
module _ (c : After-above-first) where
  moved : Put (λ y. moved_on c.args.limit c.args.delta (at0 c.args.row.now (y - c.args.gain)) (y - c.args.gain)) c.args.gain
      (c.args.gain + c.args.end) c.args.pushed.now c.move_cells.new.pushed
  moved = rw (to_z-of_z c.ranges.limit, to_z-of_z c.ranges.delta) at c.move_cells.ensures

  first-is : to_z w32 (of_z w32 c.above-first.result) ≡ at0 c.move_cells.new.pushed c.args.gain +ℤ pos c.args.gain
  first-is =
      let f : SFits w32 (at0 c.move_cells.new.pushed c.args.gain) = search rules in
      read_back_lem _ c.above-first.type_inv ∙ c.above-first.ensures ∙ ap (λ (y : ℤ). y +ℤ pos c.args.gain) (to_z-of_z f)

pub put_run-requires : goal.put_run-requires
put_run-requires c =
    let a : After-above-first = (goal.at.put_run-requires c).After-above-first in
    can-run c.requires (moved a) _ (first-is a)

pub returns : goal.returns
returns c =
    let a : After-above-first = (goal.at.returns c).After-above-first in
    pushes c.requires (moved a) _ (first-is a) c.put_run.ensures
