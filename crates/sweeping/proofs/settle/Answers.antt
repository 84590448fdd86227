-- `sweeping::settle` meets its contract: an empty list stands where it is, and any other is gathered. Assumes nothing.
use Prim.Native.Nat.{◌-◌, ◌≤◌}
use mathlib.Core.Path.{◌≡◌, refl, ap, ◌∙◌}
use native.Mathlib.Omega.{arith}
use lib.IntN.{ℤ}
use mir.Syntax.{w32}
use mir.Val.{SFits, to_z, of_z}
use mir.Facts.{to_z-of_z}
use borrow.Author.Rules.{rules}
use Rattle.codes.specs.Code.{at0, end_of, lightness}
use Rattle.sweeping.specs.SweepLaws.{none-settled, carried-least, can-settle, settles, settled-room}
use Rattle.sweeping.proofs.settle.Goals as goal
use Rattle.sweeping.proofs.settle.Goals.{After-cells_to-far}

pub returns-then-list-eq0 : goal.returns-then-list-eq0
returns-then-list-eq0 c = record { size = refl; room = c.requires.carried.room; held = λ ps points h. none-settled h c.if-list-eq0.true }

pub cells_to-far-requires : goal.cells_to-far-requires
cells_to-far-requires c =
    let last = at0 c.args.work.now (end_of c.args.list - 1) in
    let f : SFits w32 last = search rules in
    let back : to_z w32 (of_z w32 last) ≡ last = to_z-of_z f in
    rw back (carried-least c.requires.carried (omega (arith, c.if-list-eq0.false)))

-- The list has a point, whose number tells how many cells there are.
module _ (c : After-cells_to-far) where
  some : 1 ≤ c.args.list.count
  some = omega (arith, c.if-list-eq0.false)

  abbrev last : ℤ
  last = at0 c.args.work.now (end_of c.args.list - 1)

  far-is : c.cells_to-far.result ≡ 512 - lightness last
  far-is =
      let f : SFits w32 last = search rules in
      c.cells_to-far.ensures ∙ ap (λ (z : ℤ). 512 - lightness z) (to_z-of_z f)

pub gather-count-requires : goal.gather-count-requires
gather-count-requires c =
    let f : After-cells_to-far = (goal.at.gather-count-requires c).After-cells_to-far in
    can-settle c.requires.carried (some f) (far-is f) c.requires.room

pub returns : goal.returns
returns c =
    let f : After-cells_to-far = (goal.at.returns c).After-cells_to-far in
    let d = c.gather-count.ensures in
    record {
      size = d.size;
      room = omega (arith, settled-room c.requires.carried (some f) (far-is f) c.requires.room d);
      held = λ ps points h. settles h (some f) (far-is f) d;
    }
