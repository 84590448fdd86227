-- `sweeping::startable_cells` meets its contract: none where the job is ready after its last start, else those up to the last number
-- from which it can start. Assumes nothing.
use Prim.Native.Nat.{◌-◌}
use mathlib.Core.Path.{◌≡◌, sym, ap, ap₂, ◌∙◌}
use lib.IntN.{ℤ}
use lib.Signed.{lt_z, ◌≤ℤ◌}
use mir.Syntax.{w32}
use mir.Val.{SFits, to_z, of_z}
use mir.Facts.{to_z-of_z}
use borrow.Author.Rules.{rules}
use Rattle.seconds.specs.Signed.{signed}
use Rattle.codes.specs.Code.{at0, lightness}
use Rattle.stepping.specs.Stepping.{last_start}
use Rattle.sweeping.specs.SweepLaws.{none-counted, some-counted, found-least}
use Rattle.sweeping.proofs.startable_cells.Goals as goal
use Rattle.sweeping.proofs.startable_cells.Goals.{After-startable_to-end}

-- The job can be ready by its last start.
soon : (c : After-startable_to-end) → c.args.job.ready ≤ℤ last_start c.args.job c.args.rate
soon c =
    let f : SFits w32 c.last_start.result = search rules in
    let g : SFits w32 c.args.job.ready = search rules in
    let late = sym (ap₂ lt_z (to_z-of_z f ∙ c.last_start.ensures) (to_z-of_z g)) ∙ c.if-last_start-job.false in
    omega signed

pub returns-then-end-list : goal.returns-then-end-list
returns-then-end-list c =
    let e : After-startable_to-end = (goal.at.returns-then-end-list c).After-startable_to-end in
    none-counted c.requires (soon e) c.startable_to-end.ensures c.if-end-list.true

pub cells_to-requires : goal.cells_to-requires
cells_to-requires c =
    let e : After-startable_to-end = (goal.at.cells_to-requires c).After-startable_to-end in
    let number = at0 c.args.work.now (c.startable_to-end.result - 1) in
    let f : SFits w32 number = search rules in
    let back : to_z w32 (of_z w32 number) ≡ number = to_z-of_z f in
    rw back (found-least c.requires (soon e) c.startable_to-end.ensures c.if-end-list.false)

pub returns : goal.returns
returns c =
    let e : After-startable_to-end = (goal.at.returns c).After-startable_to-end in
    let number = at0 c.args.work.now (c.startable_to-end.result - 1) in
    let f : SFits w32 number = search rules in
    some-counted c.requires (soon e) c.startable_to-end.ensures c.if-end-list.false
    (c.cells_to.ensures ∙ ap (λ (z : ℤ). 512 - lightness z) (to_z-of_z f))
