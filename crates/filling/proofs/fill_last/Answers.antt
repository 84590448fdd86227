-- `filling::fill_last` meets its contract: the last of the lists that are filled, behind the first, which is noted.
-- Assumes nothing.
use mathlib.Core.Path.{◌≡◌, refl, ap}
use native.Mathlib.Omega.{arith}
use Rattle.codes.specs.declared.Prefix.{Prefix}
use Rattle.sweeping.specs.SweepLaws.{by-list, by-cells}
use Rattle.filling.specs.Lists.{noted, CanFill}
use Rattle.filling.specs.ListsLaws.{filling-last, last-stands}
use Rattle.filling.proofs.fill_last.Goals as goal
use Rattle.filling.proofs.fill_last.Goals.{After-notes-noted}

-- The first list is noted.
module _ (c : After-notes-noted) where
  first : (noted c.notes-noted.result 0).count ≡ c.args.count
  first = ap (λ (p : Prefix). p.count) c.notes-noted.ensures.first

  can : CanFill c.args.records.bytes.now c.args.records.count (noted c.notes-noted.result 0).count c.args.work.now
  can = rw first c.requires

-- All are filled, the others by cells.
pub settle-requires : goal.settle-requires
settle-requires c =
    let made : After-notes-noted = (goal.at.settle-requires c).After-notes-noted in
    let all = c.fill_by_cells.ensures _ _ (can made) c.fill_by_lists-sofar.ensures in
    record { ps = _; points = all.many; carried = by-cells refl all.last; room = omega (arith, c.requires.room) }

pub returns-then-sofar-records : goal.returns-then-sofar-records
returns-then-sofar-records c =
    let made : After-notes-noted = (goal.at.returns-then-sofar-records c).After-notes-noted in
    let all = c.fill_by_cells.ensures _ _ (can made) c.fill_by_lists-sofar.ensures in
    let e = c.settle.ensures in
    let h = e.held _ all.many (by-cells refl all.last) in
    rw (first made) at (last-stands c.args.records.bytes.now _ c.args.work.now e.room h.0 h.1)

pub returns : goal.returns
returns c =
    let made : After-notes-noted = (goal.at.returns c).After-notes-noted in
    let e = c.fill_by_lists-sofar.ensures in
    let last = by-list refl (filling-last (can made) e.filling (omega (arith, e.order, c.if-sofar-records.false))) in
    rw (first made) at (last-stands c.args.records.bytes.now _ c.args.work.now last.room last.held last.count)
