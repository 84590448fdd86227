-- `best_plan::best_within` meets its contract: the test judges the room, `is_best` weighs in the part lent, and `clear` clears
-- behind it.
-- Assumes nothing.
use mathlib.Core.Path.{◌≡◌}
use mathlib.Core.List.{◌++◌}
use native.Mathlib.Omega.{arith}
use lib.ListN.{length, take, drop}
use lib.Seq.{length-take-le, drop_at}
use Rattle.area.specs.Area.{area}
use Rattle.best_plan.specs.CallLaws.{no_room, best-told}
use Rattle.best_plan.proofs.best_within.Goals as goal
use Rattle.best_plan.proofs.best_within.Goals.{After-is_best-yes, Else-work-lt-AREA, Start}

-- Where the code starts.
abbrev start : Else-work-lt-AREA → Start
start c = (goal.at.Else-work-lt-AREA c).Start

pub returns-then-work-lt-AREA : goal.returns-then-work-lt-AREA
returns-then-work-lt-AREA c =
    let s : Start = (goal.at.returns-then-work-lt-AREA c).Start in
    rw c.into.ensures
    (no_room s.args.order.now s.args.plan.now s.args.work.now s.requires c.if-work-lt-AREA.true)

-- The part lent is as long as the area.
lent : (c : Else-work-lt-AREA) → let s = start c in
    length (take area s.args.work.now) ≡ area
lent c =
    let s = start c in
    length-take-le area s.args.work.now c.if-work-lt-AREA.false

pub slice_bounds-is_best-end-2 : goal.slice_bounds-is_best-end-2
slice_bounds-is_best-end-2 c = omega (arith, lent (goal.at.slice_bounds-is_best-end-2 c).Else-work-lt-AREA)

pub is_best-yes-requires : goal.is_best-yes-requires
is_best-yes-requires c =
    let s = start (goal.at.is_best-yes-requires c).Else-work-lt-AREA in
    record { accepted = s.requires; room = omega (arith, lent (goal.at.is_best-yes-requires c).Else-work-lt-AREA) }

pub returns : goal.returns
returns c =
    let b : After-is_best-yes = (goal.at.returns c).After-is_best-yes in
    let d : Else-work-lt-AREA = (goal.at.After-is_best-yes b).Else-work-lt-AREA in
    let s = start d in
    let part = b.is_best-yes.new.work in
    let long : length part ≡ area = omega (arith, lent d) in
    let rest = drop area s.args.work.now in
    best-told s.args.order.now s.args.plan.now s.args.work.now s.requires (part ++ rest) d.if-work-lt-AREA.false
    b.is_best-yes.ensures (drop_at part rest area long) c.clear.ensures
