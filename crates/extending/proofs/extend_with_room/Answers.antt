-- `extending::extend_with_room` meets its contract: the test judges the room, `extend_by_lists` extends in the part lent, and
-- `clear` clears behind it. Assumes nothing.
use mathlib.Core.Path.{◌≡◌}
use mathlib.Core.List.{◌++◌}
use native.Mathlib.Omega.{arith}
use lib.ListN.{length, take, drop}
use lib.Seq.{length-take-le, drop_at}
use Rattle.area.specs.Area.{area}
use Rattle.extending.proofs.CallLaws.{extend-no-room, extend-no-space, extend-done}
use Rattle.extending.proofs.extend_with_room.Goals as goal
use Rattle.extending.proofs.extend_with_room.Goals.{Else-work-lt-AREA}
use Rattle.extending.proofs.extend_with_room.Goals.{then-out-lt-MOST_NUMBERS-via-then-out-lt-MOST_NUMBERS}
use Rattle.extending.proofs.extend_with_room.Goals.{then-out-lt-MOST_NUMBERS-via-else-out-lt-MOST_NUMBERS+then-work-lt-AREA}

pub returns-then-out-lt-MOST_NUMBERS : goal.returns-then-out-lt-MOST_NUMBERS
returns-then-out-lt-MOST_NUMBERS c =
    let a = c.args in
    elim c.then-out-lt-MOST_NUMBERS.branch [
      | then-out-lt-MOST_NUMBERS-via-then-out-lt-MOST_NUMBERS w ↦
          rw c.into.ensures
          (extend-no-room a.profile.now a.bytes.now a.out.now a.work.now c.requires w.if-out-lt-MOST_NUMBERS.true)
      | then-out-lt-MOST_NUMBERS-via-else-out-lt-MOST_NUMBERS+then-work-lt-AREA w ↦
          rw c.into.ensures
          (extend-no-space a.profile.now a.bytes.now a.out.now a.work.now c.requires w.if-out-lt-MOST_NUMBERS.false
          w.if-work-lt-AREA.true)
    ]

-- The part lent is as long as the area.
lent : (c : Else-work-lt-AREA) → length (take area c.args.work.now) ≡ area
lent c = length-take-le area c.args.work.now c.if-work-lt-AREA.false

pub slice_bounds-extend_by_lists-end-2 : goal.slice_bounds-extend_by_lists-end-2
slice_bounds-extend_by_lists-end-2 c = omega (arith, lent (goal.at.slice_bounds-extend_by_lists-end-2 c).Else-work-lt-AREA)

pub extend_by_lists-points-requires : goal.extend_by_lists-points-requires
extend_by_lists-points-requires c =
    record {
      accepted = c.requires;
      places = c.if-out-lt-MOST_NUMBERS.false;
      room = omega (arith, lent (goal.at.extend_by_lists-points-requires c).Else-work-lt-AREA);
    }

pub returns : goal.returns
returns c =
    let a = c.args in
    let part = c.extend_by_lists-points.new.work in
    let long : length part ≡ area = omega (arith, lent (goal.at.returns c).Else-work-lt-AREA) in
    let rest = drop area a.work.now in
    extend-done a.profile.now a.bytes.now a.out.now a.work.now c.requires c.if-out-lt-MOST_NUMBERS.false (part ++ rest)
    c.if-work-lt-AREA.false c.extend_by_lists-points.ensures (drop_at part rest area long) c.clear.ensures
