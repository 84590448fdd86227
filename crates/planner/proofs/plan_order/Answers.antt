-- `planner::plan_order` meets its contract: the test judges the room, `plan_within` plans in the part lent, and `clear` clears
-- behind it.
-- Assumes nothing.
use mathlib.Core.Path.{◌≡◌}
use mathlib.Core.List.{◌++◌}
use native.Mathlib.Omega.{arith}
use lib.ListN.{length, take, drop}
use lib.Seq.{length-take-le, drop_at}
use Rattle.packed.proofs.Accepted.{order-fine}
use Rattle.fields.specs.Facts.{HeaderRead, header_read}
use Rattle.area.specs.Area.{area}
use Rattle.planner.specs.CallLaws.{plan-no-room, plan-no-space, plan-done}
use Rattle.planner.proofs.plan_order.Goals as goal
use Rattle.planner.proofs.plan_order.Goals.{After-header_at-header, Else-work-lt-AREA}
use Rattle.planner.proofs.plan_order.Goals.{then-starts-header-via-then-starts-header}
use Rattle.planner.proofs.plan_order.Goals.{then-starts-header-via-else-starts-header+then-work-lt-AREA}

pub header_at-header-requires : goal.header_at-header-requires
header_at-header-requires c = ((order-fine c.args.bytes.now).0 c.requires).header.long

-- The header that was read is the order's.
read : (c : After-header_at-header) → HeaderRead c.args.bytes.now c.header_at-header.result
read c = header_read c.args.bytes.now c.header_at-header.result c.header_at-header.ensures

-- ---- the room

pub returns-then-starts-header : goal.returns-then-starts-header
returns-then-starts-header c =
    let a = c.args in
    let count = (read (goal.at.returns-then-starts-header c).After-header_at-header).count in
    elim c.then-starts-header.branch [
      | then-starts-header-via-then-starts-header w ↦
          rw c.into.ensures
          (plan-no-room a.bytes.now a.starts.now a.work.now c.requires (omega (arith, w.if-starts-header.true, count)))
      | then-starts-header-via-else-starts-header+then-work-lt-AREA w ↦
          rw c.into.ensures
          (plan-no-space a.bytes.now a.starts.now a.work.now c.requires (omega (arith, w.if-starts-header.false, count))
          w.if-work-lt-AREA.true)
    ]

-- The part lent is as long as the area.
lent : (c : Else-work-lt-AREA) → length (take area c.args.work.now) ≡ area
lent c = length-take-le area c.args.work.now c.if-work-lt-AREA.false

pub slice_bounds-plan_within-end-2 : goal.slice_bounds-plan_within-end-2
slice_bounds-plan_within-end-2 c = omega (arith, lent (goal.at.slice_bounds-plan_within-end-2 c).Else-work-lt-AREA)

pub plan_within-answer-requires : goal.plan_within-answer-requires
plan_within-answer-requires c =
    record {
      order = (order-fine c.args.bytes.now).0 c.requires;
      read = read (goal.at.plan_within-answer-requires c).After-header_at-header;
      places = c.if-starts-header.false;
      room = omega (arith, lent (goal.at.plan_within-answer-requires c).Else-work-lt-AREA);
    }

-- ---- the plan

pub returns : goal.returns
returns c =
    let h = (goal.at.returns c).After-header_at-header in
    let a = c.args in
    let part = c.plan_within-answer.new.work in
    let rest = drop area a.work.now in
    let long : length part ≡ area = omega (arith, lent (goal.at.returns c).Else-work-lt-AREA) in
    plan-done a.bytes.now a.starts.now a.work.now c.requires (omega (arith, c.if-starts-header.false, (read h).count))
    (part ++ rest) c.if-work-lt-AREA.false c.plan_within-answer.ensures (drop_at part rest area long) c.clear.ensures
