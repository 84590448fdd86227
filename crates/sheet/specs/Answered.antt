-- What planning says of the bytes of an entry, with room enough for every plan. Definitions only.
use Rattle.std.specs.Prelude.{ℕ, List, map}
use Rattle.plan.specs.Plan.{plan_answer}
use Rattle.packed.specs.Judge.{judge}
use Rattle.packed.specs.Packed.{order_of}
use Rattle.packed.specs.Refusals.{order_checks}
use Rattle.planner.specs.Calls.{planned_by}
use Rattle.planner.specs.Calls.{Planned}
use Rattle.sheet.specs.Sheet.{Sheet, one_order, join, sheet_of}

-- The answer for any bytes.
unfoldable pub answered : List ℕ → Planned
answered bytes = planned_by (judge (order_checks bytes)) (plan_answer (order_of bytes))

-- A sheet with one order more, by its bytes.
unfoldable pub with_order : Sheet → List ℕ → Sheet
with_order s bytes = join s (one_order (answered bytes))

-- The sheet of a list of orders, by their bytes.
unfoldable pub week_of : List (List ℕ) → Sheet
week_of entries = sheet_of (map answered entries)
