-- Planning an order of halves as a call: planning's answer and buffers behind one check more, and the optional seconds lost.
-- Definitions only.
use Rattle.std.specs.Prelude.{ℕ, ◌≡◌, List, ◌++◌, ℤ, length, Result, Ok, Err}
use Rattle.std.proofs.Math.Option.{Option, none, some}
use Rattle.order.specs.Job.{Order}
use Rattle.order.specs.Halves.{seconds_lost}
use Rattle.plan.specs.Plan.{Ended, plan, plan_answer}
use Rattle.packed.specs.declared.Refusal.{Refusal}
use Rattle.packed.specs.Judge.{Check, Verdict, judge}
use Rattle.packed.specs.Packed.{count_of, numbers_of, order_of}
use Rattle.packed.specs.Refusals.{order_checks, halves_checks, room_checks}
use Rattle.area.specs.Area.{area}
use Rattle.filling.specs.After.{work_by}
use Rattle.planner.specs.Calls.{Planned, planned_by, starts_by, PlanNumbers, plan_numbers}
use Rattle.planner.specs.declared.Figures.{Figures}
use Rattle.halves.specs.declared.HalvesPlan.{HalvesPlan}

-- 1 to 7 and 9 of the order, 13, then room for a start of each job, then room for the work area.
unfoldable pub plan_halves_checks : List ℕ → List ℤ → List ℤ → List Check
plan_halves_checks bytes starts work =
    order_checks bytes ++ halves_checks (numbers_of bytes)
    ++ room_checks (count_of bytes) (length starts) ++ room_checks area (length work)

-- The verdict of these checks.
abbrev pub halves_verdict : List ℕ → List ℤ → List ℤ → Verdict
halves_verdict bytes starts work = judge (plan_halves_checks bytes starts work)

-- The optional seconds that an order's plan loses; 0 where it has none.
abbrev pub lost_in : Order → Option Ended → ℕ
lost_in o none = 0
lost_in o (some e) = seconds_lost o.jobs e.choice

abbrev pub lost_seconds : Order → ℕ
lost_seconds o = lost_in o (plan o.t0 o.jobs)

-- What planning halves answers: a refusal, or a plan and the optional seconds lost.
abbrev pub HalvesPlanned : Type 0
HalvesPlanned = Result HalvesPlan Refusal

abbrev pub plan_with : Figures → ℕ → HalvesPlan
plan_with f s = record { figures = f; seconds = s }

-- An answer of planning, and the seconds lost where it is a plan.
abbrev pub with_seconds : ℕ → Planned → HalvesPlanned
with_seconds s (Err r) = Err r
with_seconds s (Ok f) = Ok (plan_with f s)

-- The answer, and both buffers at exit, of any bytes, starts and work area: planning's, by these checks.
abbrev pub halves_of : List ℕ → List ℤ → List ℤ → HalvesPlanned
halves_of bytes starts work =
    with_seconds (lost_seconds (order_of bytes)) (planned_by (halves_verdict bytes starts work) (plan_answer (order_of bytes)))

abbrev pub halves_starts_after : List ℕ → List ℤ → List ℤ → List ℤ
halves_starts_after bytes starts work = starts_by (halves_verdict bytes starts work) (plan_answer (order_of bytes)) starts

abbrev pub halves_work_after : List ℕ → List ℤ → List ℤ → List ℤ
halves_work_after bytes starts work = work_by (halves_verdict bytes starts work) work

-- A call of planning halves.
pub record HalvesCall (bytes : List ℕ) (starts work : List ℤ) (r : HalvesPlanned) (starts' work' : List ℤ) : Type 0 where
  pub answer : r ≡ halves_of bytes starts work
  pub written : starts' ≡ halves_starts_after bytes starts work
  pub area : work' ≡ halves_work_after bytes starts work

-- ---- the numbers for each case (R35); all but those of the refusal are 0 in a refused answer (R26)

-- Planning's, and the seconds lost.
pub record HalvesNumbers : Type 0 where
  pub plan : PlanNumbers
  pub seconds_lost : ℕ

abbrev pub halves_numbers : HalvesPlanned → HalvesNumbers
halves_numbers (Err r) = record { plan = plan_numbers (Err r); seconds_lost = 0 }
halves_numbers (Ok p) = record { plan = plan_numbers (Ok p.figures); seconds_lost = p.seconds }
