-- An invented point total is shut out: at every order that has a plan any total but the definition's, at P1 any but 14. So is an
-- invented field: at every order that is refused any but the definition's, at the README's any but 6. So are invented seconds
-- lost: at every order of halves that is planned any but the definition's, at the README's any but 300.
use Rattle.std.specs.Prelude.{ℕ, ◌≡◌, false, ◌≢◌, Ok, Err}
use Rattle.std.proofs.Common.{ap, arith}
use Rattle.std.proofs.Math.Option.{Option, none, some, map}
use Rattle.seconds.specs.Limits.{rest}
use Rattle.profile.specs.Profile.{point_total}
use Rattle.plan.specs.Plan.{Ended, answer_of, plan, plan_answer}
use Rattle.packed.specs.declared.Refusal.{Refusal}
use Rattle.packed.specs.Judge.{in_field, Verdict, fine, refused}
use Rattle.packed.specs.Packed.{order_of}
use Rattle.planner.specs.Calls.{Planned, plan_verdict, planned_by, plan_numbers}
use Rattle.halves.specs.Calls.{halves_verdict, lost_seconds, with_seconds, halves_numbers}
use Rattle.hollow.specs.Contract.{ShutOut}
use Rattle.hollow.specs.Promises.{PlanInput, planning, planning_halves}
use Rattle.hollow.specs.Laws.{other-answer}
use Rattle.hollow.specs.Hollow.{with_points, planning_with, planning_naming, with_lost, halves_with}
use Rattle.hollow.specs.Named.{plan_morning, plan_refused, halves_checked}
use Rattle.hollow.specs.Computed.{accepted}

-- Of an order that is planned.
pub invented-total : (total : PlanInput → ℕ) (x : PlanInput)
    → planning.refusal (planning.answer x) ≡ false → total x ≢ point_total (order_of x.0).t0 (order_of x.0).jobs
    → ShutOut planning (planning_with total) x
invented-total total x planned d =
    other-answer planning (planning_with total) x
    (λ e. d (said (plan_verdict x.0 x.1 x.2) (plan (order_of x.0).t0 (order_of x.0).jobs) planned e))
  where
    by : Verdict → Option Ended → Planned
    by v o = planned_by v (map (answer_of (order_of x.0).t0 (order_of x.0).jobs) o)

    -- A plan's answer has the definition's total.
    said : (v : Verdict) (o : Option Ended) → planning.refusal (by v o) ≡ false → with_points (total x) (by v o) ≡ by v o
        → total x ≡ point_total (order_of x.0).t0 (order_of x.0).jobs
    said fine (some p) a e = ap (λ r. (plan_numbers r).points) e
    said fine none a e = let z : ◌≡◌ {A = ℕ} 0 1 = cc in absurd (omega arith)
    said (refused r) o a e = let z : ◌≡◌ {A = ℕ} 0 1 = cc in absurd (omega arith)

-- Of P1.
pub morning-total : (total : PlanInput → ℕ) → total plan_morning ≢ 14
    → ShutOut planning (planning_with total) plan_morning
unfolding rest
morning-total total d =
    invented-total total plan_morning (rw (accepted.plan-morning, accepted.morning-order)) (rw accepted.morning-order d)

-- The field, of an order that is refused.
pub invented-field : (field : PlanInput → ℕ) (x : PlanInput) (r : Refusal) → planning.answer x ≡ Err r
    → field x ≢ r.field → ShutOut planning (planning_naming field) x
invented-field field x r is d =
    other-answer planning (planning_naming field) x (λ e. d (ap (λ a. (plan_numbers a).refusal.field) (rw is at e)))

-- Of the README's refused order.
pub refused-field : (field : PlanInput → ℕ) → field plan_refused ≢ 6 → ShutOut planning (planning_naming field) plan_refused
refused-field field d = invented-field field plan_refused (in_field 6 2 6) (rw accepted.plan-refused) d

-- The seconds lost, of an order of halves that is planned.
pub invented-seconds : (seconds : PlanInput → ℕ) (x : PlanInput)
    → planning_halves.refusal (planning_halves.answer x) ≡ false → seconds x ≢ lost_seconds (order_of x.0)
    → ShutOut planning_halves (halves_with seconds) x
invented-seconds seconds x made d =
    other-answer planning_halves (halves_with seconds) x
    (λ e. d (said (planned_by (halves_verdict x.0 x.1 x.2) (plan_answer (order_of x.0))) made e))
  where
    said : (r : Planned) → planning_halves.refusal (with_seconds (lost_seconds (order_of x.0)) r) ≡ false
        → with_lost (seconds x) (with_seconds (lost_seconds (order_of x.0)) r) ≡ with_seconds (lost_seconds (order_of x.0)) r
        → seconds x ≡ lost_seconds (order_of x.0)
    said (Ok f) a e = ap (λ r. (halves_numbers r).seconds_lost) e
    said (Err r) a e = let z : ◌≡◌ {A = ℕ} 0 1 = cc in absurd (omega arith)

-- Of the README's order.
pub checked-seconds : (seconds : PlanInput → ℕ) → seconds halves_checked ≢ 300
    → ShutOut planning_halves (halves_with seconds) halves_checked
unfolding rest
checked-seconds seconds d =
    invented-seconds seconds halves_checked (rw (accepted.halves-checked, accepted.checked-order)) (rw accepted.checked-order d)
