-- The hollow versions of planning, planning halves and extending that are tried beside those that every call has: an extension that
-- handles the first job and passes the rest by, a profile that comes back unextended, an invented point total, an invented field,
-- and invented seconds lost.
-- Definitions only.
use Rattle.std.specs.Prelude.{ℕ, ◌≡◌, List, ◌++◌, ℤ, take, Ok, Err}
use Rattle.order.specs.Job.{Job, Point}
use Rattle.profile.specs.Profile.{extend, better_of}
use Rattle.packed.specs.Judge.{in_field}
use Rattle.packed.specs.Packed.{order_of}
use Rattle.planner.specs.Calls.{Planned, Refused, Made, planned_of, starts_after, plan_work_after}
use Rattle.extending.specs.Calls.{Extended, profile_given, extend_verdict, extended_by, out_by, extend_work_after}
use Rattle.halves.specs.Calls.{HalvesPlanned, plan_with, halves_of, halves_starts_after, halves_work_after}
use Rattle.hollow.specs.Promises.{PlanInput, ExtendInput}

-- ---- extensions

-- A way to extend a profile by some jobs.
abbrev pub Extension : Type 0
Extension = List Point → List Job → List Point

-- The laws of R16, of any such way: by some jobs and then by others is by the joined jobs,
abbrev pub Joins : Extension → Type 0
Joins ext = (P : List Point) (A B : List Job) → ext (ext P A) B ≡ ext P (A ++ B)

-- and better-of may be taken before or after.
abbrev pub BetterFirst : Extension → Type 0
BetterFirst ext = (P Q : List Point) (A : List Job) → ext (better_of P Q) A ≡ better_of (ext P A) (ext Q A)

pub record Demand3 (ext : Extension) : Type 0 where
  pub joins : Joins ext
  pub better-first : BetterFirst ext

-- The first job alone; and none.
abbrev pub first_job_only : Extension
first_job_only P js = extend P (take 1 js)

abbrev pub unextended : Extension
unextended P js = P

-- The extending call in such a way: all is judged and cleared as it should be, and what it gives is written.
abbrev pub extending_by : Extension → ExtendInput → Extended × (List ℤ × List ℤ)
extending_by ext x =
    let verdict = extend_verdict x.0 x.1 x.2 x.3 in
    let points = ext (profile_given x.0) (order_of x.1).jobs in
    (extended_by verdict points, (out_by verdict points x.2, extend_work_after x.0 x.1 x.2 x.3))

-- ---- point totals

-- A plan's answer with another point total.
abbrev pub with_points : ℕ → Planned → Planned
with_points n (Refused r) = Refused r
with_points n (Made f) =
    Made
    (record {
      mask = f.mask;
      kept = f.kept;
      kept_weight = f.kept_weight;
      lost_weight = f.lost_weight;
      finish = f.finish;
      points = n;
    })

-- Planning as it should be, but for the point total.
abbrev pub planning_with : (PlanInput → ℕ) → PlanInput → Planned × (List ℤ × List ℤ)
planning_with total x = (
  with_points (total x) (planned_of x.0 x.1 x.2),
  (starts_after x.0 x.1 x.2, plan_work_after x.0 x.1 x.2),
)

-- ---- fields

-- A plan's answer whose refusal names another field.
abbrev pub with_field : ℕ → Planned → Planned
with_field f (Refused r) = Refused (in_field r.number r.place f)
with_field f (Made g) = Made g

-- Planning as it should be, but for the field.
abbrev pub planning_naming : (PlanInput → ℕ) → PlanInput → Planned × (List ℤ × List ℤ)
planning_naming field x = (
  with_field (field x) (planned_of x.0 x.1 x.2),
  (starts_after x.0 x.1 x.2, plan_work_after x.0 x.1 x.2),
)

-- ---- seconds lost

-- An answer of planning halves with other seconds.
abbrev pub with_lost : ℕ → HalvesPlanned → HalvesPlanned
with_lost s (Err r) = Err r
with_lost s (Ok p) = Ok (plan_with p.figures s)

-- Planning halves as it should be, but for the seconds.
abbrev pub halves_with : (PlanInput → ℕ) → PlanInput → HalvesPlanned × (List ℤ × List ℤ)
halves_with seconds x = (
  with_lost (seconds x) (halves_of x.0 x.1 x.2),
  (halves_starts_after x.0 x.1 x.2, halves_work_after x.0 x.1 x.2),
)
