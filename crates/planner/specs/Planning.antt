-- What the parts of planning ask of their callers and give. Definitions only.
use Rattle.std.specs.Prelude.{ℕ, ◌≤◌, ◌<◌, ◌≡◌, List, ℤ, length}
use Rattle.std.proofs.Math.Option.{some}
use Rattle.seconds.specs.Limits.{most_jobs}
use Rattle.order.specs.Job.{weight_of}
use Rattle.order.specs.Choice.{mask}
use Rattle.profile.specs.Profile.{point_total}
use Rattle.plan.specs.Plan.{Ended, plan, plan_answer}
use Rattle.packed.specs.Judge.{fine}
use Rattle.packed.specs.Packed.{t0_of, order_of, jobs_in}
use Rattle.packed.proofs.Accepted.{OrderFine}
use Rattle.fields.specs.declared.Header.{Header}
use Rattle.fields.specs.Facts.{HeaderRead}
use Rattle.area.specs.Area.{area}
use Rattle.codes.specs.declared.Prefix.{Prefix}
use Rattle.filling.specs.declared.Totals.{Totals}
use Rattle.filling.specs.Lists.{noted}
use Rattle.reading.specs.declared.Found.{Found}
use Rattle.planner.specs.Calls.{Planned, planned_by, starts_by}

-- The order is accepted, its header read, and there is room for a start of each job and for the lists.
pub record CanPlan (bytes : List ℕ) (header : Header) (starts work : List ℤ) : Type 0 where
  pub order : OrderFine bytes
  pub read : HeaderRead bytes header
  pub places : header.count ≤ length starts
  pub room : area ≤ length work

-- The same with notes for the lists, the first of which has one point at the front.
pub record CanPlanOver (bytes : List ℕ) (header : Header) (starts work : List ℤ) (notes : List Prefix) : Type 0 where
  pub planning : CanPlan bytes header starts work
  pub first_note : noted notes 0 ≡ record { place = 0; count = 1 }
  pub room_notes : most_jobs < length notes

-- There is a plan, with its mask and its end, the points and the weight of all jobs are known, and there is room for a start of
-- each job.
pub record CanMake (bytes : List ℕ) (header : Header) (m : ℕ) (totals : Totals) (end : Found) (starts : List ℤ) : Type 0 where
  pub order : OrderFine bytes
  pub read : HeaderRead bytes header
  pub places : header.count ≤ length starts
  pub counted : totals.points ≡ point_total (t0_of bytes) (jobs_in bytes)
  pub reach : totals.weight ≡ weight_of (jobs_in bytes)
  pub best : Ended
  pub is : plan (t0_of bytes) (jobs_in bytes) ≡ some best
  pub keeps : m ≡ mask best.choice
  pub weighs : end.weight ≡ best.end.weight
  pub ends : end.time ≡ best.end.time

-- The answer, and the starts at exit, are those of the order's plan.
pub record MadeIn (bytes : List ℕ) (starts : List ℤ) (r : Planned) (starts' : List ℤ) : Type 0 where
  pub answer : r ≡ planned_by fine (plan_answer (order_of bytes))
  pub written : starts' ≡ starts_by fine (plan_answer (order_of bytes)) starts
