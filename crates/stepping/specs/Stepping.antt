-- What a step from the list before a job to the list after it asks and gives. Definitions only.
use Rattle.std.specs.Prelude.{ℕ, ◌+◌, ◌-◌, ◌≤◌, ◌<◌, ◌≡◌, Bool, false, cond, ℤ, pos, ◌-ℤ◌, length, set}
use mathlib.Core.List.{List, Memᴰ as In}
use Rattle.std.specs.Int.Signed.{lt_z}
use Rattle.seconds.specs.Limits.{longest, most_weight}
use Rattle.seconds.specs.Ranges.{InTime, InFree}
use Rattle.order.specs.Job.{Job, one_rate, Point}
use Rattle.profile.proofs.Rising.{Rising}
use Rattle.points.specs.Steps.{pushed_by, too_late, step_by}
use Rattle.codes.specs.declared.Prefix.{Prefix}
use Rattle.codes.specs.Code.{point_of, limit_of, past_all, at0, points_at, end_of}
use Rattle.codes.specs.Held.{Held, After}
use Rattle.pushing.specs.declared.Rate.{Rate}
use Rattle.pushing.specs.Pushes.{top, Coded, RateFits, job_rate, delta_of, waited_as}
use Rattle.merging.specs.Joins.{CutAt}
use Rattle.stepping.specs.declared.Terms.{Terms}
use Rattle.stepping.specs.declared.Moved.{Moved}

-- A job by its terms, at one rate; its own number does not count here.
abbrev pub job_of : Terms → Rate → Job
job_of job rate = one_rate 0 job.critical rate.gain job.ready rate.takes job.deadline

-- The list after the job.
abbrev pub stepped : Terms → Rate → List Point → List Point
stepped job rate ps = step_by (job_of job rate) (job_rate rate) ps

-- The last start of the job.
abbrev pub last_start : Terms → Rate → ℤ
last_start job rate = job.deadline -ℤ pos rate.takes

-- The buffer of a pushed list: a number past all stands at its top, and one more behind it.
pub record Buffer (pushed : List ℤ) : Type 0 where
  pub room : top + 1 < length pushed
  pub past : at0 pushed top ≡ past_all

-- A list of points stands there, and the job is within the limits with each of them.
pub record CanStep (job : Terms) (rate : Rate) (list : Prefix) (work pushed : List ℤ) : Type 0 where
  pub held : Held work list.place (points_at work list)
  pub rises : Rising (points_at work list)
  pub starts : InTime job.ready
  pub ends : InTime job.deadline
  pub fits : RateFits rate
  pub light : (p : Point) → In p (points_at work list) → p.weight + rate.gain ≤ most_weight
  pub room : end_of list + list.count ≤ length work
  pub room_more : job.critical ≡ false → end_of list + 319 < length work
  pub buffer : Buffer pushed

-- The list after the job stands behind or in place of the list before it; the part in use stays, and grows by no more than
-- the list after the job, and one number where the job is not critical.
pub record Stepped (job : Terms) (rate : Rate) (list : Prefix) (work : List ℤ) (r : Prefix) (work' pushed' : List ℤ) : Type 0 where
  pub size : length work' ≡ length work
  pub stays : (k : ℕ) → k < end_of list → at0 work' k ≡ at0 work k
  pub held : Held work' r.place (stepped job rate (points_at work list))
  pub counted : r.count ≡ length (stepped job rate (points_at work list))
  pub further : end_of list ≤ end_of r
  pub few : end_of r ≤ end_of list + r.count + cond job.critical 0 1
  pub buffer : Buffer pushed'

-- ---- the cases

-- A last start can be told.
pub record CanEnd (job : Terms) (rate : Rate) : Type 0 where
  pub ends : InTime job.deadline
  pub most : rate.takes ≤ longest

-- Case 1: the list that is left without the job; where the part in use ends, if the job is critical.
abbrev pub left_out : Bool → ℕ → Prefix → Prefix
left_out critical used list = cond critical (record { place = used; count = 0 }) list

-- Case 3: one number can be added behind a list, by its last number.
pub record CanAdd (job : Terms) (rate : Rate) (list : Prefix) (work : List ℤ) : Type 0 where
  pub some : 1 ≤ list.count
  pub room : end_of list < length work
  pub starts : InTime job.ready
  pub fits : RateFits rate
  pub coded : Coded (at0 work (end_of list - 1))

-- The list with the number, or the number alone if the job is critical.
abbrev pub with_one : Bool → Prefix → Prefix
with_one critical list =
    cond critical (record { place = end_of list; count = 1 }) (record { place = list.place; count = list.count + 1 })

pub record Added (job : Terms) (rate : Rate) (list : Prefix) (work : List ℤ) (r : Prefix) (work' : List ℤ) : Type 0 where
  pub told : r ≡ with_one job.critical list
  pub written : work' ≡ set work (end_of list) (waited_as job.ready (delta_of rate) (at0 work (end_of list - 1)))

-- The points from which the job can still start are those up to a place, and it can be found.
pub record CanSeek (job : Terms) (rate : Rate) (list : Prefix) (work : List ℤ) : Type 0 where
  pub told : CanEnd job rate
  pub last : InFree (last_start job rate)
  pub room : end_of list ≤ length work

abbrev pub Startable : Terms → Rate → Prefix → List ℤ → ℕ → Type 0
Startable job rate list work end = After work list.place (end_of list) (limit_of (last_start job rate)) end

-- The list can be pushed by the job: it has a point, and the job can start from it.
pub record CanPushBy (job : Terms) (rate : Rate) (list : Prefix) (work pushed : List ℤ) : Type 0 where
  pub step : CanStep job rate list work pushed
  pub some : 1 ≤ list.count
  pub can : too_late (job_of job rate) (job_rate rate) (point_of (at0 work list.place)) ≡ false

-- The list pushed by the job at the rate stands before the top of the buffer; it has a point, and no more than the list, which is
-- cut where all in front goes before it.
pub record PushedBy (job : Terms) (rate : Rate) (list : Prefix) (work : List ℤ) (r : Moved) (pushed : List ℤ) : Type 0 where
  pub held : Held pushed r.list.place (pushed_by (job_of job rate) (job_rate rate) (points_at work list))
  pub counted : r.list.count ≡ length (pushed_by (job_of job rate) (job_rate rate) (points_at work list))
  pub some : 1 ≤ r.list.count
  pub few : r.list.count ≤ list.count
  pub ends : end_of r.list ≡ top
  pub past : at0 pushed top ≡ past_all
  pub cut : CutAt work list r.cut (at0 pushed r.list.place)

-- Case 2: it can be pushed, and its last point is not before the job is ready.
pub record CanMerge (job : Terms) (rate : Rate) (list : Prefix) (work pushed : List ℤ) : Type 0 where
  pub push : CanPushBy job rate list work pushed
  pub late : lt_z (point_of (at0 work (end_of list - 1))).time job.ready ≡ false
