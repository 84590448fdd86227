-- The lists of the prefixes of an order in the work area, and what filling them asks and gives. Definitions only.
use Rattle.std.specs.Prelude.{ℕ, zero, suc, ◌+◌, ◌*◌, ◌≤◌, ◌<◌, ◌≡◌, Bool, true, false, cond, ℤ, length, get_or, take}
use mathlib.Core.List.{List, [], Memᴰ as In}
use Rattle.seconds.specs.Limits.{most_weight, most_jobs}
use Rattle.seconds.specs.Ranges.{InTime}
use Rattle.order.specs.Job.{Job, one_rate, Point, weight_of}
use Rattle.order.proofs.Within.{JobWithin}
use Rattle.profile.specs.Profile.{extend, last_weight}
use Rattle.profile.proofs.Closure.{ValidProfile}
use Rattle.points.specs.Steps.{list_step}
use Rattle.packed.specs.Packed.{count_of, job_in, jobs_in}
use Rattle.packed.proofs.Accepted.{OrderFine}
use Rattle.area.specs.Area.{area}
use Rattle.codes.specs.Code.{at0, list_at, end_of}
use Rattle.codes.specs.Held.{Held}
use Rattle.codes.specs.declared.Prefix.{Prefix}
use Rattle.pushing.specs.Pushes.{RateFits}
use Rattle.stepping.specs.Stepping.{Buffer}
use Rattle.reading.specs.Reading.{Stands, Says}
use Rattle.cells.specs.Cells.{reach, wide}
use Rattle.sweeping.specs.declared.Stretch.{Stretch}
use Rattle.sweeping.specs.Sweep.{Holds}
use Rattle.filling.specs.declared.Task.{Task}
use Rattle.filling.specs.declared.Sofar.{Sofar}
use Rattle.filling.specs.declared.Totals.{Totals}

-- ---- the lists of all prefixes

-- The note of the list after the first k jobs.
abbrev pub noted : List Prefix → ℕ → Prefix
noted notes k = get_or notes k (record { place = 0; count = 0 })

-- The numbers noted for the first k jobs, for each k up to n, say the profile of that prefix, from some points to start with. All
-- of them end by `used`.
pub record Lists (P : List Point) (js : List Job) (n : ℕ) (notes : List Prefix) (used : ℕ) (work : List ℤ) : Type 0 where
  pub stands : (k : ℕ) → k ≤ n → Says work (noted notes k).place (noted notes k).count (extend P (take k js))
  pub ends : (k : ℕ) → k ≤ n → end_of (noted notes k) ≤ used

-- The points of the lists after each of the first k jobs.
abbrev pub points_to : List Point → List Job → ℕ → ℕ
points_to P js zero = 0
points_to P js (suc k) = points_to P js k + length (extend P (take (suc k) js))

-- ---- one job

-- A job of an accepted order can be read;
pub record CanRead (bytes : List ℕ) (k : ℕ) : Type 0 where
  pub order : OrderFine bytes
  pub there : k < count_of bytes

-- its terms and its one rate are then told.
pub record TaskIs (bytes : List ℕ) (k : ℕ) (r : Task) : Type 0 where
  pub number : ℕ
  pub is : job_in bytes k ≡ one_rate number r.terms.critical r.rate.gain r.terms.ready r.rate.takes r.terms.deadline
  pub starts : InTime r.terms.ready
  pub ends : InTime r.terms.deadline
  pub fits : RateFits r.rate

-- A list that stands says itself: it has as many points as numbers.
abbrev pub as_stretch : Prefix → Stretch
as_stretch list = record { list = list; points = list.count }

-- The job at a place can be stepped by: the order is accepted, some profile is held, and there is room and weight for the next.
pub record CanFillOne (bytes : List ℕ) (k : ℕ) (from : Stretch) (celled : Bool) (work pushed row : List ℤ) : Type 0 where
  pub read : CanRead bytes k
  pub ps : List Point
  pub holds : Holds ps from.list from.points work row celled
  pub light : (p : Point) → In p ps → p.weight + (job_in bytes k).weight ≤ most_weight
  pub limits : JobWithin (job_in bytes k)
  pub room : end_of from.list + reach ps ≤ length work
  pub room_more : (job_in bytes k).critical ≡ false → end_of from.list + 319 < length work
  pub buffer : Buffer pushed

-- Every such profile is held in the same way, stepped by the job, and its weight is told.
pub record FilledOne (bytes : List ℕ) (k : ℕ) (from : Stretch) (celled : Bool) (work row : List ℤ) (r : Stretch) (weight : ℕ)
    (work' pushed' row' : List ℤ) : Type 0 where
  pub weighs : weight ≡ (job_in bytes k).weight
  pub size : length work' ≡ length work
  pub stays : (i : ℕ) → i < end_of from.list → at0 work' i ≡ at0 work i
  pub further : end_of from.list ≤ end_of r.list
  pub few : end_of r.list ≤ end_of from.list + r.list.count + cond (job_in bytes k).critical 0 1
  pub buffer : Buffer pushed'
  pub next : (ps : List Point) → Holds ps from.list from.points work row celled
      → ((p : Point) → In p ps → p.weight + (job_in bytes k).weight ≤ most_weight)
      → Holds (list_step (job_in bytes k) ps) r.list r.points work' row' celled

-- ---- all jobs

-- The lists can be filled: the order is accepted, a profile stands at the front, and there is weight for both together.
pub record CanFill (bytes : List ℕ) (n count : ℕ) (work : List ℤ) : Type 0 where
  pub order : OrderFine bytes
  pub jobs : n ≡ count_of bytes
  pub held : Held work 0 (list_at work 0 count)
  pub valid : ValidProfile (list_at work 0 count)
  pub light : last_weight (list_at work 0 count) + weight_of (jobs_in bytes) ≤ most_weight
  pub room : area ≤ length work

-- And noted: the first of them is, and there is a note for each.
pub record CanFillLists (bytes : List ℕ) (n : ℕ) (work : List ℤ) (notes : List Prefix) : Type 0 where
  pub filling : CanFill bytes n (noted notes 0).count work
  pub first : (noted notes 0).place ≡ 0
  pub room : most_jobs < length notes

-- They are filled, from that profile; the points of all and the weight of all jobs are told.
pub record Filled (bytes : List ℕ) (n count : ℕ) (work : List ℤ) (totals : Totals) (notes : List Prefix) (work' : List ℤ) : Type 0 where
  pub used : ℕ
  pub small : used ≤ area
  pub lists : Lists (list_at work 0 count) (jobs_in bytes) n notes used work'
  pub total : totals.points ≡ points_to (list_at work 0 count) (jobs_in bytes) n
  pub weighs : totals.weight ≡ weight_of (jobs_in bytes)

-- And the last is held.
pub record FilledAll (bytes : List ℕ) (n count : ℕ) (work : List ℤ) (totals : Totals) (celled : Bool) (notes : List Prefix)
    (work' row' : List ℤ) : Type 0 where
  pub filled : Filled bytes n count work totals notes work'
  pub many : ℕ
  pub last : Holds (extend (list_at work 0 count) (jobs_in bytes)) (noted notes n) many work' row' celled

-- The last of them stands.
pub record FilledLast (bytes : List ℕ) (count : ℕ) (work : List ℤ) (r : Prefix) (work' : List ℤ) : Type 0 where
  pub list : Stands work' r.place r.count
  pub is : list_at work' r.place r.count ≡ extend (list_at work 0 count) (jobs_in bytes)

-- On the way: those of the first k jobs are, the last of them is held as it is noted, and the part in use ends with it.
pub record Filling (bytes : List ℕ) (count : ℕ) (work₀ : List ℤ) (k : ℕ) (last : Stretch) (celled : Bool) (totals : Totals)
    (notes : List Prefix) (work row : List ℤ) : Type 0 where
  pub size : length work ≡ length work₀
  pub lists : Lists (list_at work₀ 0 count) (jobs_in bytes) k notes (end_of last.list) work
  pub note : noted notes k ≡ last.list
  pub holds : Holds (extend (list_at work₀ 0 count) (take k (jobs_in bytes))) last.list last.points work row celled
  pub room : end_of last.list ≤ (k + 1) * (last_weight (list_at work₀ 0 count) + totals.weight + 1)
  pub total : totals.points ≡ points_to (list_at work₀ 0 count) (jobs_in bytes) k
  pub weighs : totals.weight ≡ weight_of (take k (jobs_in bytes))
  pub room_notes : most_jobs < length notes

-- ---- as lists, and by cells

-- Those of some jobs are filled as lists.
pub record FilledSofar (bytes : List ℕ) (n count : ℕ) (work : List ℤ) (r : Sofar) (notes : List Prefix) (work' : List ℤ) : Type 0 where
  pub order : r.jobs ≤ n
  pub filling : Filling bytes count work r.jobs (as_stretch r.list) false r.totals notes work' []

-- So they were from some work area on, and there is a row for cells;
pub record CanFillCells (bytes : List ℕ) (n : ℕ) (sofar : Sofar) (work : List ℤ) (notes : List Prefix) (row : List ℤ) : Type 0 where
  pub count : ℕ
  pub work₀ : List ℤ
  pub can : CanFill bytes n count work₀
  pub filled : FilledSofar bytes n count work₀ sofar notes work
  pub size : length row ≡ wide

-- then all are, from every one from which they were.
abbrev pub FilledCells : List ℕ → ℕ → Sofar → List ℤ → List Prefix → Totals → List Prefix → List ℤ → List ℤ → Type 0
FilledCells bytes n sofar work notes r notes' work' row' =
    (count : ℕ) (work₀ : List ℤ) → CanFill bytes n count work₀ → FilledSofar bytes n count work₀ sofar notes work
    → FilledAll bytes n count work₀ r true notes' work' row'
