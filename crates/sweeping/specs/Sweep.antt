-- A list that goes from job to job beside its cells, and what a step by cells asks and gives. What is asked holds for some list, and
-- what is given for every list of which it is asked. Definitions only.
use Rattle.std.specs.Prelude.{ℕ, ◌+◌, ◌-◌, ◌≤◌, ◌<◌, ◌≡◌, Bool, true, false, cond, ltb, ℤ, length}
use mathlib.Core.List.{List, [], Memᴰ as In}
use Rattle.std.specs.Int.Signed.{lt_z}
use Rattle.seconds.specs.Limits.{most_weight}
use Rattle.seconds.specs.Ranges.{InTime}
use Rattle.order.specs.Job.{Point}
use Rattle.profile.proofs.Rising.{Rising}
use Rattle.profile.proofs.Closure.{PointWithin}
use Rattle.points.specs.Steps.{up_to_time}
use Rattle.codes.specs.declared.Prefix.{Prefix}
use Rattle.codes.specs.Code.{at0, points_at, end_of, point_of}
use Rattle.codes.specs.Held.{Held}
use Rattle.pushing.specs.declared.Rate.{Rate}
use Rattle.pushing.specs.Pushes.{RateFits}
use Rattle.stepping.specs.declared.Terms.{Terms}
use Rattle.stepping.specs.Stepping.{stepped, last_start, Buffer}
use Rattle.reading.specs.Reading.{Says}
use Rattle.cells.specs.Cells.{reach, Cells}
use Rattle.sweeping.specs.declared.Stretch.{Stretch}

-- ---- a list and its cells

-- A profile that a row has the cells of; a stretch says it, in no more numbers than it has cells, and its points are counted.
pub record Carried (ps : List Point) (list : Prefix) (points : ℕ) (work row : List ℤ) : Type 0 where
  pub rises : Rising ps
  pub within : (p : Point) → In p ps → PointWithin p
  pub cells : Cells row ps
  pub says : Says work list.place list.count ps
  pub few : list.count ≤ reach ps
  pub counted : points ≡ length ps
  pub room : end_of list ≤ length work

-- A profile that stands as a list.
pub record Listed (ps : List Point) (list : Prefix) (points : ℕ) (work : List ℤ) : Type 0 where
  pub rises : Rising ps
  pub held : Held work list.place ps
  pub count : list.count ≡ length ps
  pub told : points ≡ length ps
  pub room : end_of list ≤ length work

-- A profile that stands as a list, or is carried by its cells.
pub data Holds (ps : List Point) (list : Prefix) (points : ℕ) (work row : List ℤ) : Bool → Type 0 where
  as-list : Listed ps list points work → Holds ps list points work row false
  as-cells : Carried ps list points work row → Holds ps list points work row true

-- A job within the limits, with each point of the profile; one that may be left out has a weight, and a critical one has none.
pub record Steppable (job : Terms) (rate : Rate) (ps : List Point) : Type 0 where
  pub starts : InTime job.ready
  pub ends : InTime job.deadline
  pub fits : RateFits rate
  pub light : (p : Point) → In p ps → p.weight + rate.gain ≤ most_weight
  pub weighty : job.critical ≡ false → 1 ≤ rate.gain
  pub weightless : job.critical ≡ true → rate.gain ≡ 0

-- There is room for the profile after the job, as a list or as cells.
pub record Roomy (job : Terms) (ps : List Point) (list : Prefix) (work pushed : List ℤ) : Type 0 where
  pub room : end_of list + reach ps ≤ length work
  pub room_more : job.critical ≡ false → end_of list + 319 < length work
  pub buffer : Buffer pushed

-- ---- the parts of a step by cells

-- What is left without the job.
abbrev pub left : Bool → ℕ → Prefix → ℕ → Stretch
left critical used list points =
    cond critical (record { list = record { place = used; count = 0 }; points = 0 }) (record { list = list; points = points })

-- A row has the cells of what is left without a job.
pub record Wiped (critical : Bool) (row row' : List ℤ) : Type 0 where
  pub size : length row' ≡ length row
  pub cells : (ps : List Point) → Cells row ps → Cells row' (cond critical [] ps)

-- How many cells the job can start from: none where it is ready after its last start.
abbrev pub start_cells : Terms → Rate → List Point → ℕ
start_cells job rate ps = cond (lt_z (last_start job rate) job.ready) 0 (reach (up_to_time (last_start job rate) ps))

-- They can be counted in a stretch that says the profile.
pub record CanCount (job : Terms) (rate : Rate) (list : Prefix) (work : List ℤ) : Type 0 where
  pub starts : InTime job.ready
  pub ends : InTime job.deadline
  pub fits : RateFits rate
  pub held : Held work list.place (points_at work list)
  pub room : end_of list ≤ length work

abbrev pub Counted : Terms → Rate → Prefix → List ℤ → ℕ → Type 0
Counted job rate list work r =
    (ps : List Point) → Rising ps → Says work list.place list.count ps → r ≡ start_cells job rate ps

-- ---- a step

-- Some profile is carried, and the job can step it.
pub record CanSweep (job : Terms) (rate : Rate) (list : Prefix) (work pushed row : List ℤ) : Type 0 where
  pub ps : List Point
  pub points : ℕ
  pub carried : Carried ps list points work row
  pub can : Steppable job rate ps
  pub roomy : Roomy job ps list work pushed

-- And then every such profile is, stepped by the job; the part in use stays.
pub record Swept (job : Terms) (rate : Rate) (list : Prefix) (points : ℕ) (work row : List ℤ) (r : Stretch) (work' pushed' row' : List ℤ)
    : Type 0 where
  pub size : length work' ≡ length work
  pub stays : (k : ℕ) → k < end_of list → at0 work' k ≡ at0 work k
  pub further : end_of list ≤ end_of r.list
  pub few : end_of r.list ≤ end_of list + r.list.count
  pub buffer : Buffer pushed'
  pub next : (ps : List Point) → Carried ps list points work row → Steppable job rate ps
      → Carried (stepped job rate ps) r.list r.points work' row'

-- The job can start from so many cells, and one at least.
pub record CanGo (job : Terms) (rate : Rate) (list : Prefix) (many : ℕ) (work pushed row : List ℤ) : Type 0 where
  pub sweep : CanSweep job rate list work pushed row
  pub some : 1 ≤ many
  pub told : Counted job rate list work many

abbrev pub Started : Terms → Rate → Prefix → ℕ → List ℤ → List ℤ → Stretch → List ℤ → List ℤ → List ℤ → Type 0
Started job rate list many work row r work' pushed' row' =
    (points : ℕ) → Swept job rate list points work row r work' pushed' row'

-- ---- the list itself

-- Many points of a list are past a time: its twentieth from the end is.
abbrev pub many_late : List ℤ → Prefix → ℤ → Bool
many_late work list time = cond (ltb list.count 20) false (lt_z time (point_of (at0 work (end_of list - 20))).time)

-- A list that stands at a place can be read.
pub record Readable (work : List ℤ) (list : Prefix) : Type 0 where
  pub held : Held work list.place (points_at work list)
  pub room : end_of list ≤ length work

-- Some profile is carried, and there is room for every list.
pub record CanSettle (list : Prefix) (work row : List ℤ) : Type 0 where
  pub ps : List Point
  pub points : ℕ
  pub carried : Carried ps list points work row
  pub room : 301 ≤ length work

-- Every profile that was carried stands as a list.
pub record Settled (list : Prefix) (work row : List ℤ) (r : Prefix) (work' : List ℤ) : Type 0 where
  pub size : length work' ≡ length work
  pub room : end_of r ≤ length work'
  pub held : (ps : List Point) (points : ℕ) → Carried ps list points work row → Held work' r.place ps × (r.count ≡ length ps)
