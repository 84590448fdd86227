-- The walk back as the code does it: the trail from job to job over the lists in the work area, and what each function asks.
-- Definitions only.
use Rattle.std.specs.Prelude.{ℕ, ◌+◌, ◌*◌, ◌-◌, ◌^◌, ◌≤◌, ◌<◌, ◌≡◌, Bool, true, false, cond, List, [], ◌∷◌, reverse, ℤ, pos, ◌-ℤ◌, length}
use Rattle.std.proofs.Math.Option.{Option, some, map}
use Rattle.seconds.specs.Limits.{rest, longest}
use Rattle.seconds.specs.Ranges.{Between, InTime, InFree}
use Rattle.seconds.specs.Signed.{min_z}
use Rattle.order.specs.Job.{Job, Point, gain_of}
use Rattle.order.specs.Choice.{Choice, bit_of, mask}
use Rattle.profile.specs.Profile.{start_point}
use Rattle.profile.proofs.Worth.{lookup_weight}
use Rattle.rows.specs.Walk.{Source}
use Rattle.points.specs.Walk.{is_weight, source_in, walk_lists}
use Rattle.packed.specs.Packed.{count_of, t0_of, jobs_in}
use Rattle.packed.specs.Refusals.{fields_within}
use Rattle.packed.proofs.Accepted.{OrderFine}
use Rattle.fields.specs.declared.Job.{Job as Numbers}
use Rattle.fields.specs.Fields.{fields_of, as_job}
use Rattle.codes.specs.declared.Prefix.{Prefix}
use Rattle.codes.specs.Code.{points_at}
use Rattle.reading.specs.declared.Found.{Found}
use Rattle.reading.specs.Reading.{Stands}
use Rattle.filling.specs.Lists.{Lists}
use Rattle.walking.specs.declared.Trail.{Trail}

-- ---- one job back

-- Whether a job is left out, by the list before it.
abbrev pub leaves_out : Bool → List Point → ℕ → ℤ → Bool
leaves_out critical list weight by = cond critical false (is_weight (lookup_weight list by) weight)

-- A last start can be told: the length, the deadline and the time by which the bus is to be free are within their limits.
pub record Timely (long deadline by : ℤ) : Type 0 where
  pub takes : Between (pos 1) (pos longest) long
  pub ends : InTime deadline
  pub free : InFree by

-- The last start of a job that leaves the bus free by a time.
abbrev pub last_start_of : ℤ → ℤ → ℤ → ℤ
last_start_of long deadline by = min_z deadline (by -ℤ pos rest) -ℤ long

-- The trail before a job, by its source: the bit of a kept job is set, its weight is accounted for, and the bus must be free
-- by the source's time.
abbrev pub trail_before : Job → ℕ → Trail → Source → Trail
trail_before j bit trail s =
    record { mask = trail.mask + bit_of s.pick * bit; weight = trail.weight - gain_of j s.pick; by = s.latest }

-- The step back: the trail before the job, if a pick has a source.
abbrev pub step_back : Job → ℕ → List Point → Trail → Option Trail
step_back j bit list trail = map (trail_before j bit trail) (source_in j list trail.weight trail.by)

-- It can be made: the list before the job stands in the work area, there is room for the job's bit, and a pick has a source.
pub record StepsBack (work : List ℤ) (list : Prefix) (bit : ℕ) (job : Numbers) (trail : Trail) : Type 0 where
  pub within : fields_within (fields_of job) ≡ true
  pub stands : Stands work list.place list.count
  pub fits : trail.mask + bit < 2 ^ 64
  pub free : InFree trail.by
  pub source : Source
  pub found : source_in (as_job job) (points_at work list) trail.weight trail.by ≡ some source

-- ---- all jobs

-- The walk can be made: the bytes are an order, the lists of all its prefixes stand, and the walk from the end gives a choice.
pub record Walks (work : List ℤ) (bytes : List ℕ) (n : ℕ) (notes : List Prefix) (end : Found) : Type 0 where
  pub order : OrderFine bytes
  pub count : n ≡ count_of bytes
  pub used : ℕ
  pub lists : Lists (start_point (t0_of bytes) ∷ []) (jobs_in bytes) n notes used work
  pub room : used ≤ length work
  pub room_notes : n < length notes
  pub free : InFree end.time
  pub choice : Choice
  pub walked : walk_lists (reverse (jobs_in bytes)) (start_point (t0_of bytes) ∷ []) end.weight end.time [] ≡ some choice

-- The mask of the choice that the walk back over some jobs gives.
abbrev pub walk_mask : ℤ → List Job → ℕ → ℤ → Option ℕ
walk_mask t0 js weight by = map mask (walk_lists (reverse js) (start_point t0 ∷ []) weight by [])
