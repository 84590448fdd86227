-- What pushing a list of points asks and gives. Definitions only.
use Rattle.std.specs.Prelude.{ℕ, ◌+◌, ◌-◌, ◌*◌, ◌≤◌, ◌<◌, ◌≡◌, ℤ, pos, ◌+ℤ◌, length, ◌≤ℤ◌}
use mathlib.Core.List.{List, Memᴰ as In}
use Rattle.seconds.specs.Limits.{rest, longest, most_weight, most_points}
use Rattle.seconds.specs.Ranges.{Between, InTime}
use Rattle.order.specs.Job.{Rate as JobRate, Point}
use Rattle.profile.proofs.Rising.{Rising}
use Rattle.profile.proofs.Closure.{PointWithin}
use Rattle.points.specs.Steps.{waited, when_ready, later_by, all_later}
use Rattle.codes.specs.declared.Prefix.{Prefix}
use Rattle.codes.specs.Code.{per_second, code_of, point_of, past_all, at0, points_at, end_of}
use Rattle.codes.specs.Held.{Held}
use Rattle.pushing.specs.declared.Rate.{Rate}

-- Where the pushed list ends.
abbrev pub top : ℕ
top = 302

-- The ranges of a point's number, with its weight, and of what a rate adds to it.
pub record Coded (z : ℤ) : Type 0 where
  pub low : pos 0 ≤ℤ z
  pub high : z ≤ℤ pos 200000000
  pub light : (point_of z).weight ≤ most_weight

abbrev pub Delta : ℤ → Type 0
Delta z = Between (pos 0) (pos 20000000) z

-- A rate within the limits, and the job's rate that it is.
pub record RateFits (r : Rate) : Type 0 where
  pub least : 1 ≤ r.takes
  pub most : r.takes ≤ longest
  pub light : r.gain ≤ most_weight

abbrev pub job_rate : Rate → JobRate
job_rate r = record { takes = r.takes; gain = r.gain }

-- What a rate adds to a number.
abbrev pub delta_of : Rate → ℤ
delta_of r = pos ((r.takes + rest) * per_second - r.gain)

-- The number of a point that waited, moved on.
abbrev pub waited_as : ℤ → ℤ → ℤ → ℤ
waited_as ready delta z = code_of ready (point_of z).weight +ℤ delta

-- The points of a list, pushed at a rate by a job that becomes ready at a time.
abbrev pub pushed_at : List ℤ → Prefix → ℤ → Rate → List Point
pushed_at work list ready rate = all_later (job_rate rate) (when_ready ready (points_at work list))

-- They can be pushed: they rise and are at most 301, each stays within the limits, and there is room below the top.
pub record CanPush (work : List ℤ) (list : Prefix) (ready : ℤ) (rate : Rate) (pushed : List ℤ) : Type 0 where
  pub few : list.count ≤ most_points
  pub room : end_of list ≤ length work
  pub held : Held work list.place (points_at work list)
  pub rises : Rising (points_at work list)
  pub starts : InTime ready
  pub fits : RateFits rate
  pub within : (p : Point) → In p (points_at work list) → PointWithin (later_by (job_rate rate) (waited ready p))
  pub room_pushed : top < length pushed
  pub past : at0 pushed top ≡ past_all

-- They stand before the top, and there still a number past all.
pub record Pushed (work : List ℤ) (list : Prefix) (ready : ℤ) (rate : Rate) (r : Prefix) (pushed : List ℤ) : Type 0 where
  pub held : Held pushed r.place (pushed_at work list ready rate)
  pub counted : r.count ≡ length (pushed_at work list ready rate)
  pub ends : end_of r ≡ top
  pub past : at0 pushed top ≡ past_all
