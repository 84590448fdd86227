-- Profiles: when a list of points is one, what it gives at a time, lookup, extending and better-of.
-- Definitions only.
use Rattle.std.specs.Prelude.{ℕ, zero, suc, ◌+◌, max, Bool, true, cond, ◌&&◌, List, [], ◌∷◌, ◌++◌, leb, ltb, ℤ, length, take}
use Rattle.std.proofs.Math.Option.{Option, none, some}
use Rattle.std.specs.Int.Signed.{le_z, lt_z}
use Rattle.seconds.specs.Limits.{most_weight, most_points}
use Rattle.seconds.specs.Ranges.{is_free}
use Rattle.order.specs.Job.{Job, Order, Point}
use Rattle.order.specs.Choice.{outcomes}

-- ---- which lists of points are profiles

-- Later and heavier than the point before it.
abbrev pub rises_to : Point → List Point → Bool
rises_to p [] = true
rises_to p (q ∷ qs) = lt_z p.time q.time && ltb p.weight q.weight

-- Both strictly rising.
abbrev pub rising : List Point → Bool
rising [] = true
rising (p ∷ ps) = rises_to p ps && rising ps

abbrev pub points_within : List Point → Bool
points_within [] = true
points_within (p ∷ ps) = is_free p.time && (leb p.weight most_weight && points_within ps)

-- A profile has 0 to 301 points, both strictly rising, times and weights in range.
abbrev pub valid_profile : List Point → Bool
valid_profile ps = leb (length ps) most_points && (rising ps && points_within ps)

-- ---- what a list of points gives

-- The greater of two weights; nothing is less than weight 0.
abbrev pub greater : Option ℕ → Option ℕ → Option ℕ
greater none w = w
greater (some v) none = some v
greater (some v) (some w) = some (max v w)

-- The greatest weight of a point at or before a time.
abbrev pub worth : List Point → ℤ → Option ℕ
worth [] t = none
worth (p ∷ ps) t = greater (cond (le_z p.time t) (some p.weight) none) (worth ps t)

-- The first of two, if it is there.
abbrev pub or_else {ℓ} : {A : Type ℓ} → Option A → Option A → Option A
or_else none b = b
or_else (some a) b = some a

-- Lookup: the last point with time at or before t.
abbrev pub lookup : List Point → ℤ → Option Point
lookup [] t = none
lookup (p ∷ ps) t = or_else (lookup ps t) (cond (le_z p.time t) (some p) none)

-- The last point of a list.
abbrev pub last_point : List Point → Option Point
last_point [] = none
last_point (p ∷ ps) = or_else (last_point ps) (some p)

-- Its weight, 0 if there is none.
abbrev pub weight_or0 : Option Point → ℕ
weight_or0 none = 0
weight_or0 (some p) = p.weight

abbrev pub last_weight : List Point → ℕ
last_weight ps = weight_or0 (last_point ps)

-- ---- the shortest profile of a list of points

-- No later and no lighter.
abbrev pub covers : Point → Point → Bool
covers p q = le_z p.time q.time && leb q.weight p.weight

-- A profile with one point more: what the new point covers goes, and so does the new point if it is covered.
abbrev pub add : Point → List Point → List Point
add p [] = p ∷ []
add p (q ∷ qs) =
    let further = add p qs in
    cond (covers q p) (q ∷ qs) (cond (covers p q) further (cond (lt_z q.time p.time) (q ∷ further) (p ∷ q ∷ qs)))

abbrev pub profile_of : List Point → List Point
profile_of [] = []
profile_of (p ∷ ps) = add p (profile_of ps)

-- Extending by some jobs: over every point and every feasible choice from it, the sum of both weights.
abbrev pub extend : List Point → List Job → List Point
extend ps js = profile_of (outcomes js ps)

-- Better-of: at each time the greater of the two weights.
abbrev pub better_of : List Point → List Point → List Point
better_of ps qs = profile_of (ps ++ qs)

-- The profile of an order is the single point (t0, 0), extended by its jobs.
abbrev pub start_point : ℤ → Point
start_point t = record { time = t; weight = 0 }

abbrev pub profile_after : ℤ → List Job → List Point
profile_after t js = extend (start_point t ∷ []) js

abbrev pub order_profile : Order → List Point
order_profile o = profile_after o.t0 o.jobs

-- The points of the profiles after each of the first k jobs, and after each of all jobs.
abbrev pub points_up_to : ℕ → ℤ → List Job → ℕ
points_up_to zero t js = 0
points_up_to (suc k) t js = points_up_to k t js + length (profile_after t (take (suc k) js))

abbrev pub point_total : ℤ → List Job → ℕ
point_total t js = points_up_to (length js) t js
