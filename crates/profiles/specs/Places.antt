-- Points by their places in numbers: a point begins at a place, or the numbers end. Code that walks a profile from the front goes
-- by these. Definitions only.
use Rattle.std.specs.Prelude.{ℕ, ◌+◌, ◌≤◌, ◌<◌, ◌≡◌, List, [], ◌∷◌, T, ℤ, pos, nat_abs, length, get_or, drop, ◌≤ℤ◌}
use Rattle.seconds.specs.Limits.{most_weight}
use Rattle.order.specs.Job.{Point}
use Rattle.profile.specs.Profile.{points_within}
use Rattle.profiles.specs.Numbers.{alternating}

-- The numbers of a point that begins at a place.
abbrev pub time_at : List ℤ → ℕ → ℤ
time_at ns i = get_or ns i (pos 0)

abbrev pub weight_at : List ℤ → ℕ → ℤ
weight_at ns i = get_or ns (i + 1) (pos 0)

-- Two numbers a point; a last one that is left over is passed by.
abbrev pub points_of : List ℤ → List Point
points_of [] = []
points_of (t ∷ []) = []
points_of (t ∷ w ∷ ns) = record { time = t; weight = nat_abs w } ∷ points_of ns

-- From the place on, the numbers are those of points within the ranges.
pub record AtPoint (ns : List ℤ) (i : ℕ) : Type 0 where
  pub inside : i ≤ length ns
  pub numbers : alternating (points_of (drop i ns)) ≡ drop i ns
  pub within : T (points_within (points_of (drop i ns)))

-- The point of a time and a number for the weight.
abbrev pub point : ℤ → ℤ → Point
point t w = record { time = t; weight = nat_abs w }

-- The point that begins at the place, its weight, and the place after it.
pub record NextPoint (ns : List ℤ) (i : ℕ) : Type 0 where
  pub more : i + 1 < length ns
  pub points : points_of (drop i ns) ≡ point (time_at ns i) (weight_at ns i) ∷ points_of (drop (i + 2) ns)
  pub weight : pos (nat_abs (weight_at ns i)) ≡ weight_at ns i
  pub light : weight_at ns i ≤ℤ pos most_weight
  pub further : AtPoint ns (i + 2)
