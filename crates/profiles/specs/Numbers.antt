-- Profiles held as alternating numbers: time, weight, time, weight, and so on. Definitions only.
use Rattle.std.specs.Prelude.{ℕ, ◌*◌, Bool, true, false, cond, List, [], ◌∷◌, ◌++◌, ℤ, pos, negsuc, length, drop}
use Rattle.std.proofs.Math.Option.{Option, none, some}
use Rattle.seconds.specs.Limits.{most_points}
use Rattle.order.specs.Job.{Point}
use Rattle.profile.specs.Profile.{valid_profile}

-- The most numbers that a profile has, and the room that a call wants which writes one: 602.
abbrev pub most_numbers : ℕ
most_numbers = 2 * most_points

-- The numbers of some points: each point's time and then its weight.
abbrev pub alternating : List Point → List ℤ
alternating [] = []
alternating (p ∷ ps) = p.time ∷ pos p.weight ∷ alternating ps

-- One point more in front; a negative number is no weight.
abbrev pub with_point : ℤ → ℤ → Option (List Point) → Option (List Point)
with_point t (pos w) (some ps) = some (record { time = t; weight = w } ∷ ps)
with_point t (pos w) none = none
with_point t (negsuc n) ps = none

-- The points that alternating numbers hold; none for an odd length or a negative weight.
abbrev pub points_in : List ℤ → Option (List Point)
points_in [] = some []
points_in (t ∷ []) = none
points_in (t ∷ w ∷ ns) = with_point t w (points_in ns)

-- The points, if they are a valid profile.
abbrev pub if_valid : Option (List Point) → Option (List Point)
if_valid none = none
if_valid (some ps) = cond (valid_profile ps) (some ps) none

-- The profile that alternating numbers hold; none where they hold no valid one.
abbrev pub profile_in : List ℤ → Option (List Point)
profile_in ns = if_valid (points_in ns)

-- Whether there is one,
abbrev pub is_there : Option (List Point) → Bool
is_there none = false
is_there (some ps) = true

-- and whether numbers hold one.
abbrev pub holds_profile : List ℤ → Bool
holds_profile ns = is_there (profile_in ns)

-- Numbers written to the front of others: only the part needed is written, the rest stays.
abbrev pub written_over : List ℤ → List ℤ → List ℤ
written_over ns out = ns ++ drop (length ns) out
