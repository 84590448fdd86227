-- Merging two profiles place by place: whose point is next, what merging asks and gives, and what holds while the loop goes on.
-- Definitions only.
use Rattle.std.specs.Prelude.{ℕ, ◌+◌, ◌*◌, ◌≤◌, ◌<◌, ◌≡◌, Bool, true, List, ◌∷◌, ℤ, pos, nat_abs, length, drop, ◌≤ℤ◌}
use Rattle.seconds.specs.Limits.{most_weight}
use Rattle.seconds.specs.Signed.{up, dn}
use Rattle.order.specs.Job.{Point}
use Rattle.profile.specs.Profile.{better_of}
use Rattle.profiles.specs.Numbers.{most_numbers, alternating, holds_profile, written_over}
use Rattle.profiles.specs.Places.{points_of, AtPoint, point}
use Rattle.profiles.specs.OnePass.{below_all}
use Rattle.profiles.specs.Writing.{Writing}
use Rattle.better.specs.InTurn.{in_turn, first_goes}
use Rattle.better.specs.Heavier.{heavier, merge}

-- Whether the next point of those left at two places is the first profile's.
abbrev pub first_goes_at : List ℤ → ℕ → List ℤ → ℕ → Bool
first_goes_at p i q j = first_goes (points_of (drop i p)) (points_of (drop j q))

-- The points left at two places, in turn.
abbrev pub left_in_turn : List ℤ → ℕ → List ℤ → ℕ → List Point
left_in_turn p i q j = in_turn (points_of (drop i p)) (points_of (drop j q))

-- A turn takes the point of this time and weight, and goes on at the places k and l.
pub record Taken (p : List ℤ) (i : ℕ) (q : List ℤ) (j : ℕ) (time weight : ℤ) (k l : ℕ) : Type 0 where
  pub next : left_in_turn p i q j ≡ point time weight ∷ left_in_turn p k q l
  pub whole : pos (nat_abs weight) ≡ weight
  pub light : weight ≤ℤ pos most_weight
  pub first : AtPoint p k
  pub second : AtPoint q l
  pub forth : (i ≤ k) × (j ≤ l)
  pub less : i + j < k + l

-- What merging asks: two profiles and the room.
pub record Joinable (p q out : List ℤ) : Type 0 where
  pub first : holds_profile p ≡ true
  pub second : holds_profile q ≡ true
  pub room : most_numbers ≤ length out

-- What it gives: the better of both in front of what was there, and how many numbers that is.
pub record Merged (p q was : List ℤ) (n : ℕ) (out : List ℤ) : Type 0 where
  pub count : n ≡ 2 * length (better_of (points_of p) (points_of q))
  pub written : out ≡ written_over (alternating (better_of (points_of p) (points_of q))) was

-- All that is to be written.
abbrev pub to_write : List ℤ → List ℤ → List ℤ
to_write p q = alternating (merge below_all (points_of p) (points_of q))

-- What is left of it at two places after a last weight.
abbrev pub left_to_write : ℤ → List ℤ → ℕ → List ℤ → ℕ → List ℤ
left_to_write last p i q j = alternating (heavier last (left_in_turn p i q j))

-- Between turns: the last weight is in range, at most two numbers are written for each weight up to it, and what is left to
-- write is what is kept of the points left.
pub record Merging (p q was : List ℤ) (i j n : ℕ) (last : ℤ) (out : List ℤ) : Type 0 where
  pub first : AtPoint p i
  pub second : AtPoint q j
  pub least : below_all ≤ℤ last
  pub most : last ≤ℤ pos most_weight
  pub few : n + 2 * dn last ≤ 2 * up last + 2
  pub writing : Writing (to_write p q) (left_to_write last p i q j) n out was
