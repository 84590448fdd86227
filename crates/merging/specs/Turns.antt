-- Two lists of numbers taken in turn, and what is kept of them; and what merging asks and gives. Definitions only.
use Rattle.std.specs.Prelude.{ℕ, zero, suc, ◌+◌, ◌-◌, ◌≤◌, ◌<◌, ◌≡◌, cond, List, [], ◌∷◌, ltb, ℤ, pos, length, ◌≤ℤ◌, ◌<ℤ◌}
use Rattle.std.specs.Int.Signed.{le_z}
use Rattle.seconds.specs.Limits.{most_weight}
use Rattle.codes.specs.declared.Prefix.{Prefix}
use Rattle.codes.specs.Code.{per_second, most_light, lightness, past_all, at0, end_of}

-- The smaller of the numbers at two places, so many times.
abbrev pub turns_at : ℕ → List ℤ → ℕ → List ℤ → ℕ → List ℤ
turns_at zero xs i ys j = []
turns_at (suc n) xs i ys j =
    let first = turns_at n xs (suc i) ys j in
    let second = turns_at n xs i ys (suc j) in
    cond (le_z (at0 xs i) (at0 ys j)) (at0 xs i ∷ first) (at0 ys j ∷ second)

-- The numbers that are less light than all before.
abbrev pub kept_of : ℕ → List ℤ → List ℤ
kept_of best [] = []
kept_of best (x ∷ xs) = cond (ltb (lightness x) best) (x ∷ kept_of (lightness x) xs) (kept_of best xs)

-- No point is less light than one of the greatest weight.
abbrev pub least_light : ℕ
least_light = most_light - most_weight

-- Points from a place to an end, and there a number past all.
pub record Ended (l : List ℤ) (from end : ℕ) : Type 0 where
  pub order : from ≤ end
  pub past : at0 l end ≡ past_all
  pub least : (k : ℕ) → from ≤ k → k < end → pos 0 ≤ℤ at0 l k
  pub most : (k : ℕ) → from ≤ k → k < end → at0 l k <ℤ past_all
  pub heavy : (k : ℕ) → from ≤ k → k < end → least_light ≤ lightness (at0 l k)

-- What merging two lists asks, behind points of which the heaviest is so light. Each number kept is less light than the one
-- before, so lightest - least_light numbers and one are room.
pub record CanMerge (work : List ℤ) (list : Prefix) (pushed : List ℤ) (other : Prefix) (at lightest : ℕ) : Type 0 where
  pub here : Ended work list.place (end_of list)
  pub there : Ended pushed other.place (end_of other)
  pub behind : end_of list < at
  pub low : least_light ≤ lightest
  pub light : lightest ≤ per_second
  pub room : at + lightest < length work + least_light
  pub room_pushed : end_of other + 1 < length pushed

-- The list merged.
abbrev pub merged : List ℤ → Prefix → List ℤ → Prefix → ℕ → List ℤ
merged work list pushed other lightest =
    kept_of lightest (turns_at (list.count + other.count) work list.place pushed other.place)

-- What it gives: the list merged at its place, and all before it stays.
pub record Merged (work : List ℤ) (list : Prefix) (pushed : List ℤ) (other : Prefix) (at lightest n : ℕ) (after : List ℤ)
    : Type 0 where
  pub size : length after ≡ length work
  pub count : n ≡ at + length (merged work list pushed other lightest)
  pub written : (k : ℕ) → k < length (merged work list pushed other lightest)
      → at0 after (at + k) ≡ at0 (merged work list pushed other lightest) k
  pub before : (k : ℕ) → k < at → at0 after k ≡ at0 work k
