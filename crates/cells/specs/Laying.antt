-- Cells laid in the work area, and their points counted on the way. Definitions only.
use Rattle.std.specs.Prelude.{ℕ, zero, suc, ◌+◌, ◌≤◌, ◌<◌, ◌≡◌, Bool, cond, List, ℤ, length}
use Rattle.std.specs.Int.Signed.{lt_z}
use Rattle.seconds.specs.Ranges.{min_z}
use Rattle.codes.specs.Code.{at0, past_all}

-- A cell is a point where it is less than the next: there the bus is free later, and else at the same time with more weight kept.
abbrev pub is_point : ℤ → ℤ → Bool
is_point cell next = lt_z cell next

-- The cell before a place; a number past all before the first.
abbrev pub before : (ℕ → ℤ) → ℕ → ℤ
before f zero = past_all
before f (suc x) = f x

-- How many of the first cells are greater than the one before.
abbrev pub rises_to : (ℕ → ℤ) → ℕ → ℕ
rises_to f zero = 0
rises_to f (suc x) = rises_to f x + cond (is_point (before f x) (f x)) 1 0

-- The lesser of two rows.
abbrev pub lowered : List ℤ → List ℤ → ℕ → ℤ
lowered row pushed x = min_z (at0 row x) (at0 pushed x)

-- Cells from one to an end stand at a place of the work area, and what stood before them stays.
pub record Laid (f : ℕ → ℤ) (from end at : ℕ) (work after : List ℤ) : Type 0 where
  pub size : length after ≡ length work
  pub laid : (x : ℕ) → from ≤ x → x < end → at0 after (at + x) ≡ f x
  pub stays : (k : ℕ) → k < at + from → at0 after k ≡ at0 work k

-- The lesser of two rows can be taken and laid.
pub record CanLower (row pushed : List ℤ) (end : ℕ) (work : List ℤ) (at : ℕ) : Type 0 where
  pub size : end ≤ length row
  pub room : end ≤ length pushed
  pub few : end ≤ 1000
  pub inside : at + end ≤ length work
