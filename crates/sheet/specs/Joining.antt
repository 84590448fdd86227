-- What joining in place asks, and how far its loop has come. Definitions only.
use Rattle.std.specs.Prelude.{ℕ, zero, suc, ◌+◌, ◌≤◌, ◌<◌, List, [], ◌∷◌, length, get_or}
use Rattle.sheet.specs.Sheet.{figure_count}

-- Every number of a sheet is small enough for a sum of two to be a number of 32 bits.
abbrev pub Small : List ℕ → Type 0
Small l = (i : ℕ) → i < figure_count → get_or l i 0 ≤ 4000000

-- Both have a sheet's numbers, and they are small.
pub record CanJoin (to from : List ℕ) : Type 0 where
  pub room : figure_count ≤ length to
  pub second-room : figure_count ≤ length from
  pub small : Small to
  pub second-small : Small from

-- The first so many places added.
abbrev pub partly : ℕ → List ℕ → List ℕ → List ℕ
partly zero xs ys = xs
partly (suc i) [] ys = []
partly (suc i) (x ∷ xs) [] = x ∷ xs
partly (suc i) (x ∷ xs) (y ∷ ys) = (x + y) ∷ partly i xs ys
