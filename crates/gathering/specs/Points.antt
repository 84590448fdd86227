-- The points of the cells of a row, and what writing them asks and gives. Definitions only.
use Rattle.std.specs.Prelude.{ℕ, zero, suc, ◌+◌, ◌≤◌, ◌<◌, ◌≡◌, true, cond, List, [], ◌∷◌, ◌++◌, ℤ, length}
use Rattle.order.specs.Job.{Point}
use Rattle.profile.proofs.Closure.{PointWithin}
use Rattle.codes.specs.Code.{at0, code, point_of}
use Rattle.codes.specs.Held.{Held}
use Rattle.cells.specs.Laying.{is_point}

-- What a cell adds to the points: itself where it is one.
abbrev pub point_at : List ℤ → ℕ → List Point
point_at row x = cond (is_point (at0 row x) (at0 row (suc x))) (point_of (at0 row x) ∷ []) []

-- The points of the first so many cells.
abbrev pub points_to : List ℤ → ℕ → List Point
points_to row zero = []
points_to row (suc x) = points_to row x ++ point_at row x

-- A number is that of a point within the limits.
pub record Number (z : ℤ) : Type 0 where
  pub within : PointWithin (point_of z)
  pub is : z ≡ code (point_of z)

-- They can be written: what is a point is one within the limits, the last cell is one, and there is room for them.
pub record CanGather (row : List ℤ) (end : ℕ) (work : List ℤ) : Type 0 where
  pub size : end + 1 ≤ length row
  pub coded : (x : ℕ) → x < end → is_point (at0 row x) (at0 row (suc x)) ≡ true → Number (at0 row x)
  pub last : (x : ℕ) → suc x ≡ end → is_point (at0 row x) (at0 row end) ≡ true
  pub room : length (points_to row end) ≤ length work

-- And then they stand at the front.
pub record Gathered (row : List ℤ) (end : ℕ) (work : List ℤ) (r : ℕ) (after : List ℤ) : Type 0 where
  pub size : length after ≡ length work
  pub held : Held after 0 (points_to row end)
  pub counted : r ≡ length (points_to row end)
