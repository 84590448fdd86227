-- A list of points that stands at a place of the work area, and the search for the place after those up to a limit.
-- Definitions only.
use Rattle.std.specs.Prelude.{ℕ, suc, ◌-◌, ◌≤◌, ◌<◌, ◌≡◌, List, [], ◌∷◌, ℤ, length, ◌≤ℤ◌, ◌<ℤ◌}
use Rattle.order.specs.Job.{Point}
use Rattle.profile.proofs.Closure.{PointWithin}
use Rattle.codes.specs.Code.{code, at0}

-- Points within the limits stand as their numbers from a place on.
pub data Held (l : List ℤ) : ℕ → List Point → Type 0 where
  held_none : {i : ℕ} → Held l i []
  held_more : {i : ℕ} {p : Point} {ps : List Point} → PointWithin p → at0 l i ≡ code p → Held l (suc i) ps → Held l i (p ∷ ps)

-- There is room for a list's numbers.
pub record Inside (l : List ℤ) (place end : ℕ) : Type 0 where
  pub order : place ≤ end
  pub room : end ≤ length l

-- All numbers from e to an end are past a limit, and the one before e is not.
pub record After (l : List ℤ) (place end : ℕ) (limit : ℤ) (e : ℕ) : Type 0 where
  pub low : place ≤ e
  pub high : e ≤ end
  pub over : (k : ℕ) → e ≤ k → k < end → limit <ℤ at0 l k
  pub under : place < e → at0 l (e - 1) ≤ℤ limit
