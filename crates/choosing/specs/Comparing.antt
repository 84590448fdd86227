-- What comparing two openings asks of its callers. Definitions only.
use Rattle.std.specs.Prelude.{ℕ, ◌≤◌, ◌≡◌, List, ℤ, length}
use Rattle.packed.specs.Judge.{fine, judge}
use Rattle.packed.specs.Refusals.{order_checks}
use Rattle.area.specs.Area.{area}

-- Two openings can be compared: both are accepted.
pub record CanCompare (first second : List ℕ) : Type 0 where
  pub one : judge (order_checks first) ≡ fine
  pub other : judge (order_checks second) ≡ fine

-- And weighed: there is room for their lists.
pub record CanWeighBoth (first second : List ℕ) (work : List ℤ) : Type 0 where
  pub both : CanCompare first second
  pub room : area ≤ length work
