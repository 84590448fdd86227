-- What the parts of writing ask of their callers. Definitions only.
use Rattle.std.specs.Prelude.{ℕ, ◌≤◌, ◌≡◌, List, [], ℤ, length}
use Rattle.seconds.specs.Limits.{most_jobs}
use Rattle.packed.specs.Judge.{fine, judge}
use Rattle.packed.specs.Refusals.{order_checks}
use Rattle.packed_plan.specs.Plan.{starts_kept}
use Rattle.plan_writer.specs.Calls.{plan_room}

-- A place for each start, all of them left out.
pub record NoStarts (starts : List ℤ) : Type 0 where
  pub long : length starts ≡ most_jobs
  pub none : starts_kept starts ≡ []

-- The order is accepted, there is room for the longest plan, and the places of the starts are left out.
pub record CanWrite (order out : List ℕ) (starts : List ℤ) : Type 0 where
  pub passed : judge (order_checks order) ≡ fine
  pub room : plan_room ≤ length out
  pub places : NoStarts starts
