-- What weighing an order asks of its callers and gives. Definitions only.
use Rattle.std.specs.Prelude.{ℕ, ◌≤◌, ◌≡◌, List, ℤ, length}
use Rattle.std.specs.Prelude.{Option as Answer, None, Some}
use Rattle.std.proofs.Math.Option.{Option, none, some}
use Rattle.packed.specs.Judge.{fine, judge}
use Rattle.packed.specs.Refusals.{order_checks}
use Rattle.area.specs.Area.{area}
use Rattle.reading.specs.declared.Found.{Found}

-- The weight that was found, if one was.
abbrev pub weight_in : Answer Found → Option ℕ
weight_in None = none
weight_in (Some f) = some f.weight

-- An order can be weighed: it is accepted, and there is room for its lists.
pub record CanWeigh (bytes : List ℕ) (work : List ℤ) : Type 0 where
  pub accepted : judge (order_checks bytes) ≡ fine
  pub room : area ≤ length work
