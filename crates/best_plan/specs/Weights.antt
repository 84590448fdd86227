-- What the parts of Best ask of their callers and give. Definitions only.
use Rattle.std.specs.Prelude.{ℕ, ◌≤◌, ◌≡◌, Bool, true, List, leb, ℤ, length}
use Rattle.std.proofs.Math.Option.{Option, none, some}
use Rattle.order.specs.Choice.{kept_weight, choices}
use Rattle.packed.specs.Judge.{fine, judge}
use Rattle.packed.specs.Packed.{count_of, jobs_in, order_of}
use Rattle.packed.proofs.Accepted.{OrderFine}
use Rattle.packed.specs.Places.{each}
use Rattle.packed_plan.specs.Plan.{kept_at, kept_in}
use Rattle.legal.specs.Legal.{choice_of, weight_kept, none_more}
use Rattle.checking.specs.Calls.{legal_checks}
use Rattle.area.specs.Area.{area}

-- The weight of the jobs that a mask keeps, of so many.
abbrev pub weight_under : List ℕ → ℕ → ℕ → ℕ
weight_under bytes n mask = kept_weight (jobs_in bytes) (choice_of (each (kept_at mask) 0 n))

-- The order is accepted and counted.
pub record CanSum (bytes : List ℕ) (n : ℕ) : Type 0 where
  pub order : OrderFine bytes
  pub count : n ≡ count_of bytes

-- A weight that was found is not above another; where none was found none is above it.
abbrev pub not_above : Option ℕ → ℕ → Bool
not_above none v = true
not_above (some w) v = leb w v

-- Order and plan are accepted, and there is room for the lists.
pub record CanWeighPlan (order plan : List ℕ) (work : List ℤ) : Type 0 where
  pub accepted : judge (legal_checks order plan) ≡ fine
  pub room : area ≤ length work

-- No feasible choice keeps more weight than the plan.
abbrev pub most_in : List ℕ → List ℕ → Bool
most_in order plan =
    none_more (order_of order) (weight_kept (order_of order) (kept_in (count_of order) plan)) (choices (order_of order).jobs)
