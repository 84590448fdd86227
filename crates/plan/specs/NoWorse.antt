-- Plans compared (R51): one keeps no less weight, loses no more, and where it keeps as much it leaves the bus free no later.
-- Definitions only.
use Rattle.std.specs.Prelude.{◌≤◌, ◌≡◌, ◌≤ℤ◌}
use Rattle.plan.specs.Plan.{Answer}

pub record PlanNoWorse (new old : Answer) : Type 0 where
  pub keeps : old.kept_weight ≤ new.kept_weight
  pub loses : new.lost_weight ≤ old.lost_weight
  pub sooner : new.kept_weight ≡ old.kept_weight → new.finish ≤ℤ old.finish
