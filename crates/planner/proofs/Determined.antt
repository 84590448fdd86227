-- The contract of planning determines its answer and both lent buffers at exit, for every input.
use mathlib.Core.List.{List}
use contract.Lifetimes.{Lfts}
use lib.IntN.{ℤ}
use Rattle.seconds.specs.Determined.{Determines, determined, three}
use Rattle.planner.specs.Calls.{Planned, planned_of, starts_after, plan_work_after}
use Rattle.planner.proofs.plan.Reads as plan

pub plan-determined : (κs : Lfts 3)
    → Determines {Z = Planned × List ℤ × List ℤ} (plan.Post κs) (λ r x. (r, x.1.0.now, x.1.1.0.now))
plan-determined κs =
    determined (plan.Post κs) (λ r x. (r, x.1.0.now, x.1.1.0.now))
    (λ a. (
      planned_of a.0.now a.1.0.now a.1.1.0.now,
      starts_after a.0.now a.1.0.now a.1.1.0.now,
      plan_work_after a.0.now a.1.0.now a.1.1.0.now,
    ))
    (λ a r x h. three h.answer h.written h.area)
