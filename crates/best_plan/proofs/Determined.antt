-- The contract of Best determines its answer and the lent work area at exit, for every input.
use mathlib.Core.List.{List}
use contract.Lifetimes.{Lfts}
use lib.IntN.{ℤ}
use Rattle.seconds.specs.Determined.{Determines, determined, two}
use Rattle.checking.specs.Calls.{Checked}
use Rattle.best_plan.specs.Calls.{best_of, best_work_after}
use Rattle.best_plan.proofs.best.Reads as best

pub best-determined : (κs : Lfts 3) → Determines {Z = Checked × List ℤ} (best.Post κs) (λ r x. (r, x.1.1.0.now))
best-determined κs =
    determined (best.Post κs) (λ r x. (r, x.1.1.0.now))
    (λ a. (best_of a.0.now a.1.0.now a.1.1.0.now, best_work_after a.0.now a.1.0.now a.1.1.0.now))
    (λ a r x h. two h.answer h.area)
