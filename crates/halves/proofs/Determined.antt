-- The contract of planning halves determines its answer and both lent buffers at exit, for every input.
use mathlib.Core.List.{List}
use contract.Lifetimes.{Lfts}
use lib.IntN.{ℤ}
use Rattle.seconds.specs.Determined.{Determines, determined, three}
use Rattle.halves.specs.Calls.{HalvesPlanned, halves_of, halves_starts_after, halves_work_after}
use Rattle.halves.proofs.plan_halves.Reads as plan-halves

pub plan-halves-determined : (κs : Lfts 3)
    → Determines {Z = HalvesPlanned × List ℤ × List ℤ} (plan-halves.Post κs) (λ r x. (r, x.1.0.now, x.1.1.0.now))
plan-halves-determined κs =
    determined (plan-halves.Post κs) (λ r x. (r, x.1.0.now, x.1.1.0.now))
    (λ a. (
      halves_of a.0.now a.1.0.now a.1.1.0.now,
      halves_starts_after a.0.now a.1.0.now a.1.1.0.now,
      halves_work_after a.0.now a.1.0.now a.1.1.0.now,
    ))
    (λ a r x h. three h.answer h.written h.area)
