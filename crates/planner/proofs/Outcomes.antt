-- What the contract of planning says of every outcome that it allows: what its refusal names, 6 exactly when a job is out of
-- range, 11 exactly when no choice is feasible, and the ones of the mask as many as the list of jobs kept is long.
use Prim.Native.Nat.{ℕ}
use mathlib.Core.Path.{◌≡◌, ap, ◌∙◌}
use mathlib.Core.Logic.{◌↔◌}
use mathlib.Core.List.{List}
use contract.Lifetimes.{Lfts}
use denote.Triple.Clauses.{AtExit}
use denote.Triple.Entry.{Args}
use Rattle.std.proofs.Common.{Ok}
use Rattle.plan.specs.Plan.{plan_answer}
use Rattle.packed.specs.Judge.{in_field, Verdict, fine, judge}
use Rattle.packed.specs.Packed.{numbers_of, order_of}
use Rattle.packed.specs.Refusals.{header_checks}
use Rattle.packed.proofs.RefusalPlaces.{BadField, RefusalIs}
use Rattle.planner.specs.Calls.{Planned, plan_verdict, planned_by, planned_of, plan_numbers}
use Rattle.planner.specs.Answers.{plan-passed, plan-refusal, plan-six, NoneFeasible, plan-eleven, Fitting, plan-fits}
use Rattle.planner.specs.declared.Figures.{Figures}
use Rattle.planner.proofs.Planning.{Planning}
use Rattle.planner.specs.contracts.plan as plan
use Rattle.planner.proofs.plan.Reads as reads

module _ (κs : Lfts 3) (a : Args plan.signature κs) (r : Planned) (x : AtExit plan.ended κs) (h : reads.Post κs a r x) where
  pub outcome-refusal : RefusalIs (numbers_of a.0.now) (plan_numbers r).refusal
  outcome-refusal = rw h.answer (plan-refusal a.0.now a.1.0.now a.1.1.0.now)

  pub outcome-six : (p f : ℕ) → (plan_numbers r).refusal ≡ in_field 6 p f
      ↔ ((judge (header_checks a.0.now) ≡ fine) × BadField (numbers_of a.0.now) p f)
  outcome-six p f = rw h.answer (plan-six a.0.now a.1.0.now a.1.1.0.now p f)

  pub outcome-eleven : (plan_numbers r).refusal.number ≡ 11 ↔ NoneFeasible a.0.now a.1.0.now a.1.1.0.now
  outcome-eleven = plan-eleven a.0.now a.1.0.now a.1.1.0.now h

  pub outcome_fits : (f : Figures) → r ≡ Ok f → Fitting a.0.now f
  outcome_fits = plan-fits a.0.now a.1.0.now a.1.1.0.now h

-- Past the checks the answer is the order's plan, or 11 where it has none.
pub planning-says : {bytes : List ℕ} (p : Planning bytes) → p.answer ≡ planned_by fine (plan_answer (order_of bytes))
planning-says {bytes} p =
    let places = p.args.1.0.now in
    let work = p.args.1.1.0.now in
    let passed : plan_verdict bytes places work ≡ fine = (plan-passed bytes places work).1 (p.fits, p.places, p.room) in
    p.allowed.answer
    ∙ ap (λ (b : List ℕ). planned_of b places work) p.given
    ∙ ap (λ (v : Verdict). planned_by v (plan_answer (order_of bytes))) passed
