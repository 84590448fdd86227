-- What the contract of planning halves says of every outcome that it allows: 13 exactly when a place offends, with the first such
-- place; never for an order of halves, and always for any other that passes 1 to 9; else planning's own numbers and buffers, 11
-- among them, with 60 optional seconds lost for each weight lost.
use Prim.Native.Nat.{ℕ, ◌*◌}
use mathlib.Core.Path.{◌≡◌}
use mathlib.Core.Logic.{◌↔◌, ◌≢◌}
use contract.Lifetimes.{Lfts}
use denote.Triple.Clauses.{AtExit}
use denote.Triple.Entry.{Args}
use Rattle.seconds.specs.Limits.{seconds_per_weight}
use Rattle.order.proofs.HalvesLaws.{Offends, OfHalves}
use Rattle.packed.specs.Judge.{in_field, at_place, fine, judge}
use Rattle.packed.specs.Packed.{numbers_of, order_of}
use Rattle.packed.specs.Refusals.{header_checks, order_checks}
use Rattle.packed.proofs.RefusalPlaces.{BadField, RefusalIs}
use Rattle.planner.specs.Calls.{Planned, plan_numbers}
use Rattle.planner.specs.Answers.{NoneFeasible}
use Rattle.planner.specs.contracts.plan as plan
use Rattle.planner.proofs.plan.Reads as plan-reads
use Rattle.halves.specs.Calls.{HalvesPlanned, halves_numbers}
use Rattle.halves.proofs.Answers.{FirstOffends, thirteen, thirteen-if-some, halves-never-thirteen, others-thirteen}
use Rattle.halves.proofs.Answers.{as-plan, halves-eleven, seconds-sixty, halves-refusal, halves-six}
use Rattle.halves.specs.contracts.plan_halves as plan-halves
use Rattle.halves.proofs.plan_halves.Reads as reads

module _ (κs : Lfts 3) (a : Args plan-halves.signature κs) (r : HalvesPlanned) (x : AtExit plan-halves.ended κs)
    (h : reads.Post κs a r x) where
  -- 13, and the place beside it.
  pub outcome-thirteen : (p : ℕ) → (halves_numbers r).plan.refusal ≡ at_place 13 p ↔ FirstOffends a.0.now p
  outcome-thirteen = thirteen a.0.now a.1.0.now a.1.1.0.now h

  pub outcome-some-offends : (halves_numbers r).plan.refusal.number ≡ 13
      ↔ ((judge (order_checks a.0.now) ≡ fine) × ((k : ℕ) × Offends (order_of a.0.now).jobs k))
  outcome-some-offends = thirteen-if-some a.0.now a.1.0.now a.1.1.0.now h

  pub outcome-never-thirteen : OfHalves (order_of a.0.now).jobs → (halves_numbers r).plan.refusal.number ≢ 13
  outcome-never-thirteen = halves-never-thirteen a.0.now a.1.0.now a.1.1.0.now h

  pub outcome-others : judge (order_checks a.0.now) ≡ fine → ¬ OfHalves (order_of a.0.now).jobs
      → (halves_numbers r).plan.refusal.number ≡ 13
  outcome-others = others-thirteen a.0.now a.1.0.now a.1.1.0.now h

  -- 11.
  pub outcome-eleven : (halves_numbers r).plan.refusal.number ≡ 11
      ↔ (OfHalves (order_of a.0.now).jobs × NoneFeasible a.0.now a.1.0.now a.1.1.0.now)
  outcome-eleven = halves-eleven a.0.now a.1.0.now a.1.1.0.now h

  -- 6.
  pub outcome-six : (p f : ℕ) → (halves_numbers r).plan.refusal ≡ in_field 6 p f
      ↔ ((judge (header_checks a.0.now) ≡ fine) × BadField (numbers_of a.0.now) p f)
  outcome-six = halves-six a.0.now a.1.0.now a.1.1.0.now h

  -- The seconds, and what every refusal names.
  pub outcome-sixty : (halves_numbers r).seconds_lost ≡ seconds_per_weight * (halves_numbers r).plan.lost_weight
  outcome-sixty = seconds-sixty a.0.now a.1.0.now a.1.1.0.now h

  pub outcome-refusal : RefusalIs (numbers_of a.0.now) (halves_numbers r).plan.refusal
  outcome-refusal = halves-refusal a.0.now a.1.0.now a.1.1.0.now h

  -- Beside an outcome of planning on the same bytes and buffers.
  module _ (κs' : Lfts 3) (b : Args plan.signature κs') (q : Planned) (y : AtExit plan.ended κs') (g : plan-reads.Post κs' b q y)
      (bytes : b.0.now ≡ a.0.now) (starts : b.1.0.now ≡ a.1.0.now) (work : b.1.1.0.now ≡ a.1.1.0.now) where
    pub outcome-as-plan : (halves_numbers r).plan.refusal.number ≢ 13
        → ((halves_numbers r).plan ≡ plan_numbers q) × (x.1.0.now ≡ y.1.0.now) × (x.1.1.0.now ≡ y.1.1.0.now)
    outcome-as-plan = as-plan a.0.now a.1.0.now a.1.1.0.now h (rw (bytes, starts, work) at g)
