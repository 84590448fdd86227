-- What the contract of Best says of every outcome that it allows: yes exactly when the checks are passed and the plan is best, no
-- where it is not legal or nothing is feasible, with the work area cleared whatever is told; what its refusal names; 6 exactly when a
-- job is out of range, 10 when the work area is too short, 14 and 15 as Legal; never 8, 11, 12 or 13.
use Prim.Native.Nat.{ℕ, ◌<◌}
use mathlib.Core.Path.{◌≡◌, ◌∙◌}
use mathlib.Core.Bool.{false}
use mathlib.Core.List.{List}
use mathlib.Core.Logic.{◌↔◌, ◌≢◌}
use contract.Lifetimes.{Lfts}
use lib.IntN.{ℤ}
use lib.ListN.{length}
use denote.Triple.Clauses.{AtExit}
use denote.Triple.Entry.{Args}
use Rattle.order.specs.Choice.{Choice, feasible}
use Rattle.packed.specs.Judge.{in_field, plainly, no_refusal, fine, judge}
use Rattle.packed.specs.Packed.{count_of, numbers_of, order_of}
use Rattle.packed.specs.Refusals.{header_checks, order_checks}
use Rattle.packed.proofs.RefusalPlaces.{BadField, RefusalIs}
use Rattle.area.specs.Area.{area, cleared}
use Rattle.checking.specs.Calls.{Checked, legal_checks, checked_numbers}
use Rattle.checking.specs.Judged.{NotWhole, SetBits}
use Rattle.checking.specs.Answers.{LegalIn}
use Rattle.best_plan.specs.Calls.{best_checks}
use Rattle.best_plan.specs.Answers.{BestIn, told_no, best-yes, best-passed, illegal-no, hopeless-no}
use Rattle.best_plan.specs.Answers.{best-refusal, best-six, best-ten, best-fourteen, best-fifteen, best-never}
use Rattle.best_plan.specs.contracts.best as best
use Rattle.best_plan.proofs.best.Reads as reads

module _ (κs : Lfts 3) (a : Args best.signature κs) (r : Checked) (x : AtExit best.ended κs) (h : reads.Post κs a r x) where
  abbrev order : List ℕ
  order = a.0.now

  abbrev plan : List ℕ
  plan = a.1.0.now

  abbrev work : List ℤ
  work = a.1.1.0.now

  -- ---- the verdict

  pub outcome-yes : (checked_numbers r).yes ≡ 1 ↔ ((judge (best_checks order plan work) ≡ fine) × BestIn order plan)
  outcome-yes = rw h.answer (best-yes order plan work)

  pub outcome-passed : judge (best_checks order plan work) ≡ fine → (checked_numbers r).refusal ≡ no_refusal
  outcome-passed = rw h.answer (best-passed order plan work)

  pub outcome-illegal : judge (best_checks order plan work) ≡ fine → ¬ LegalIn order plan → checked_numbers r ≡ told_no
  outcome-illegal = rw h.answer (illegal-no order plan work)

  pub outcome-hopeless : judge (best_checks order plan work) ≡ fine
      → ((c : Choice) → feasible (order_of order).jobs c (order_of order).t0 ≡ false) → checked_numbers r ≡ told_no
  outcome-hopeless = rw h.answer (hopeless-no order plan work)

  pub outcome-clears : judge (best_checks order plan work) ≡ fine → x.1.1.0.now ≡ cleared work
  outcome-clears e = h.area ∙ rw e

  -- ---- the refusal

  pub outcome-refusal : RefusalIs (numbers_of order) (checked_numbers r).refusal
  outcome-refusal = rw h.answer (best-refusal order plan work)

  pub outcome-six : (p f : ℕ) → (checked_numbers r).refusal ≡ in_field 6 p f
      ↔ ((judge (header_checks order) ≡ fine) × BadField (numbers_of order) p f)
  outcome-six p f = rw h.answer (best-six order plan work p f)

  pub outcome-ten : (checked_numbers r).refusal ≡ plainly 10 ↔ ((judge (legal_checks order plan) ≡ fine) × (length work < area))
  outcome-ten = rw h.answer (best-ten order plan work)

  pub outcome-fourteen : (checked_numbers r).refusal ≡ plainly 14 ↔ ((judge (order_checks order) ≡ fine) × NotWhole plan)
  outcome-fourteen = rw h.answer (best-fourteen order plan work)

  pub outcome-fifteen : (checked_numbers r).refusal ≡ plainly 15
      ↔ ((judge (order_checks order) ≡ fine) × ((¬ NotWhole plan) × SetBits (count_of order) plan))
  outcome-fifteen = rw h.answer (best-fifteen order plan work)

  pub outcome-never : let n = (checked_numbers r).refusal.number in (n ≢ 8) × (n ≢ 11) × (n ≢ 12) × (n ≢ 13)
  outcome-never = rw h.answer (best-never order plan work)
