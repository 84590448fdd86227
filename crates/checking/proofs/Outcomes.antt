-- What the contract of Legal says of every outcome that it allows: yes exactly when the checks are passed and the plan is legal;
-- what its refusal names; 6 exactly when a job is out of range, 14 when the plan is not whole, 15 when a bit is set beyond the jobs or
-- at the end; never 8, nor 10 to 13.
use Prim.Native.Nat.{ℕ}
use mathlib.Core.Path.{◌≡◌}
use mathlib.Core.Logic.{◌↔◌, ◌≢◌}
use contract.Lifetimes.{Lfts}
use denote.Triple.Clauses.{AtExit}
use denote.Triple.Entry.{Args}
use Rattle.packed.specs.Judge.{in_field, plainly, no_refusal, fine, judge}
use Rattle.packed.specs.Packed.{count_of, numbers_of}
use Rattle.packed.specs.Refusals.{header_checks, order_checks}
use Rattle.packed.proofs.RefusalPlaces.{BadField, RefusalIs}
use Rattle.checking.specs.Calls.{Checked, legal_checks, checked_numbers}
use Rattle.checking.specs.Judged.{NotWhole, SetBits}
use Rattle.checking.specs.Answers.{LegalIn, legal-yes, legal-passed, legal-refusal, legal-six, legal-fourteen, legal-fifteen}
use Rattle.checking.specs.Answers.{legal-never}
use Rattle.checking.specs.contracts.legal as legal
use Rattle.checking.proofs.legal.Reads as reads

module _ (κs : Lfts 2) (a : Args legal.signature κs) (r : Checked) (x : AtExit legal.ended κs) (h : reads.Post κs a r x) where
  pub outcome-yes : (checked_numbers r).yes ≡ 1
      ↔ ((judge (legal_checks a.0.now a.1.0.now) ≡ fine) × LegalIn a.0.now a.1.0.now)
  outcome-yes = rw h (legal-yes a.0.now a.1.0.now)

  pub outcome-passed : judge (legal_checks a.0.now a.1.0.now) ≡ fine → (checked_numbers r).refusal ≡ no_refusal
  outcome-passed = rw h (legal-passed a.0.now a.1.0.now)

  pub outcome-refusal : RefusalIs (numbers_of a.0.now) (checked_numbers r).refusal
  outcome-refusal = rw h (legal-refusal a.0.now a.1.0.now)

  pub outcome-six : (p f : ℕ) → (checked_numbers r).refusal ≡ in_field 6 p f
      ↔ ((judge (header_checks a.0.now) ≡ fine) × BadField (numbers_of a.0.now) p f)
  outcome-six p f = rw h (legal-six a.0.now a.1.0.now p f)

  pub outcome-fourteen : (checked_numbers r).refusal ≡ plainly 14
      ↔ ((judge (order_checks a.0.now) ≡ fine) × NotWhole a.1.0.now)
  outcome-fourteen = rw h (legal-fourteen a.0.now a.1.0.now)

  pub outcome-fifteen : (checked_numbers r).refusal ≡ plainly 15
      ↔ ((judge (order_checks a.0.now) ≡ fine) × ((¬ NotWhole a.1.0.now) × SetBits (count_of a.0.now) a.1.0.now))
  outcome-fifteen = rw h (legal-fifteen a.0.now a.1.0.now)

  pub outcome-never : let n = (checked_numbers r).refusal.number in (n ≢ 8) × (n ≢ 10) × (n ≢ 11) × (n ≢ 12) × (n ≢ 13)
  outcome-never = rw h (legal-never a.0.now a.1.0.now)
