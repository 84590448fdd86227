-- What the answers of Best say: yes exactly when the checks are passed and the plan is best, no where it is not legal or nothing is
-- feasible; what a refusal names, when 6, 10, 14 and 15 are given, and that 8, 11, 12 and 13 never are.
use Rattle.std.specs.Prelude.{ℕ, ◌<◌, ◌≡◌, refl, true, false, ◌↔◌, ◌≢◌, List, T, ltb, ℤ}
use Rattle.std.proofs.Common.{sym, ap, ◌∙◌, true≢false, arith}
use Rattle.std.proofs.Math.Logic.Iff
use Rattle.std.proofs.Math.ListN.{length}
use borrow.Author.Tests.{ltb-true, lt-ltb}
use borrow.Table.Steps.{cases}
use Rattle.order.specs.Choice.{Choice, feasible}
use Rattle.packed.specs.declared.Refusal.{Refusal}
use Rattle.packed.specs.Judge.{in_field, plainly, no_refusal, Check, fine, refused, judge}
use Rattle.packed.specs.JudgeLaws.{refused-fine, without, given-before, given-behind}
use Rattle.packed.specs.Packed.{count_of, numbers_of, order_of}
use Rattle.packed.specs.Refusals.{header_checks, job_checks, weight_checks, room_checks, order_checks}
use Rattle.packed.proofs.RefusalPlaces.{BadField, RefusalIs, SixIs, six-behind}
use Rattle.fields.specs.Places.{jobs-one-rate}
use Rattle.judge.specs.Told.{Named, holds-behind, named-check}
use Rattle.packed_plan.specs.Plan.{kept_in, starts_in, sent_checks}
use Rattle.legal.specs.Legal.{Best, choice_of}
use Rattle.legal.proofs.LegalLaws.{Rated}
use Rattle.legal.proofs.BestLaws.{one-rated, legal-choice, best-is}
use Rattle.area.specs.Area.{area}
use Rattle.checking.specs.Calls.{legal_checks, CheckedNumbers, checked_numbers}
use Rattle.checking.specs.Judged.{NotWhole, SetBits}
use Rattle.checking.specs.Answers.{LegalIn, checked-named, checked-says, checked-never, checked-passed, checked-yes}
use Rattle.checking.specs.Answers.{legal-named, legal-checks-six, checks-fourteen, checks-fifteen}
use Rattle.best_plan.specs.Calls.{best_checks, best_in, best_of}

-- ---- the plan that bytes say

-- It is best for the order that bytes say.
abbrev pub BestIn : List ℕ → List ℕ → Type 0
BestIn order plan = Best (order_of order) (kept_in (count_of order) plan) (starts_in plan)

-- Each job of that order has a rate.
jobs-rated : (order : List ℕ) → Rated (order_of order).jobs
unfolding order_of
jobs-rated order = one-rated (order_of order).jobs (jobs-one-rate order)

-- No is told without a refusal.
abbrev pub told_no : CheckedNumbers
told_no = record { refusal = no_refusal; yes = 0 }

-- ---- the checks

module _ (order plan : List ℕ) (work : List ℤ) where
  abbrev sent : List Check
  sent = legal_checks order plan

  abbrev space : List Check
  space = room_checks area (length work)

  abbrev all : List Check
  all = best_checks order plan work

  -- Every refusal names what it should,
  best-named : Named (numbers_of order) all
  unfolding best_checks
  best-named =
      holds-behind (RefusalIs (numbers_of order)) sent space (legal-named order plan)
      (named-check (numbers_of order) 10 (ltb (length work) area) refl)

  -- 6 is given with 1 to 5 passed and a job out of range,
  best-checks-six : SixIs (numbers_of order) (header_checks order) all
  unfolding best_checks
  best-checks-six = six-behind (numbers_of order) (header_checks order) sent space tt (legal-checks-six order plan)

  -- and 10 where the checks of Legal are passed and the work area is too short.
  ten-is : judge all ≡ refused (plainly 10) ↔ ((judge sent ≡ fine) × (length work < area))
  unfolding best_checks legal_checks sent_checks header_checks job_checks weight_checks
  ten-is =
      let behind = given-behind sent space (plainly 10) tt in
      (λ e. ((behind.0 e).0, short (behind.0 e).1), λ h. behind.1 (h.0, rw (lt-ltb (length work) area h.1)))
    where
      short : judge space ≡ refused (plainly 10) → length work < area
      short e = cases (ltb (length work) area) (λ b. ltb-true _ _ b) (λ b. absurd (refused-fine (sym (rw b at e))))

  -- All other refusals are those of Legal.
  as-legal : (s : Refusal) → T (without s.number space) → judge all ≡ refused s ↔ (judge sent ≡ refused s)
  unfolding best_checks
  as-legal s none = given-before sent space s none

  -- ---- the answer

  abbrev pub best_numbers : CheckedNumbers
  best_numbers = checked_numbers (best_of order plan work)

  pub best-refusal : RefusalIs (numbers_of order) best_numbers.refusal
  best-refusal = checked-named all (best_in order plan) (numbers_of order) best-named

  pub best-six : (p f : ℕ) → best_numbers.refusal ≡ in_field 6 p f
      ↔ ((judge (header_checks order) ≡ fine) × BadField (numbers_of order) p f)
  best-six p f = Iff.trans (checked-says all (best_in order plan) (in_field 6 p f) (λ e. omega arith)) (best-checks-six p f)

  pub best-ten : best_numbers.refusal ≡ plainly 10 ↔ ((judge (legal_checks order plan) ≡ fine) × (length work < area))
  best-ten = Iff.trans (checked-says all (best_in order plan) (plainly 10) (λ e. omega arith)) ten-is

  pub best-fourteen : best_numbers.refusal ≡ plainly 14 ↔ ((judge (order_checks order) ≡ fine) × NotWhole plan)
  best-fourteen =
      Iff.trans (checked-says all (best_in order plan) (plainly 14) (λ e. omega arith))
      (Iff.trans (as-legal (plainly 14) tt) (checks-fourteen order plan))

  pub best-fifteen : best_numbers.refusal ≡ plainly 15
      ↔ ((judge (order_checks order) ≡ fine) × ((¬ NotWhole plan) × SetBits (count_of order) plan))
  best-fifteen =
      Iff.trans (checked-says all (best_in order plan) (plainly 15) (λ e. omega arith))
      (Iff.trans (as-legal (plainly 15) tt) (checks-fifteen order plan))

  pub best-never : let n = best_numbers.refusal.number in (n ≢ 8) × (n ≢ 11) × (n ≢ 12) × (n ≢ 13)
  unfolding best_checks legal_checks sent_checks header_checks job_checks weight_checks
  best-never = (
    checked-never all (best_in order plan) 8 (λ e. omega arith) tt,
    checked-never all (best_in order plan) 11 (λ e. omega arith) tt,
    checked-never all (best_in order plan) 12 (λ e. omega arith) tt,
    checked-never all (best_in order plan) 13 (λ e. omega arith) tt,
  )

  -- ---- the verdict

  decides : best_in order plan ≡ true ↔ BestIn order plan
  decides = best-is (order_of order) (kept_in (count_of order) plan) (starts_in plan)

  -- Yes exactly when the checks are passed and the plan is best; past the checks nothing is refused.
  pub best-yes : best_numbers.yes ≡ 1 ↔ ((judge (best_checks order plan work) ≡ fine) × BestIn order plan)
  best-yes =
      let told = checked-yes all (best_in order plan) in
      (λ e. ((told.0 e).0, decides.0 (told.0 e).1), λ h. told.1 (h.0, decides.1 h.1))

  pub best-passed : judge (best_checks order plan work) ≡ fine → best_numbers.refusal ≡ no_refusal
  best-passed e = ap (λ (n : CheckedNumbers). n.refusal) (checked-passed all (best_in order plan) e)

  -- Past them a plan that is not best is told so,
  not-best : judge all ≡ fine → ¬ BestIn order plan → best_numbers ≡ told_no
  not-best e not =
      let said : best_in order plan ≡ false = cases (best_in order plan) (λ y. absurd (not (decides.0 y))) (λ f. f) in
      rw (e, said)

  -- as is one that is not legal,
  pub illegal-no : judge (best_checks order plan work) ≡ fine → ¬ LegalIn order plan → best_numbers ≡ told_no
  illegal-no e illegal = not-best e (λ b. illegal b.legal)

  -- and every plan for an order of which no choice is feasible: the choice of a legal one would be.
  pub hopeless-no : judge (best_checks order plan work) ≡ fine
      → ((c : Choice) → feasible (order_of order).jobs c (order_of order).t0 ≡ false) → best_numbers ≡ told_no
  hopeless-no e none =
      let can = legal-choice (order_of order) (kept_in (count_of order) plan) (starts_in plan) (jobs-rated order) in
      illegal-no e (λ l. true≢false (sym (can l).may ∙ none (choice_of (kept_in (count_of order) plan))))
