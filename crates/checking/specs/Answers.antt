-- What the answers of checking say: what a refusal names, when 6, 14 and 15 are given, that 8 and 10 to 13 never are, and yes exactly
-- when the checks are passed and the plan is legal.
use Rattle.std.specs.Prelude.{ℕ, ◌≡◌, refl, Bool, true, false, cond, ◌↔◌, ◌≢◌, List, [], T, ℤ}
use Rattle.std.proofs.Common.{sym, ap, arith}
use Rattle.std.proofs.Math.Logic.Iff
use Rattle.packed.specs.declared.Refusal.{Refusal}
use Rattle.packed.specs.Judge.{in_field, plainly, no_refusal, Check, Verdict, fine, refused, judge}
use Rattle.packed.specs.JudgeLaws.{refused-fine, refused-same, without, never, given-behind, every_number, number-passes}
use Rattle.packed.specs.Packed.{count_of, numbers_of, order_of}
use Rattle.packed.specs.Refusals.{header_checks, job_checks, weight_checks, order_checks}
use Rattle.packed.proofs.RefusalPlaces.{BadField, RefusalIs, nowhere, SixIs, six-behind, six-order, answer-refusal, answer-says}
use Rattle.judge.specs.Told.{Named, holds-behind, named-order}
use Rattle.packed_plan.specs.Plan.{kept_in, starts_in, sent_checks}
use Rattle.legal.specs.Legal.{Legal}
use Rattle.legal.proofs.LegalIs.{legal-is}
use Rattle.checking.specs.Calls.{legal_checks, legal_in, checked_by, legal_of, CheckedNumbers, checked_numbers}
use Rattle.checking.specs.Judged.{NotWhole, SetBits, SentIs, not-whole, set-bits, passed, sent_is, fine-whole, fine-clear}

-- ---- an answer by some checks and a test

module _ (cs : List Check) (b : Bool) where
  abbrev pub answered : CheckedNumbers
  answered = checked_numbers (checked_by (judge cs) b)

  abbrev told : Verdict → Refusal
  told v = (checked_numbers (checked_by v b)).refusal

  -- Its refusal names what it should if those of the checks do,
  pub checked-named : (zs : List ℤ) → Named zs cs → RefusalIs zs answered.refusal
  checked-named zs named = answer-refusal zs told (λ r. refl) (nowhere {n = 0} refl) (judge cs) named

  -- and is one exactly when theirs is.
  pub checked-says : (s : Refusal) → s.number ≢ 0 → answered.refusal ≡ s ↔ (judge cs ≡ refused s)
  checked-says s some = answer-says [] told (λ r. refl) (nowhere {n = 0} refl) s (λ e. some (sym e)) (judge cs)

  -- A test that 0 and the number of every check pass is passed by the number told,
  pub checked-passes : (test : ℕ → Bool) → T (test 0) → T (every_number test cs) → T (test answered.refusal.number)
  checked-passes test none t = go (judge cs) refl
    where
      go : (v : Verdict) → judge cs ≡ v → T (test (told v).number)
      go fine p = none
      go (refused r) p = number-passes test cs t p

  -- and a number that no check has is never told.
  pub checked-never : (n : ℕ) → n ≢ 0 → T (without n cs) → answered.refusal.number ≢ n
  checked-never n some t = go (judge cs) refl
    where
      go : (v : Verdict) → judge cs ≡ v → (told v).number ≢ n
      go fine p e = some (sym e)
      go (refused r) p e = never n cs t p e

  -- Past the checks there is none, and the test is told.
  pub checked-passed : judge cs ≡ fine → answered ≡ record { refusal = no_refusal; yes = cond b 1 0 }
  checked-passed e = rw e

  -- Yes is told exactly when the checks are passed and the test holds; else it is no.
  pub checked-yes : answered.yes ≡ 1 ↔ ((judge cs ≡ fine) × (b ≡ true))
  checked-yes = (λ e. go (judge cs) refl b refl e, λ h. rw (h.0, h.1))
    where
      go : (v : Verdict) → judge cs ≡ v → (a : Bool) → b ≡ a → (checked_numbers (checked_by v a)).yes ≡ 1 → (judge cs ≡ fine) × (b ≡ true)
      go fine p true q e = (p, q)
      go fine p false q e = absurd (omega arith)
      go (refused r) p a q e = absurd (omega arith)

-- ---- the checks of a plan

module _ (order plan : List ℕ) where
  abbrev own : List Check
  own = order_checks order

  abbrev sent : List Check
  sent = sent_checks (count_of order) plan

  -- Every refusal names what it should,
  pub legal-named : Named (numbers_of order) (legal_checks order plan)
  unfolding legal_checks
  legal-named =
      let zs = numbers_of order in
      holds-behind (RefusalIs zs) own sent (named-order order) (λ r e. plain-sent (sent_is (count_of order) plan) e)
    where
      plain-sent : {r : Refusal} {v : Verdict} → SentIs (count_of order) plan v → v ≡ refused r → RefusalIs (numbers_of order) r
      plain-sent (not-whole o) e = rw (← (refused-same e)) (nowhere {n = 14} refl)
      plain-sent (set-bits w o) e = rw (← (refused-same e)) (nowhere {n = 15} refl)
      plain-sent (passed f) e = absurd (refused-fine (sym e))

  -- 6 is given with 1 to 5 passed and a job out of range,
  pub legal-checks-six : SixIs (numbers_of order) (header_checks order) (legal_checks order plan)
  unfolding legal_checks sent_checks
  legal-checks-six = six-behind (numbers_of order) (header_checks order) own sent tt (six-order order)

  -- 14 with the order accepted and the plan not whole, and 15 with the plan whole and a bit set that should not be.
  fourteen-is : {v : Verdict} → SentIs (count_of order) plan v → v ≡ refused (plainly 14) ↔ NotWhole plan
  fourteen-is (not-whole o) = (λ e. o, λ h. refl)
  fourteen-is (set-bits w o) =
      (λ e. let z : ◌≡◌ {A = ℕ} 15 14 = ap (λ (r : Refusal). r.number) (refused-same e) in absurd (omega arith), λ h. absurd (w h))
  fourteen-is (passed f) = (λ e. absurd (refused-fine (sym e)), λ h. absurd (fine-whole f h))

  fifteen-is : {v : Verdict} → SentIs (count_of order) plan v
      → v ≡ refused (plainly 15) ↔ ((¬ NotWhole plan) × SetBits (count_of order) plan)
  fifteen-is (not-whole o) =
      (λ e. let z : ◌≡◌ {A = ℕ} 14 15 = ap (λ (r : Refusal). r.number) (refused-same e) in absurd (omega arith), λ h. absurd (h.0 o))
  fifteen-is (set-bits w o) = (λ e. (w, o), λ h. refl)
  fifteen-is (passed f) = (λ e. absurd (refused-fine (sym e)), λ h. absurd (fine-clear f h.1))

  pub checks-fourteen : judge (legal_checks order plan) ≡ refused (plainly 14) ↔ ((judge (order_checks order) ≡ fine) × NotWhole plan)
  unfolding legal_checks header_checks job_checks weight_checks
  checks-fourteen =
      let is = fourteen-is (sent_is (count_of order) plan) in
      let behind = given-behind own sent (plainly 14) tt in
      (λ e. ((behind.0 e).0, is.0 (behind.0 e).1), λ h. behind.1 (h.0, is.1 h.1))

  pub checks-fifteen : judge (legal_checks order plan) ≡ refused (plainly 15)
      ↔ ((judge (order_checks order) ≡ fine) × ((¬ NotWhole plan) × SetBits (count_of order) plan))
  unfolding legal_checks header_checks job_checks weight_checks
  checks-fifteen =
      let is = fifteen-is (sent_is (count_of order) plan) in
      let behind = given-behind own sent (plainly 15) tt in
      (λ e. ((behind.0 e).0, is.0 (behind.0 e).1), λ h. behind.1 (h.0, is.1 h.1))

  -- ---- Legal

  -- The plan that the bytes say.
  abbrev pub LegalIn : Type 0
  LegalIn = Legal (order_of order) (kept_in (count_of order) plan) (starts_in plan)

  abbrev pub legal_numbers : CheckedNumbers
  legal_numbers = checked_numbers (legal_of order plan)

  pub legal-refusal : RefusalIs (numbers_of order) legal_numbers.refusal
  legal-refusal = checked-named (legal_checks order plan) (legal_in order plan) (numbers_of order) legal-named

  pub legal-six : (p f : ℕ) → legal_numbers.refusal ≡ in_field 6 p f
      ↔ ((judge (header_checks order) ≡ fine) × BadField (numbers_of order) p f)
  legal-six p f =
      Iff.trans (checked-says (legal_checks order plan) (legal_in order plan) (in_field 6 p f) (λ e. omega arith)) (legal-checks-six p f)

  pub legal-fourteen : legal_numbers.refusal ≡ plainly 14 ↔ ((judge (order_checks order) ≡ fine) × NotWhole plan)
  legal-fourteen =
      Iff.trans (checked-says (legal_checks order plan) (legal_in order plan) (plainly 14) (λ e. omega arith)) checks-fourteen

  pub legal-fifteen : legal_numbers.refusal ≡ plainly 15
      ↔ ((judge (order_checks order) ≡ fine) × ((¬ NotWhole plan) × SetBits (count_of order) plan))
  legal-fifteen =
      Iff.trans (checked-says (legal_checks order plan) (legal_in order plan) (plainly 15) (λ e. omega arith)) checks-fifteen

  pub legal-never : let n = legal_numbers.refusal.number in (n ≢ 8) × (n ≢ 10) × (n ≢ 11) × (n ≢ 12) × (n ≢ 13)
  unfolding legal_checks sent_checks header_checks job_checks weight_checks
  legal-never = (
    checked-never (legal_checks order plan) (legal_in order plan) 8 (λ e. omega arith) tt,
    checked-never (legal_checks order plan) (legal_in order plan) 10 (λ e. omega arith) tt,
    checked-never (legal_checks order plan) (legal_in order plan) 11 (λ e. omega arith) tt,
    checked-never (legal_checks order plan) (legal_in order plan) 12 (λ e. omega arith) tt,
    checked-never (legal_checks order plan) (legal_in order plan) 13 (λ e. omega arith) tt,
  )

  -- Yes exactly when the checks are passed and the plan is legal; past the checks nothing is refused.
  pub legal-yes : legal_numbers.yes ≡ 1 ↔ ((judge (legal_checks order plan) ≡ fine) × LegalIn)
  legal-yes =
      let told = checked-yes (legal_checks order plan) (legal_in order plan) in
      let is = legal-is (order_of order) (kept_in (count_of order) plan) (starts_in plan) in
      (λ e. ((told.0 e).0, is.0 (told.0 e).1), λ h. told.1 (h.0, is.1 h.1))

  pub legal-passed : judge (legal_checks order plan) ≡ fine → legal_numbers.refusal ≡ no_refusal
  legal-passed e = ap (λ (n : CheckedNumbers). n.refusal) (checked-passed (legal_checks order plan) (legal_in order plan) e)
