-- Checks 14 and 15 as the code makes them, and what a plan that has passed them says: the starts read one by one are those of the
-- layout.
use Rattle.std.specs.Prelude.{ℕ, suc, ◌-◌, ◌%◌, ◌^◌, ◌≤◌, ◌<◌, ◌≡◌, refl, ◌↔◌, ◌≢◌, ◌⊎◌, List, eqb, ltb, pos, length, drop}
use Rattle.std.proofs.Math.Path.{sym, ap}
use Rattle.std.proofs.Common.{◌∙◌, inl, inr, ⊎_elim, arith}
use Rattle.std.proofs.Math.IntN.{nat_abs}
use Rattle.std.proofs.Math.ListN.{get_or, length-drop}
use Rattle.std.proofs.Math.Seq.{get_or-drop}
use borrow.Author.Tests.{lt-ltb, le-ltb, ltb-true, ltb-false, ne_eqb, eq-eqb, eqb-true, eqb-false}
use borrow.Table.Steps.{cases}
use Rattle.packed.specs.Layout.{number_of}
use Rattle.packed.proofs.LayoutLaws.{AreBytes, length-decode}
use Rattle.packed.specs.Judge.{plainly, Verdict, fine, refused, judge}
use Rattle.packed.specs.JudgeLaws.{refused-fine}
use Rattle.packed.specs.Places.{each_of}
use Rattle.packed_plan.specs.Plan.{mask_bytes, plan_bytes, pad_bits, plan_layout, plan_fields, pack_plan, mask_in, count_in, starts_in, pad_in, sent_checks}
use Rattle.packed_plan.proofs.PlanLaws.{start-there, plan-length}
use Rattle.packed_plan.proofs.BothWays.{reads-packed}
use Rattle.packed_plan.proofs.Padding.{pad-there, each-is}
use Rattle.plan_bytes.specs.Asks.{start_from}

-- ---- the checks, by the tests of the code

module _ (n : ℕ) (plan : List ℕ) where
  pub too_short : length plan < mask_bytes → judge (sent_checks n plan) ≡ refused (plainly 14)
  unfolding sent_checks
  too_short h = rw (lt-ltb (length plan) 6 h)

  module _ (long : mask_bytes ≤ length plan) where
    pub other_length : ¬ (length plan ≡ plan_bytes (count_in plan)) → judge (sent_checks n plan) ≡ refused (plainly 14)
    unfolding sent_checks
    other_length h = rw (le-ltb (length plan) 6 long, ne_eqb (length plan) (plan_bytes (count_in plan)) h)

    module _ (whole : length plan ≡ plan_bytes (count_in plan)) where
      pub bits-beyond : ¬ (mask_in plan % 2 ^ (48 - n) ≡ 0) → judge (sent_checks n plan) ≡ refused (plainly 15)
      unfolding sent_checks
      bits-beyond h =
          rw (
            le-ltb (length plan) 6 long,
            eq-eqb (length plan) (plan_bytes (count_in plan)) whole,
            ne_eqb (mask_in plan % 2 ^ (48 - n)) 0 h,
          )

      -- The padding is the last byte's low bits.
      pub pad-is : AreBytes plan → pad_in plan ≡ get_or plan (length plan - 1) 0 % 2 ^ pad_bits (count_in plan)
      unfolding pad_in
      pad-is all = ap nat_abs (pad-there plan all (count_in plan) whole)

      module _ (none : mask_in plan % 2 ^ (48 - n) ≡ 0) where
        pub bits-at-end : ¬ (pad_in plan ≡ 0) → judge (sent_checks n plan) ≡ refused (plainly 15)
        unfolding sent_checks
        bits-at-end h =
            rw (
              le-ltb (length plan) 6 long,
              eq-eqb (length plan) (plan_bytes (count_in plan)) whole,
              eq-eqb (mask_in plan % 2 ^ (48 - n)) 0 none,
              ne_eqb (pad_in plan) 0 h,
            )

        pub all-passed : pad_in plan ≡ 0 → judge (sent_checks n plan) ≡ fine
        unfolding sent_checks
        all-passed h =
            rw (
              le-ltb (length plan) 6 long,
              eq-eqb (length plan) (plan_bytes (count_in plan)) whole,
              eq-eqb (mask_in plan % 2 ^ (48 - n)) 0 none,
              eq-eqb (pad_in plan) 0 h,
            )

-- ---- what they say

-- 14: the plan is under 6 bytes, or of another length than its mask asks for.
abbrev pub NotWhole : List ℕ → Type 0
NotWhole plan = (length plan < mask_bytes) ⊎ (length plan ≢ plan_bytes (count_in plan))

-- 15: a bit is set beyond the jobs, or at the end.
abbrev pub SetBits : ℕ → List ℕ → Type 0
SetBits n plan = (mask_in plan % 2 ^ (48 - n) ≢ 0) ⊎ (pad_in plan ≢ 0)

-- Neither.
pub record PlanFine (n : ℕ) (plan : List ℕ) : Type 0 where
  pub long : mask_bytes ≤ length plan
  pub whole : length plan ≡ plan_bytes (count_in plan)
  pub none-beyond : mask_in plan % 2 ^ (48 - n) ≡ 0
  pub clear : pad_in plan ≡ 0

-- The verdict is one of the three, and says which.
pub data SentIs (n : ℕ) (plan : List ℕ) : Verdict → Type 0 where
  not-whole : NotWhole plan → SentIs n plan (refused (plainly 14))
  set-bits : ¬ NotWhole plan → SetBits n plan → SentIs n plan (refused (plainly 15))
  passed : PlanFine n plan → SentIs n plan fine

pub sent_is : (n : ℕ) (plan : List ℕ) → SentIs n plan (judge (sent_checks n plan))
sent_is n plan = cases (ltb (length plan) 6)
    (λ a. let h = ltb-true (length plan) 6 a in rw (too_short n plan h) (not-whole (inl h)))
    (λ a. cases (eqb (length plan) (plan_bytes (count_in plan)))
    (λ b. go (ltb-false (length plan) 6 a) (eqb-true _ _ b))
    (λ b. let h = eqb-false _ _ b in rw (other_length n plan (ltb-false (length plan) 6 a) h) (not-whole (inr h))))
  where
    go : mask_bytes ≤ length plan → length plan ≡ plan_bytes (count_in plan) → SentIs n plan (judge (sent_checks n plan))
    go long whole =
        let is_whole : ¬ NotWhole plan = λ o. ⊎_elim (λ h. omega arith) (λ h. h whole) o in
        cases (eqb (mask_in plan % 2 ^ (48 - n)) 0)
        (λ c. let none = eqb-true _ _ c in
        cases (eqb (pad_in plan) 0)
        (λ d. let clear = eqb-true _ _ d in
        rw (all-passed n plan long whole none clear) (passed (record { long = long; whole = whole; none-beyond = none; clear = clear })))
        (λ d. let h = eqb-false _ _ d in rw (bits-at-end n plan long whole none h) (set-bits is_whole (inr h))))
        (λ c. let h = eqb-false _ _ c in rw (bits-beyond n plan long whole h) (set-bits is_whole (inl h)))

-- What is fine is neither not whole nor has set bits,
pub fine-whole : {n : ℕ} {plan : List ℕ} → PlanFine n plan → ¬ NotWhole plan
fine-whole f o = ⊎_elim (λ h. omega (arith, f.long)) (λ h. h f.whole) o

pub fine-clear : {n : ℕ} {plan : List ℕ} → PlanFine n plan → ¬ SetBits n plan
fine-clear f o = ⊎_elim (λ h. h f.none-beyond) (λ h. h f.clear) o

-- so a plan passes them exactly when it is fine.
fine-is : {n : ℕ} {plan : List ℕ} {v : Verdict} → SentIs n plan v → v ≡ fine ↔ PlanFine n plan
fine-is (not-whole o) = (λ e. absurd (refused-fine e), λ f. absurd (fine-whole f o))
fine-is (set-bits w o) = (λ e. absurd (refused-fine e), λ f. absurd (fine-clear f o))
fine-is (passed f) = (λ e. f, λ g. refl)

pub plan-fine : (n : ℕ) (plan : List ℕ) → judge (sent_checks n plan) ≡ fine ↔ PlanFine n plan
plan-fine n plan = fine-is (sent_is n plan)

-- Read and written again it is the same.
pub written-again : (n : ℕ) (plan : List ℕ) → AreBytes plan → judge (sent_checks n plan) ≡ fine → pack_plan (mask_in plan) (starts_in plan) ≡ plan
written-again n plan all e = let f = (plan-fine n plan).0 e in reads-packed plan all f.whole f.clear

-- ---- the starts

module _ (plan : List ℕ) (all : AreBytes plan) (whole : length plan ≡ plan_bytes (count_in plan)) where
  numbers-long : length (plan_fields (count_in plan) plan) ≡ suc (suc (count_in plan))
  unfolding plan_fields
  numbers-long = length-decode (plan_layout (count_in plan)) (number_of plan) ∙ plan-length (count_in plan)

  pub starts-read : each_of (start_from plan) 0 (count_in plan) ≡ starts_in plan
  unfolding starts_in
  starts-read =
      let zs = plan_fields (count_in plan) plan in
      sym (each-is (start_from plan) (drop 1 zs) (count_in plan) 0 (omega (arith, numbers-long, length-drop 1 zs))
      (λ i b. get_or-drop 1 zs i (pos 0) ∙ ap (λ k. get_or zs k (pos 0)) (omega arith) ∙ start-there plan all (count_in plan) whole i (omega arith)))
