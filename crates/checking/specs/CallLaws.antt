-- Checking stage by stage, as the code goes through its checks; and what is accepted when all are passed.
use Rattle.std.specs.Prelude.{ℕ, ◌*◌, ◌^◌, ◌≤◌, ◌≡◌, Bool, List, ℤ, Ok, Err}
use Rattle.std.proofs.Math.Path.{sym, ap}
use Rattle.std.proofs.Common.{◌∙◌, arith}
use Rattle.std.specs.Int.Count.{ones}
use Rattle.packed.specs.declared.Refusal.{Refusal}
use Rattle.packed.proofs.LayoutLaws.{AreBytes}
use Rattle.packed.specs.Judge.{Verdict, fine, refused, judge}
use Rattle.packed.specs.JudgeLaws.{stages-fine}
use Rattle.packed.specs.Packed.{count_of, t0_of, jobs_in, order_of}
use Rattle.packed.specs.Places.{each_of}
use Rattle.packed.specs.Refusals.{order_checks}
use Rattle.packed.proofs.Accepted.{OrderFine, order-fine}
use Rattle.judge.specs.Told.{stays, told-next}
use Rattle.packed_plan.specs.Plan.{count_in, mask_in, kept_in, starts_in, sent_checks}
use Rattle.plan_bytes.specs.Asks.{start_from}
use Rattle.legal.specs.Legal.{legal_from, is_legal}
use Rattle.checking.specs.Calls.{legal_checks, legal_in, legal_of}
use Rattle.checking.specs.Turns.{kept_by, CanGo}
use Rattle.checking.specs.Marks.{count_small, raised-count, raised-none, kept-raised}
use Rattle.checking.specs.Judged.{PlanFine, plan-fine, starts-read}

-- ---- the stages

module _ (order plan : List ℕ) where
  -- Refused by the order's own checks,
  pub stopped-by-order : {r : Refusal} → judge (order_checks order) ≡ refused r → refused r ≡ judge (legal_checks order plan)
  unfolding legal_checks
  stopped-by-order e = sym (stays (order_checks order) (sent_checks (count_of order) plan) e)

  -- or judged by those of the plan.
  pub judged-by-plan : {n : ℕ} {v : Verdict} → judge (order_checks order) ≡ fine → n ≡ count_of order → v ≡ judge (sent_checks n plan)
      → v ≡ judge (legal_checks order plan)
  unfolding legal_checks
  judged-by-plan passed e v =
      v ∙ ap (λ (k : ℕ). judge (sent_checks k plan)) e
      ∙ sym (told-next (order_checks order) (sent_checks (count_of order) plan) passed)

  -- The answer where they refuse,
  pub legal-refused : {r : Refusal} → judge (legal_checks order plan) ≡ refused r → Err r ≡ legal_of order plan
  legal-refused e = rw e

  module _ (passed : judge (legal_checks order plan) ≡ fine) where
    -- and where they are passed.
    pub legal-answered : {b : Bool} → b ≡ legal_in order plan → Ok b ≡ legal_of order plan
    legal-answered e = rw (passed, e)

    -- Both are accepted.
    pub order-passed : judge (order_checks order) ≡ fine
    unfolding legal_checks
    order-passed = ((stages-fine (order_checks order) (sent_checks (count_of order) plan)).0 passed).0

    pub order-accepted : OrderFine order
    order-accepted = (order-fine order).0 order-passed

    pub plan-accepted : PlanFine (count_of order) plan
    unfolding legal_checks
    plan-accepted = (plan-fine (count_of order) plan).0 ((stages-fine (order_checks order) (sent_checks (count_of order) plan)).0 passed).1

    -- ---- all turns

    module _ (all : AreBytes plan) (n mask : ℕ) (count : n ≡ count_of order) (raised : mask ≡ mask_in plan * 2 ^ 16) where
      ones-are : ones mask ≡ count_in plan
      ones-are = ap ones raised ∙ raised-count plan all

      few : n ≤ 48
      few = omega (arith, count, order-accepted.header.few)

      -- They can be taken,
      pub can-go : CanGo order n mask plan
      can-go =
          record {
            accepted = order-accepted;
            count = count;
            whole = rw ones-are plan-accepted.whole;
            many = rw ones-are (count_small plan all);
            none-beyond = rw raised (raised-none plan all n few (rw count plan-accepted.none-beyond));
          }

      -- and say whether the plan is legal.
      pub turns-tell : {t0 : ℤ} → t0 ≡ t0_of order
          → legal_from (jobs_in order) (kept_by n mask) (each_of (start_from plan) 0 (ones mask)) t0 ≡ legal_in order plan
      unfolding is_legal order_of
      turns-tell begins =
          let kept : kept_by n mask ≡ kept_in (count_of order) plan =
          ap (kept_by n) raised ∙ kept-raised plan all n few ∙ ap (λ k. kept_in k plan) count in
          let read : each_of (start_from plan) 0 (ones mask) ≡ starts_in plan =
          ap (each_of (start_from plan) 0) ones-are ∙ starts-read plan all plan-accepted.whole in
          (λ i. legal_from (jobs_in order) (kept i) (read i) (begins i))
