-- The bytes of an accepted order's own plan: they pass the checks of a plan, keep the jobs of the plan's choice at its starts, and are
-- legal and best.
use Rattle.std.specs.Prelude.{ℕ, ◌*◌, ◌-◌, ◌%◌, ◌^◌, ◌≡◌, true, List, length}
use Rattle.std.proofs.Common.{sym, ◌∙◌, arith}
use Rattle.std.proofs.Math.Path.{ap}
use Rattle.order.specs.Job.{Order}
use Rattle.order.specs.Choice.{Choice, feasible, starts, mask}
use Rattle.order.proofs.Runs.{ran}
use Rattle.order.proofs.OneRate.{OneRate, one-rate-marks}
use Rattle.profile.specs.Profile.{start_point}
use Rattle.plan.specs.Plan.{Answer}
use Rattle.plan.proofs.PlanIs.{plan-is, plan-heaviest}
use Rattle.packed.specs.Judge.{fine, judge}
use Rattle.packed.specs.JudgeLaws.{stages-fine}
use Rattle.packed.specs.Packed.{count_of, order_of}
use Rattle.packed.specs.Refusals.{order_checks}
use Rattle.packed.proofs.Accepted.{OrderFine, order-fine}
use Rattle.fields.specs.Places.{jobs-count, jobs-one-rate}
use Rattle.starting.specs.Picks.{picks_of}
use Rattle.packed_plan.specs.Plan.{plan_bytes, mask_in, kept_in, starts_in, sent_checks}
use Rattle.legal.specs.Legal.{Legal, choice_of, kept_of, kept_starts}
use Rattle.legal.proofs.LegalLaws.{choice-kept}
use Rattle.legal.proofs.LegalIs.{legal-is}
use Rattle.legal.proofs.BestLaws.{feasible-legal, best-is}
use Rattle.planner.specs.PlanMask.{plan-feasible, plan-picks}
use Rattle.checking.specs.Calls.{legal_checks, legal_in}
use Rattle.checking.specs.Turns.{kept_by}
use Rattle.checking.specs.Marks.{kept-raised}
use Rattle.checking.specs.Judged.{PlanFine, plan-fine}
use Rattle.best_plan.specs.Calls.{best_in}
use Rattle.plan_writer.specs.Calls.{bytes_for}
use Rattle.plan_writer.specs.OwnPlans.{OwnPlan, own-bytes, own-length, own-mask, own-count, own-kept, own-pad}

module _ {order : List ℕ} (passed : judge (order_checks order) ≡ fine) {a : Answer} (p : OwnPlan order a) where
  abbrev o : Order
  o = order_of order

  abbrev c : Choice
  c = p.best.choice

  accepted : OrderFine order
  accepted = (order-fine order).0 passed

  -- ---- the choice

  one : OneRate o.jobs
  unfolding order_of
  one = jobs-one-rate order

  counted : length o.jobs ≡ count_of order
  unfolding order_of
  counted = jobs-count order

  can : feasible o.jobs c o.t0 ≡ true
  can = plan-feasible o.t0 o.jobs p.best p.is

  -- Marked and unmarked it is the same choice.
  whole : choice_of (kept_of c) ≡ c
  whole = choice-kept c (one-rate-marks o.jobs c o.t0 one can)

  -- ---- the mask

  -- The jobs of the choice are kept.
  kept-is : kept_in (count_of order) (bytes_for a) ≡ kept_of c
  kept-is =
      let raised : mask_in (bytes_for a) * 2 ^ 16 ≡ mask c =
      ap (λ m. m * 2 ^ 16) (own-mask p) ∙ p.whole ∙ ap (λ (b : Answer). b.mask) (sym p.answer) in
      let back : picks_of (length o.jobs) (mask c) ≡ c =
      plan-picks o.t0 o.jobs p.best p.is one (omega (arith, counted, accepted.header.few)) in
      sym (kept-raised (bytes_for a) (own-bytes p) (count_of order) accepted.header.few)
      ∙ ap (kept_by (count_of order)) raised
      ∙ ap kept_of (rw counted at back)

  -- ---- accepted, legal and best

  pub own-accepted : judge (legal_checks order (bytes_for a)) ≡ fine
  unfolding legal_checks
  own-accepted =
      let fits : PlanFine (count_of order) (bytes_for a) = record {
        long = omega (arith, own-length p);
        whole = own-length p ∙ ap plan_bytes (sym (own-count p));
        none-beyond = ap (λ m. m % 2 ^ (48 - count_of order)) (own-mask p) ∙ p.none-beyond;
        clear = own-pad p;
      } in
      (stages-fine (order_checks order) (sent_checks (count_of order) (bytes_for a))).1 (passed, (plan-fine (count_of order) (bytes_for a)).1 fits)

  own-starts-are : starts_in (bytes_for a) ≡ kept_starts (kept_of c) (starts o.jobs c o.t0)
  own-starts-are = own-kept p ∙ p.own

  legal : Legal o (kept_in (count_of order) (bytes_for a)) (starts_in (bytes_for a))
  legal = rw (kept-is, own-starts-are) (feasible-legal o c one can)

  pub own-legal : legal_in order (bytes_for a) ≡ true
  own-legal = (legal-is o (kept_in (count_of order) (bytes_for a)) (starts_in (bytes_for a))).1 legal

  pub own-best : best_in order (bytes_for a) ≡ true
  own-best =
      let planned = (plan-is o.t0 o.jobs p.best).0 p.is in
      let ended = ran o.jobs c (start_point o.t0) planned.feasible in
      (best-is o (kept_in (count_of order) (bytes_for a)) (starts_in (bytes_for a))).1
      (record {
        legal = legal;
        most = λ d f. rw (kept-is, whole) (omega (arith, plan-heaviest o.t0 o.jobs p.best planned d f, ended.sum));
      })
