-- An easier order has no worse plan (R51): the plan ends in the last point of the order's profile, which is no worse.
use Rattle.std.specs.Prelude.{◌<◌, ◌≤◌, ◌≡◌, refl, ◌⊎◌, T}
use Rattle.std.proofs.Common.{sym, ap, ◌∙◌, ⊎_elim, arith}
use mathlib.Core.List.Forall₂
use mathlib.Core.List.{List}
use Rattle.std.proofs.Math.Option.{some, map, map-eq-some_iff}
use Rattle.seconds.specs.Signed.{signed}
use Rattle.order.specs.Job.{Job, Order, weight_of, order_within}
use Rattle.order.specs.Easier.{Unchanged, NoLower, EasierJobs, EasierOrder}
use Rattle.order.proofs.EasierLaws.{no_lower}
use Rattle.order.specs.Given.{Covers}
use Rattle.profile.proofs.Worth.{order-rises}
use Rattle.profile.proofs.NoWorseLaws.{order-no-worse, last-no-worse}
use Rattle.plan.specs.Plan.{Ended, plan, Answer, answer_of, plan_answer}
use Rattle.plan.proofs.PlanProfile.{plan-end-last, plan-last}
use Rattle.plan.proofs.Figures.{answer-figures}
use Rattle.plan.specs.NoWorse.{PlanNoWorse}

-- Where an order has a plan an easier one has one, even with weights raised. It keeps more weight, or as much with the bus free no
-- later.
pub record EndNoWorse (new : Order) (was : Ended) : Type 0 where
  pub ended : Ended
  pub is : plan new.t0 new.jobs ≡ some ended
  pub better : Covers ended.end was.end ⊎ (was.end.weight < ended.end.weight)

pub plan-no-worse : {new old : Order} → EasierOrder NoLower new old → (e : Ended) → plan old.t0 old.jobs ≡ some e
    → EndNoWorse new e
plan-no-worse {new} {old} easier e is =
    let last = last-no-worse (order-rises new) (order-rises old) (order-no-worse easier) (plan-last old e is) in
    let ends = plan-end-last new.t0 new.jobs ∙ last.is in
    let end = (map-eq-some_iff (λ (d : Ended). d.end) (plan new.t0 new.jobs)).0 ends in
    record { ended = end.0; is = end.1; better = rw end.2 last.better }

-- Unchanged weights are the same together.
same-weight : {new old : List Job} → EasierJobs Unchanged new old → weight_of new ≡ weight_of old
same-weight Forall₂.nil = refl
same-weight (Forall₂.cons e es) = omega (arith, e.weight, same-weight es)

-- So of two orders within the limits, weights unchanged, the easier one has a plan where the other has one, and it is no worse.
pub easier-plan : {new old : Order} → EasierOrder Unchanged new old → T (order_within new) → T (order_within old)
    → (a : Answer) → plan_answer old ≡ some a → (b : Answer) × (plan_answer new ≡ some b) × PlanNoWorse b a
easier-plan {new} {old} easier fits fitted a is =
    let was = (map-eq-some_iff (answer_of old.t0 old.jobs) (plan old.t0 old.jobs)).0 is in
    let now = plan-no-worse (no_lower easier) was.0 was.1 in
    let b : Answer = answer_of new.t0 new.jobs now.ended in
    let made : plan_answer new ≡ some b = ap (map (answer_of new.t0 new.jobs)) now.is in
    let kept : a.kept_weight ≡ was.0.end.weight = ap (λ (c : Answer). c.kept_weight) (sym was.2) in
    let free : a.finish ≡ was.0.end.time = ap (λ (c : Answer). c.finish) (sym was.2) in
    let keeps : a.kept_weight ≤ b.kept_weight =
    ⊎_elim (λ (c : Covers _ _). omega (arith, c.heavy, kept)) (λ (h : _ < _). omega (arith, h, kept)) now.better in (
      b,
      made,
      record {
        keeps = keeps;
        loses =
            omega (
              arith,
              keeps,
              same-weight easier.jobs,
              (answer-figures old a is fitted).weights,
              (answer-figures new b made fits).weights,
            );
        sooner = λ same.
            ⊎_elim (λ (c : Covers _ _). omega (signed, c.soon, free)) (λ (h : _ < _). absurd (omega (arith, h, kept))) now.better;
      },
    )
