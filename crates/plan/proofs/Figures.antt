-- The figures of the plan's answer fit together.
use Rattle.std.specs.Prelude.{◌+◌, ◌≤◌, ◌≡◌, List, T, ℤ, length}
use Rattle.std.proofs.Common.{sym, arith}
use Rattle.std.proofs.Math.Option.{some, map-eq-some_iff}
use Rattle.std.specs.Int.Count.{ones}
use Rattle.order.specs.Job.{Job, Order, jobs_within, weight_of, order_within}
use Rattle.order.proofs.Within.{order-within}
use Rattle.order.proofs.Runs.{run_length}
use Rattle.order.proofs.Counts.{kept-and-lost, kept-is-ones, starts-length}
use Rattle.profile.specs.Profile.{start_point}
use Rattle.plan.specs.Plan.{Ended, plan, Answer, answer_of, plan_answer}
use Rattle.plan.proofs.PlanIs.{plan-is, plan-ran}

-- The jobs kept are the ones in the mask, the weights kept and lost are all the weights, and every job has a start.
pub record Figures (js : List Job) (a : Answer) : Type 0 where
  pub kept : a.kept ≡ ones a.mask
  pub weights : a.kept_weight + a.lost_weight ≡ weight_of js
  pub starts : length a.starts ≡ length js

-- So it is for the plan of jobs within the limits, as far as the mask has bits for them,
pub plan-figures : (t : ℤ) (js : List Job) (e : Ended) → plan t js ≡ some e → T (jobs_within js) → length js ≤ 64
    → Figures js (answer_of t js e)
plan-figures t js e h within few =
    let p = (plan-is t js e).0 h in
    let same : length e.choice ≡ length js = run_length js e.choice (start_point t) p.feasible in
    record {
      kept = sym (kept-is-ones e.choice (omega arith));
      weights = omega (arith, kept-and-lost js e.choice within same, (plan-ran t js e p).sum);
      starts = starts-length js e.choice t same;
    }

-- and for the answer to an order within the limits.
pub answer-figures : (o : Order) (a : Answer) → plan_answer o ≡ some a → T (order_within o) → Figures o.jobs a
answer-figures o a h within =
    let w = order-within o within in
    let m = (map-eq-some_iff (answer_of o.t0 o.jobs) (plan o.t0 o.jobs)).0 h in
    rw (← m.2) (plan-figures o.t0 o.jobs m.0 m.1 w.jobs (omega (arith, w.few)))
