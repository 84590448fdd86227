-- A job whose ready time and length pass its deadline is in no plan; and where it is critical, there is no plan.
use Rattle.std.specs.Prelude.{ℕ, ◌≡◌, true, List, ℤ}
use Rattle.std.proofs.Common.{ap}
use Rattle.std.proofs.Math.Option.{none, some, map, map-eq-some_iff}
use Rattle.std.proofs.Math.ListN.{get_elem?}
use Rattle.seconds.specs.Limits.{left_out}
use Rattle.order.specs.Job.{Job, Order}
use Rattle.order.proofs.Late.{Late, late-left-out, late-start, late-critical}
use Rattle.plan.specs.Plan.{Ended, plan, Answer, answer_of, plan_answer}
use Rattle.plan.proofs.PlanIs.{plan-is, plan-ran, plan-none}

module _ {j : Job} (late : Late j) (i : ℕ) where
  -- The plan leaves it out.
  pub plan-leaves-late : (t : ℤ) (js : List Job) (e : Ended) → plan t js ≡ some e → get_elem? js i ≡ some j
      → get_elem? e.choice i ≡ some 0
  plan-leaves-late t js e is at = late-left-out js e.choice t i late at (plan-ran t js e ((plan-is t js e).0 is)).can

  -- The start that the plan's answer tells for it is that of a job left out.
  pub answer-leaves-late : (o : Order) (a : Answer) → plan_answer o ≡ some a → get_elem? o.jobs i ≡ some j
      → get_elem? a.starts i ≡ some left_out
  answer-leaves-late o a is at =
      let m = (map-eq-some_iff (answer_of o.t0 o.jobs) (plan o.t0 o.jobs)).0 is in
      let can = (plan-ran o.t0 o.jobs m.0 ((plan-is o.t0 o.jobs m.0).0 m.1)).can in
      rw (← m.2) (late-start o.jobs m.0.choice o.t0 i late at can)

  -- Where it is critical, there is no plan of any order that has it.
  pub late-critical-no-plan : (o : Order) → j.critical ≡ true → get_elem? o.jobs i ≡ some j → plan_answer o ≡ none
  late-critical-no-plan o must at =
      ap (map (answer_of o.t0 o.jobs))
      ((plan-none o.t0 o.jobs).1 (λ c. late-critical o.jobs c o.t0 i late must at))
