-- The weight that an answer of planning keeps: past the checks it is the best there is, and no weight is 11.
use Rattle.std.specs.Prelude.{ℕ, ◌≡◌, refl, ◌↔◌, List, ℤ, Ok, Err}
use Rattle.std.proofs.Common.{sym, arith}
use Rattle.std.proofs.Math.Option.{Option, none, some, map, none-ne-some}
use Rattle.order.specs.Job.{Order}
use Rattle.plan.specs.Plan.{Ended, plan, Answer, answer_of, plan_answer}
use Rattle.plan.specs.Frames.{end_weight, best_kept}
use Rattle.packed.specs.Judge.{fine}
use Rattle.packed.specs.Packed.{order_of}
use Rattle.planner.specs.Calls.{Planned, plan_verdict, planned_by, planned_of, plan_numbers}

-- None where the answer is a refusal.
abbrev pub plan_kept : Planned → Option ℕ
plan_kept (Err r) = none
plan_kept (Ok f) = some f.kept_weight

module _ (o : Order) where
  -- Past the checks it is the weight that the plan of the order keeps,
  pub order-kept-best : plan_kept (planned_by fine (plan_answer o)) ≡ best_kept o.t0 o.jobs
  order-kept-best = go (plan o.t0 o.jobs)
    where
      go : (e : Option Ended) → plan_kept (planned_by fine (map (answer_of o.t0 o.jobs) e)) ≡ map end_weight e
      go none = refl
      go (some e) = refl

  -- and where there is none the refusal is 11.
  pub order-none-eleven : (plan_numbers (planned_by fine (plan_answer o))).refusal.number ≡ 11 ↔ (plan_kept (planned_by fine (plan_answer o)) ≡ none)
  order-none-eleven = go (plan_answer o)
    where
      go : (a : Option Answer) → (plan_numbers (planned_by fine a)).refusal.number ≡ 11 ↔ (plan_kept (planned_by fine a) ≡ none)
      go none = (λ h. refl, λ h. refl)
      go (some a) = (λ h. absurd (omega arith), λ h. absurd (none-ne-some _ (sym h)))

module _ (bytes : List ℕ) (starts work : List ℤ) (passed : plan_verdict bytes starts work ≡ fine) where
  -- It is the weight that the plan of the order keeps,
  pub kept-best : plan_kept (planned_of bytes starts work) ≡ best_kept (order_of bytes).t0 (order_of bytes).jobs
  kept-best = rw passed (order-kept-best (order_of bytes))

  -- and where there is none the refusal is 11.
  pub none-eleven : (plan_numbers (planned_of bytes starts work)).refusal.number ≡ 11 ↔ (plan_kept (planned_of bytes starts work) ≡ none)
  none-eleven = rw passed (order-none-eleven (order_of bytes))
