-- `planner::plan` meets its contract: an order that its checks refuse is answered so, any other is planned.
-- Assumes nothing.
use mathlib.Core.Path.{◌≡◌, sym, subst, ◌∙◌}
use borrow.Author.Rules.{rules}
use Rattle.std.proofs.Common.{Err}
use Rattle.planner.specs.Calls.{PlanCall}
use Rattle.planner.specs.CallLaws.{plan-stopped}
use Rattle.planner.proofs.plan.Goals as goal

pub plan_order-requires : goal.plan_order-requires
plan_order-requires c = sym c.judge_order.ensures ∙ c.in_ok-judge_order.was

pub returns-in_err-judge_order : goal.returns-in_err-judge_order
returns-in_err-judge_order c =
    let e : c.from_residual.result ≡ Err c.in_err-judge_order.field-0.0 = search rules in
    let a = c.args in
    subst (λ r. PlanCall a.bytes.now a.starts.now a.work.now r a.starts.now a.work.now) (sym e)
    (plan-stopped a.bytes.now a.starts.now a.work.now (sym c.judge_order.ensures ∙ c.in_err-judge_order.was))
