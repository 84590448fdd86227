-- `best_plan::best` meets its contract: an order or a plan that its checks refuse is answered so, any other is weighed.
-- Assumes nothing.
use mathlib.Core.Path.{◌≡◌, sym, subst, ◌∙◌}
use borrow.Author.Rules.{rules}
use Rattle.std.proofs.Common.{Err}
use Rattle.best_plan.specs.Calls.{BestCall}
use Rattle.best_plan.specs.CallLaws.{best-stopped}
use Rattle.best_plan.proofs.best.Goals as goal

pub best_within-requires : goal.best_within-requires
best_within-requires c = sym c.judge_sent.ensures ∙ c.in_ok-judge_sent.was

pub returns-in_err-judge_sent : goal.returns-in_err-judge_sent
returns-in_err-judge_sent c =
    let e : c.from_residual.result ≡ Err c.in_err-judge_sent.field-0.0 = search rules in
    let a = c.args in
    subst (λ r. BestCall a.order.now a.plan.now a.work.now r a.work.now) (sym e)
    (best-stopped a.order.now a.plan.now a.work.now (sym c.judge_sent.ensures ∙ c.in_err-judge_sent.was))
