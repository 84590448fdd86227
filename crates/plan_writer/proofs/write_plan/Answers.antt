-- `plan_writer::write_plan` meets its contract: an order that its checks refuse is answered so, any other is planned and written.
-- Assumes nothing.
use mathlib.Core.Path.{◌≡◌, sym, subst, ◌∙◌}
use borrow.Author.Rules.{rules}
use Rattle.std.proofs.Common.{Err}
use Rattle.plan_writer.specs.Calls.{WriteCall}
use Rattle.plan_writer.specs.CallLaws.{write-stopped}
use Rattle.plan_writer.proofs.write_plan.Goals as goal

pub write_order-requires : goal.write_order-requires
write_order-requires c = sym c.judge_order.ensures ∙ c.in_ok-judge_order.was

pub returns-in_err-judge_order : goal.returns-in_err-judge_order
returns-in_err-judge_order c =
    let e : c.from_residual.result ≡ Err c.in_err-judge_order.field-0.0 = search rules in
    let a = c.args in
    subst (λ r. WriteCall a.order.now a.out.now a.work.now r a.out.now a.work.now) (sym e)
    (write-stopped a.order.now a.out.now a.work.now (sym c.judge_order.ensures ∙ c.in_err-judge_order.was))
