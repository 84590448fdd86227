-- `checking::judge_sent` meets its contract: the order's own verdict, or that of the plan where it is fine.
-- Assumes nothing.
use mathlib.Core.Path.{◌≡◌, sym, ◌∙◌}
use native.Mathlib.Omega.{arith}
use borrow.Author.Rules.{rules}
use Rattle.std.proofs.Common.{Err}
use Rattle.packed.specs.Judge.{fine, judge}
use Rattle.packed.specs.Packed.{count_of}
use Rattle.packed.specs.Refusals.{order_checks}
use Rattle.packed.proofs.Accepted.{OrderFine, order-fine}
use Rattle.fields.specs.Facts.{header_read}
use Rattle.checking.specs.CallLaws.{stopped-by-order, judged-by-plan}
use Rattle.checking.proofs.judge_sent.Goals as goal
use Rattle.checking.proofs.judge_sent.Goals.{After-header_at-header, In_ok-judge_order}

-- Past the order's own checks.
module _ (c : In_ok-judge_order) where
  passed : judge (order_checks c.args.order.now) ≡ fine
  passed = sym c.judge_order.ensures ∙ c.in_ok-judge_order.was

  accepted : OrderFine c.args.order.now
  accepted = (order-fine c.args.order.now).0 passed

pub returns-in_err-judge_order : goal.returns-in_err-judge_order
returns-in_err-judge_order c =
    let e : c.from_residual.result ≡ Err c.in_err-judge_order.field-0.0 = search rules in
    e ∙ stopped-by-order c.args.order.now c.args.plan.now (sym c.judge_order.ensures ∙ c.in_err-judge_order.was)

pub header_at-header-requires : goal.header_at-header-requires
header_at-header-requires c = (accepted c).header.long

-- The header's count is that of the jobs.
counted : (c : After-header_at-header) → c.header_at-header.result.count ≡ count_of c.args.order.now
counted c = (header_read c.args.order.now c.header_at-header.result c.header_at-header.ensures).count

pub judge_plan-requires : goal.judge_plan-requires
judge_plan-requires c = omega (arith, counted c, (accepted (goal.at.judge_plan-requires c).In_ok-judge_order).header.few)

pub returns : goal.returns
returns c =
    judged-by-plan c.args.order.now c.args.plan.now (passed (goal.at.returns c).In_ok-judge_order)
    (counted (goal.at.returns c).After-header_at-header) c.judge_plan.ensures
