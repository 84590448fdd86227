-- `halves::plan_halves` meets its contract: an order that the checks refuse is answered so, any other is planned as planning
-- does, and the seconds are added.
-- Assumes nothing.
use mathlib.Core.Path.{◌≡◌, sym, subst, ap, ◌∙◌}
use native.Mathlib.Omega.{arith}
use borrow.Author.Rules.{rules}
use Rattle.std.proofs.Common.{Ok, Err}
use Rattle.packed.specs.Judge.{fine, judge}
use Rattle.packed.specs.JudgeLaws.{stages-fine}
use Rattle.packed.specs.Packed.{numbers_of}
use Rattle.packed.specs.Refusals.{order_checks, halves_checks}
use Rattle.halves.specs.Awaiting.{Light, seconds_added}
use Rattle.halves.specs.Calls.{HalvesCall}
use Rattle.halves.proofs.CallLaws.{halves-stopped, plan-light, halves-done}
use Rattle.halves.proofs.plan_halves.Goals as goal
use Rattle.halves.proofs.plan_halves.Goals.{After-plan_order, In_ok-judge_order_of_halves}

pub returns-in_err-judge_order_of_halves : goal.returns-in_err-judge_order_of_halves
returns-in_err-judge_order_of_halves c =
    let e : c.from_residual.result ≡ Err c.in_err-judge_order_of_halves.field-0.0 = search rules in
    let a = c.args in
    subst (λ r. HalvesCall a.bytes.now a.starts.now a.work.now r a.starts.now a.work.now) (sym e)
    (halves-stopped a.bytes.now a.starts.now a.work.now (sym c.judge_order_of_halves.ensures ∙ c.in_err-judge_order_of_halves.was))

-- Past the order's own checks and 13.
passed : (c : In_ok-judge_order_of_halves) → let bytes = c.args.bytes.now in
    (judge (order_checks bytes) ≡ fine) × (judge (halves_checks (numbers_of bytes)) ≡ fine)
passed c =
    let bytes = c.args.bytes.now in
    (stages-fine (order_checks bytes) (halves_checks (numbers_of bytes))).0
    (sym c.judge_order_of_halves.ensures ∙ c.in_ok-judge_order_of_halves.was)

pub plan_order-requires : goal.plan_order-requires
plan_order-requires c = (passed (goal.at.plan_order-requires c).In_ok-judge_order_of_halves).0

-- Planning's answer, with the seconds added.
module _ (c : After-plan_order) where
  abbrev ok : In_ok-judge_order_of_halves
  ok = (goal.at.After-plan_order c).In_ok-judge_order_of_halves

  light : Light c.plan_order.result
  light = plan-light c.args.bytes.now c.args.starts.now c.args.work.now (passed ok).0 (passed ok).1 c.plan_order.ensures

  done : HalvesCall c.args.bytes.now c.args.starts.now c.args.work.now (seconds_added c.plan_order.result) c.plan_order.new.starts
      c.plan_order.new.work
  done = halves-done c.args.bytes.now c.args.starts.now c.args.work.now (passed ok).0 (passed ok).1 c.plan_order.ensures

pub returns-in_err-figures : goal.returns-in_err-figures
returns-in_err-figures c =
    let e : c.from_residual-in_err-figures.result ≡ Err c.in_err-figures.field-0.0 = search rules in
    let a = c.args in
    subst (λ r. HalvesCall a.bytes.now a.starts.now a.work.now r c.plan_order.new.starts c.plan_order.new.work)
    (ap seconds_added c.in_err-figures.was ∙ sym e) (done (goal.at.returns-in_err-figures c).After-plan_order)

pub overflow_mul-seconds : goal.overflow_mul-seconds
overflow_mul-seconds c =
    let small : Light (Ok c.in_ok-figures.figures) = rw c.in_ok-figures.was at (light (goal.at.overflow_mul-seconds c).After-plan_order) in
    omega (arith, small)

pub returns : goal.returns
returns c =
    let a = c.args in
    subst (λ r. HalvesCall a.bytes.now a.starts.now a.work.now r c.plan_order.new.starts c.plan_order.new.work)
    (ap seconds_added c.in_ok-figures.was) (done (goal.at.returns c).After-plan_order)
