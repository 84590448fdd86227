-- `plan_writer::write_over` meets its contract: planning's refusal is handed on, and its plan is put in bytes.
-- Assumes nothing.
use mathlib.Core.Path.{◌≡◌, sym, subst}
use borrow.Author.Rules.{rules}
use Rattle.std.proofs.Common.{Err}
use Rattle.plan_writer.specs.Calls.{WriteCall}
use Rattle.plan_writer.specs.CallLaws.{write-handed-on, write-room, write_done}
use Rattle.plan_writer.proofs.write_over.Goals as goal

pub put_plan-requires : goal.put_plan-requires
put_plan-requires c =
    let a = c.args in
    write-room a.order.now a.out.now a.work.now a.starts.now c.requires c.plan_order.ensures c.in_ok-figures.figures
    c.in_ok-figures.was

pub returns-in_err-figures : goal.returns-in_err-figures
returns-in_err-figures c =
    let e : c.from_residual.result ≡ Err c.in_err-figures.field-0.0 = search rules in
    let a = c.args in
    subst (λ r. WriteCall a.order.now a.out.now a.work.now r a.out.now c.plan_order.new.work) (sym e)
    (write-handed-on a.order.now a.out.now a.work.now a.starts.now c.requires c.plan_order.ensures c.in_err-figures.field-0.0
    c.in_err-figures.was)

pub returns : goal.returns
returns c =
    let a = c.args in
    write_done a.order.now a.out.now a.work.now a.starts.now c.requires c.plan_order.ensures c.in_ok-figures.figures
    c.in_ok-figures.was c.put_plan.result c.put_plan.new.bytes c.put_plan.ensures.counts c.put_plan.ensures.writes
