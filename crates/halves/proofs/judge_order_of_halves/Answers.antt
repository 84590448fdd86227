-- `halves::judge_order_of_halves` meets its contract: the order's own verdict, or that of check 13 where it is fine.
-- Assumes nothing.
use mathlib.Core.Path.{◌≡◌, sym, ◌∙◌}
use borrow.Author.Rules.{rules}
use Rattle.std.proofs.Common.{Err}
use Rattle.packed.specs.Packed.{numbers_of}
use Rattle.packed.specs.Refusals.{order_checks, halves_checks}
use Rattle.judge.specs.Told.{stays, told-next}
use Rattle.halves.proofs.judge_order_of_halves.Goals as goal

pub returns-in_err-judge_order : goal.returns-in_err-judge_order
returns-in_err-judge_order c =
    let e : c.from_residual.result ≡ Err c.in_err-judge_order.field-0.0 = search rules in
    let bytes = c.args.bytes.now in
    e ∙ sym (stays (order_checks bytes) (halves_checks (numbers_of bytes)) (sym c.judge_order.ensures ∙ c.in_err-judge_order.was))

pub judge_halves-requires : goal.judge_halves-requires
judge_halves-requires c = sym c.judge_order.ensures ∙ c.in_ok-judge_order.was

pub returns : goal.returns
returns c =
    let bytes = c.args.bytes.now in
    c.judge_halves.ensures
    ∙ sym (told-next (order_checks bytes) (halves_checks (numbers_of bytes)) (sym c.judge_order.ensures ∙ c.in_ok-judge_order.was))
