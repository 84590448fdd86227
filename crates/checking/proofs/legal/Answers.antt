-- `checking::legal` meets its contract: what the checks refuse is answered so, any other plan is judged.
-- Assumes nothing.
use mathlib.Core.Path.{◌≡◌, sym, ◌∙◌}
use borrow.Author.Rules.{rules}
use Rattle.std.proofs.Common.{Err}
use Rattle.checking.specs.CallLaws.{legal-refused, legal-answered}
use Rattle.checking.proofs.legal.Goals as goal

pub returns-in_err-judge_sent : goal.returns-in_err-judge_sent
returns-in_err-judge_sent c =
    let e : c.from_residual.result ≡ Err c.in_err-judge_sent.field-0.0 = search rules in
    e ∙ legal-refused c.args.order.now c.args.plan.now (sym c.judge_sent.ensures ∙ c.in_err-judge_sent.was)

pub is_legal-requires : goal.is_legal-requires
is_legal-requires c = sym c.judge_sent.ensures ∙ c.in_ok-judge_sent.was

pub returns : goal.returns
returns c =
    legal-answered c.args.order.now c.args.plan.now (sym c.judge_sent.ensures ∙ c.in_ok-judge_sent.was) c.is_legal.ensures
