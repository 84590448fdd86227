-- `plan_answers::halves_answer` meets its contract: in each arm planning's answer with the seconds behind it.
-- Assumes nothing.
use mathlib.Core.Path.{sym, ap, ◌∙◌}
use Rattle.plan_answers.specs.declared.PlanAnswer.{PlanAnswer}
use Rattle.plan_answers.specs.Numbers.{beside, halves_figures}
use Rattle.plan_answers.proofs.halves_answer.Goals as goal

pub returns-in-Err : goal.returns-in-Err
returns-in-Err c =
    c.with_seconds.ensures ∙ ap (λ (p : PlanAnswer). beside p 0) c.plan_answer.ensures
    ∙ sym (ap halves_figures c.in-Err.is)

pub returns-in-Ok : goal.returns-in-Ok
returns-in-Ok c =
    c.with_seconds-in-Ok.ensures ∙ ap (λ (p : PlanAnswer). beside p c.in-Ok.plan.seconds) c.plan_answer-in-Ok.ensures
    ∙ sym (ap halves_figures c.in-Ok.is)
