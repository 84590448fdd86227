-- `plan_answers::extend_answer` meets its contract: each arm is a case of the answer.
-- Assumes nothing.
use mathlib.Core.Path.{sym, ap, ◌∙◌}
use Rattle.plan_answers.specs.Numbers.{extend_numbers}
use Rattle.plan_answers.proofs.extend_answer.Goals as goal

pub returns-in-Err : goal.returns-in-Err
returns-in-Err c =
    (λ i. record { refusal = c.number.ensures i; place = c.place.ensures i; field = c.figure.ensures i; points = 0 })
    ∙ sym (ap extend_numbers c.in-Err.is)

pub returns-in-Ok : goal.returns-in-Ok
returns-in-Ok c = sym (ap extend_numbers c.in-Ok.is)
