-- `adding::one_order` meets its contract: each arm is a case of the answer. Assumes nothing.
use mathlib.Core.Path.{◌≡◌, sym, ap, ◌∙◌}
use Rattle.planner.specs.Calls.{Refused, Made}
use Rattle.sheet.specs.Sheet.{one_order, numbers_of}
use Rattle.adding.proofs.one_order.Goals as goal

pub one_refused-requires : goal.one_refused-requires
one_refused-requires c =
    let is : c.args.planned ≡ Refused c.in-Err.refusal = c.in-Err.is in
    rw is at c.requires

pub one_made-requires : goal.one_made-requires
one_made-requires c =
    let is : c.args.planned ≡ Made c.in-Ok.figures = c.in-Ok.is in
    rw is at c.requires

pub returns-in-Err : goal.returns-in-Err
returns-in-Err c = c.one_refused.ensures ∙ ap (λ p. numbers_of (one_order p)) (sym c.in-Err.is)

pub returns-in-Ok : goal.returns-in-Ok
returns-in-Ok c = c.one_made.ensures ∙ ap (λ p. numbers_of (one_order p)) (sym c.in-Ok.is)
