-- `best_plan::is_best` meets its contract: a plan that is legal is best by its weight, and no other is. Assumes nothing.
use mathlib.Core.Path.{◌∙◌}
use Rattle.best_plan.specs.CallLaws.{legal-then, not-legal}
use Rattle.best_plan.proofs.is_best.Goals as goal

pub returns-then-is_legal : goal.returns-then-is_legal
returns-then-is_legal c =
    legal-then c.args.order.now c.args.plan.now c.is_legal.ensures c.if-is_legal.true c.keeps_most.ensures

pub returns-else-is_legal : goal.returns-else-is_legal
returns-else-is_legal c =
    c.if-is_legal.false ∙ not-legal c.args.order.now c.args.plan.now c.is_legal.ensures c.if-is_legal.false
