-- `repeating::Repeating::may_repeat` meets its contract: the ranges first, and past them the period.
-- Assumes nothing.
use mathlib.Core.Path.{sym, ◌∙◌}
use Rattle.repeating.specs.RepeatingLaws.{may-is}
use Rattle.repeating.proofs.Repeating.may_repeat.Goals as goal

pub in_period-requires : goal.in_period-requires
in_period-requires c = sym c.in_range.ensures ∙ c.if-in_range.true

pub returns-then-in_range : goal.returns-then-in_range
returns-then-in_range c = rw (may-is c.args.self, sym c.in_range.ensures ∙ c.if-in_range.true) c.in_period.ensures

pub returns-else-in_range : goal.returns-else-in_range
returns-else-in_range c = rw (may-is c.args.self, sym c.in_range.ensures ∙ c.if-in_range.false) c.if-in_range.false
