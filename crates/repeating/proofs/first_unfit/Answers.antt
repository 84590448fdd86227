-- `repeating::first_unfit` meets its contract: a job that may not repeat ends the search, and any other goes on with it.
-- Assumes nothing.
use mathlib.Core.Path.{sym, ◌∙◌}
use native.Mathlib.Omega.{arith}
use Rattle.repeating.specs.RepeatingLaws.{unfit-found, unfit-passed, none-unfit}
use Rattle.repeating.proofs.first_unfit.Goals as goal

pub returns-then-not-may_repeat : goal.returns-then-not-may_repeat
returns-then-not-may_repeat c =
    unfit-found c.args.numbers.now c.loop-place.place c.args.count c.read-job.result c.loop-place-test.true c.read-job.ensures
    c.loop-place.invariant (sym c.may_repeat.ensures ∙ c.if-not-may_repeat.true)

pub loop-place-preserved : goal.loop-place-preserved
loop-place-preserved c =
    unfit-passed c.args.numbers.now c.loop-place.place c.args.count c.read-job.result c.loop-place-test.true c.read-job.ensures
    c.loop-place.invariant (sym c.may_repeat.ensures ∙ c.if-not-may_repeat.false)

pub returns : goal.returns
returns c = none-unfit c.args.numbers.now c.loop-place.place c.args.count (omega arith) c.loop-place.invariant
