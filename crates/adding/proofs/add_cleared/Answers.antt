-- `adding::add_cleared` meets its contract: where the area is not cleared yet, it is. Assumes nothing.
use mathlib.Core.Path.{◌∙◌}
use Rattle.area.specs.Clearing.{cleared-same}
use Rattle.adding.proofs.add_cleared.Goals as goal

pub returns-then-not-clean-clause-clears : goal.returns-then-not-clean-clause-clears
returns-then-not-clean-clause-clears c =
    c.clear.ensures ∙ cleared-same c.args.work.now c.add_into-clean.new.work c.add_into-clean.ensures.behind
