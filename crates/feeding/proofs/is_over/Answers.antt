-- `feeding::is_over` meets its contract: the first figure is above the most orders. Assumes nothing.
use mathlib.Core.Path.{sym, ap}
use native.Mathlib.Omega.{arith}
use lib.Dec.{ltb}
use lib.Seq.{get_or-take}
use Rattle.sheet.specs.Sheet.{most_orders}
use Rattle.streams.specs.Stream.{over}
use Rattle.feeding.proofs.is_over.Goals as goal

pub bounds-figures-0 : goal.bounds-figures-0
bounds-figures-0 c = omega (arith, c.requires)

pub returns : goal.returns
unfolding over
returns c = sym (ap (ltb most_orders) (get_or-take 24 c.args.figures.now 0 0 (omega arith)))
