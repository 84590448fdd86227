-- `sheet::add_sums` meets its contract: the first i places are added. Assumes nothing.
use mathlib.Core.Path.{◌≡◌}
use Rattle.sheet.specs.Joining.{partly}
use Rattle.sheet.proofs.add_sums.Given as goal

abbrev pub invariant-loop-i : goal.invariant-loop-i
invariant-loop-i l = l.to ≡ partly l.i l.initial.to l.from
