-- `sheet_text::put_sums` meets its contract. The loop's invariant: the lines of the numbers passed are written, and each has at most
-- eleven bytes. Assumes nothing.
use Prim.Native.Nat.{◌*◌}
use lib.ListN.{take}
use Rattle.text.specs.Writing.{Writes}
use Rattle.sheet_text.specs.SheetText.{lines}
use Rattle.sheet_text.proofs.put_sums.Given as goal

abbrev pub invariant-loop-value : goal.invariant-loop-value
invariant-loop-value l = Writes (lines (take l.value-index l.figures)) (11 * l.value-index) l.initial.text l.text
