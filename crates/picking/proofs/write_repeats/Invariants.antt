-- `picking::write_repeats` meets its contract. The invariant: the first k repeats are written, and the next ready times are those
-- behind them. Assumes nothing.
use mathlib.Core.Path.{◌≡◌}
use Rattle.pack.specs.Writing.{first_records}
use Rattle.frames.specs.Frames.{frame_numbers}
use Rattle.picking.specs.Picking.{Reached}
use Rattle.picking.proofs.write_repeats.Given as goal

abbrev pub invariant-loop-k : goal.invariant-loop-k
invariant-loop-k l =
    record { written : l.order ≡ first_records 0 (frame_numbers l.numbers) l.k l.initial.order; reached : Reached l.numbers l.next l.k }
