-- `picking::set_first` meets its contract. The invariant: the jobs before p have their phases.
-- Assumes nothing.
use Prim.Native.Nat.{ℕ, ◌<◌}
use mathlib.Core.Path.{◌≡◌}
use lib.ListN.{get_or}
use Rattle.frames.specs.Frames.{phase_at}
use Rattle.picking.proofs.set_first.Given as goal

abbrev pub invariant-loop-p : goal.invariant-loop-p
invariant-loop-p l = (i : ℕ) → i < l.p → get_or l.next i 0 ≡ phase_at l.numbers i
