-- `text::Writer::count` meets its contract: from the last to the first, the figures up to the place are still to be put.
-- Assumes nothing.
use Prim.Native.Nat.{◌-◌}
use mathlib.Core.Path.{◌≡◌}
use Rattle.text.specs.Buffer.{Filling}
use Rattle.text.proofs.Writer.count.Given as goal

abbrev pub invariant-loop-place : goal.invariant-loop-place
invariant-loop-place l =
    Filling l.initial.self.out.now l.start l.value l.self.out.now (l.place - l.start) l.left
    × (l.self.at ≡ l.start)
    × (l.self.out.ghost_name ≡ l.initial.self.out.ghost_name)
