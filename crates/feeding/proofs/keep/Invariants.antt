-- `feeding::keep` meets its contract: the first i bytes are kept. Assumes nothing.
use mathlib.Core.Path.{◌≡◌}
use lib.ListN.{take}
use Rattle.streams.proofs.Kept.{kept_in}
use Rattle.feeding.proofs.keep.Given as goal

abbrev pub invariant-loop-i : goal.invariant-loop-i
invariant-loop-i l = l.front ≡ kept_in l.initial.front l.got (take l.i l.bytes)
