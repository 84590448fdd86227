-- `codes::after` meets its contract: all numbers from `i` on are past the limit. Assumes nothing.
use Rattle.codes.specs.Cuts.{Searching}
use Rattle.codes.proofs.after.Given as goal

abbrev pub invariant-loop-i : goal.invariant-loop-i
invariant-loop-i l = Searching l.work l.place l.end l.limit l.i
