-- `better::merge` meets its contract. The loop's invariant is `Merging`: what is written goes on with what is to be kept of
-- the points that are left. The measure is what is left of both profiles. Assumes nothing.
use Prim.Native.Nat.{◌+◌, ◌-◌}
use lib.ListN.{length}
use Rattle.better.specs.Merging.{Merging}
use Rattle.better.proofs.merge.Given as goal

abbrev pub invariant-loop-i : goal.invariant-loop-i
invariant-loop-i l = Merging l.p l.q l.initial.out l.i l.j l.n l.last l.out

abbrev pub decreases-loop-i : goal.decreases-loop-i
decreases-loop-i l = (length l.p - l.i) + (length l.q - l.j)
