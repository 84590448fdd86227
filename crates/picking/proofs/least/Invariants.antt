-- `picking::least` meets its contract. The invariant: the place is that of the least of the numbers before p.
-- Assumes nothing.
use Rattle.picking.specs.Picking.{IsLeast}
use Rattle.picking.proofs.least.Given as goal

abbrev pub invariant-loop-p : goal.invariant-loop-p
invariant-loop-p l = IsLeast l.times l.p l.place
