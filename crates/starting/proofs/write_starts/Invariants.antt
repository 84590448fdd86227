-- `starting::write_starts` meets its contract. The loop's invariant: the starts of the jobs passed are written, and the mask
-- has the picks of those still to come. Assumes nothing.
use Rattle.packed.specs.Packed.{jobs_in}
use Rattle.starting.specs.StartsLaws.{Writing}
use Rattle.starting.proofs.write_starts.Given as goal

abbrev pub invariant-loop-i : goal.invariant-loop-i
invariant-loop-i l =
    Writing (jobs_in l.records.bytes.now) l.records.count l.t0 l.mask l.initial.starts l.starts l.free l.left l.i
