-- `kinds::first_packed` meets its contract. The loop's invariant: what is found is what is found from here on.
-- Assumes nothing.
use mathlib.Core.Path.{◌≡◌}
use Rattle.packed.specs.Packed.{job_count, first_packed}
use Rattle.kinds.specs.KindsLaws.{from}
use Rattle.kinds.proofs.first_packed.Given as goal

abbrev pub invariant-loop-place : goal.invariant-loop-place
invariant-loop-place g l = let zs = g.J.Jobs.numbers l.jobs in first_packed zs ≡ from zs l.place (job_count zs)
