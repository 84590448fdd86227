-- `pack::write_jobs` meets its contract. The loop's invariant: the bytes of the jobs before k are written. Assumes nothing.
use mathlib.Core.Path.{◌≡◌}
use Rattle.pack.specs.Writing.{first_records}
use Rattle.pack.proofs.write_jobs.Given as goal

abbrev pub invariant-loop-k : goal.invariant-loop-k
invariant-loop-k l = l.bytes ≡ first_records l.kind l.numbers l.k l.initial.bytes
