-- `unpack::write_numbers` meets its contract. The loop's invariant: the numbers of the jobs before k are written. Assumes nothing.
use mathlib.Core.Path.{◌≡◌}
use Rattle.unpack.specs.Writing.{first_jobs}
use Rattle.unpack.proofs.write_numbers.Given as goal

abbrev pub invariant-loop-k : goal.invariant-loop-k
invariant-loop-k l = l.numbers ≡ first_jobs l.records.bytes.now l.k l.initial.numbers
