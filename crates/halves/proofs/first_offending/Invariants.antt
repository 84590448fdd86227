-- `halves::first_offending` meets its contract. The loop's invariant: no place before this one offends, and the numbers awaited
-- are those of the jobs before it.
-- Assumes nothing.
use Rattle.halves.specs.AwaitingLaws.{Searching}
use Rattle.halves.proofs.first_offending.Given as goal

abbrev pub invariant-loop-place : goal.invariant-loop-place
invariant-loop-place l = Searching l.records.bytes.now l.records.count l.awaited l.place
