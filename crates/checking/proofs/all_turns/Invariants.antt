-- `checking::all_turns` meets its contract. The loop's invariant: the answer is the answer from the next job on.
-- Assumes nothing.
use Rattle.packed.specs.Packed.{jobs_in}
use Rattle.checking.specs.TurnLaws.{Judging}
use Rattle.checking.proofs.all_turns.Given as goal

abbrev pub invariant-loop-place : goal.invariant-loop-place
invariant-loop-place l =
    Judging (jobs_in l.records.bytes.now) l.records.count l.t0 l.mask l.plan l.free l.left l.k l.place
