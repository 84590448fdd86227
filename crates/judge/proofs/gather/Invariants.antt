-- `judge::gather` meets its contract. The loop's invariant: no job before the place is out of range, and they are gathered.
-- Assumes nothing.
use Rattle.judge.specs.Gathering.{Passing}
use Rattle.judge.proofs.gather.Given as goal

abbrev pub invariant-loop-place : goal.invariant-loop-place
invariant-loop-place g l = Passing (g.J.Jobs.numbers l.jobs) l.numbers l.place l.weight
