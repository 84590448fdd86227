-- `walking::walk` meets its contract. The loop's invariant: the trail after the jobs that are left, which ends as the whole
-- walk does. Assumes nothing.
use Rattle.walking.specs.TrailLaws.{Trails}
use Rattle.walking.proofs.walk.Given as goal

abbrev pub invariant-loop-k : goal.invariant-loop-k
invariant-loop-k l = Trails l.records.bytes.now l.initial.trail.weight l.initial.trail.by l.k l.trail
