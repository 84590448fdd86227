-- `repeating::frame_of` meets its contract. The loop's invariant: the frame at hand is that of the jobs before the place, or both are
-- past the longest. Assumes nothing.
use Rattle.repeating.specs.RepeatingLaws.{GrownTo}
use Rattle.repeating.proofs.frame_of.Given as goal

abbrev pub invariant-loop-place : goal.invariant-loop-place
invariant-loop-place l = GrownTo l.numbers l.place l.frame
