-- `fields::put_word` meets its contract. The loop's invariant: with the bytes that are still to come, the rest is as it shall be.
-- Assumes nothing.
use Rattle.fields.specs.Words.{Writing}
use Rattle.fields.proofs.put_word.Given as goal

abbrev pub invariant-loop-i : goal.invariant-loop-i
invariant-loop-i l = Writing l.initial.bytes l.at l.count l.word l.bytes l.left l.i
