-- `fields::word_at` meets its contract. The loop's invariant: the word is the number of the bytes passed.
-- Assumes nothing.
use Rattle.fields.specs.Asked.{WordIs}
use Rattle.fields.proofs.word_at.Given as goal

abbrev pub invariant-loop-byte : goal.invariant-loop-byte
invariant-loop-byte l = WordIs l.bytes l.at l.byte-index l.word
