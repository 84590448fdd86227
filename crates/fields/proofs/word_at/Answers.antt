-- `fields::word_at` meets its contract. The loop's invariant: the word is the number of the bytes passed.
-- Assumes nothing.
use Rattle.std.proofs.Common.{ℕ, ◌≡◌, ◌+◌, ◌-◌, ◌<◌, List, length, get_or, take, drop, arith, sym, ◌∙◌, get_or-take, get_or-drop}
use Rattle.std.proofs.lemmas.List.{length-take}
use Rattle.fields.specs.Words.{word_none, word_on, word_fits}
use Rattle.fields.proofs.word_at.Goals as goal

-- A place of the part is one of those asked for, and there stands the byte behind the part's first place.
within_part : (bytes : List ℕ) (at count i : ℕ) → i < length (take (at + count - at) (drop at bytes)) → i < count
within_part bytes at count i h = omega (arith, length-take (at + count - at) (drop at bytes))

in-part : (bytes : List ℕ) (at count i : ℕ) → i < count → get_or bytes (at + i) 0 ≡ get_or (take (at + count - at) (drop at bytes)) i 0
in-part bytes at count i h = sym (get_or-take (at + count - at) (drop at bytes) i 0 (omega arith) ∙ get_or-drop at bytes i 0)

pub loop-byte-init : goal.loop-byte-init
loop-byte-init c = word_none c.args.bytes.now c.args.at

pub overflow_mul-word : goal.overflow_mul-word
overflow_mul-word c =
    let more = within_part c.args.bytes.now c.args.at c.args.count c.loop-byte.byte-index c.loop-byte-test.true in
    let h = word_fits c.args.bytes.now c.args.at c.args.count c.loop-byte.byte-index c.requires more (λ k. (c.type_inv.bytes k).fits) c.loop-byte.word c.loop-byte.invariant in
    omega (arith, h)

pub loop-byte-preserved : goal.loop-byte-preserved
loop-byte-preserved c =
    let more = within_part c.args.bytes.now c.args.at c.args.count c.loop-byte.byte-index c.loop-byte-test.true in
    rw (← in-part c.args.bytes.now c.args.at c.args.count c.loop-byte.byte-index more)
    (word_on c.args.bytes.now c.args.at c.args.count c.loop-byte.byte-index c.requires more
    (λ k. (c.type_inv.bytes k).fits) c.loop-byte.word c.loop-byte.invariant)
