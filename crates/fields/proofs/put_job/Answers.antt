-- `fields::put_job` meets its contract: the record's two words, written one behind the other.
-- Assumes nothing.
use mathlib.Core.Path.{◌≡◌, ◌∙◌, sym, ap, ap₂}
use mathlib.Core.List.{List, ◌++◌}
use Prim.Native.Nat.{ℕ, ◌+◌, ◌≤◌}
use native.Mathlib.Omega.{arith}
use lib.ListN.{length, take, drop}
use borrow.Author.Rules.{rules}
use Rattle.packed.specs.Layout.{bytes_of, front_bytes, record_bytes}
use Rattle.packed.proofs.LayoutLaws.{record-front}
use Rattle.fields.specs.Words.{words-written}
use Rattle.fields.specs.Bits.{front-small, front-least, back-small, record-parts}
use Rattle.fields.proofs.put_job.Goals as goal

-- The record's edge, and the room of both its parts.
edge : (kind edge : ℕ) → edge ≡ front_bytes kind → edge + 4 ≡ record_bytes kind
edge kind _ e = ap (λ n. n + 4) e ∙ sym (record-front kind)

room : (at kind long e : ℕ) → e ≡ front_bytes kind → at + record_bytes kind ≤ long → at + (e + 4) ≤ long
room at kind long e h r = rw (edge kind e h) r

pub put_word-requires : goal.put_word-requires
put_word-requires c =
    let f = c.front_word-front in
    let e = c.front_bytes-edge in
    let r = room c.args.at c.args.kind (length c.args.bytes.now) e.result e.ensures c.requires.room in
    record {
      room = record { short = omega (arith, e.ensures, front-least c.args.kind); room = omega (arith, r) };
      small = rw (f.ensures, e.ensures) (front-small c.args.job c.args.kind c.requires.fits);
    }

pub overflow_add-at : goal.overflow_add-at
overflow_add-at c =
    let e = c.front_bytes-edge in
    let r = room c.args.at c.args.kind (length c.args.bytes.now) e.result e.ensures c.requires.room in
    omega (arith, r)

pub put_word-requires-2 : goal.put_word-requires-2
put_word-requires-2 c =
    let e = c.front_bytes-edge in
    let r = room c.args.at c.args.kind (length c.args.bytes.now) e.result e.ensures c.requires.room in
    let same : length c.put_word.new.bytes ≡ length c.args.bytes.now = search rules in
    record {
      room = record { short = omega arith; room = omega (arith, same, r) };
      small = rw c.back_word-back.ensures (back-small c.args.job c.requires.fits.within);
    }

pub returns : goal.returns
returns c =
    let l : List ℕ = c.args.bytes.now in
    let at : ℕ = c.args.at in
    let f = c.front_word-front in
    let w = c.back_word-back in
    let e = c.front_bytes-edge in
    words-written l c.put_word.new.bytes c.put_word-2.new.bytes at e.result 4 f.result w.result
    (room at c.args.kind (length l) e.result e.ensures c.requires.room)
    c.put_word.ensures c.put_word-2.ensures
    ∙ ap₂ (λ bs n. take at l ++ bs ++ drop (at + n) l)
    (ap (λ n. bytes_of n f.result ++ bytes_of 4 w.result) e.ensures
    ∙ ap₂ (λ x y. bytes_of (front_bytes c.args.kind) x ++ bytes_of 4 y) f.ensures w.ensures
    ∙ record-parts c.args.job c.args.kind c.requires.fits)
    (edge c.args.kind e.result e.ensures)
