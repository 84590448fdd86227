-- The figures of a number put into a buffer from the last to the first.
use Rattle.std.specs.Prelude.{ℕ, zero, suc, ◌+◌, ◌-◌, ◌/◌, ◌%◌, ◌≤◌, ◌<◌, ◌≡◌, refl, List, [], length, set}
use Rattle.std.proofs.Common.{sym, ap, ◌∙◌, arith, add-zero, length-set, take-append-drop, length-append}
use Rattle.text.specs.Decimal.{byte_of, digits, last_digits}
use Rattle.text.specs.Figures.{all-digits}
use Rattle.text.specs.Buffer.{put, Filling}
use Rattle.text.specs.BufferLaws.{put_last}

-- At first all are.
pub filling-none : {entry : List ℕ} {at value count : ℕ} → count ≡ length (digits value) → at + count ≤ length entry
    → Filling entry at value entry count value
filling-none {entry} {at} {value} e h =
    record { still = rw (e, all-digits value); room = h; kept = refl }

-- So many have so many bytes.
last-length : (count n : ℕ) → length (last_digits count n) ≡ count
last-length zero n = refl
last-length (suc count) n =
    length-append (last_digits count (n / 10)) _ ∙ omega (arith, last-length count (n / 10))

-- One more is put, before a place.
pub filling-more : {entry : List ℕ} {at value : ℕ} {out : List ℕ} {place left : ℕ} → Filling entry at value out (place - at) left
    → at < place → Filling entry at value (set out (place - 1) (byte_of (left % 10))) (place - 1 - at) (left / 10)
filling-more {entry} {at} {value} {out} {place} {left} f h =
    let b = byte_of (left % 10) in
    let count = place - 1 - at in
    let text = last_digits count (left / 10) in
    let here : place - 1 ≡ at + length text = omega (arith, last-length count (left / 10)) in
    let more : place - at ≡ suc count = omega arith in
    let still : put at (last_digits (suc count) left) out ≡ put at (digits value) entry = rw more at f.still in
    record {
      still =
          ap (λ (p : ℕ). put at text (set out p b)) here ∙ put_last at text b out (omega (arith, f.room, f.kept)) ∙ still;
      room = omega (arith, f.room);
      kept = length-set out (place - 1) b ∙ f.kept;
    }

-- All are put.
pub filling-all : {entry : List ℕ} {at value : ℕ} {out : List ℕ} {place left : ℕ} → Filling entry at value out (place - at) left
    → place ≤ at → out ≡ put at (digits value) entry
filling-all {entry} {at} {value} {out} {place} {left} f h =
    let none : place - at ≡ 0 = omega arith in
    let still : put at [] out ≡ put at (digits value) entry = rw none at f.still in
    sym (rw add-zero (take-append-drop at out)) ∙ still
