-- Records as numbers, as the code reads and writes them: bytes joined to a word, and a word taken apart to its fields.
use Rattle.std.specs.Prelude.{ℕ, zero, suc, ◌+◌, ◌*◌, ◌-◌, ◌/◌, ◌%◌, ◌^◌, ◌≤◌, ◌<◌, ◌≡◌, refl, List, [], ◌∷◌, ◌++◌, pos, length, get_or, take, drop, set}
use Rattle.std.proofs.Common.{sym, ap, ap₂, ◌∙◌, append_assoc, lt_of_lt_of_le, arith, pow_mono, shr_lt, length-set, length-append, length-drop, take-append-drop, drop-cons, lt-length-set, get_or-set_same, drop-set-lt, length-take-le, take-add, take_at, drop-drop, to_z}
use Rattle.std.proofs.Math.Seq.{append_snoc, drop-append-add}
use Rattle.std.proofs.lemmas.List.{take-set-le}
use Rattle.std.specs.Int.{w32}
use Rattle.std.proofs.Math.Facts.{to_z_pos}
use Rattle.seconds.specs.Twos.{bits_to}
use Rattle.packed.specs.Layout.{number_of, bytes_of, decode, job_layout, pack_bits, record_bytes}
use Rattle.packed.proofs.LayoutLaws.{AreBytes, part-lt, part-on, number_of-cons, bytes_of-snoc, length-bytes_of, job-decode}
use Rattle.packed.proofs.Appended.{number_of-append}
use Rattle.fields.specs.Asked.{WordIn, WordIs}

-- ---- reading bytes

-- No byte makes 0.
pub word_none : (bytes : List ℕ) (at : ℕ) → WordIs bytes at 0 0
unfolding number_of
word_none bytes at = record { is = refl; small = omega arith }

module _ (bytes : List ℕ) (at count i : ℕ) (within : WordIn bytes at count) (more : i < count) (all : AreBytes bytes) where
  -- One byte more, behind the word of those before it.
  pub word_on : (word : ℕ) → WordIs bytes at i word → WordIs bytes at (i + 1) (word * 256 + get_or bytes (at + i) 0)
  word_on word w =
      let e : word * 256 + get_or bytes (at + i) 0 ≡ number_of (take (i + 1) (drop at bytes)) =
      ap (λ w. w * 256 + get_or bytes (at + i) 0) w.is ∙ sym (part-on bytes at i (omega (arith, within.room))) in
      record { is = e; small = rw e (part-lt bytes all (i + 1) at) }

  -- The word of eight bytes or fewer has 64 bits.
  pub word_fits : (word : ℕ) → WordIs bytes at i word → word * 256 + get_or bytes (at + i) 0 < 2 ^ 64
  word_fits word w =
      let short : 8 * (i + 1) ≤ 64 = omega (arith, within.short) in
      lt_of_lt_of_le (word_on word w).small (pow_mono short)

-- ---- the numbers of a record

-- Some bytes are the first and those behind it.
first_byte_lem : (bytes : List ℕ) (at n : ℕ) → at + suc n ≤ length bytes
    → number_of (take (suc n) (drop at bytes)) ≡ get_or bytes at 0 * 2 ^ (8 * n) + number_of (take n (drop (suc at) bytes))
first_byte_lem bytes at n room =
    let rest : length (take n (drop (suc at) bytes)) ≡ n =
    length-take-le n (drop (suc at) bytes) (omega (arith, length-drop (suc at) bytes)) in
    ap (λ l. number_of (take (suc n) l)) (drop-cons bytes at 0 (omega arith))
    ∙ number_of-cons (get_or bytes at 0) (take n (drop (suc at) bytes))
    ∙ ap (λ l. get_or bytes at 0 * 2 ^ (8 * l) + number_of (take n (drop (suc at) bytes))) rest

-- The bytes of a record, of kind 0 or 1.
pub record-size : (kind : ℕ) → kind ≤ 1 → record_bytes kind ≡ 8 + kind
unfolding record_bytes
record-size zero h = refl
record-size (suc zero) h = refl
record-size (suc (suc kind)) h = absurd (omega arith)

-- A pack has few bits.
pub pack-small : (kind n : ℕ) → n % 2 ^ pack_bits kind < 2 ^ 31
pack-small zero n = omega arith
pack-small (suc kind) n = omega arith

-- Its first byte and its last eight make the record's number: in kind 0 the byte is the first of the eight, in kind 1 it stands
-- before them.
module _ (bytes : List ℕ) (all : AreBytes bytes) (at word : ℕ) where
  abbrev first : ℕ
  first = get_or bytes at 0

  record HeadRead (kind n : ℕ) : Type 0 where
    number : n / 2 ^ (pack_bits kind + 58) ≡ first / 4
    pack : n % 2 ^ (pack_bits kind + 58) / 2 ^ 58 ≡ (first * 2 ^ 6 + word / 2 ^ 58) % 2 ^ pack_bits kind
    behind : n % 2 ^ (pack_bits kind + 58) % 2 ^ 58 ≡ word % 2 ^ 58

  head_read : (kind : ℕ) → kind ≤ 1 → at + (8 + kind) ≤ length bytes → WordIs bytes (at + kind) 8 word
      → HeadRead kind (number_of (take (8 + kind) (drop at bytes)))
  head_read zero few room w =
      let e : at + 0 ≡ at = omega arith in
      let same : number_of (take 8 (drop at bytes)) ≡ word = ap (λ i. number_of (take 8 (drop i bytes))) (sym e) ∙ sym w.is in
      let parts : word ≡ first * 2 ^ 56 + number_of (take 7 (drop (suc at) bytes)) = sym same ∙ first_byte_lem bytes at 7 room in
      let low : number_of (take 7 (drop (suc at) bytes)) < 2 ^ 56 = part-lt bytes all 7 (suc at) in
      rw same (record { number = omega arith; pack = omega arith; behind = omega arith })
  head_read (suc zero) few room w =
      let e : at + 1 ≡ suc at = omega arith in
      let same : number_of (take 8 (drop (suc at) bytes)) ≡ word = ap (λ i. number_of (take 8 (drop i bytes))) (sym e) ∙ sym w.is in
      let parts : number_of (take 9 (drop at bytes)) ≡ first * 2 ^ 64 + word =
      first_byte_lem bytes at 8 room ∙ ap (λ n. first * 2 ^ 64 + n) same in
      let low : word < 2 ^ 64 = w.small in
      rw parts (record { number = omega arith; pack = omega arith; behind = omega arith })
  head_read (suc (suc kind)) few room w = absurd (omega arith)

  -- So they are a job's seven numbers.
  job_read : (kind : ℕ) → kind ≤ 1 → at + (8 + kind) ≤ length bytes → WordIs bytes (at + kind) 8 word
      → (let m = word % 2 ^ 58 in
      to_z w32 (first / 4) ∷ to_z w32 ((first * 2 ^ 6 + word / 2 ^ 58) % 2 ^ pack_bits kind) ∷ to_z w32 (m / 2 ^ 57)
      ∷ to_z w32 (m % 2 ^ 57 / 2 ^ 50) ∷ bits_to 18 (m % 2 ^ 57 % 2 ^ 50 / 2 ^ 32) ∷ to_z w32 (m % 2 ^ 57 % 2 ^ 50 % 2 ^ 32 / 2 ^ 18)
      ∷ bits_to 18 (m % 2 ^ 57 % 2 ^ 50 % 2 ^ 32 % 2 ^ 18) ∷ [])
      ≡ decode (job_layout kind) (number_of (take (8 + kind) (drop at bytes)))
  job_read kind few room w =
      let n : ℕ = number_of (take (8 + kind) (drop at bytes)) in
      let m : ℕ = word % 2 ^ 58 in
      let h = head_read kind few room w in
      let byte : first < 256 = all at in
      let packed : ℕ = (first * 2 ^ 6 + word / 2 ^ 58) % 2 ^ pack_bits kind in
      let number : to_z w32 (first / 4) ≡ pos (first / 4) = to_z_pos w32 (omega arith) in
      let pack : to_z w32 packed ≡ pos packed = to_z_pos w32 (pack-small kind (first * 2 ^ 6 + word / 2 ^ 58)) in
      let critical : to_z w32 (m / 2 ^ 57) ≡ pos (m / 2 ^ 57) = to_z_pos w32 (omega arith) in
      let weight : to_z w32 (m % 2 ^ 57 / 2 ^ 50) ≡ pos (m % 2 ^ 57 / 2 ^ 50) = to_z_pos w32 (omega arith) in
      let long : to_z w32 (m % 2 ^ 57 % 2 ^ 50 % 2 ^ 32 / 2 ^ 18) ≡ pos (m % 2 ^ 57 % 2 ^ 50 % 2 ^ 32 / 2 ^ 18)
      = to_z_pos w32 (omega arith) in
      rw (number, pack, critical, weight, long, job-decode kind n, h.number, h.pack, h.behind)

-- Eight bytes are four and four.
eight-bytes : (bytes : List ℕ) (at front back : ℕ) → WordIs bytes at 4 front → WordIs bytes (at + 4) 4 back → at + 8 ≤ length bytes
    → WordIs bytes at 8 (front * 2 ^ 32 + back)
eight-bytes bytes at front back f b room =
    let four : length (take 4 (drop (at + 4) bytes)) ≡ 4 =
    length-take-le 4 (drop (at + 4) bytes) (omega (arith, length-drop (at + 4) bytes)) in
    let parts : take 8 (drop at bytes) ≡ take 4 (drop at bytes) ++ take 4 (drop (at + 4) bytes) =
    take-add 4 4 (drop at bytes) ∙ ap (λ l. take 4 (drop at bytes) ++ take 4 l) (drop-drop 4 at bytes) in
    let whole : number_of (take 8 (drop at bytes)) ≡ front * 2 ^ 32 + back =
    ap number_of parts ∙ number_of-append (take 4 (drop at bytes)) (take 4 (drop (at + 4) bytes)) ∙ rw (four, ← f.is, ← b.is) in
    record { is = sym whole; small = omega (arith, f.small, b.small) }

-- What stands above the lower four is what it is without them, at each width that a job's fields have.
module _ (high low : ℕ) (small : low < 2 ^ 32) where
  abbrev both : ℕ
  both = high * 2 ^ 32 + low

  above-58 : (both / 2 ^ 58 ≡ high / 2 ^ 26) × (both % 2 ^ 58 ≡ high % 2 ^ 26 * 2 ^ 32 + low)
  above-58 = (omega arith, omega arith)

  above-57 : (both / 2 ^ 57 ≡ high / 2 ^ 25) × (both % 2 ^ 57 ≡ high % 2 ^ 25 * 2 ^ 32 + low)
  above-57 = (omega arith, omega arith)

  above-50 : (both / 2 ^ 50 ≡ high / 2 ^ 18) × (both % 2 ^ 50 ≡ high % 2 ^ 18 * 2 ^ 32 + low)
  above-50 = (omega arith, omega arith)

  above-32 : (both / 2 ^ 32 ≡ high) × (both % 2 ^ 32 ≡ low)
  above-32 = (omega arith, omega arith)

-- The job from the four bytes on either side of its record's edge.
pub job-words : (bytes : List ℕ) → AreBytes bytes → (at front back kind : ℕ) → kind ≤ 1 → at + (8 + kind) ≤ length bytes
    → WordIs bytes (at + kind) 4 front → WordIs bytes (at + kind + 4) 4 back
    → (let p = front % 2 ^ 26 in
    to_z w32 (get_or bytes at 0 / 4) ∷ to_z w32 ((get_or bytes at 0 * 2 ^ 6 + front / 2 ^ 26) % 2 ^ pack_bits kind) ∷ to_z w32 (p / 2 ^ 25)
    ∷ to_z w32 (p % 2 ^ 25 / 2 ^ 18) ∷ bits_to 18 (p % 2 ^ 25 % 2 ^ 18) ∷ to_z w32 (back / 2 ^ 18) ∷ bits_to 18 (back % 2 ^ 18) ∷ [])
    ≡ decode (job_layout kind) (number_of (take (8 + kind) (drop at bytes)))
job-words bytes all at front back kind few room f b =
    let low : back < 2 ^ 32 = b.small in
    let p : ℕ = front % 2 ^ 26 in
    let one = above-58 front back low in
    let two = above-57 p back low in
    let three = above-50 (p % 2 ^ 25) back low in
    let four = above-32 (p % 2 ^ 25 % 2 ^ 18) back low in
    let read = job_read bytes all at (front * 2 ^ 32 + back) kind few room (eight-bytes bytes (at + kind) front back f b (omega arith)) in
    rw (one.0, one.1, two.0, two.1, three.0, three.1, four.0, four.1) at read

-- ---- writing bytes

-- No byte.
bytes_of-none : (n : ℕ) → bytes_of 0 n ≡ []
unfolding bytes_of
bytes_of-none n = refl

-- Bytes on the way, the last written first: what is still to come, i bytes of the number left, stands before what is done.
pub record Writing (bytes₀ : List ℕ) (at count word : ℕ) (bytes : List ℕ) (left i : ℕ) : Type 0 where
  pub few : i ≤ count
  pub long : length bytes ≡ length bytes₀
  pub front : take at bytes ≡ take at bytes₀
  pub small : left < 2 ^ (8 * i)
  pub back : bytes_of i left ++ drop (at + i) bytes ≡ bytes_of count word ++ drop (at + count) bytes₀

module _ (bytes₀ : List ℕ) (at count word : ℕ) (room : at + count ≤ length bytes₀) where
  -- Nothing is written yet.
  pub writing-starts : word < 2 ^ (8 * count) → Writing bytes₀ at count word bytes₀ word count
  writing-starts h = record { few = omega arith; long = refl; front = refl; small = h; back = refl }

  -- The last of the bytes that are still to come, written.
  step_back_lem : (bytes : List ℕ) (left k : ℕ) → at + k < length bytes → left < 2 ^ (8 * suc k)
      → bytes_of k (left / 256) ++ drop (at + k) (set bytes (at + k) (left % 256)) ≡ bytes_of (suc k) left ++ drop (at + suc k) bytes
  step_back_lem bytes left k h l =
      let v = left % 256 in
      let e : at + suc k ≡ suc (at + k) = omega arith in
      let d : drop (at + k) (set bytes (at + k) v) ≡ v ∷ drop (suc (at + k)) bytes =
      drop-cons (set bytes (at + k) v) (at + k) 0 (lt-length-set bytes (at + k) v h)
      ∙ ap₂ (λ x xs. x ∷ xs) (get_or-set_same bytes (at + k) v 0 h) (drop-set-lt (suc (at + k)) bytes (at + k) v (omega arith)) in
      ap (λ xs. bytes_of k (left / 256) ++ xs) d
      ∙ sym (append_snoc (bytes_of k (left / 256)) v (drop (suc (at + k)) bytes))
      ∙ rw (bytes_of-snoc k l, e)

  -- One step of the loop.
  pub writing-on : (bytes : List ℕ) (left i : ℕ) → 0 < i → Writing bytes₀ at count word bytes left i
      → Writing bytes₀ at count word (set bytes (at + (i - 1)) (left % 256)) (left / 256) (i - 1)
  writing-on bytes left zero p w = absurd (omega arith)
  writing-on bytes left (suc k) p w =
      let e : suc k - 1 ≡ k = omega arith in
      let s : 8 * k + 8 ≡ 8 * suc k = omega arith in
      let h : at + k < length bytes = omega (arith, w.few, w.long) in
      rw e
      (record {
        few = omega (arith, w.few);
        long = length-set bytes (at + k) (left % 256) ∙ w.long;
        front = take-set-le at bytes (at + k) (left % 256) (omega arith) ∙ w.front;
        small = shr_lt (8 * k) 8 (rw s w.small);
        back = step_back_lem bytes left k h w.small ∙ w.back;
      })

  -- All bytes are written.
  pub writing-ends : (bytes : List ℕ) (left : ℕ) → Writing bytes₀ at count word bytes left 0
      → bytes ≡ take at bytes₀ ++ bytes_of count word ++ drop (at + count) bytes₀
  writing-ends bytes left w =
      let e : at + 0 ≡ at = omega arith in
      let back : drop at bytes ≡ bytes_of count word ++ drop (at + count) bytes₀ = rw (bytes_of-none left, e) at w.back in
      sym (take-append-drop at bytes) ∙ ap₂ (λ xs ys. xs ++ ys) w.front back
      ∙ sym (append_assoc (take at bytes₀) (bytes_of count word) (drop (at + count) bytes₀))

-- Two words, the second behind the first: their bytes, written at the first's place.
pub words-written : (l l₁ l₂ : List ℕ) (at f b x y : ℕ) → at + (f + b) ≤ length l
    → l₁ ≡ take at l ++ bytes_of f x ++ drop (at + f) l → l₂ ≡ take (at + f) l₁ ++ bytes_of b y ++ drop (at + f + b) l₁
    → l₂ ≡ take at l ++ (bytes_of f x ++ bytes_of b y) ++ drop (at + (f + b)) l
words-written l l₁ l₂ at f b x y room first second =
    let xs : List ℕ = take at l ++ bytes_of f x in
    let ys : List ℕ = bytes_of b y in
    let long : length xs ≡ at + f =
    length-append (take at l) (bytes_of f x) ∙ ap₂ (λ p q. p + q) (length-take-le at l (omega arith)) (length-bytes_of f x) in
    let front : take (at + f) l₁ ≡ xs = ap (take (at + f)) first ∙ take_at xs (drop (at + f) l) (at + f) long in
    let past : drop (length xs + b) (xs ++ drop (at + f) l) ≡ drop (at + f + b) l =
    drop-append-add xs (drop (at + f) l) b ∙ drop-drop b (at + f) l in
    let back : drop (at + f + b) l₁ ≡ drop (at + f + b) l = ap (drop (at + f + b)) first ∙ rw long at past in
    let end : at + f + b ≡ at + (f + b) = omega arith in
    second ∙ ap₂ (λ p q. p ++ ys ++ q) front (back ∙ ap (λ i. drop i l) end)
    ∙ ap (λ p. p ++ drop (at + (f + b)) l) (append_assoc (take at l) (bytes_of f x) ys)
