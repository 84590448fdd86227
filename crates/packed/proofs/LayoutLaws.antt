-- The laws of layouts: nothing is lost either way, for every layout and every number of bytes; and the two records of an
-- order written out as the code computes them.
use Rattle.std.specs.Prelude.{ℕ, zero, suc, ◌+◌, ◌*◌, ◌/◌, ◌%◌, ◌^◌, ◌≤◌, ◌<◌, ◌≡◌, List, [], ◌∷◌, ◌++◌, ltb, ℤ, pos, negsuc, length, replicate, get_or, take, drop}
use Rattle.std.proofs.Math.Path.{refl, sym, ap}
use Rattle.std.proofs.Common.{◌∙◌, mod-lt, mod-eq_of_lt, div-one, lt_of_lt_of_le, pow_pos, pow_mono, pow-add, shr_lt, shr-shr, length-append, length-take, length-drop, take-suc, get_or-take, get_or-drop, ltb-true, ltb-false}
use native.Mathlib.Omega.{arith}
use Rattle.std.proofs.Math.Arith.{digits_lt, digits_div, digits_mod, lt-one}
use Rattle.std.proofs.Math.Pow.{split, field, mod-mod-pow}
use Rattle.std.proofs.lemmas.List.{length-replicate}
use Rattle.std.proofs.Math.ListN.{get_or-eq_default}
use borrow.Table.Steps.{cases}
use Rattle.seconds.specs.Twos.{bits_to, to_bits}
use Rattle.seconds.proofs.TwosLaws.{InBits, to_bits-below, to_bits-bits_to, bits_to-to_bits}
use Rattle.packed.specs.Layout.{total, join, cut, Field, plain, twos, width_of, widths, meaning}
use Rattle.packed.specs.Layout.{bits_for, meanings, digits_for, decode, encode, number_of, bytes_of, header_layout, job_layout}
use Rattle.packed.specs.Layout.{pack_bits, front_layout, front_bytes, record_bytes}

-- ---- digits

-- Each digit is within its width.
pub data Digits : List ℕ → List ℕ → Type 0 where
  no_digit : Digits [] []
  digit : {w x : ℕ} {ws xs : List ℕ} → x < 2 ^ w → Digits ws xs → Digits (w ∷ ws) (x ∷ xs)

-- Digits make a number of all their bits together.
pub join-lt : {ws xs : List ℕ} → Digits ws xs → join ws xs < 2 ^ total ws
join-lt no_digit = omega arith
join-lt (digit {w} {ws} h d) = rw (pow-add 2 w (total ws)) (digits_lt h (join-lt d))

-- They are cut out of it again.
pub cut-join : {ws xs : List ℕ} → Digits ws xs → cut ws (join ws xs) ≡ xs
cut-join no_digit = refl
cut-join (digit {x} h d) = rw (digits_div x (join-lt d), digits_mod x (join-lt d), cut-join d)

-- A number of all the bits is cut into digits.
pub cut-digits : (ws : List ℕ) {n : ℕ} → n < 2 ^ total ws → Digits ws (cut ws n)
cut-digits [] h = no_digit
cut-digits (w ∷ ws) {n} h = digit (shr_lt w (total ws) h) (cut-digits ws (mod-lt n (pow_pos (total ws))))

-- They make it again.
pub join-cut : (ws : List ℕ) {n : ℕ} → n < 2 ^ total ws → join ws (cut ws n) ≡ n
join-cut [] h = sym (lt-one h)
join-cut (w ∷ ws) {n} h = rw (join-cut ws (mod-lt n (pow_pos (total ws)))) (split n (total ws))

length_cut : (ws : List ℕ) (n : ℕ) → length (cut ws n) ≡ length ws
length_cut [] n = refl
length_cut (w ∷ ws) n = ap suc (length_cut ws (n % 2 ^ total ws))

-- ---- fields

-- A number that a field can hold; a field of no bits holds the one number that no bits say.
abbrev pub HeldBy : Field → ℤ → Type 0
HeldBy (plain w) (pos n) = n < 2 ^ w
HeldBy (plain w) (negsuc n) = ⊥
HeldBy (twos zero) z = z ≡ bits_to 0 0
HeldBy (twos (suc b)) z = InBits (suc b) z

-- Each field can hold its number.
pub data Held : List Field → List ℤ → Type 0 where
  no_field : Held [] []
  held : {f : Field} {z : ℤ} {fs : List Field} {zs : List ℤ} → HeldBy f z → Held fs zs → Held (f ∷ fs) (z ∷ zs)

-- One field: the bits of a number are within its width, and mean the number.
bits_for-lt : (f : Field) (z : ℤ) → HeldBy f z → bits_for f z < 2 ^ width_of f
bits_for-lt (plain w) (pos n) h = h
bits_for-lt (plain w) (negsuc n) h = absurd h
bits_for-lt (twos zero) z h = rw h (unfold bits_to to_bits in omega arith)
bits_for-lt (twos (suc b)) z h = to_bits-below b z h

meaning-bits_for : (f : Field) (z : ℤ) → HeldBy f z → meaning f (bits_for f z) ≡ z
meaning-bits_for (plain w) (pos n) h = refl
meaning-bits_for (plain w) (negsuc n) h = absurd h
meaning-bits_for (twos zero) z h = rw h (unfold bits_to to_bits in refl)
meaning-bits_for (twos (suc b)) z h = bits_to-to_bits b z h

-- Bits within its width are those of what they mean.
bits_for-meaning : (f : Field) {x : ℕ} → x < 2 ^ width_of f → bits_for f (meaning f x) ≡ x
bits_for-meaning (plain w) h = refl
bits_for-meaning (twos zero) h = rw (lt-one h) (unfold bits_to to_bits in refl)
bits_for-meaning (twos (suc b)) {x} h = to_bits-bits_to b x h

-- The same of all fields.
digits_for-digits : {fs : List Field} {zs : List ℤ} → Held fs zs → Digits (widths fs) (digits_for fs zs)
digits_for-digits no_field = no_digit
digits_for-digits (held {f} {z} h r) = digit (bits_for-lt f z h) (digits_for-digits r)

meanings-digits_for : {fs : List Field} {zs : List ℤ} → Held fs zs → meanings fs (digits_for fs zs) ≡ zs
meanings-digits_for no_field = refl
meanings-digits_for (held {f} {z} h r) = rw (meaning-bits_for f z h, meanings-digits_for r)

digits_for-meanings : (fs : List Field) {xs : List ℕ} → Digits (widths fs) xs → digits_for fs (meanings fs xs) ≡ xs
digits_for-meanings [] no_digit = refl
digits_for-meanings (f ∷ fs) (digit h d) = rw (bits_for-meaning f h, digits_for-meanings fs d)

-- ---- records

-- Numbers that the fields can hold make a record of all the bits.
pub encode-lt : {fs : List Field} {zs : List ℤ} → Held fs zs → encode fs zs < 2 ^ total (widths fs)
unfolding encode
encode-lt h = join-lt (digits_for-digits h)

-- They are read from it again.
pub decode-encode : {fs : List Field} {zs : List ℤ} → Held fs zs → decode fs (encode fs zs) ≡ zs
unfolding decode encode
decode-encode {fs} h = rw (cut-join (digits_for-digits h)) (meanings-digits_for h)

-- The numbers that a record of all the bits says make it again.
pub encode-decode : (fs : List Field) {n : ℕ} → n < 2 ^ total (widths fs) → encode fs (decode fs n) ≡ n
unfolding decode encode
encode-decode fs h = rw (digits_for-meanings fs (cut-digits (widths fs) h)) (join-cut (widths fs) h)

-- One field is read, and the others from what is left.
pub decode-cons : (f : Field) (fs : List Field) (n : ℕ)
    → decode (f ∷ fs) n ≡ meaning f (n / 2 ^ total (widths fs)) ∷ decode fs (n % 2 ^ total (widths fs))
unfolding decode
decode-cons f fs n = refl

-- A record says one number for each field.
pub length-decode : (fs : List Field) (n : ℕ) → length (decode fs n) ≡ length fs
length-decode [] n = unfold decode in refl
length-decode (f ∷ fs) n = rw (decode-cons f fs n, length-decode fs (n % 2 ^ total (widths fs)))

-- ---- bytes

-- Each number of the list is a byte.
abbrev pub AreBytes : List ℕ → Type 0
AreBytes bs = (i : ℕ) → get_or bs i 0 < 256

-- Bytes are digits of 8 bits.
bytes-total : (k : ℕ) → total (replicate k 8) ≡ 8 * k
bytes-total zero = refl
bytes-total (suc k) = rw (bytes-total k) (omega arith)

bytes-digits : (bs : List ℕ) → AreBytes bs → Digits (replicate (length bs) 8) bs
bytes-digits [] h = no_digit
bytes-digits (b ∷ bs) h = digit (h 0) (bytes-digits bs (λ i. h (suc i)))

digits-bytes : (k : ℕ) {bs : List ℕ} → Digits (replicate k 8) bs → AreBytes bs
digits-bytes zero no_digit i = omega arith
digits-bytes (suc k) (digit h d) zero = h
digits-bytes (suc k) (digit h d) (suc i) = digits-bytes k d i

-- Bytes make a number of 8 bits for each.
pub number_of-lt : (bs : List ℕ) → AreBytes bs → number_of bs < 2 ^ (8 * length bs)
unfolding number_of
number_of-lt bs h = rw (← bytes-total (length bs)) (join-lt (bytes-digits bs h))

-- They are cut out of it again.
pub bytes_of-number_of : (bs : List ℕ) → AreBytes bs → bytes_of (length bs) (number_of bs) ≡ bs
unfolding number_of bytes_of
bytes_of-number_of bs h = cut-join (bytes-digits bs h)

-- A number is cut into so many.
pub length-bytes_of : (k n : ℕ) → length (bytes_of k n) ≡ k
unfolding bytes_of
length-bytes_of k n = length_cut (replicate k 8) n ∙ length-replicate k 8

-- They are bytes, if it has 8 bits for each,
pub bytes_of-bytes : (k : ℕ) {n : ℕ} → n < 2 ^ (8 * k) → AreBytes (bytes_of k n)
unfolding bytes_of
bytes_of-bytes k h = digits-bytes k (cut-digits (replicate k 8) (rw (bytes-total k) h))

-- and make it again.
pub number_of-bytes_of : (k : ℕ) {n : ℕ} → n < 2 ^ (8 * k) → number_of (bytes_of k n) ≡ n
number_of-bytes_of k {n} h =
    unfold number_of bytes_of in rw (length-bytes_of k n) (join-cut (replicate k 8) (rw (bytes-total k) h))

-- The numbers of a record, written into bytes and read again.
pub read-written : {fs : List Field} {zs : List ℤ} (k : ℕ) → total (widths fs) ≡ 8 * k → Held fs zs
    → decode fs (number_of (bytes_of k (encode fs zs))) ≡ zs
read-written {fs} {zs} k e h =
    let b : encode fs zs < 2 ^ (8 * k) = rw (← e) (encode-lt h) in
    rw (number_of-bytes_of k b) (decode-encode h)

-- The bytes of a record, read and written again.
pub written_read : (fs : List Field) (k : ℕ) (bs : List ℕ) → total (widths fs) ≡ 8 * k → length bs ≡ k → AreBytes bs
    → bytes_of k (encode fs (decode fs (number_of bs))) ≡ bs
written_read fs k bs e l h =
    let b : number_of bs < 2 ^ total (widths fs) = rw (e, ← l) (number_of-lt bs h) in
    rw (encode-decode fs b, ← l) (bytes_of-number_of bs h)

-- ---- byte by byte

-- One byte more at the front of a number.
pub number_of-cons : (b : ℕ) (bs : List ℕ) → number_of (b ∷ bs) ≡ b * 2 ^ (8 * length bs) + number_of bs
number_of-cons b bs = unfold number_of in ap (λ e. b * 2 ^ e + number_of bs) (bytes-total (length bs))

-- One byte is cut off at the front.
pub bytes_of-cons : (k n : ℕ) → bytes_of (suc k) n ≡ n / 2 ^ (8 * k) ∷ bytes_of k (n % 2 ^ (8 * k))
bytes_of-cons k n = unfold bytes_of in ap (λ e. n / 2 ^ e ∷ bytes_of k (n % 2 ^ e)) (bytes-total k)

byte_more : (k : ℕ) → 2 ^ (8 * suc k) ≡ 2 ^ (8 * k) * 256
byte_more k = ap (λ e. 2 ^ e) (omega arith) ∙ pow-add 2 (8 * k) 8

-- One byte more at the back of a number.
pub number_of-snoc : (bs : List ℕ) (b : ℕ) → number_of (bs ++ (b ∷ [])) ≡ number_of bs * 256 + b
number_of-snoc [] b = unfold number_of in omega arith
number_of-snoc (a ∷ bs) b =
    let e : length (bs ++ (b ∷ [])) ≡ suc (length bs) = simp length-append (omega arith) in
    rw (number_of-cons a (bs ++ (b ∷ [])), number_of-cons a bs, e, number_of-snoc bs b, byte_more (length bs)) (omega arith)

-- One byte is cut off at the back.
pub bytes_of-snoc : (k : ℕ) {n : ℕ} → n < 2 ^ (8 * suc k) → bytes_of (suc k) n ≡ bytes_of k (n / 256) ++ (n % 256 ∷ [])
bytes_of-snoc zero {n} h = unfold bytes_of in ap (λ b. b ∷ []) (div-one n ∙ sym (mod-eq_of_lt h))
bytes_of-snoc (suc k) {n} h =
    let high : 8 * suc k ≡ 8 + 8 * k = omega arith in
    let low : 8 * suc k ≡ 8 * k + 8 = omega arith in
    let first : n / 2 ^ (8 * suc k) ≡ n / 256 / 2 ^ (8 * k) = rw high (sym (shr-shr n 8 (8 * k))) in
    let middle : n % 2 ^ (8 * suc k) / 256 ≡ n / 256 % 2 ^ (8 * k) = rw low (field n (8 * k) 8) in
    let last : n % 2 ^ (8 * suc k) % 256 ≡ n % 256 = rw low (mod-mod-pow n (8 * k) 8) in
    rw (bytes_of-cons (suc k) n, bytes_of-cons k (n / 256), bytes_of-snoc k (mod-lt n (pow_pos (8 * suc k))), first, middle, last)

-- A part of a list of bytes has bytes.
pub part_bytes : (bs : List ℕ) → AreBytes bs → (n at : ℕ) → AreBytes (take n (drop at bs))
part_bytes bs h n at i = cases (ltb i n)
    (λ e. rw (get_or-take n (drop at bs) i 0 (ltb-true i n e), get_or-drop at bs i 0) (h (at + i)))
    (λ e. let short : length (take n (drop at bs)) ≤ i = omega (arith, length-take n (drop at bs), ltb-false i n e) in
    rw (get_or-eq_default (take n (drop at bs)) 0 short) (omega arith))

-- Its number has 8 bits for each.
pub part-lt : (bs : List ℕ) → AreBytes bs → (n at : ℕ) → number_of (take n (drop at bs)) < 2 ^ (8 * n)
part-lt bs h n at =
    let short : 8 * length (take n (drop at bs)) ≤ 8 * n = omega (arith, length-take n (drop at bs)) in
    lt_of_lt_of_le (number_of-lt (take n (drop at bs)) (part_bytes bs h n at)) (pow_mono short)

-- One byte more of it.
pub part-on : (bs : List ℕ) (at i : ℕ) → at + i < length bs
    → number_of (take (i + 1) (drop at bs)) ≡ number_of (take i (drop at bs)) * 256 + get_or bs (at + i) 0
part-on bs at i h =
    let e : i + 1 ≡ suc i = omega arith in
    rw (e, take-suc (drop at bs) i 0 (rw length-drop (omega arith)), number_of-snoc, get_or-drop)

-- ---- P1's header and first record, both ways

-- Five jobs, the bus free at -600.
pub p1-header : decode header_layout (number_of (0x17 ∷ 0xFD ∷ 0xA8 ∷ 0x00 ∷ [])) ≡ pos 5 ∷ negsuc 599 ∷ pos 0 ∷ []
unfolding decode number_of bits_to
p1-header = refl

pub p1-header-bytes : bytes_of 4 (encode header_layout (pos 5 ∷ negsuc 599 ∷ pos 0 ∷ [])) ≡ 0x17 ∷ 0xFD ∷ 0xA8 ∷ 0x00 ∷ []
unfolding encode bytes_of to_bits
p1-header-bytes = refl

-- Number 7, pack 0, critical, ready at -600, length 495, deadline 0.
pub p1-job : decode (job_layout 0) (number_of (0x1E ∷ 0x03 ∷ 0xFD ∷ 0xA8 ∷ 0x07 ∷ 0xBC ∷ 0x00 ∷ 0x00 ∷ []))
    ≡ pos 7 ∷ pos 0 ∷ pos 1 ∷ pos 0 ∷ negsuc 599 ∷ pos 495 ∷ pos 0 ∷ []
unfolding decode number_of bits_to
p1-job = refl

pub p1-job-bytes : bytes_of 8 (encode (job_layout 0) (pos 7 ∷ pos 0 ∷ pos 1 ∷ pos 0 ∷ negsuc 599 ∷ pos 495 ∷ pos 0 ∷ []))
    ≡ 0x1E ∷ 0x03 ∷ 0xFD ∷ 0xA8 ∷ 0x07 ∷ 0xBC ∷ 0x00 ∷ 0x00 ∷ []
unfolding encode bytes_of to_bits
p1-job-bytes = refl

-- The same of pack 3, in kind 1.
pub p1-job-packed : decode (job_layout 1) (number_of (0x1C ∷ 0x0E ∷ 0x03 ∷ 0xFD ∷ 0xA8 ∷ 0x07 ∷ 0xBC ∷ 0x00 ∷ 0x00 ∷ []))
    ≡ pos 7 ∷ pos 3 ∷ pos 1 ∷ pos 0 ∷ negsuc 599 ∷ pos 495 ∷ pos 0 ∷ []
unfolding decode number_of bits_to
p1-job-packed = refl

pub p1-job-packed-bytes : bytes_of 9 (encode (job_layout 1) (pos 7 ∷ pos 3 ∷ pos 1 ∷ pos 0 ∷ negsuc 599 ∷ pos 495 ∷ pos 0 ∷ []))
    ≡ 0x1C ∷ 0x0E ∷ 0x03 ∷ 0xFD ∷ 0xA8 ∷ 0x07 ∷ 0xBC ∷ 0x00 ∷ 0x00 ∷ []
unfolding encode bytes_of to_bits
p1-job-packed-bytes = refl

-- ---- the header and the job, written out

-- What a header's number says.
pub header-decode : (n : ℕ)
    → decode header_layout n ≡ pos (n / 2 ^ 26) ∷ bits_to 18 (n % 2 ^ 26 / 2 ^ 8) ∷ pos (n % 2 ^ 26 % 2 ^ 8) ∷ []
header-decode n = unfold decode in rw (div-one (n % 2 ^ 26 % 2 ^ 8))

-- What a job's number says, by kind.
pub job-decode : (kind n : ℕ) → decode (job_layout kind) n
    ≡ (let p = 2 ^ (pack_bits kind + 58) in
    let m = n % p % 2 ^ 58 in
    pos (n / p) ∷ pos (n % p / 2 ^ 58) ∷ pos (m / 2 ^ 57) ∷ pos (m % 2 ^ 57 / 2 ^ 50)
    ∷ bits_to 18 (m % 2 ^ 57 % 2 ^ 50 / 2 ^ 32) ∷ pos (m % 2 ^ 57 % 2 ^ 50 % 2 ^ 32 / 2 ^ 18)
    ∷ bits_to 18 (m % 2 ^ 57 % 2 ^ 50 % 2 ^ 32 % 2 ^ 18) ∷ [])
job-decode kind n =
    unfold decode in rw (div-one (n % 2 ^ (pack_bits kind + 58) % 2 ^ 58 % 2 ^ 57 % 2 ^ 50 % 2 ^ 32 % 2 ^ 18))

-- The number of a header.
pub header-encode : (kind n : ℕ) (t : ℤ)
    → encode header_layout (pos n ∷ t ∷ pos kind ∷ []) ≡ n * 2 ^ 26 + (to_bits 18 t * 2 ^ 8 + kind)
header-encode kind n t = unfold encode in omega arith

-- ---- the widths by kind

-- A record has whole bytes,
pub record-bits : (kind : ℕ) → total (widths (job_layout kind)) ≡ 8 * record_bytes kind
unfolding record_bytes
record-bits zero = refl
record-bits (suc kind) = refl

-- and so have its front
pub front-bits : (kind : ℕ) → total (widths (front_layout kind)) ≡ 8 * front_bytes kind
unfolding front_bytes
front-bits zero = refl
front-bits (suc kind) = refl

-- and its back.
pub record-front : (kind : ℕ) → record_bytes kind ≡ front_bytes kind + 4
unfolding front_bytes record_bytes
record-front zero = refl
record-front (suc kind) = refl

-- In kind 0 it has eight.
pub bytes-old : record_bytes 0 ≡ 8
unfolding record_bytes
bytes-old = refl

-- In any, eight or nine.
pub bytes-few : (kind : ℕ) → (8 ≤ record_bytes kind) × (record_bytes kind ≤ 9)
unfolding record_bytes
bytes-few zero = (omega arith, omega arith)
bytes-few (suc kind) = (omega arith, omega arith)
