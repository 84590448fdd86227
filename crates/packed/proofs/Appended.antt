-- Layouts and bytes behind each other: one field or some bytes read where they stand, and a record cut in two at a byte's edge.
use Rattle.std.specs.Prelude.{ℕ, zero, suc, ◌+◌, ◌*◌, ◌/◌, ◌%◌, ◌^◌, ◌<◌, ◌≡◌, refl, List, [], ◌∷◌, ◌++◌, ℤ, pos, length, replicate, get_or, take, drop}
use Rattle.std.proofs.Common.{sym, ap, ap₂, ◌∙◌, mod-lt, mod-eq_of_lt, add_assoc, zero-add, pow_pos, pow-add, shr-shr, length-append, take-append-drop}
use native.Mathlib.Omega.{arith}
use Rattle.std.proofs.Math.Arith.{digits_div, digits_mod}
use Rattle.std.proofs.Math.Pow.{field, mod-mod-pow}
use lib.Seq.{get_or_at}
use Rattle.packed.specs.Layout.{total, Field, width_of, widths, meaning, bits_for, decode, encode, number_of, bytes_of}
use Rattle.packed.proofs.LayoutLaws.{decode-cons, length-decode, AreBytes, number_of-lt, number_of-cons}
use Rattle.packed.proofs.LayoutLaws.{Held, no_field, held, encode-lt, length-bytes_of, bytes_of-bytes}
use Rattle.packed.proofs.LayoutLaws.{number_of-bytes_of, bytes_of-number_of}

-- The bits of a layout.
abbrev pub bits : List Field → ℕ
bits fs = total (widths fs)

pub bits-append : (fs gs : List Field) → bits (fs ++ gs) ≡ bits fs + bits gs
bits-append [] gs = sym (zero-add (bits gs))
bits-append (f ∷ fs) gs = rw (bits-append fs gs) (sym (add_assoc (width_of f) (bits fs) (bits gs)))

pub bits-replicate : (n : ℕ) (f : Field) → bits (replicate n f) ≡ n * width_of f
bits-replicate zero f = omega arith
bits-replicate (suc n) f = rw (bits-replicate n f) (omega arith)

-- A record of two layouts, the second behind the first.
pub encode-append : (fs gs : List Field) (zs ys : List ℤ) → length zs ≡ length fs
    → encode (fs ++ gs) (zs ++ ys) ≡ encode fs zs * 2 ^ bits gs + encode gs ys
unfolding encode
encode-append [] gs [] ys e = omega arith
encode-append [] gs (z ∷ zs) ys e = absurd (omega arith)
encode-append (f ∷ fs) gs [] ys e = absurd (omega arith)
encode-append (f ∷ fs) gs (z ∷ zs) ys e =
    let b = bits_for f z in
    rw (encode-append fs gs zs ys (omega arith), bits-append fs gs, pow-add 2 (bits fs) (bits gs)) (omega arith)

pub decode-append : (fs gs : List Field) {n : ℕ} → n < 2 ^ bits (fs ++ gs)
    → decode (fs ++ gs) n ≡ decode fs (n / 2 ^ bits gs) ++ decode gs (n % 2 ^ bits gs)
decode-append [] gs {n} h = unfold decode in rw (mod-eq_of_lt h)
decode-append (f ∷ fs) gs {n} h =
    let below : n % 2 ^ bits (fs ++ gs) < 2 ^ bits (fs ++ gs) = mod-lt n (pow_pos (bits (fs ++ gs))) in
    let b : bits (fs ++ gs) ≡ bits fs + bits gs = bits-append fs gs in
    let c : bits (fs ++ gs) ≡ bits gs + bits fs = b ∙ omega arith in
    let first : n / 2 ^ bits (fs ++ gs) ≡ n / 2 ^ bits gs / 2 ^ bits fs = rw c (sym (shr-shr n (bits gs) (bits fs))) in
    let middle : n % 2 ^ bits (fs ++ gs) / 2 ^ bits gs ≡ n / 2 ^ bits gs % 2 ^ bits fs = rw b (field n (bits fs) (bits gs)) in
    let last : n % 2 ^ bits (fs ++ gs) % 2 ^ bits gs ≡ n % 2 ^ bits gs = rw b (mod-mod-pow n (bits fs) (bits gs)) in
    decode-cons f (fs ++ gs) n
    ∙ ap₂ (λ x xs. meaning f x ∷ xs) first
    (decode-append fs gs below ∙ ap₂ (λ x y. decode fs x ++ decode gs y) middle last)
    ∙ ap (λ xs. xs ++ decode gs (n % 2 ^ bits gs)) (sym (decode-cons f fs (n / 2 ^ bits gs)))

-- One field of a record, where it stands.
pub decode-at : (fs : List Field) (f : Field) (gs : List Field) (k : ℕ) {n : ℕ} → length fs ≡ k → n < 2 ^ bits (fs ++ f ∷ gs)
    → get_or (decode (fs ++ f ∷ gs) n) k (pos 0) ≡ meaning f (n / 2 ^ bits gs % 2 ^ width_of f)
decode-at fs f gs k {n} e h =
    let G = bits (f ∷ gs) in
    rw (decode-append fs (f ∷ gs) h, decode-cons f gs (n % 2 ^ G))
    (get_or_at (decode fs (n / 2 ^ G)) (meaning f (n % 2 ^ G / 2 ^ bits gs)) (decode gs (n % 2 ^ G % 2 ^ bits gs)) (pos 0) k
    (length-decode fs (n / 2 ^ G) ∙ e)
    ∙ ap (meaning f) (field n (width_of f) (bits gs)))

-- ---- bytes

pub number_of-append : (xs ys : List ℕ) → number_of (xs ++ ys) ≡ number_of xs * 2 ^ (8 * length ys) + number_of ys
number_of-append [] ys = unfold number_of in omega arith
number_of-append (x ∷ xs) ys =
    let e : 8 * length (xs ++ ys) ≡ 8 * length xs + 8 * length ys = omega (arith, length-append xs ys) in
    rw (number_of-cons x (xs ++ ys), number_of-cons x xs, e, pow-add 2 (8 * length xs) (8 * length ys), number_of-append xs ys)
    (omega arith)

module _ (bs : List ℕ) (h : AreBytes bs) where
  -- The last bytes, and the first.
  behind-lt : (a : ℕ) → number_of (drop a bs) < 2 ^ (8 * length (drop a bs))
  behind-lt a = number_of-lt (drop a bs) (λ i. rw (drop-there a i) (h (a + i)))
    where
      drop-there : (a i : ℕ) → get_or (drop a bs) i 0 ≡ get_or bs (a + i) 0
      drop-there a i = lib.Seq.get_or-drop a bs i 0

  parts : (a : ℕ) → number_of bs ≡ number_of (take a bs) * 2 ^ (8 * length (drop a bs)) + number_of (drop a bs)
  parts a = ap number_of (sym (take-append-drop a bs)) ∙ number_of-append (take a bs) (drop a bs)

  pub number_behind : (a : ℕ) → number_of (drop a bs) ≡ number_of bs % 2 ^ (8 * length (drop a bs))
  number_behind a = rw (parts a) (sym (digits_mod (number_of (take a bs)) (behind-lt a)))

  pub number-front : (a : ℕ) → number_of (take a bs) ≡ number_of bs / 2 ^ (8 * length (drop a bs))
  number-front a = rw (parts a) (sym (digits_div (number_of (take a bs)) (behind-lt a)))

-- ---- a record cut at a byte's edge

-- Two lists of bytes are one.
pub bytes-append : (xs ys : List ℕ) → AreBytes xs → AreBytes ys → AreBytes (xs ++ ys)
bytes-append [] ys h g i = g i
bytes-append (x ∷ xs) ys h g zero = h 0
bytes-append (x ∷ xs) ys h g (suc i) = bytes-append xs ys (λ j. h (suc j)) g i

-- Two numbers of whole bytes, the second behind the first.
pub bytes_of-append : (f b : ℕ) {x y : ℕ} → x < 2 ^ (8 * f) → y < 2 ^ (8 * b)
    → bytes_of (f + b) (x * 2 ^ (8 * b) + y) ≡ bytes_of f x ++ bytes_of b y
bytes_of-append f b {x} {y} h g =
    let xs : List ℕ = bytes_of f x in
    let ys : List ℕ = bytes_of b y in
    let long : length (xs ++ ys) ≡ f + b = length-append xs ys ∙ ap₂ (λ p q. p + q) (length-bytes_of f x) (length-bytes_of b y) in
    let number : number_of (xs ++ ys) ≡ x * 2 ^ (8 * b) + y =
    rw (number_of-append xs ys, number_of-bytes_of f h, number_of-bytes_of b g, length-bytes_of b y) in
    sym (ap₂ bytes_of long number) ∙ bytes_of-number_of (xs ++ ys) (bytes-append xs ys (bytes_of-bytes f h) (bytes_of-bytes b g))

-- As many numbers as fields.
pub length-held : {fs : List Field} {zs : List ℤ} → Held fs zs → length zs ≡ length fs
length-held no_field = refl
length-held (held h r) = ap suc (length-held r)

-- Written: the bytes of the front's numbers, then those of the back's.
pub encode-split : {fs gs : List Field} {zs ys : List ℤ} (f b : ℕ) → Held fs zs → Held gs ys → bits fs ≡ 8 * f → bits gs ≡ 8 * b
    → bytes_of (f + b) (encode (fs ++ gs) (zs ++ ys)) ≡ bytes_of f (encode fs zs) ++ bytes_of b (encode gs ys)
encode-split {fs} {gs} {zs} {ys} f b h g e d =
    let high : encode fs zs < 2 ^ (8 * f) = rw (← e) (encode-lt h) in
    let low : encode gs ys < 2 ^ (8 * b) = rw (← d) (encode-lt g) in
    rw (encode-append fs gs zs ys (length-held h), d) (bytes_of-append f b high low)
