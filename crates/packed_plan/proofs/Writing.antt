-- Writing a plan start by start: one start more changes the last three bytes only.
use Prim.Native.Nat.{ℕ, zero, suc, ◌+◌, ◌*◌, ◌-◌, ◌/◌, ◌%◌, ◌^◌, ◌≤◌, ◌<◌}
use Rattle.std.specs.Prelude.{◌≡◌, refl, ◌⊎◌, List, [], ◌∷◌, ◌++◌, ltb, ℤ, pos, length, get_or, take}
use Rattle.std.proofs.Common.{sym, ◌∙◌, subst, inl, inr, pow-add, length-append, length-take-le, take_all, take-suc, ltb-true, ltb-false}
use Rattle.std.proofs.Math.Path.{ap, ap₂}
use native.Mathlib.Omega.{arith}
use Rattle.std.proofs.lemmas.List.{length-replicate, replicate-append-replicate}
use Rattle.std.proofs.Math.ListN.{get_or-eq_default}
use borrow.Table.Steps.{cases}
use Rattle.seconds.specs.Twos.{to_bits}
use Rattle.seconds.proofs.TwosLaws.{InBits, to_bits-below}
use Rattle.packed.specs.Layout.{plain, twos, encode, number_of, bytes_of}
use Rattle.packed.proofs.LayoutLaws.{AreBytes, number_of-bytes_of, bytes_of-number_of, bytes_of-bytes, length-bytes_of, part_bytes, number_of-snoc}
use Rattle.packed_plan.specs.Plan.{plan_bytes, pad_bits, front_layout, plan_number, pack_plan}
use Rattle.packed.proofs.Appended.{encode-append, number_of-append}
use Rattle.packed_plan.proofs.PlanLaws.{Starts}
use Rattle.packed_plan.proofs.BothWays.{packed-bytes, packed-length, number_lt}

-- ---- numbers

-- The mask and the starts as one number.
unfoldable pub front_number : ℕ → List ℤ → ℕ
front_number mask ss = encode (front_layout (length ss)) (pos mask ∷ ss)

number-padded : (mask : ℕ) (ss : List ℤ) → plan_number mask ss ≡ front_number mask ss * 2 ^ pad_bits (length ss)
unfolding plan_number front_number
number-padded mask ss =
    encode-append (front_layout (length ss)) (plain (pad_bits (length ss)) ∷ []) (pos mask ∷ ss) (pos 0 ∷ [])
    (ap suc (sym (length-replicate (length ss) (twos 18))))
    ∙ last
  where
    last : encode (front_layout (length ss)) (pos mask ∷ ss) * 2 ^ (pad_bits (length ss) + 0) + encode (plain (pad_bits (length ss)) ∷ []) (pos 0 ∷ [])
        ≡ encode (front_layout (length ss)) (pos mask ∷ ss) * 2 ^ pad_bits (length ss)
    last =
        let e : pad_bits (length ss) + 0 ≡ pad_bits (length ss) = omega arith in
        let z : encode (plain (pad_bits (length ss)) ∷ []) (pos 0 ∷ []) ≡ 0 = unfold encode in omega arith in
        ap₂ (λ x y. encode (front_layout (length ss)) (pos mask ∷ ss) * 2 ^ x + y) e z ∙ omega arith

front-more : (mask : ℕ) (ss : List ℤ) (s : ℤ) → front_number mask (ss ++ (s ∷ [])) ≡ front_number mask ss * 2 ^ 18 + to_bits 18 s
unfolding front_number
front-more mask ss s =
    let l : length (ss ++ (s ∷ [])) ≡ length ss + 1 = length-append ss (s ∷ []) in
    let r : front_layout (length ss + 1) ≡ front_layout (length ss) ++ (twos 18 ∷ []) =
    ap (λ fs. plain 48 ∷ fs) (sym (replicate-append-replicate (length ss) 1 (twos 18))) in
    let one : encode (twos 18 ∷ []) (s ∷ []) ≡ to_bits 18 s = unfold encode in omega arith in
    ap (λ fs. encode fs (pos mask ∷ (ss ++ (s ∷ [])))) (ap front_layout l ∙ r)
    ∙ encode-append (front_layout (length ss)) (twos 18 ∷ []) (pos mask ∷ ss) (s ∷ [])
    (ap suc (sym (length-replicate (length ss) (twos 18))))
    ∙ ap (λ x. encode (front_layout (length ss)) (pos mask ∷ ss) * 2 ^ 18 + x) one

-- ---- bytes

append-bytes : (xs ys : List ℕ) → AreBytes xs → AreBytes ys → AreBytes (xs ++ ys)
append-bytes [] ys h g i = g i
append-bytes (x ∷ xs) ys h g zero = h 0
append-bytes (x ∷ xs) ys h g (suc i) = append-bytes xs ys (λ j. h (suc j)) g i

-- Bytes are told by their number.
bytes-by-number : (xs : List ℕ) (k n : ℕ) → AreBytes xs → length xs ≡ k → number_of xs ≡ n → bytes_of k n ≡ xs
bytes-by-number xs k n h l e = rw (← l, ← e) (bytes_of-number_of xs h)

packed-by : (mask : ℕ) (ss : List ℤ) (xs : List ℕ) → AreBytes xs → length xs ≡ plan_bytes (length ss)
    → number_of xs ≡ plan_number mask ss → pack_plan mask ss ≡ xs
unfolding pack_plan
packed-by mask ss xs h l e = bytes-by-number xs (plan_bytes (length ss)) (plan_number mask ss) h l e

-- ---- one start more

-- Where the bits of the start at a place begin, and the place's remainder by 4 as the padding behind it.
abbrev pub place_of : ℕ → ℕ
place_of k = plan_bytes (suc k) - 3

-- Three bytes hold what stood in the first of them and the start.
three-fit : (a m first s t : ℕ) → first < 256 → s < 2 ^ 18 → a * 256 + first ≡ m * 2 ^ (t + 2)
    → (t ≡ 0) ⊎ ((t ≡ 2) ⊎ ((t ≡ 4) ⊎ (t ≡ 6)))
    → first * 65536 + s * 2 ^ t < 2 ^ 24
three-fit a m first s t f l e (inl z) =
    let e0 : a * 256 + first ≡ m * 4 = rw z at e in
    rw z (omega arith)
three-fit a m first s t f l e (inr (inl z)) =
    let e0 : a * 256 + first ≡ m * 16 = rw z at e in
    rw z (omega arith)
three-fit a m first s t f l e (inr (inr (inl z))) =
    let e0 : a * 256 + first ≡ m * 64 = rw z at e in
    rw z (omega arith)
three-fit a m first s t f l e (inr (inr (inr z))) =
    let e0 : a * 256 + first ≡ m * 256 = rw z at e in
    rw z (omega arith)

-- Four starts are nine bytes: a place is 4 q + r, its plan has 9 q + a bytes and the next one 9 q + b.
record Quarter (k r a b : ℕ) : Type 0 where
  is : k ≡ 4 * (k / 4) + r
  bytes : plan_bytes k ≡ 9 * (k / 4) + a
  next : plan_bytes (suc k) ≡ 9 * (k / 4) + b

quarter-by : (k q r a b : ℕ) → k ≡ 4 * q + r → (48 + 18 * r + 7) / 8 ≡ a → (48 + 18 * suc r + 7) / 8 ≡ b
    → (plan_bytes k ≡ 9 * q + a) × (plan_bytes (suc k) ≡ 9 * q + b)
quarter-by k q r a b e f g =
    let x : 48 + 18 * k + 7 ≡ (9 * q) * 8 + (48 + 18 * r + 7) = omega arith in
    let y : 48 + 18 * suc k + 7 ≡ (9 * q) * 8 + (48 + 18 * suc r + 7) = omega arith in
    (ap (λ n. n / 8) x ∙ omega arith, ap (λ n. n / 8) y ∙ omega arith)

quarter : (k : ℕ) → Quarter k 0 6 9 ⊎ (Quarter k 1 9 11 ⊎ (Quarter k 2 11 13 ⊎ Quarter k 3 13 15))
quarter k = go (k % 4) refl
  where
    by : (r a b : ℕ) → k % 4 ≡ r → (48 + 18 * r + 7) / 8 ≡ a → (48 + 18 * suc r + 7) / 8 ≡ b → Quarter k r a b
    by r a b e f g =
        let is : k ≡ 4 * (k / 4) + r = omega arith in
        let both = quarter-by k (k / 4) r a b is f g in
        record { is = is; bytes = both.0; next = both.1 }

    go : (r : ℕ) → k % 4 ≡ r → Quarter k 0 6 9 ⊎ (Quarter k 1 9 11 ⊎ (Quarter k 2 11 13 ⊎ Quarter k 3 13 15))
    go zero e = inl (by 0 6 9 e refl refl)
    go (suc zero) e = inr (inl (by 1 9 11 e refl refl))
    go (suc (suc zero)) e = inr (inr (inl (by 2 11 13 e refl refl)))
    go (suc (suc (suc zero))) e = inr (inr (inr (by 3 13 15 e refl refl)))
    go (suc (suc (suc (suc r)))) e = absurd (omega arith)

pads : (k : ℕ) → (pad_bits (suc k) ≡ 0) ⊎ ((pad_bits (suc k) ≡ 2) ⊎ ((pad_bits (suc k) ≡ 4) ⊎ (pad_bits (suc k) ≡ 6)))
pads k = go (quarter k)
  where
    go : Quarter k 0 6 9 ⊎ (Quarter k 1 9 11 ⊎ (Quarter k 2 11 13 ⊎ Quarter k 3 13 15))
        → (pad_bits (suc k) ≡ 0) ⊎ ((pad_bits (suc k) ≡ 2) ⊎ ((pad_bits (suc k) ≡ 4) ⊎ (pad_bits (suc k) ≡ 6)))
    go (inl x) = inr (inr (inr (omega (arith, x.is, x.next))))
    go (inr (inl x)) = inr (inr (inl (omega (arith, x.is, x.next))))
    go (inr (inr (inl x))) = inr (inl (omega (arith, x.is, x.next)))
    go (inr (inr (inr x))) = inl (omega (arith, x.is, x.next))

-- A start that begins in a byte that is begun has two bits less behind it; any other begins a byte.
pub pad-on : (k : ℕ) → place_of k < plan_bytes k → (pad_bits k ≡ pad_bits (suc k) + 2) × (suc (place_of k) ≡ plan_bytes k)
pad-on k h = go (quarter k)
  where
    go : Quarter k 0 6 9 ⊎ (Quarter k 1 9 11 ⊎ (Quarter k 2 11 13 ⊎ Quarter k 3 13 15))
        → (pad_bits k ≡ pad_bits (suc k) + 2) × (suc (place_of k) ≡ plan_bytes k)
    go (inl x) = absurd (omega (arith, x.bytes, x.next))
    go (inr (inl x)) = (omega (arith, x.is, x.bytes, x.next), omega (arith, x.bytes, x.next))
    go (inr (inr (inl x))) = (omega (arith, x.is, x.bytes, x.next), omega (arith, x.bytes, x.next))
    go (inr (inr (inr x))) = (omega (arith, x.is, x.bytes, x.next), omega (arith, x.bytes, x.next))

pub pad-anew : (k : ℕ) → plan_bytes k ≤ place_of k → (pad_bits k ≡ 0) × (pad_bits (suc k) ≡ 6)
pad-anew k h = go (quarter k)
  where
    go : Quarter k 0 6 9 ⊎ (Quarter k 1 9 11 ⊎ (Quarter k 2 11 13 ⊎ Quarter k 3 13 15))
        → (pad_bits k ≡ 0) × (pad_bits (suc k) ≡ 6)
    go (inl x) = (omega (arith, x.is, x.bytes), omega (arith, x.is, x.next))
    go (inr (inl x)) = absurd (omega (arith, x.bytes, x.next))
    go (inr (inr (inl x))) = absurd (omega (arith, x.bytes, x.next))
    go (inr (inr (inr x))) = absurd (omega (arith, x.bytes, x.next))

module _ (mask : ℕ) (ss : List ℤ) (s : ℤ) (m : mask < 2 ^ 48) (h : Starts ss) (i : InBits 18 s) where
  abbrev k : ℕ
  k = length ss

  abbrev old : List ℕ
  old = pack_plan mask ss

  abbrev pub first_byte : ℕ
  first_byte = get_or (pack_plan mask ss) (place_of (length ss)) 0

  -- The last three bytes as one number.
  abbrev pub last_three : ℕ
  last_three = first_byte * 65536 + to_bits 18 s * 2 ^ pad_bits (suc (length ss))

  old-number : number_of old ≡ front_number mask ss * 2 ^ pad_bits k
  old-number =
      let n : number_of old ≡ plan_number mask ss = unfold pack_plan in number_of-bytes_of (plan_bytes k) (number_lt mask ss m h) in
      n ∙ number-padded mask ss

  -- The bits before the start, to the end of the byte in which it begins.
  before : number_of (take (place_of k) old) * 256 + first_byte ≡ front_number mask ss * 2 ^ (pad_bits (suc k) + 2)
  before = cases (ltb (place_of k) (length old))
      (λ e. let inside : place_of k < length old = ltb-true (place_of k) (length old) e in
      let on = pad-on k (rw (packed-length mask ss m h) at inside) in
      let p : pad_bits k ≡ pad_bits (suc k) + 2 = on.0 in
      let last : suc (place_of k) ≡ length old = on.1 ∙ sym (packed-length mask ss m h) in
      sym (number_of-snoc (take (place_of k) old) first_byte)
      ∙ ap number_of (sym (take-suc old (place_of k) 0 inside) ∙ take_all (suc (place_of k)) old (omega arith))
      ∙ old-number ∙ ap (λ x. front_number mask ss * 2 ^ x) p)
      (λ e. let outside : length old ≤ place_of k = ltb-false (place_of k) (length old) e in
      let on = pad-anew k (rw (packed-length mask ss m h) at outside) in
      let p : pad_bits k ≡ 0 = on.0 in
      let q : pad_bits (suc k) ≡ 6 = on.1 in
      let zero-there : first_byte ≡ 0 = get_or-eq_default old 0 outside in
      let n : number_of old ≡ front_number mask ss * 1 = old-number ∙ ap (λ x. front_number mask ss * 2 ^ x) p in
      ap₂ (λ x y. number_of x * 256 + y) (take_all (place_of k) old outside) zero-there
      ∙ ap (λ x. x * 256 + 0) n ∙ omega arith ∙ ap (λ x. front_number mask ss * 2 ^ (x + 2)) (sym q))

  pub last_fits : last_three < 2 ^ 24
  last_fits =
      three-fit (number_of (take (place_of k) old)) (front_number mask ss) first_byte (to_bits 18 s) (pad_bits (suc k))
      (packed-bytes mask ss m h (place_of k)) (to_bits-below 17 s i) before (pads k)

  new-number : number_of (take (place_of k) old ++ bytes_of 3 last_three) ≡ plan_number mask (ss ++ (s ∷ []))
  new-number =
      let l : length (ss ++ (s ∷ [])) ≡ suc k = length-append ss (s ∷ []) ∙ omega arith in
      let t = pad_bits (suc k) in
      let three : 8 * length (bytes_of 3 last_three) ≡ 24 = omega (arith, length-bytes_of 3 last_three) in
      number_of-append (take (place_of k) old) (bytes_of 3 last_three)
      ∙ ap₂ (λ x y. number_of (take (place_of k) old) * 2 ^ x + y) three (number_of-bytes_of 3 last_fits)
      ∙ sums (number_of (take (place_of k) old)) first_byte (to_bits 18 s) (front_number mask ss) t before
      ∙ sym (number-padded mask (ss ++ (s ∷ []))
      ∙ ap₂ (λ x y. x * 2 ^ pad_bits y) (front-more mask ss s) l)
    where
      sums : (a f b n t : ℕ) → a * 256 + f ≡ n * 2 ^ (t + 2)
          → a * 2 ^ 24 + (f * 65536 + b * 2 ^ t) ≡ (n * 2 ^ 18 + b) * 2 ^ t
      sums a f b n t e =
          let e4 : a * 256 + f ≡ n * (2 ^ t * 4) = e ∙ ap (λ x. n * x) (pow-add 2 t 2) in
          omega arith

  -- The plan with one start more: its last three bytes are new.
  pub plan-more : pack_plan mask (ss ++ (s ∷ [])) ≡ take (place_of (length ss)) (pack_plan mask ss) ++ bytes_of 3 last_three
  plan-more =
      let l : length (ss ++ (s ∷ [])) ≡ suc k = length-append ss (s ∷ []) ∙ omega arith in
      let new = take (place_of k) old ++ bytes_of 3 last_three in
      let size : length new ≡ plan_bytes (length (ss ++ (s ∷ []))) =
      rw l (length-append (take (place_of k) old) (bytes_of 3 last_three)
      ∙ omega (arith, length-bytes_of 3 last_three, length-take-le (place_of k) old (omega (arith, packed-length mask ss m h)))) in
      packed-by mask (ss ++ (s ∷ [])) new
      (append-bytes (take (place_of k) old) (bytes_of 3 last_three) (part_bytes old (packed-bytes mask ss m h) (place_of k) 0) (bytes_of-bytes 3 last_fits))
      size new-number

-- ---- the padding by the remainder

pub pad-0 : (n : ℕ) → n % 4 ≡ 0 → pad_bits n ≡ 0
pad-0 n e = let is : n ≡ 4 * (n / 4) + 0 = omega arith in omega (arith, (quarter-by n (n / 4) 0 6 9 is refl refl).0)

pub pad-1 : (n : ℕ) → n % 4 ≡ 1 → pad_bits n ≡ 6
pad-1 n e = let is : n ≡ 4 * (n / 4) + 1 = omega arith in omega (arith, (quarter-by n (n / 4) 1 9 11 is refl refl).0)

pub pad-2 : (n : ℕ) → n % 4 ≡ 2 → pad_bits n ≡ 4
pad-2 n e = let is : n ≡ 4 * (n / 4) + 2 = omega arith in omega (arith, (quarter-by n (n / 4) 2 11 13 is refl refl).0)

pub pad-3 : (n : ℕ) → n % 4 ≡ 3 → pad_bits n ≡ 2
pad-3 n e = let is : n ≡ 4 * (n / 4) + 3 = omega arith in omega (arith, (quarter-by n (n / 4) 3 13 15 is refl refl).0)

-- A start begins a byte exactly at every fourth place; else its first byte is the last of the plan before it.
pub begins : (k : ℕ) → k % 4 ≡ 0 → plan_bytes k ≤ place_of k
begins k e = let is : k ≡ 4 * (k / 4) + 0 = omega arith in
    let b = quarter-by k (k / 4) 0 6 9 is refl refl in
    omega (arith, b.0, b.1)

pub goes_on : (k : ℕ) → (k % 4 ≡ 0 → ⊥) → place_of k < plan_bytes k
goes_on k n = go (quarter k)
  where
    go : Quarter k 0 6 9 ⊎ (Quarter k 1 9 11 ⊎ (Quarter k 2 11 13 ⊎ Quarter k 3 13 15)) → place_of k < plan_bytes k
    go (inl x) = let z : k % 4 ≡ 0 = omega (arith, x.is) in absurd (n z)
    go (inr (inl x)) = omega (arith, x.bytes, x.next)
    go (inr (inr (inl x))) = omega (arith, x.bytes, x.next)
    go (inr (inr (inr x))) = omega (arith, x.bytes, x.next)

-- The same with the count of starts by a name.
module _ (mask : ℕ) (ss : List ℤ) (s : ℤ) (m : mask < 2 ^ 48) (h : Starts ss) (i : InBits 18 s) (k : ℕ) (l : length ss ≡ k) where
  pub more-fits : get_or (pack_plan mask ss) (place_of k) 0 * 65536 + to_bits 18 s * 2 ^ pad_bits (suc k) < 2 ^ 24
  more-fits =
      subst (λ k. get_or (pack_plan mask ss) (place_of k) 0 * 65536 + to_bits 18 s * 2 ^ pad_bits (suc k) < 2 ^ 24) l
      (last_fits mask ss s m h i)

  pub more-at : pack_plan mask (ss ++ (s ∷ []))
      ≡ take (place_of k) (pack_plan mask ss)
      ++ bytes_of 3 (get_or (pack_plan mask ss) (place_of k) 0 * 65536 + to_bits 18 s * 2 ^ pad_bits (suc k))
  more-at =
      subst (λ k. pack_plan mask (ss ++ (s ∷ []))
      ≡ take (place_of k) (pack_plan mask ss)
      ++ bytes_of 3 (get_or (pack_plan mask ss) (place_of k) 0 * 65536 + to_bits 18 s * 2 ^ pad_bits (suc k))) l
      (plan-more mask ss s m h i)
