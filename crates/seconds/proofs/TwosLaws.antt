-- The laws of two's complement: there and back at every width, times in 18 bits, bytes, and the machine's own numbers.
use Rattle.std.specs.Prelude.{ℕ, suc, ◌-◌, ◌^◌, ◌≤◌, ◌<◌, ◌≡◌, refl, ltb, ℤ, pos, negsuc, neg_ℤ, ◌-ℤ◌, ◌≤ℤ◌, ◌<ℤ◌}
use Rattle.std.proofs.Common.{ap, ◌∙◌, arith, lt-ltb, le-ltb}
use Rattle.std.specs.Int.{Width, w8, w16, w32, w64, w128}
use mir.Val.{bits, to_z, of_z, sel}
use borrow.Table.Steps.{cases}
use Rattle.seconds.specs.Ranges.{InTime}
use Rattle.seconds.specs.Signed.{signed, sub_is, neg_is}
use Rattle.seconds.specs.Twos.{half, bits_to, to_bits}

-- z is a number of the width.
pub record InBits (width : ℕ) (z : ℤ) : Type 0 where
  pub low : neg_ℤ (pos (half width)) ≤ℤ z
  pub high : z <ℤ pos (half width)

-- ---- the two halves

-- Bits below half the power are the number.
pub low_half : (width n : ℕ) → n < half width → bits_to width n ≡ pos n
unfolding bits_to
low_half width n l = rw (lt-ltb n (half width) l)

-- Other bits are the power above the number.
pub high_half : (width n : ℕ) → half width ≤ n → bits_to width n ≡ pos n -ℤ pos (2 ^ width)
unfolding bits_to
high_half width n l = rw (le-ltb n (half width) l)

-- Below the power such a number is negative.
negative : (width n : ℕ) → half width ≤ n → n < 2 ^ width → bits_to width n ≡ negsuc (2 ^ width - suc n)
negative width n l u = high_half width n l ∙ omega (signed, sub_is (pos n) (pos (2 ^ width)))

-- ---- there and back, at every width of one bit or more

-- A number's bits say the number.
pub bits_to-to_bits : (h : ℕ) (z : ℤ) → InBits (suc h) z → bits_to (suc h) (to_bits (suc h) z) ≡ z
unfolding to_bits
bits_to-to_bits h (pos n) i = low_half (suc h) n (omega signed)
bits_to-to_bits h (negsuc n) i =
    let l : suc n ≤ 2 ^ h = omega (signed, neg_is (pos (2 ^ h))) in
    negative (suc h) (2 ^ suc h - suc n) (omega arith) (omega arith) ∙ ap negsuc (omega arith)

-- The number that bits say has these bits.
pub to_bits-bits_to : (h n : ℕ) → n < 2 ^ suc h → to_bits (suc h) (bits_to (suc h) n) ≡ n
unfolding to_bits
to_bits-bits_to h n l = cases (ltb n (2 ^ h))
    (λ e. ap (to_bits (suc h)) (low_half (suc h) n (omega signed)))
    (λ e. ap (to_bits (suc h)) (negative (suc h) n (omega signed) l) ∙ omega arith)

-- A number's bits are below the power.
pub to_bits-below : (h : ℕ) (z : ℤ) → InBits (suc h) z → to_bits (suc h) z < 2 ^ suc h
unfolding to_bits
to_bits-below h (pos n) i = omega signed
to_bits-below h (negsuc n) i = omega (signed, neg_is (pos (2 ^ h)))

-- Bits below the power say a number of the width.
pub bits_to-in : (h n : ℕ) → n < 2 ^ suc h → InBits (suc h) (bits_to (suc h) n)
bits_to-in h n l = cases (ltb n (2 ^ h))
    (λ e. rw (low_half (suc h) n (omega signed)) (omega (signed, neg_is (pos (2 ^ h)))))
    (λ e. rw (negative (suc h) n (omega signed) l) (omega (signed, neg_is (pos (2 ^ h)))))

-- ---- times in 18 bits

-- Every time has room.
pub time-in : {z : ℤ} → InTime z → InBits 18 z
time-in t = omega signed

-- A time's bits say the time.
pub time-back : {z : ℤ} → InTime z → bits_to 18 (to_bits 18 z) ≡ z
time-back {z} t = bits_to-to_bits 17 z (time-in t)

-- 18 bits are those of the number that they say.
pub time-bits-back : (n : ℕ) → n < 262144 → to_bits 18 (bits_to 18 n) ≡ n
time-bits-back = to_bits-bits_to 17

-- ---- bytes

-- A byte up to 127 is its own value.
pub byte_low : (b : ℕ) → b ≤ 127 → bits_to 8 b ≡ pos b
byte_low b l = low_half 8 b (omega arith)

-- A byte above 127 is its value less 256.
pub byte_high : (b : ℕ) → 127 < b → bits_to 8 b ≡ pos b -ℤ pos 256
byte_high b l = high_half 8 b l

-- A number's byte says the number.
pub byte-back : (z : ℤ) → InBits 8 z → bits_to 8 (to_bits 8 z) ≡ z
byte-back = bits_to-to_bits 7

-- A byte is that of the number that it says.
pub byte-bits-back : (n : ℕ) → n < 256 → to_bits 8 (bits_to 8 n) ≡ n
byte-bits-back = to_bits-bits_to 7

-- ---- the machine reads and writes its signed numbers in the same way

-- The machine's reading, written out at any width.
machine : (h n : ℕ) → n < 2 ^ suc h → bits_to (suc h) n ≡ sel (ltb n (2 ^ h)) (pos n) (negsuc (2 ^ suc h - suc n))
machine h n l = cases (ltb n (2 ^ h))
    (λ e. rw e (low_half (suc h) n (omega signed)))
    (λ e. rw e (negative (suc h) n (omega signed) l))

-- Bits of a machine's width say what the machine reads.
pub bits_to-to_z : (w : Width) (n : ℕ) → n < 2 ^ bits w → bits_to (bits w) n ≡ to_z w n
bits_to-to_z w8 n l = machine 7 n l
bits_to-to_z w16 n l = machine 15 n l
bits_to-to_z w32 n l = machine 31 n l
bits_to-to_z w64 n l = machine 63 n l
bits_to-to_z w128 n l = machine 127 n l

-- A number has the bits that the machine writes.
pub to_bits-of_z : (w : Width) (z : ℤ) → to_bits (bits w) z ≡ of_z w z
unfolding to_bits
to_bits-of_z w (pos n) = refl
to_bits-of_z w (negsuc n) = refl
