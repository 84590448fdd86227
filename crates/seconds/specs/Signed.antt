-- How `omega` reads signed numbers. An integer is the difference of two naturals, `up` less `dn`, so each law is linear and
-- needs no range: the laws are rules of one set, `omega signed`. Sums and the like are facts, listed: `omega (signed, add_is x y)`.
use Rattle.std.specs.Prelude.{ℕ, zero, suc, ◌+◌, ◌*◌, ◌^◌, ◌≤◌, ◌<◌, min, max, ◌≡◌, refl, Bool, true, false, not, ◌⊎◌, ◌↔◌, ◌≢◌, T, leb, ltb, eqb, ℤ, pos, negsuc, ◌+ℤ◌, ◌-ℤ◌, neg_ℤ, nat_abs, ◌≤ℤ◌, ◌<ℤ◌}
use Rattle.std.proofs.Common.{sym, ap, ◌∙◌, subst, inl, inr, ⊎_elim, add-zero, zero-add, arith, leb→le, le→leb, eqb→eq, to_z-of_z, ltb-true, ltb-false, leb-true, leb-false, lt-ltb, le-ltb, le-leb, eqb-true, eq-eqb, ne_eqb}
use Rattle.std.proofs.Math.Dec.{nleb→lt, leb-suc-suc}
use Rattle.std.proofs.Math.Arith.{lt→nleb}
use Rattle.std.specs.Float.Ieee.Bits.{is_true, is_false}
use Rattle.std.proofs.Math.IntN.{sub_ℕ}
use Rattle.std.specs.Int.Signed.{le_z, lt_z, mag, non_neg}
use Rattle.std.specs.Int.{Width, w32}
use mir.Val.{SFits, hbits, to_z, of_z}
use Rattle.std.proofs.lemmas.Bool.{lt-leb, eqb-false}
use borrow.Table.Steps.{cases}
pub use Rattle.seconds.specs.Ranges.{max_z, min_z}

-- ---- an integer as a difference

-- What an integer has above zero.
abbrev pub up : ℤ → ℕ
up (pos n) = n
up (negsuc n) = 0

-- What an integer has below zero.
abbrev pub dn : ℤ → ℕ
dn (pos n) = 0
dn (negsuc n) = suc n

-- ---- facts to list with their arguments: what the operations do to the difference

-- One of the two parts is zero.
pub one-zero : (z : ℤ) → min (up z) (dn z) ≡ 0
one-zero (pos n) = omega arith
one-zero (negsuc n) = omega arith

-- The library's difference of two naturals.
sub_ℕ-is : (a b : ℕ) → up (sub_ℕ a b) + b ≡ a + dn (sub_ℕ a b)
sub_ℕ-is a b = cases (ltb a b) (λ e. rw e (omega (arith, ltb-true a b e))) (λ e. rw e (omega (arith, ltb-false a b e)))

-- A sum.
pub add_is : (x y : ℤ) → up (x +ℤ y) + (dn x + dn y) ≡ (up x + up y) + dn (x +ℤ y)
add_is (pos a) (pos b) = omega arith
add_is (pos a) (negsuc b) = omega (arith, sub_ℕ-is a (suc b))
add_is (negsuc a) (pos b) = omega (arith, sub_ℕ-is b (suc a))
add_is (negsuc a) (negsuc b) = omega arith

-- A number negated.
pub neg_is : (z : ℤ) → (up (neg_ℤ z) ≡ dn z) × (dn (neg_ℤ z) ≡ up z)
neg_is (pos zero) = (refl, refl)
neg_is (pos (suc n)) = (refl, refl)
neg_is (negsuc n) = (refl, refl)

-- A difference.
pub sub_is : (x y : ℤ) → up (x -ℤ y) + (dn x + up y) ≡ (up x + dn y) + dn (x -ℤ y)
sub_is x y = omega (arith, add_is x (neg_ℤ y), neg_is y)

-- The size: the sum of the parts, and the distance between them.
pub abs_is : (z : ℤ) → (nat_abs z ≡ up z + dn z) × (nat_abs z + (up z + dn z) ≡ 2 * max (up z) (dn z))
abs_is (pos n) = omega arith
abs_is (negsuc n) = omega arith

-- The magnitude by which a width bounds a number: beside a fact such as `mag z < 2147483648`, z is bounded on both sides.
pub mag_is : (z : ℤ) → (up z ≤ mag z) × (dn z ≤ suc (mag z))
mag_is (pos n) = omega arith
mag_is (negsuc n) = omega arith

-- ---- the tests of order are tests on naturals

-- At or before.
le_z-is : (x y : ℤ) → le_z x y ≡ leb (up x + dn y) (up y + dn x)
le_z-is (pos a) (pos b) = simp add-zero
le_z-is (pos a) (negsuc b) = sym (lt-leb (a + suc b) (0 + 0) (omega arith))
le_z-is (negsuc a) (pos b) = sym (le-leb (0 + 0) (b + suc a) (omega arith))
le_z-is (negsuc a) (negsuc b) = simp (zero-add, leb-suc-suc)

-- Before.
lt_z-is : (x y : ℤ) → lt_z x y ≡ ltb (up x + dn y) (up y + dn x)
lt_z-is (pos a) (pos b) = simp add-zero
lt_z-is (pos a) (negsuc b) = sym (lt-leb (suc (a + suc b)) (0 + 0) (omega arith))
lt_z-is (negsuc a) (pos b) = sym (le-leb (suc (0 + 0)) (b + suc a) (omega arith))
lt_z-is (negsuc a) (negsuc b) = simp (zero-add, leb-suc-suc)

-- A test that is true is passed.
pub true-T : {b : Bool} → b ≡ true → T b
true-T e = subst T (sym e) tt

-- A test that is false is failed.
pub false-T : {b : Bool} → b ≡ false → T (not b)
false-T e = subst (λ (t : Bool). T (not t)) (sym e) tt

-- Two tests that hold together are one.
pub same_test : (a b : Bool) → (T a ↔ T b) → a ≡ b
same_test true true h = refl
same_test true false h = absurd (h.0 tt)
same_test false true h = absurd (h.1 tt)
same_test false false h = refl

-- ---- rules that read a hypothesis

-- An equation.
pub eq-reads : (x y : ℤ) → x ≡ y → up x + dn y ≡ up y + dn x
eq-reads x y e = omega (arith, ap up e, ap dn e)

-- The value of a test.
pub le_z-true-reads : (x y : ℤ) → le_z x y ≡ true → up x + dn y ≤ up y + dn x
le_z-true-reads x y e = leb-true _ _ (sym (le_z-is x y) ∙ e)

pub le_z-false-reads : (x y : ℤ) → le_z x y ≡ false → up y + dn x < up x + dn y
le_z-false-reads x y e = leb-false _ _ (sym (le_z-is x y) ∙ e)

pub lt_z-true-reads : (x y : ℤ) → lt_z x y ≡ true → up x + dn y < up y + dn x
lt_z-true-reads x y e = ltb-true _ _ (sym (lt_z-is x y) ∙ e)

pub lt_z-false-reads : (x y : ℤ) → lt_z x y ≡ false → up y + dn x ≤ up x + dn y
lt_z-false-reads x y e = ltb-false _ _ (sym (lt_z-is x y) ∙ e)

-- A test passed or failed.
pub le_z-yes-reads : (x y : ℤ) → T (le_z x y) → up x + dn y ≤ up y + dn x
le_z-yes-reads x y t = le_z-true-reads x y (is_true (le_z x y) t)

pub le_z-no-reads : (x y : ℤ) → T (not (le_z x y)) → up y + dn x < up x + dn y
le_z-no-reads x y t = le_z-false-reads x y (is_false (le_z x y) t)

pub lt_z-yes-reads : (x y : ℤ) → T (lt_z x y) → up x + dn y < up y + dn x
lt_z-yes-reads x y t = lt_z-true-reads x y (is_true (lt_z x y) t)

pub lt_z-no-reads : (x y : ℤ) → T (not (lt_z x y)) → up y + dn x ≤ up x + dn y
lt_z-no-reads x y t = lt_z-false-reads x y (is_false (lt_z x y) t)

-- The two orders, and what a cast to an unsigned number asks.
pub le-reads : {x y : ℤ} → x ≤ℤ y → up x + dn y ≤ up y + dn x
le-reads {x} {y} h = le_z-yes-reads x y h.le

pub lt-reads : {x y : ℤ} → x <ℤ y → up x + dn y < up y + dn x
lt-reads {x} {y} h = lt_z-yes-reads x y h.lt

pub non_neg-reads : (z : ℤ) → T (non_neg z) → dn z ≤ up z
non_neg-reads (pos n) t = omega arith
non_neg-reads (negsuc n) t = absurd t

-- ---- rules that turn a goal: the same backwards

-- An equation.
pub eq-holds : (x y : ℤ) → up x + dn y ≡ up y + dn x → x ≡ y
eq-holds (pos a) (pos b) e = ap pos (omega arith)
eq-holds (pos a) (negsuc b) e = absurd (omega arith)
eq-holds (negsuc a) (pos b) e = absurd (omega arith)
eq-holds (negsuc a) (negsuc b) e = ap negsuc (omega arith)

-- The value of a test.
pub le_z-true-holds : (x y : ℤ) → up x + dn y ≤ up y + dn x → le_z x y ≡ true
le_z-true-holds x y h = le_z-is x y ∙ le-leb _ _ h

pub le_z-false-holds : (x y : ℤ) → up y + dn x < up x + dn y → le_z x y ≡ false
le_z-false-holds x y h = le_z-is x y ∙ lt-leb _ _ h

pub lt_z-true-holds : (x y : ℤ) → up x + dn y < up y + dn x → lt_z x y ≡ true
lt_z-true-holds x y h = lt_z-is x y ∙ lt-ltb _ _ h

pub lt_z-false-holds : (x y : ℤ) → up y + dn x ≤ up x + dn y → lt_z x y ≡ false
lt_z-false-holds x y h = lt_z-is x y ∙ le-ltb _ _ h

-- A test passed or failed.
pub le_z-yes-holds : (x y : ℤ) → up x + dn y ≤ up y + dn x → T (le_z x y)
le_z-yes-holds x y h = true-T (le_z-true-holds x y h)

pub le_z-no-holds : (x y : ℤ) → up y + dn x < up x + dn y → T (not (le_z x y))
le_z-no-holds x y h = false-T (le_z-false-holds x y h)

pub lt_z-yes-holds : (x y : ℤ) → up x + dn y < up y + dn x → T (lt_z x y)
lt_z-yes-holds x y h = true-T (lt_z-true-holds x y h)

pub lt_z-no-holds : (x y : ℤ) → up y + dn x ≤ up x + dn y → T (not (lt_z x y))
lt_z-no-holds x y h = false-T (lt_z-false-holds x y h)

-- The two orders, and what a cast to an unsigned number asks.
pub le-holds : {x y : ℤ} → up x + dn y ≤ up y + dn x → x ≤ℤ y
le-holds {x} {y} h = record { le = le_z-yes-holds x y h }

pub lt-holds : {x y : ℤ} → up x + dn y < up y + dn x → x <ℤ y
lt-holds {x} {y} h = record { lt = lt_z-yes-holds x y h }

pub non_neg-holds : (z : ℤ) → dn z ≤ up z → T (non_neg z)
non_neg-holds (pos n) h = tt
non_neg-holds (negsuc n) h = omega arith

-- ---- rules for a width. The difference and the sum stand first in the set: only the first rule that fits is used

-- u less d is a number of the width whose half is given: both bounds in one premise.
abbrev pub Within : ℕ → ℕ → ℕ → Type 0
Within u d half = max (suc (u + u)) (d + d) ≤ u + d + half

-- A number, a sum or a difference fits a width.
pub fits-holds : {w : Width} {z : ℤ} → Within (up z) (dn z) (2 ^ hbits w) → SFits w z
fits-holds {w} {z = pos n} h = record { sfits = omega arith }
fits-holds {w} {z = negsuc n} h = record { sfits = omega arith }

pub fits-sum-holds : (w : Width) (x y : ℤ) → Within (up x + up y) (dn x + dn y) (2 ^ hbits w) → SFits w (x +ℤ y)
fits-sum-holds w x y h = fits-holds (omega (arith, add_is x y))

pub fits-difference-holds : (w : Width) (x y : ℤ) → Within (up x + dn y) (dn x + up y) (2 ^ hbits w) → SFits w (x -ℤ y)
fits-difference-holds w x y h = fits-holds (omega (arith, sub_is x y))

-- What fits a width is what its bits say: code reads each signed number through its bits.
pub fits-reads : {w : Width} {z : ℤ} → SFits w z → up (to_z w (of_z w z)) + dn z ≡ up z + dn (to_z w (of_z w z))
fits-reads {w} {z} f = eq-reads (to_z w (of_z w z)) z (to_z-of_z f)

pub fits-sum-reads : (w : Width) (x y : ℤ) → SFits w (x +ℤ y)
    → up (to_z w (of_z w (x +ℤ y))) + (dn x + dn y) ≡ (up x + up y) + dn (to_z w (of_z w (x +ℤ y)))
fits-sum-reads w x y f = omega (arith, add_is x y, fits-reads f)

pub fits-difference-reads : (w : Width) (x y : ℤ) → SFits w (x -ℤ y)
    → up (to_z w (of_z w (x -ℤ y))) + (dn x + up y) ≡ (up x + dn y) + dn (to_z w (of_z w (x -ℤ y)))
fits-difference-reads w x y f = omega (arith, sub_is x y, fits-reads f)

-- ---- rules for the test of equality on naturals, where the library has none

-- Unequal naturals: twice the greater is above the sum.
pub eqb-false-reads : (m n : ℕ) → eqb m n ≡ false → m + n < 2 * max m n
eqb-false-reads m n e =
    let h : m ≢ n = eqb-false m n e in
    omega arith

pub eqb-no-reads : (m n : ℕ) → T (not (eqb m n)) → m + n < 2 * max m n
eqb-no-reads m n t = eqb-false-reads m n (is_false (eqb m n) t)

-- The test passed or failed.
pub eqb-yes-holds : (m n : ℕ) → m ≡ n → T (eqb m n)
eqb-yes-holds m n e = true-T (eq-eqb m n e)

pub eqb-no-holds : (m n : ℕ) → m ≢ n → T (not (eqb m n))
eqb-no-holds m n h = false-T (ne_eqb m n h)

-- ---- what `omega` is handed: a set for each kind of statement, read and turned, then all of them

pub ruleset orders-read = (eq-reads, le-reads, lt-reads, non_neg-reads)

pub ruleset orders-hold = (eq-holds, le-holds, lt-holds, non_neg-holds)

pub ruleset values-read = (le_z-true-reads, le_z-false-reads, lt_z-true-reads, lt_z-false-reads)

pub ruleset values-hold = (le_z-true-holds, le_z-false-holds, lt_z-true-holds, lt_z-false-holds)

pub ruleset tests-read = (le_z-yes-reads, le_z-no-reads, lt_z-yes-reads, lt_z-no-reads)

pub ruleset tests-hold = (le_z-yes-holds, le_z-no-holds, lt_z-yes-holds, lt_z-no-holds)

pub ruleset widths-read = (fits-difference-reads, fits-sum-reads, fits-reads)

pub ruleset widths-hold = (fits-difference-holds, fits-sum-holds, fits-holds)

pub ruleset naturals-read = (leb-true, leb-false, leb→le, nleb→lt, eqb-true, eqb-false-reads, eqb→eq, eqb-no-reads)

pub ruleset naturals-hold = (le-leb, lt-leb, le→leb, lt→nleb, eq-eqb, ne_eqb, eqb-yes-holds, eqb-no-holds)

pub ruleset reads = (orders-read, values-read, tests-read, widths-read, naturals-read)

pub ruleset holds = (orders-hold, values-hold, tests-hold, widths-hold, naturals-hold)

pub ruleset signed = (arith, reads, holds)

-- ---- more facts to list with their arguments

-- The later of two.
pub max-is : (x y : ℤ) → up (max_z x y) + (dn x + dn y) ≡ max (up x + dn y) (up y + dn x) + dn (max_z x y)
max-is x y = cases (le_z x y) (λ e. rw e (omega signed)) (λ e. rw e (omega signed))

-- The earlier of two.
pub min-is : (x y : ℤ) → up (min_z x y) + (dn x + dn y) ≡ min (up x + dn y) (up y + dn x) + dn (min_z x y)
min-is x y = cases (le_z x y) (λ e. rw e (omega signed)) (λ e. rw e (omega signed))

-- ---- the order's laws

pub ≤ℤ-trans : {x y z : ℤ} → x ≤ℤ y → y ≤ℤ z → x ≤ℤ z
≤ℤ-trans h k = omega signed

-- One number is at or before the other, or after it.
pub le_z-split : (x y : ℤ) → (x ≤ℤ y) ⊎ (y <ℤ x)
le_z-split x y = cases (le_z x y) (λ e. inl (omega signed)) (λ e. inr (omega signed))

-- What is not in order is in the other order.
pub not-le : {x y : ℤ} → ¬ (x ≤ℤ y) → y <ℤ x
not-le {x} {y} h = ⊎_elim (λ k. absurd (h k)) (λ k. k) (le_z-split x y)

pub not-lt : {x y : ℤ} → ¬ (x <ℤ y) → y ≤ℤ x
not-lt {x} {y} h = ⊎_elim (λ k. k) (λ k. absurd (h k)) (le_z-split y x)

-- Numbers that fit and have the same bits are equal: what `==` in code tells.
pub same_bits : {w : Width} {x y : ℤ} → SFits w x → SFits w y → of_z w x ≡ of_z w y → x ≡ y
same_bits {w} f g e = sym (to_z-of_z f) ∙ ap (to_z w) e ∙ to_z-of_z g

-- A number of 32 bits, as the code reads it back from its bits.
pub read_back_lem : (z : ℤ) → mag z < 2 ^ hbits w32 → to_z w32 (of_z w32 z) ≡ z
read_back_lem z h = to_z-of_z {w = w32} (record { sfits = h })
