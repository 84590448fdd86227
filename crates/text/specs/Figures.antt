-- Laws of the figures: the number can be read back, so no two numbers have the same text; no needless zero stands in
-- front; and how many figures a number has.
use Rattle.std.specs.Prelude.{ℕ, zero, suc, ◌+◌, ◌-◌, ◌*◌, ◌/◌, ◌%◌, ◌^◌, ◌≤◌, ◌<◌, ◌≡◌, refl, false, List, [], ◌∷◌, ◌++◌, ltb, eqb, ℤ, pos, negsuc, neg_ℤ, nat_abs, ◌≤ℤ◌, ◌<ℤ◌, length, get_or}
use Rattle.std.proofs.Common.{suc-le-suc, sym, ap, ◌∙◌, ⊎_elim, pow-suc, arith, length-append, lt-ltb, le-ltb, ne_eqb}
use mathlib.Core.List.Memᴰ
use Rattle.std.proofs.Math.ListN.{get_or-append}
use borrow.Table.Steps.{cases}
use Rattle.seconds.specs.Signed.{signed}
use Rattle.text.specs.Decimal.{minus, byte_of, digits_in, digits, last_digits, figure}
use Rattle.text.specs.Value.{value_after, value_of, IsFigure, AllFigures, signed_of}

-- ---- the figures, with no count of turns

-- A number below 10 is one figure, whatever turns are left.
in_one : (turns n : ℕ) → n < 10 → digits_in (suc turns) n ≡ byte_of n ∷ []
unfolding digits_in
in_one turns n h = rw (lt-ltb n 10 h)

-- Any other number is its tenth and one figure more.
in-more : (turns n : ℕ) → 10 ≤ n → digits_in (suc turns) n ≡ digits_in turns (n / 10) ++ (byte_of (n % 10) ∷ [])
unfolding digits_in
in-more turns n h = rw (le-ltb n 10 h)

-- Turns enough are enough: more of them change nothing.
in-enough : (turns more n : ℕ) → n < turns → n < more → digits_in turns n ≡ digits_in more n
in-enough zero more n h k = absurd (omega arith)
in-enough (suc turns) zero n h k = absurd (omega arith)
in-enough (suc turns) (suc more) n h k = cases (ltb n 10)
    (λ e. rw (in_one turns n (omega signed), in_one more n (omega signed)))
    (λ e.
    rw (in-more turns n (omega signed), in-more more n (omega signed), in-enough turns more (n / 10) (omega signed) (omega signed)))

-- A number below 10 is one figure.
pub digits-one : (n : ℕ) → n < 10 → digits n ≡ byte_of n ∷ []
unfolding digits
digits-one n h = in_one n n h

-- From 10 on the figures are those of the tenth, and then the last one.
pub digits_more : (n : ℕ) → 10 ≤ n → digits n ≡ digits (n / 10) ++ (byte_of (n % 10) ∷ [])
unfolding digits
digits_more n h = rw (in-more n n h, in-enough n (suc (n / 10)) (n / 10) (omega arith) (omega arith))

-- What holds of the numbers below 10, and of each other number if of its tenth, holds of all.
by-tenths : (P : ℕ → Type 0) → ((n : ℕ) → n < 10 → P n) → ((n : ℕ) → 10 ≤ n → P (n / 10) → P n) → (n : ℕ) → P n
by-tenths P one more n = go (suc n) n (omega arith)
  where
    go : (turns m : ℕ) → m < turns → P m
    go zero m h = absurd (omega arith)
    go (suc turns) m h = cases (ltb m 10)
        (λ e. one m (omega signed))
        (λ e. more m (omega signed) (go turns (m / 10) (omega signed)))

-- ---- reading back

-- One more figure.
value-more : (read : ℕ) (bs : List ℕ) (b : ℕ) → value_after read (bs ++ (b ∷ [])) ≡ value_after read bs * 10 + (b - 48)
value-more read [] b = refl
value-more read (x ∷ bs) b = value-more (read * 10 + (x - 48)) bs b

-- A number's figures say the number.
pub value-digits : (n : ℕ) → value_of (digits n) ≡ n
value-digits = by-tenths (λ n. value_of (digits n) ≡ n) one more
  where
    one : (n : ℕ) → n < 10 → value_of (digits n) ≡ n
    one n h = rw (digits-one n h) (omega arith)

    more : (n : ℕ) → 10 ≤ n → value_of (digits (n / 10)) ≡ n / 10 → value_of (digits n) ≡ n
    more n h below = rw (digits_more n h, value-more 0 (digits (n / 10)) (byte_of (n % 10)), below) (omega arith)

-- ---- what stands in the figures

-- Those of a number are all figures.
pub digits-figures : (n : ℕ) → AllFigures (digits n)
digits-figures = by-tenths (λ n. AllFigures (digits n)) one more
  where
    single : (m : ℕ) → m < 10 → AllFigures (byte_of m ∷ [])
    single m h b i = let e : b ≡ byte_of m = Memᴰ.eq_of_singleton i in omega arith

    one : (n : ℕ) → n < 10 → AllFigures (digits n)
    one n h = rw (digits-one n h) (single n h)

    more : (n : ℕ) → 10 ≤ n → AllFigures (digits (n / 10)) → AllFigures (digits n)
    more n h below =
        rw (digits_more n h)
        (λ b i. ⊎_elim (below b) (single (n % 10) (omega arith) b) (Memᴰ.append_cases (digits (n / 10)) i))

-- There is one at least.
pub digits-some : (n : ℕ) → 0 < length (digits n)
digits-some n = cases (ltb n 10)
    (λ e. rw (digits-one n (omega signed)) (omega arith))
    (λ e. rw (digits_more n (omega signed)) (simp length-append (omega arith)))

-- The first is no zero but for the number 0.
pub no-leading-zero : (n : ℕ) → 0 < n → byte_of 0 < get_or (digits n) 0 0
no-leading-zero = by-tenths (λ n. 0 < n → byte_of 0 < get_or (digits n) 0 0) one more
  where
    one : (n : ℕ) → n < 10 → 0 < n → byte_of 0 < get_or (digits n) 0 0
    one n h p = rw (digits-one n h) (omega arith)

    first : (n : ℕ) → get_or (digits (n / 10) ++ (byte_of (n % 10) ∷ [])) 0 0 ≡ get_or (digits (n / 10)) 0 0
    first n = get_or-append (digits (n / 10)) (byte_of (n % 10) ∷ []) 0 0 (digits-some (n / 10))

    more : (n : ℕ) → 10 ≤ n → (0 < n / 10 → byte_of 0 < get_or (digits (n / 10)) 0 0) → 0 < n → byte_of 0 < get_or (digits n) 0 0
    more n h below p = rw (digits_more n h, first n) (below (omega arith))

-- ---- how many there are

-- One more than the tenth has.
pub length_more : (n : ℕ) → 10 ≤ n → length (digits n) ≡ suc (length (digits (n / 10)))
length_more n h = ap length (digits_more n h) ∙ length-append (digits (n / 10)) (byte_of (n % 10) ∷ []) ∙ omega arith

-- So many of the last figures are all of them.
pub all-digits : (n : ℕ) → last_digits (length (digits n)) n ≡ digits n
all-digits = by-tenths (λ n. last_digits (length (digits n)) n ≡ digits n) one more
  where
    one : (n : ℕ) → n < 10 → last_digits (length (digits n)) n ≡ digits n
    one n h = let e : n % 10 ≡ n = omega arith in rw (digits-one n h, e)

    more : (n : ℕ) → 10 ≤ n → last_digits (length (digits (n / 10))) (n / 10) ≡ digits (n / 10) → last_digits (length (digits n)) n ≡ digits n
    more n h below = rw (length_more n h, below) (sym (digits_more n h))

-- At most k + 1 below the power of 10 at k + 1.
pub digits-short : (k n : ℕ) → n < 10 ^ suc k → length (digits n) ≤ suc k
digits-short zero n h = rw (digits-one n h) (omega arith)
digits-short (suc k) n h = cases (ltb n 10)
    (λ e. rw (digits-one n (omega signed)) (omega arith))
    (λ e. rw (length_more n (omega signed)) (suc-le-suc (digits-short k (n / 10) (omega (arith, pow-suc 10 (suc k))))))

-- A u32 has ten at most.
pub digits-word : (n : ℕ) → n < 2 ^ 32 → length (digits n) ≤ 10
digits-word n h = digits-short 9 n (omega arith)

-- ---- signed numbers

-- Bytes that begin with no minus sign say the number that their figures say.
no_sign : (bs : List ℕ) → AllFigures bs → signed_of bs ≡ pos (value_of bs)
no_sign [] each = refl
no_sign (b ∷ bs) each =
    let f : IsFigure b = each b (Memᴰ.head refl) in
    let e : eqb b minus ≡ false = ne_eqb b minus (λ h. omega arith) in
    rw e

-- A signed number's text says the number.
pub signed-figure : (z : ℤ) → signed_of (figure z) ≡ z
unfolding figure
signed-figure (pos n) = no_sign (digits n) (digits-figures n) ∙ ap pos (value-digits n)
signed-figure (negsuc n) = ap (λ (m : ℕ). neg_ℤ (pos m)) (value-digits (suc n))

-- So no two numbers have the same text.
pub figure-injective : (x y : ℤ) → figure x ≡ figure y → x ≡ y
figure-injective x y e = sym (signed-figure x) ∙ ap signed_of e ∙ signed-figure y

-- Below zero the text is a minus sign and the figures of the size, else those figures alone.
pub figure-below : (z : ℤ) → z <ℤ pos 0 → figure z ≡ minus ∷ digits (nat_abs z)
unfolding figure
figure-below (pos n) h = absurd (omega signed)
figure-below (negsuc n) h = refl

pub figure-above : (z : ℤ) → pos 0 ≤ℤ z → figure z ≡ digits (nat_abs z)
unfolding figure
figure-above (pos n) h = refl
figure-above (negsuc n) h = absurd (omega signed)
