-- The laws of choices read back from a mask: a feasible choice is read back whole, each pick is its bit of the mask, and the
-- ones in the mask are the jobs kept.
use Rattle.std.specs.Prelude.{ℕ, zero, suc, ◌+◌, ◌*◌, ◌-◌, ◌/◌, ◌%◌, ◌^◌, ◌≤◌, ◌<◌, ◌≡◌, refl, true, cond, leb, List, [], ◌∷◌, ℤ, length, get_or}
use Rattle.std.proofs.Common.{sym, ap, ap₂, ◌∙◌, pow-suc, mul_assoc, div-one, mod-eq_of_lt, arith, pow_pos, pow-add}
use Rattle.std.proofs.lemmas.Bool.Decides.{nat_tests}
use Rattle.std.proofs.Math.Nat.{div-eq_of_lt, mul-add-div_right, mul-div-mul_right}
use Rattle.std.specs.Int.Count.{ones}
use Rattle.std.proofs.Math.Pow.{high, low, split, field, mod-mod-pow}
use Rattle.order.specs.Job.{Job}
use Rattle.order.specs.Choice.{Choice, feasible, bit_of, mask_of, mask, number_kept}
use Rattle.order.proofs.Counts.{mask_fits, kept-is-ones, feasible-holds}
use Rattle.order.proofs.OneRate.{OneRate, Marks, one-rate-marks}
use Rattle.starting.specs.Picks.{picks_of, jobs_kept}

-- No picks,
pub picks-none : (m : ℕ) → picks_of 0 m ≡ []
unfolding picks_of
picks-none m = refl

-- and one more.
pub picks_more : (n m : ℕ) → picks_of (suc n) m ≡ m / 2 ^ 63 ∷ picks_of n (m % 2 ^ 63 * 2)
unfolding picks_of
picks_more n m = refl

-- As many as are asked for.
pub length-picks : (n m : ℕ) → length (picks_of n m) ≡ n
length-picks zero m = ap length (picks-none m)
length-picks (suc n) m = ap length (picks_more n m) ∙ ap suc (length-picks n (m % 2 ^ 63 * 2))

-- ---- a choice from its mask

-- A pick that is nought or one is its own bit.
own-bit : (x : ℕ) → x ≤ 1 → bit_of x ≡ x
own-bit zero h = refl
own-bit (suc zero) h = refl
own-bit (suc (suc x)) h = absurd (omega arith)

-- One place more below doubles a mask.
mask-double : (n : ℕ) (c : Choice) → length c ≤ n → mask_of n c * 2 ≡ mask_of (suc n) c
mask-double zero [] h = refl
mask-double (suc n) [] h = refl
mask-double zero (x ∷ c) h = absurd (omega arith)
mask-double (suc n) (x ∷ c) h =
    let e : bit_of x * 2 ^ suc n ≡ bit_of x * 2 ^ n * 2 = rw (pow-suc 2 n) (sym (mul_assoc (bit_of x) (2 ^ n) 2)) in
    omega (arith, mask-double n c (omega arith))

-- The choice is read back.
pub picks-mask : (c : Choice) → Marks c → length c ≤ 64 → picks_of (length c) (mask c) ≡ c
picks-mask [] m h = picks-none (mask [])
picks-mask (x ∷ c) m h =
    let below : mask_of 63 c < 2 ^ 63 = mask_fits 63 c in
    let first : mask (x ∷ c) / 2 ^ 63 ≡ x = high (bit_of x) 63 below ∙ own-bit x m.0 in
    let further : mask (x ∷ c) % 2 ^ 63 * 2 ≡ mask c = rw (low (bit_of x) 63 below) (mask-double 63 c (omega arith)) in
    picks_more (length c) (mask (x ∷ c))
    ∙ ap₂ (λ y l. y ∷ l) first (ap (picks_of (length c)) further ∙ picks-mask c m.1 (omega arith))

-- So feasible choices of jobs of one rate each are read back from their masks.
pub picks-feasible : (js : List Job) (c : Choice) (t : ℤ) → OneRate js → length js ≤ 64 → feasible js c t ≡ true
    → picks_of (length js) (mask c) ≡ c
picks-feasible js c t o few h =
    let each = (feasible-holds js c t h).each in
    rw (← each) (picks-mask c (one-rate-marks js c t o h) (omega arith))

-- ---- a mask from its choice

module _ (m : ℕ) (fits : m < 2 ^ 64) where
  -- The highest bit, and what is left once the other bits have moved up.
  pub first-mark : m / 2 ^ 63 ≤ 1
  first-mark = omega arith

  pub left-fits : m % 2 ^ 63 * 2 < 2 ^ 64
  left-fits = omega arith

  -- The code tells the highest bit by a test.
  pub highest-is : cond (leb (2 ^ 63) m) 1 0 ≡ m / 2 ^ 63
  highest-is = grind (arith, nat_tests)

-- Moved up and down again.
half : (r d : ℕ) → r * 2 / 2 ^ suc d ≡ r / 2 ^ d
half r d = rw (pow-suc 2 d) (mul-div-mul_right r (2 ^ d) (omega arith))

-- The bits from a place up: the highest bit, and the others.
highest-and-others : (m n d : ℕ) → 63 ≡ n + d → m / 2 ^ d ≡ m / 2 ^ 63 * 2 ^ n + m % 2 ^ 63 / 2 ^ d
highest-and-others m n d all =
    let parts : 2 ^ 63 ≡ 2 ^ n * 2 ^ d = ap (λ k. 2 ^ k) all ∙ pow-add 2 n d in
    let whole : m / 2 ^ 63 * 2 ^ n * 2 ^ d + m % 2 ^ 63 ≡ m = rw (mul_assoc, ← parts) (split m 63) in
    ap (λ x. x / 2 ^ d) (sym whole) ∙ mul-add-div_right (pow_pos d) (m / 2 ^ 63 * 2 ^ n) (m % 2 ^ 63)

-- The mask of the first n picks is the first n bits.
mask-reads : (n m : ℕ) → n ≤ 64 → m < 2 ^ 64 → mask_of n (picks_of n m) ≡ m / 2 ^ (64 - n)
mask-reads zero m h b = sym (div-eq_of_lt b)
mask-reads (suc n) m h b =
    let d = 63 - n in
    let down : 64 - suc n ≡ d = omega arith in
    let up : 64 - n ≡ suc d = omega arith in
    let ih = mask-reads n (m % 2 ^ 63 * 2) (omega arith) (left-fits m b) in
    rw (picks_more n m, own-bit (m / 2 ^ 63) (first-mark m b), ih, up, half (m % 2 ^ 63) d, down)
    (sym (highest-and-others m n d (omega arith)))

-- All 64 of them are the mask,
pub mask-picks : (m : ℕ) → m < 2 ^ 64 → mask (picks_of 64 m) ≡ m
mask-picks m b = mask-reads 64 m (omega arith) b ∙ div-one m

-- and each is its bit of the mask, the highest for place 0.
pub pick-is-bit : (n m i : ℕ) → i < n → n ≤ 64 → m < 2 ^ 64 → get_or (picks_of n m) i 0 ≡ m / 2 ^ (63 - i) % 2
pick-is-bit zero m i h l b = absurd (omega arith)
pick-is-bit (suc n) m zero h l b = rw (picks_more n m) (sym (mod-eq_of_lt (omega (arith, first-mark m b))))
pick-is-bit (suc n) m (suc i) h l b =
    let d = 62 - i in
    let r = m % 2 ^ 63 in
    let down : 63 - suc i ≡ d = omega arith in
    let up : 63 - i ≡ suc d = omega arith in
    let all : 63 ≡ suc i + d = omega arith in
    let moved : r / 2 ^ d ≡ m / 2 ^ d % 2 ^ suc i = ap (λ k. m % 2 ^ k / 2 ^ d) all ∙ field m (suc i) d in
    let e : suc i ≡ i + 1 = omega arith in
    let last : m / 2 ^ d % 2 ^ suc i % 2 ≡ m / 2 ^ d % 2 = rw e (mod-mod-pow (m / 2 ^ d) i 1) in
    rw (picks_more n m, down)
    (pick-is-bit n (r * 2) i (omega arith) (omega arith) (left-fits m b)
    ∙ ap (λ k. r * 2 / 2 ^ k % 2) up ∙ ap (λ x. x % 2) (half r d ∙ moved) ∙ last)

-- ---- how many are kept

-- The number kept is the length of the list of jobs kept.
pub kept-list : (js : List Job) (c : Choice) → length c ≡ length js → number_kept c ≡ length (jobs_kept js c)
kept-list [] [] h = refl
kept-list [] (x ∷ c) h = absurd (omega arith)
kept-list (j ∷ js) [] h = refl
kept-list (j ∷ js) (zero ∷ c) h = let ih = kept-list js c (omega arith) in omega arith
kept-list (j ∷ js) (suc k ∷ c) h = let ih = kept-list js c (omega arith) in omega arith

-- The ones in a mask are the jobs that it keeps,
pub ones-kept : (m : ℕ) → m < 2 ^ 64 → ones m ≡ number_kept (picks_of 64 m)
ones-kept m b =
    ap ones (sym (mask-picks m b)) ∙ kept-is-ones (picks_of 64 m) (omega (arith, length-picks 64 m))

-- which are those of the choice that it is the mask of.
pub kept-of-mask : (c : Choice) → length c ≤ 64 → number_kept (picks_of 64 (mask c)) ≡ number_kept c
kept-of-mask c h = sym (ones-kept (mask c) (mask_fits 64 c)) ∙ kept-is-ones c h
