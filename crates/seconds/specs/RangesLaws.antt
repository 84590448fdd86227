-- The laws of comparing times: the tests decide, the ranges lie within one another, and a time fits a signed 32-bit number.
use Rattle.std.specs.Prelude.{ℕ, ◌≤◌, ◌≡◌, true, false, ◌⊎◌, ◌↔◌, ◌≢◌, eqb, ℤ, pos, ◌<ℤ◌}
use Rattle.std.proofs.Common.{sym, ap, ◌∙◌, true≢false, inl, inr, ⊎_elim, arith, SFits, eqb-true}
use Rattle.std.proofs.Math.Bool.{and-eq-true_iff, and-false}
use Rattle.std.specs.Int.Signed.{le_z}
use Rattle.std.specs.Int.{w32}
use Rattle.std.proofs.lemmas.Bool.{eqb-false}
use borrow.Table.Steps.{cases}
use Rattle.seconds.specs.Limits.{rest}
use Rattle.seconds.specs.Ranges.{same, Between, is_between, InTime, InFree}
use Rattle.seconds.specs.Signed.{signed}

-- ---- the test decides the range

-- A passed test is the range.
pub between-true : (least greatest z : ℤ) → is_between least greatest z ≡ true ↔ Between least greatest z
between-true least greatest z = (λ e. there ((and-eq-true_iff (le_z least z) (le_z z greatest)).0 e), back)
  where
    there : (le_z least z ≡ true) × (le_z z greatest ≡ true) → Between least greatest z
    there h = omega signed

    back : Between least greatest z → is_between least greatest z ≡ true
    back h = (and-eq-true_iff (le_z least z) (le_z z greatest)).1 (omega signed)

-- A failed test is a number before the range or after it.
pub between-false : (least greatest z : ℤ) → is_between least greatest z ≡ false ↔ ((z <ℤ least) ⊎ (greatest <ℤ z))
between-false least greatest z = (out, ⊎_elim before after)
  where
    out : is_between least greatest z ≡ false → (z <ℤ least) ⊎ (greatest <ℤ z)
    out h = cases (le_z least z)
        (λ d. inr (let e : le_z z greatest ≡ false = rw d at h in omega signed))
        (λ d. inl (omega signed))

    before : z <ℤ least → is_between least greatest z ≡ false
    before h = let e : le_z least z ≡ false = omega signed in rw e

    after : greatest <ℤ z → is_between least greatest z ≡ false
    after h = let e : le_z z greatest ≡ false = omega signed in rw e (and-false (le_z least z))

-- ---- the same number

-- Two numbers are the same.
pub same-yes : (x y : ℤ) → same x y ≡ true ↔ x ≡ y
same-yes x y = (there, back)
  where
    there : same x y ≡ true → x ≡ y
    there e = let h = (and-eq-true_iff (le_z x y) (le_z y x)).0 e in omega signed

    back : x ≡ y → same x y ≡ true
    back e = (and-eq-true_iff (le_z x y) (le_z y x)).1 (omega signed)

-- Two numbers are not.
pub same-no : (x y : ℤ) → same x y ≡ false ↔ (x ≢ y)
same-no x y = (there, back)
  where
    there : same x y ≡ false → x ≢ y
    there e q = true≢false (sym ((same-yes x y).1 q) ∙ e)

    back : x ≢ y → same x y ≡ false
    back n = cases (same x y) (λ e. absurd (n ((same-yes x y).0 e))) (λ e. e)

-- Of two that are not below 0 it is told as of counts.
pub same-is : (a b : ℕ) → same (pos a) (pos b) ≡ eqb a b
same-is a b = cases (eqb a b)
    (λ e. (same-yes (pos a) (pos b)).1 (ap pos (eqb-true a b e)) ∙ sym e)
    (λ e. (same-no (pos a) (pos b)).1 (λ q. let u = eqb-false a b e in absurd (u (omega signed))) ∙ sym e)

-- ---- how the ranges lie

-- A bound on the rest, the only fact about its value that any law may use.
pub rest-small : rest ≤ 1000
unfolding rest
rest-small = omega arith

-- A time is a bus-free time.
pub time-free : {z : ℤ} → InTime z → InFree z
time-free t = omega signed

-- A time fits an i32.
pub time-fits : {z : ℤ} → InTime z → SFits w32 z
time-fits t = omega signed

-- A bus-free time fits an i32.
pub free-fits : {z : ℤ} → InFree z → SFits w32 z
free-fits t = omega (signed, rest-small)
