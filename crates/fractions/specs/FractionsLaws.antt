-- The laws of fractions in lowest terms: a / b over the greatest common divisor is in lowest terms, no other fraction is, and neither
-- of its numbers is greater than it was.
use Rattle.std.specs.Prelude.{ℕ, zero, suc, ◌*◌, ◌/◌, ◌≤◌, ◌≡◌, refl}
use Rattle.std.proofs.Common.{sym, ap, ◌∙◌, div-le_self, arith}
use Rattle.std.proofs.Math.Nat.{eq_of_mul-eq-mul_right}
use Rattle.multiples.specs.Multiples.{Multiple, gcd}
use Rattle.multiples.specs.MultiplesLaws.{multiple-above, multiple-over, multiple-both}
use Rattle.multiples.specs.MultiplesLaws.{gcd-of-first, gcd-of-second, gcd-spans, gcd-greatest, gcd-some}
use Rattle.fractions.specs.declared.Fraction.{Fraction}
use Rattle.fractions.specs.Fractions.{lowest_of, Lowest}

-- ---- over a common divisor

-- What divides a quotient, taken as often as the divisor that made it, divides the number.
together : (d g x n : ℕ) → x * g ≡ n → Multiple d x → Multiple (d * g) n
together d g x n e m =
    let f : x * g ≡ m.0 * (d * g) = ap (λ k. k * g) m.1 ∙ omega arith in
    (m.0, sym e ∙ f)

-- A number that, taken g times, still divides g is 1.
one_left : (d g : ℕ) → 1 ≤ g → Multiple (d * g) g → d ≡ 1
one_left zero g some m = let e : g ≡ m.0 * 0 = m.1 ∙ ap (λ k. m.0 * k) (omega arith) in absurd (omega arith)
one_left (suc zero) g some m = refl
one_left (suc (suc d)) g some m = absurd (omega (arith, multiple-above (suc (suc d) * g) g some m))

-- Over the greatest common divisor it is in lowest terms.
pub lowest-is : (a b : ℕ) → 1 ≤ b → Lowest a b (lowest_of a b)
unfolding lowest_of
lowest-is a b some =
    let g = gcd a b in
    let x : a / g * g ≡ a = multiple-over g a (gcd-of-first a b) in
    let y : b / g * g ≡ b = multiple-over g b (gcd-of-second a b) in
    let turned : a / g * (b / g * g) ≡ a / g * g * (b / g) = omega arith in
    record {
      equal = ap (λ k. a / g * k) (sym y) ∙ turned ∙ ap (λ k. k * (b / g)) x;
      some = not_none (b / g) g b y some;
      terms = λ d p q.
          one_left d g (gcd-some a b some)
          (gcd-greatest a b (d * g) (together d g (a / g) a x p) (together d g (b / g) b y q));
    }
  where
    not_none : (q g n : ℕ) → q * g ≡ n → 1 ≤ n → 1 ≤ q
    not_none zero g n e h = absurd (omega arith)
    not_none (suc q) g n e h = omega arith

-- ---- no other

-- Of two equal fractions, the lower number of one in lowest terms divides the other's.
lower-divides : (u l v m : ℕ) → ((d : ℕ) → Multiple d u → Multiple d l → d ≡ 1) → u * m ≡ v * l → Multiple l m
lower-divides u l v m terms e =
    let one : gcd u l ≡ 1 = terms (gcd u l) (gcd-of-first u l) (gcd-of-second u l) in
    let first : Multiple l (m * u) = (v, omega arith) in
    let all : Multiple l (m * gcd u l) = gcd-spans u l l m first (m, refl) in
    let plain : m * 1 ≡ m = omega arith in
    rw plain at (rw one at all)

module _ (a b : ℕ) (some : 1 ≤ b) where
  -- Two fractions equal to a / b are equal to each other.
  crossed : (f g : Fraction) → Lowest a b f → Lowest a b g → f.upper * g.lower ≡ g.upper * f.lower
  crossed f g x y =
      let s : f.upper * g.lower * b ≡ f.upper * b * g.lower = omega arith in
      let t : a * f.lower * g.lower ≡ a * g.lower * f.lower = omega arith in
      let u : g.upper * b * f.lower ≡ g.upper * f.lower * b = omega arith in
      eq_of_mul-eq-mul_right b some (f.upper * g.lower) (g.upper * f.lower)
      (s ∙ ap (λ k. k * g.lower) x.equal ∙ t ∙ ap (λ k. k * f.lower) (sym y.equal) ∙ u)

  -- So two that are in lowest terms have the same numbers,
  two-lowest : (f g : Fraction) → Lowest a b f → Lowest a b g → f ≡ g
  two-lowest f g x y =
      let lower : f.lower ≡ g.lower =
      multiple-both f.lower g.lower
      (lower-divides f.upper f.lower g.upper g.lower x.terms (crossed f g x y))
      (lower-divides g.upper g.lower f.upper f.lower y.terms (crossed g f y x)) in
      let upper : f.upper ≡ g.upper =
      eq_of_mul-eq-mul_right f.lower x.some f.upper g.upper
      (ap (λ k. f.upper * k) lower ∙ crossed f g x y) in
      λ i. record { upper = upper i; lower = lower i }

  -- and there is one.
  pub lowest-only : (f : Fraction) → Lowest a b f → f ≡ lowest_of a b
  lowest-only f x = two-lowest f (lowest_of a b) x (lowest-is a b some)

-- ---- how great its numbers are: no greater than they were

pub upper-within : (a b : ℕ) → (lowest_of a b).upper ≤ a
unfolding lowest_of
upper-within a b = div-le_self a (gcd a b)

pub lower-within : (a b : ℕ) → (lowest_of a b).lower ≤ b
unfolding lowest_of
lower-within a b = div-le_self b (gcd a b)
