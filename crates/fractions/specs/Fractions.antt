-- A fraction in lowest terms. Definitions only.
use Rattle.std.specs.Prelude.{ℕ, ◌*◌, ◌/◌, ◌≤◌, ◌≡◌}
use Rattle.multiples.specs.Multiples.{Multiple, gcd}
use Rattle.fractions.specs.declared.Fraction.{Fraction}

-- Both numbers over their greatest common divisor.
unfoldable pub lowest_of : ℕ → ℕ → Fraction
lowest_of a b = record { upper = a / gcd a b; lower = b / gcd a b }

-- What it is to be a / b in lowest terms: equal to it, over a number that is not 0, and with no common divisor above 1.
pub record Lowest (a b : ℕ) (f : Fraction) : Type 0 where
  pub equal : f.upper * b ≡ a * f.lower
  pub some : 1 ≤ f.lower
  pub terms : (d : ℕ) → Multiple d f.upper → Multiple d f.lower → d ≡ 1
