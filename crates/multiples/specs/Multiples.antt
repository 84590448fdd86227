-- Multiples, Euclid's greatest common divisor, and the least common multiple of two numbers and of a list. Definitions only.
use Rattle.std.specs.Prelude.{ℕ, zero, suc, ◌*◌, ◌/◌, ◌%◌, ◌≤◌, ◌≡◌}
use mathlib.Core.List.{List, [], ◌∷◌, Memᴰ}

-- n is a multiple of d.
abbrev pub Multiple : ℕ → ℕ → Type 0
Multiple d n = (q : ℕ) × (n ≡ q * d)

-- Euclid's greatest common divisor, in at most as many steps as the first number says.
unfoldable pub gcd_in : ℕ → ℕ → ℕ → ℕ
gcd_in zero a b = a
gcd_in (suc n) a zero = a
gcd_in (suc n) a (suc b) = gcd_in n (suc b) (a % suc b)

-- The greatest common divisor: the remainder falls with each step, so that one step more than b is enough.
unfoldable pub gcd : ℕ → ℕ → ℕ
gcd a b = gcd_in (suc b) a b

-- The least common multiple of two numbers.
unfoldable pub lcm : ℕ → ℕ → ℕ
lcm a b = a / gcd a b * b

-- The least common multiple of a number and of all in a list.
abbrev pub lcm_from : ℕ → List ℕ → ℕ
lcm_from f [] = f
lcm_from f (p ∷ ps) = lcm_from (lcm f p) ps

-- The least common multiple of all numbers in a list; of none it is 1.
abbrev pub least_common : List ℕ → ℕ
least_common ps = lcm_from 1 ps

-- Neither of two numbers is 0.
pub record BothPositive (a b : ℕ) : Type 0 where
  pub first : 1 ≤ a
  pub second : 1 ≤ b

-- No number of a list is 0.
abbrev pub AllPositive : List ℕ → Type 0
AllPositive ps = (p : ℕ) → Memᴰ p ps → 1 ≤ p
