-- The greatest common divisor and the least common multiple of a few numbers, as computed facts.
use Rattle.std.specs.Prelude.{◌≡◌, refl, [], ◌∷◌}
use Rattle.multiples.specs.Multiples.{gcd_in, gcd, lcm, least_common}

pub gcd-of-0-and-5 : gcd 0 5 ≡ 5
unfolding gcd_in gcd
gcd-of-0-and-5 = refl

pub gcd-of-5-and-0 : gcd 5 0 ≡ 5
unfolding gcd_in gcd
gcd-of-5-and-0 = refl

pub of-4-and-6 : lcm 4 6 ≡ 12
unfolding gcd_in gcd lcm
of-4-and-6 = refl

-- 24 minutes and an hour, in seconds.
pub of-1440-and-3600 : lcm 1440 3600 ≡ 7200
unfolding gcd_in gcd lcm
of-1440-and-3600 = refl

pub of_none : least_common [] ≡ 1
of_none = refl

pub of_three : least_common (600 ∷ 900 ∷ 1440 ∷ []) ≡ 7200
unfolding gcd_in gcd lcm
of_three = refl
