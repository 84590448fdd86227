-- A few fractions in lowest terms, as computed facts.
use Rattle.std.specs.Prelude.{◌≡◌, refl}
use Rattle.multiples.specs.Multiples.{gcd_in, gcd}
use Rattle.fractions.specs.Fractions.{lowest_of}

pub of-450-and-1058 : lowest_of 450 1058 ≡ record { upper = 225; lower = 529 }
unfolding gcd_in gcd lowest_of
of-450-and-1058 = refl

pub of-6-and-4 : lowest_of 6 4 ≡ record { upper = 3; lower = 2 }
unfolding gcd_in gcd lowest_of
of-6-and-4 = refl

-- None of some, and all of some.
pub of-0-and-7 : lowest_of 0 7 ≡ record { upper = 0; lower = 1 }
unfolding gcd_in gcd lowest_of
of-0-and-7 = refl

pub of-7-and-7 : lowest_of 7 7 ≡ record { upper = 1; lower = 1 }
unfolding gcd_in gcd lowest_of
of-7-and-7 = refl
