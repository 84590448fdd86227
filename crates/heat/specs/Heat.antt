-- Heat-up lengths: the degree that a sampler's byte means, and the seconds of heating by the two slopes. Definitions only.
use Rattle.std.specs.Prelude.{ℕ, ◌+◌, ◌*◌, cond, ℤ, pos, negsuc, ◌-ℤ◌, nat_abs}
use Rattle.std.proofs.Math.Option.{Option, none, some}
use Rattle.std.specs.Int.Signed.{le_z, lt_z}
use Rattle.seconds.specs.Limits.{coldest}
use Rattle.seconds.specs.Twos.{bits_to}

-- The degree is the byte in two's complement: a byte above 127 is its value less 256.
abbrev pub degree_of : ℕ → ℤ
degree_of b = bits_to 8 b

-- 45 seconds for each degree below 10 down to -10, then 900 and 120 for each degree below -10; from 10 up none.
abbrev pub heat_at : ℤ → ℕ
heat_at t =
    cond (le_z (pos 10) t) 0
    (cond (le_z (negsuc 9) t) (45 * nat_abs (pos 10 -ℤ t)) (900 + 120 * nat_abs (negsuc 9 -ℤ t)))

-- The length for a byte; none, refused, below -30 degrees.
abbrev pub heat_up : ℕ → Option ℕ
heat_up b = cond (lt_z (degree_of b) coldest) none (some (heat_at (degree_of b)))
