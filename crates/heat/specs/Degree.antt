-- What the tests on a degree say of the answer.
use Rattle.std.specs.Prelude.{◌≡◌, true, false, ℕ, ◌+◌, ◌*◌, ℤ, pos, negsuc, ◌-ℤ◌, nat_abs, ◌≤ℤ◌, ◌<ℤ◌, Ok, Err}
use Rattle.std.specs.Int.Signed.{le_z, lt_z}
use Rattle.seconds.specs.Signed.{signed}
use Rattle.refusals.specs.declared.Reason.TheVariants.{CellTooCold}
use Rattle.heat.specs.Heat.{degree_of, heat_at}
use Rattle.heat.specs.Answer.{heating_of}

-- Too cold below -30.
pub heating-cold : (b : ℕ) → degree_of b <ℤ negsuc 29 → heating_of b ≡ Err CellTooCold
heating-cold b h = let e : lt_z (degree_of b) (negsuc 29) ≡ true = omega signed in rw e

-- Else as long as the two slopes say.
pub heating-else : (b : ℕ) → negsuc 29 ≤ℤ degree_of b → heating_of b ≡ Ok (heat_at (degree_of b))
heating-else b h = let e : lt_z (degree_of b) (negsuc 29) ≡ false = omega signed in rw e

-- None from 10 up,
pub heat-none : (z : ℤ) → pos 10 ≤ℤ z → heat_at z ≡ 0
heat-none z h = let e : le_z (pos 10) z ≡ true = omega signed in rw e

-- 45 seconds a degree from there down to -10,
pub heat-gentle : (z : ℤ) → z <ℤ pos 10 → negsuc 9 ≤ℤ z → heat_at z ≡ 45 * nat_abs (pos 10 -ℤ z)
heat-gentle z warm h =
    let e : le_z (pos 10) z ≡ false = omega signed in
    let f : le_z (negsuc 9) z ≡ true = omega signed in
    rw (e, f)

-- and 900 and 120 a degree below that.
pub heat-steep : (z : ℤ) → z <ℤ negsuc 9 → heat_at z ≡ 900 + 120 * nat_abs (negsuc 9 -ℤ z)
heat-steep z h =
    let e : le_z (pos 10) z ≡ false = omega signed in
    let f : le_z (negsuc 9) z ≡ false = omega signed in
    rw (e, f)
