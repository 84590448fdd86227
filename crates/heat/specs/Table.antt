-- The table that heat-up read before the two slopes stood in the code, and the answer that the call gave with it: one length
-- for each whole degree from -30 to 9, at the degree plus 30. Definitions only.
use Rattle.std.specs.Prelude.{ℕ, cond, List, [], ◌∷◌, ℤ, pos, ◌+ℤ◌, nat_abs, get_or, Result, Ok, Err}
use Rattle.std.specs.Int.Signed.{lt_z}
use Rattle.seconds.specs.Limits.{coldest}
use Rattle.refusals.specs.declared.Reason.{Reason}
use Rattle.refusals.specs.declared.Reason.TheVariants.{CellTooCold}
use Rattle.heat.specs.Heat.{degree_of}

abbrev pub lengths : List ℕ
lengths =
    3300 ∷ 3180 ∷ 3060 ∷ 2940 ∷ 2820 ∷ 2700 ∷ 2580 ∷ 2460 ∷ 2340 ∷ 2220 ∷ 2100 ∷ 1980 ∷ 1860 ∷ 1740 ∷ 1620 ∷ 1500
    ∷ 1380 ∷ 1260 ∷ 1140 ∷ 1020 ∷ 900 ∷ 855 ∷ 810 ∷ 765 ∷ 720 ∷ 675 ∷ 630 ∷ 585 ∷ 540 ∷ 495 ∷ 450 ∷ 405 ∷ 360 ∷ 315
    ∷ 270 ∷ 225 ∷ 180 ∷ 135 ∷ 90 ∷ 45 ∷ []

-- Above 9 degrees the table was not read: no heating.
abbrev pub tabled_at : ℤ → ℕ
tabled_at t = cond (lt_z (pos 9) t) 0 (get_or lengths (nat_abs (t +ℤ pos 30)) 0)

-- The answer for a byte: refused below -30 degrees.
abbrev pub tabled : ℕ → Result ℕ Reason
tabled b = cond (lt_z (degree_of b) coldest) (Err CellTooCold) (Ok (tabled_at (degree_of b)))
