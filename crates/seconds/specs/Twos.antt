-- Two's complement at any width: half of the bits say the numbers from zero on, the other half the numbers below zero.
-- Definitions only.
use Rattle.std.specs.Prelude.{ℕ, zero, suc, ◌-◌, ◌^◌, cond, ltb, ℤ, pos, negsuc, ◌-ℤ◌}

-- Half of a width's power, where the numbers below zero begin.
abbrev pub half : ℕ → ℕ
half zero = 0
half (suc h) = 2 ^ h

-- The number that bits of a width say: below half the power the bits themselves, else the bits less the power.
unfoldable pub bits_to : ℕ → ℕ → ℤ
bits_to width n = cond (ltb n (half width)) (pos n) (pos n -ℤ pos (2 ^ width))

-- The bits of a number at a width.
unfoldable pub to_bits : ℕ → ℤ → ℕ
to_bits width (pos n) = n
to_bits width (negsuc n) = 2 ^ width - suc n
