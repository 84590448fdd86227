-- `fields::time_bits` meets its contract: a time's bits are its value, with 262,144 added below 0.
-- Assumes nothing.
use mathlib.Core.Path.{◌≡◌, ◌∙◌, ap}
use lib.IntN.{ℤ, pos, ◌+ℤ◌}
use mir.Syntax.{w32}
use mir.Val.{SFits, to_z, of_z}
use mir.Facts.{to_z-of_z}
use Rattle.seconds.specs.Signed.{signed, add_is, abs_is, one-zero}
use Rattle.fields.specs.Bits.{bits_below, bits-from}
use Rattle.fields.proofs.time_bits.Goals as goal
use Rattle.fields.proofs.time_bits.Goals.{Then-time-lt0}

-- The sum, read through its bits.
sum_fits : (c : Then-time-lt0) → SFits w32 (to_z w32 (of_z w32 c.args.time) +ℤ pos 262144)
sum_fits c = omega (signed, c.requires)

sum : (c : Then-time-lt0) → to_z w32 (of_z w32 (to_z w32 (of_z w32 c.args.time) +ℤ pos 262144)) ≡ c.args.time +ℤ pos 262144
sum c = to_z-of_z (sum_fits c) ∙ ap (λ (z : ℤ). z +ℤ pos 262144) (to_z-of_z c.ranges.time)

pub overflow_add-result : goal.overflow_add-result
overflow_add-result c = sum_fits c

pub overflow_cast-result : goal.overflow_cast-result
overflow_cast-result c =
    let t = c.args.time in
    rw (sum c) (omega (signed, c.requires, add_is t (pos 262144), abs_is (t +ℤ pos 262144), one-zero (t +ℤ pos 262144)))

pub returns-then-time-lt0 : goal.returns-then-time-lt0
returns-then-time-lt0 c = rw (sum c) (bits_below c.args.time (omega (signed, c.requires)) (omega signed))

pub overflow_cast-result-2 : goal.overflow_cast-result-2
overflow_cast-result-2 c = rw (to_z-of_z c.ranges.time) (omega (signed, abs_is c.args.time, c.requires))

pub returns : goal.returns
returns c = rw (to_z-of_z c.ranges.time) (bits-from c.args.time (omega signed))
