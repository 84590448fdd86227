-- `profiles::valid` meets its contract. The loop's invariant: from an even place on, the numbers that are left decide the
-- answer, judged after the time and the weight of the last point passed. Assumes nothing.
use Rattle.std.proofs.Common.{ℕ, ◌+◌, ◌*◌, ◌<◌, ◌≤◌, ◌≡◌, Bool, true, false, sym, ap, ◌∙◌, arith, rules, List, length, ℤ, pos, ◌<ℤ◌, to_z, to_z-of_z, w32}
use Rattle.std.specs.Prelude.{◌&&◌, drop}
use Rattle.std.specs.Int.Signed.{le_z}
use mir.Val.{SFits}
use Rattle.seconds.specs.Limits.{rest, latest_free, most_weight}
use Rattle.seconds.specs.Signed.{signed}
use Rattle.profiles.specs.Numbers.{holds_profile}
use Rattle.profiles.specs.Places.{time_at, weight_at}
use Rattle.profiles.specs.OnePass.{passes, holds-long, holds-odd, holds-few, passes_on, passes-end}
use Rattle.profiles.proofs.valid.Goals as goal
use Rattle.profiles.proofs.valid.Goals.{then-n-gt-MOST_NUMBERS-via-then-n-gt-MOST_NUMBERS, then-n-gt-MOST_NUMBERS-via-else-n-gt-MOST_NUMBERS+then-n-ne0}

pub returns-then-n-gt-MOST_NUMBERS : goal.returns-then-n-gt-MOST_NUMBERS
returns-then-n-gt-MOST_NUMBERS c = elim c.then-n-gt-MOST_NUMBERS.branch [
  | then-n-gt-MOST_NUMBERS-via-then-n-gt-MOST_NUMBERS w ↦ sym (holds-long c.args.numbers.now w.if-n-gt-MOST_NUMBERS.true)
  | then-n-gt-MOST_NUMBERS-via-else-n-gt-MOST_NUMBERS+then-n-ne0 w ↦ sym (holds-odd c.args.numbers.now w.if-n-ne0.true)
]

pub loop-point-init : goal.loop-point-init
loop-point-init c = holds-few c.args.numbers.now c.if-n-gt-MOST_NUMBERS.false

pub loop-point-preserved : goal.loop-point-preserved
loop-point-preserved c =
    let ns : List ℤ = c.args.numbers.now in
    let i : ℕ = 2 * c.loop-point.point in
    let more : 2 * c.loop-point.point + 1 < length ns = omega arith in
    let t-fits : SFits w32 (time_at ns i) = search rules in
    let w-fits : SFits w32 (weight_at ns i) = search rules in
    let later : to_z w32 c.loop-point.time-bits <ℤ time_at ns i = omega (signed, t-fits) in
    let heavier : to_z w32 c.loop-point.weight-bits <ℤ weight_at ns i = omega (signed, w-fits) in
    let next : 2 * (c.loop-point.point + 1) ≡ 2 * c.loop-point.point + 2 = omega arith in
    rw (to_z-of_z t-fits, to_z-of_z w-fits, next)
    (c.loop-point.invariant ∙ passes_on ns i more (to_z w32 c.loop-point.time-bits) (to_z w32 c.loop-point.weight-bits) later heavier)

-- At the end the last point is held to the ranges, by its time first.
ends : (ns : List ℤ) (i : ℕ) (t w : ℤ) → holds_profile ns ≡ passes t w (drop i ns) → length ns ≤ i
    → (b : Bool) → le_z t latest_free ≡ b → (b && le_z w (pos most_weight)) ≡ holds_profile ns
ends ns i t w h l b e = sym (h ∙ passes-end ns i l t w ∙ ap (λ (x : Bool). x && le_z w (pos most_weight)) e)

-- The code's last second is tied to the rest here.
pub returns-then-time-le-LATEST : goal.returns-then-time-le-LATEST
unfolding rest
returns-then-time-le-LATEST c =
    ends c.args.numbers.now (2 * c.loop-point.point) (to_z w32 c.loop-point.time-bits) (to_z w32 c.loop-point.weight-bits) c.loop-point.invariant
    (omega arith) true c.if-time-le-LATEST.true

pub returns-else-time-le-LATEST : goal.returns-else-time-le-LATEST
unfolding rest
returns-else-time-le-LATEST c =
    c.if-time-le-LATEST.false
    ∙ ends c.args.numbers.now (2 * c.loop-point.point) (to_z w32 c.loop-point.time-bits) (to_z w32 c.loop-point.weight-bits) c.loop-point.invariant
    (omega arith) false c.if-time-le-LATEST.false
