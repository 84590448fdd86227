-- `profiles::count_by` meets its contract. The loop's invariant: what is counted is what was passed and what is counted of
-- the rest. Assumes nothing.
use Rattle.std.proofs.Common.{ℕ, ◌+◌, ◌*◌, ◌≡◌, arith, rules, List, ℤ, ◌<ℤ◌, ◌≤ℤ◌, to_z-of_z, w32}
use Rattle.std.specs.Prelude.{drop}
use mir.Val.{SFits}
use Rattle.seconds.specs.Signed.{signed}
use Rattle.profiles.specs.Places.{time_at}
use Rattle.profiles.specs.ByTime.{count_by}
use Rattle.profiles.specs.ByTimeLaws.{count-on, count-stops, count-ends}
use Rattle.profiles.proofs.count_by.Goals as goal

pub returns-then-t-numbers : goal.returns-then-t-numbers
returns-then-t-numbers c =
    let ns : List ℤ = c.args.numbers.now in
    let i : ℕ = (2 * c.loop-point.point) in
    let t : ℤ = c.args.t in
    let fits : SFits w32 (time_at ns i) = search rules in
    let later : t <ℤ time_at ns i = omega (signed, fits, c.ranges.t) in
    let counted : count_by t ns ≡ i + count_by t (drop i ns) = rw (to_z-of_z c.ranges.t) at c.loop-point.invariant in
    omega (arith, counted, count-stops t ns i (omega arith) later)

pub loop-point-preserved : goal.loop-point-preserved
loop-point-preserved c =
    let ns : List ℤ = c.args.numbers.now in
    let i : ℕ = (2 * c.loop-point.point) in
    let t : ℤ = c.args.t in
    let fits : SFits w32 (time_at ns i) = search rules in
    let by : time_at ns i ≤ℤ t = omega (signed, fits, c.ranges.t) in
    let counted : count_by t ns ≡ i + count_by t (drop i ns) = rw (to_z-of_z c.ranges.t) at c.loop-point.invariant in
    let next : 2 * (c.loop-point.point + 1) ≡ 2 * c.loop-point.point + 2 = omega arith in
    rw (to_z-of_z c.ranges.t, next) (omega (arith, counted, count-on t ns i (omega arith) by))

pub returns : goal.returns
returns c =
    let ns : List ℤ = c.args.numbers.now in
    let i : ℕ = (2 * c.loop-point.point) in
    let t : ℤ = c.args.t in
    let counted : count_by t ns ≡ i + count_by t (drop i ns) = rw (to_z-of_z c.ranges.t) at c.loop-point.invariant in
    omega (arith, counted, count-ends t ns i (omega arith))
