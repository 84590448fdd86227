-- Laws of points as numbers: the order of numbers is who goes first, a limit tells the points up to a time, and a point is
-- read back from its number.
use Rattle.std.specs.Prelude.{◌+◌, ◌-◌, ◌*◌, ◌/◌, ◌≤◌, ◌≡◌, refl, Bool, true, false, ◌&&◌, ◌||◌, leb, ℤ, pos, ◌+ℤ◌, ◌≤ℤ◌, ◌<ℤ◌}
use Rattle.std.proofs.Common.{arith}
use Rattle.std.specs.Int.Signed.{le_z, lt_z}
use Rattle.seconds.specs.Ranges.{InFree}
use Rattle.seconds.specs.RangesLaws.{rest-small}
use Rattle.seconds.specs.Signed.{signed, up, dn, add_is, sub_is, abs_is, one-zero}
use Rattle.order.specs.Job.{Point}
use Rattle.order.proofs.Moves.{point-path}
use Rattle.profile.proofs.Rising.{Below}
use Rattle.profile.proofs.Closure.{PointWithin}
use Rattle.better.specs.InTurn.{goes_first}
use Rattle.codes.specs.Code.{since, per_second, most_light, code, lightness, point_of, limit_of, past_all}

-- The seconds since the earliest time are a difference.
pub since-is : {t : ℤ} → InFree t → since t + dn t ≡ up t + 100000
since-is {t} f = omega (signed, add_is t (pos 100000), abs_is (t +ℤ pos 100000))

pub since-few : {t : ℤ} → InFree t → since t ≤ 201000
since-few {t} f = omega (signed, since-is f, rest-small, one-zero t)

module _ {p : Point} (s : PointWithin p) where
  -- The weight is told,
  pub light-is : lightness (code p) ≡ most_light - p.weight
  light-is = omega (arith, s.weight)

  -- the number is one,
  pub code-least : pos 0 ≤ℤ code p
  code-least = omega signed

  pub code-most : code p <ℤ past_all
  code-most = omega (signed, since-few s.time)

  -- and the point is read back.
  pub point-back : point_of (code p) ≡ p
  point-back =
      let d : (since p.time * per_second + (most_light - p.weight)) / per_second ≡ since p.time = omega (arith, s.weight) in
      point-path
      (omega (signed, d, since-is s.time, sub_is (pos ((since p.time * per_second + (most_light - p.weight)) / per_second)) (pos 100000)))
      (omega (arith, light-is, s.weight))

-- The order of numbers is who goes first.
pub code-order : {p q : Point} → PointWithin p → PointWithin q → le_z (code p) (code q) ≡ goes_first p q
code-order {p} {q} s t = go (lt_z p.time q.time) (le_z p.time q.time) (leb q.weight p.weight) refl refl refl
  where
    go : (a b c : Bool) → lt_z p.time q.time ≡ a → le_z p.time q.time ≡ b → leb q.weight p.weight ≡ c
        → le_z (code p) (code q) ≡ (a || (b && c))
    go true b c e f g = omega (signed, since-is s.time, since-is t.time)
    go false true true e f g = omega (signed, since-is s.time, since-is t.time, s.weight, t.weight)
    go false true false e f g = omega (signed, since-is s.time, since-is t.time, s.weight, t.weight)
    go false false c e f g = omega (signed, since-is s.time, since-is t.time)

-- A point below another has the smaller number.
pub code_below : {p q : Point} → PointWithin p → PointWithin q → Below p q → code p <ℤ code q
code_below {p} {q} s t b = omega (signed, since-is s.time, since-is t.time, s.weight, t.weight)

-- A number is at most the limit of a time exactly when its point is no later.
module _ {t : ℤ} (f : InFree t) {p : Point} (s : PointWithin p) where
  pub limit-early : code p ≤ℤ limit_of t → p.time ≤ℤ t
  limit-early h = omega (signed, since-is f, since-is s.time)

  pub limit-late : limit_of t <ℤ code p → t <ℤ p.time
  limit-late h = omega (signed, since-is f, since-is s.time, s.weight)
