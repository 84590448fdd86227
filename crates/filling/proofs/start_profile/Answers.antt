-- `filling::start_profile` meets its contract: the points before a place of the numbers stand. Assumes nothing.
use borrow.Author.Rules.{rules}
use mir.Facts.{to_z-of_z}
use Prim.Native.Nat.{◌+◌, ◌*◌, ◌/◌, ◌<◌}
use mathlib.Core.Path.{◌≡◌, sym, ap, ap₂, ◌∙◌}
use native.Mathlib.Omega.{arith}
use lib.IntN.{pos, nat_abs}
use lib.ListN.{length}
use mir.Syntax.{w32}
use mir.Val.{SFits, to_z, of_z}
use Rattle.profile.proofs.Closure.{PointWithin}
use Rattle.profiles.specs.Places.{time_at, weight_at, points_of, point, NextPoint}
use Rattle.profiles.specs.PlacesLaws.{at-start, next-point}
use Rattle.profiles.specs.NumbersLaws.{alternating-length, held}
use Rattle.codes.specs.Code.{code_of}
use Rattle.filling.specs.BeginLaws.{begin-none, next-room, next-within, begin-more, begin-all, weight-read}
use Rattle.filling.proofs.start_profile.Goals as goal
use Rattle.filling.proofs.start_profile.Goals.{In-loop-k}

pub loop-k-init : goal.loop-k-init
loop-k-init c = record { place = at-start _ c.requires.valid; begun = begin-none _ _ }

-- The point at the place: it is there, there is room for it, and it is within the limits.
module _ (c : In-loop-k) where
  there : 2 * c.loop-k.k < length c.args.numbers.now
  there = omega (arith, c.loop-k-test.true)

  next : NextPoint c.args.numbers.now (2 * c.loop-k.k)
  next = next-point _ _ c.loop-k.invariant.place there

  within : PointWithin (point (time_at c.args.numbers.now (2 * c.loop-k.k)) (weight_at c.args.numbers.now (2 * c.loop-k.k)))
  within = next-within c.requires c.loop-k.invariant.place there c.loop-k.invariant.begun

  weight-back : to_z w32 (of_z w32 (weight_at c.args.numbers.now (2 * c.loop-k.k)))
      ≡ pos (nat_abs (weight_at c.args.numbers.now (2 * c.loop-k.k)))
  weight-back = weight-read _ _ (sym next.weight) within.weight

pub overflow_cast-weight : goal.overflow_cast-weight
overflow_cast-weight c =
    let turn : In-loop-k = (goal.at.overflow_cast-weight c).In-loop-k in
    rw (weight-back turn) (tt, omega (arith, (within turn).weight))

pub code_of-requires : goal.code_of-requires
code_of-requires c =
    let turn : In-loop-k = (goal.at.code_of-requires c).In-loop-k in
    let f : SFits w32 (time_at c.args.numbers.now (2 * c.loop-k.k)) = search rules in
    rw (to_z-of_z f, weight-back turn) ((within turn).time, (within turn).weight)

pub bounds-work-k : goal.bounds-work-k
bounds-work-k c =
    let turn : In-loop-k = (goal.at.bounds-work-k c).In-loop-k in
    next-room c.requires c.loop-k.invariant.place (there turn) c.loop-k.invariant.begun

pub loop-k-preserved : goal.loop-k-preserved
loop-k-preserved c =
    let turn : In-loop-k = (goal.at.loop-k-preserved c).In-loop-k in
    let ns = c.args.numbers.now in
    let i = 2 * c.loop-k.k in
    let further : 2 * (c.loop-k.k + 1) ≡ i + 2 = omega arith in
    let f : SFits w32 (time_at ns i) = search rules in
    let g : SFits w32 c.code_of.result = search rules in
    let is : to_z w32 (of_z w32 c.code_of.result) ≡ code_of (time_at ns i) (nat_abs (weight_at ns i)) =
    to_z-of_z g ∙ c.code_of.ensures ∙ ap₂ code_of (to_z-of_z f) (ap nat_abs (weight-back turn)) in
    record {
      place = rw further (next turn).further;
      begun = rw (further, is) (begin-more c.requires c.loop-k.invariant.place (there turn) c.loop-k.invariant.begun);
    }

pub returns : goal.returns
returns c =
    let ns = c.args.numbers.now in
    let even : length ns ≡ 2 * length (points_of ns) = omega (arith, ap length (held ns c.requires.valid).numbers, alternating-length (points_of ns)) in
    let all : c.loop-k.k ≡ length ns / 2 = omega (arith, c.loop-k-test.false) in
    rw all at (begin-all c.loop-k.invariant.begun (omega arith))
