-- `pushing::push` meets its contract. The loop's invariant is `Pushing`: the numbers from `i` on are past the limit, and stand
-- moved on from `p` to the top. Assumes nothing.
use Rattle.std.proofs.Common.{◌≡◌, ◌-◌, false, true, ℤ, ◌≤ℤ◌, ◌<ℤ◌, ◌∙◌, rules, w32, to_z, of_z}
use Rattle.std.proofs.Common.{to_z-of_z}
use Rattle.std.specs.Int.Signed.{le_z}
use mir.Val.{SFits}
use Rattle.seconds.specs.Signed.{signed}
use Rattle.codes.specs.Code.{at0, limit_of}
use Rattle.pushing.specs.declared.Rate.{Rate}
use Rattle.pushing.specs.Pushes.{Coded, Delta, RateFits, delta_of}
use Rattle.pushing.specs.Numbers.{delta-fits}
use Rattle.pushing.specs.Places.{pushing-coded}
use Rattle.pushing.specs.Places.{pushing-more, pushing-none, pushing-waited}
use Rattle.pushing.specs.PushLaws.{pushes}
use Rattle.pushing.proofs.push.Goals as goal
use Rattle.pushing.proofs.push.Goals.{else-loop-i-test, then-loop-i-test+then-code-limit}

-- A number in range is read as it is,
coded-back : {z : ℤ} → Coded z → to_z w32 (of_z w32 z) ≡ z
coded-back {z} g =
    let a = g.low in
    let b = g.high in
    let f : SFits w32 z = omega signed in
    to_z-of_z f

-- and so is what a rate adds, which is in range.
delta-back : {r : Rate} {z : ℤ} → RateFits r → z ≡ delta_of r → to_z w32 (of_z w32 z) ≡ delta_of r
delta-back {r} f e =
    let d = delta-fits f in
    let g : SFits w32 (delta_of r) = omega signed in
    rw e (to_z-of_z g)

delta-in : {r : Rate} {z : ℤ} → RateFits r → z ≡ delta_of r → Delta (to_z w32 (of_z w32 z))
delta-in f e = rw (delta-back f e) (delta-fits f)

pub waits-requires : goal.waits-requires
waits-requires c =
    let coded = pushing-coded c.requires c.loop-i.invariant c.loop-i-test.true in
    (rw (to_z-of_z c.ranges.ready) c.requires.starts, delta-in c.requires.fits c.delta_of-delta.ensures, rw (coded-back coded) coded)

pub later-requires : goal.later-requires
later-requires c =
    let coded = pushing-coded c.requires c.loop-i.invariant c.loop-i-test.true in
    (rw (coded-back coded) coded, delta-in c.requires.fits c.delta_of-delta.ensures)

pub loop-i-preserved : goal.loop-i-preserved
loop-i-preserved c =
    let r = coded-back (pushing-coded c.requires c.loop-i.invariant c.loop-i-test.true) in
    let test : le_z (at0 c.args.work.now (c.loop-i.i - 1)) (to_z w32 (of_z w32 c.limit_by-limit.result)) ≡ false = rw r at c.if-code-limit.false in
    let late : to_z w32 (of_z w32 c.limit_by-limit.result) <ℤ at0 c.args.work.now (c.loop-i.i - 1) = omega signed in
    let f : SFits w32 c.later.result = search rules in
    pushing-more c.requires c.loop-i.invariant _ c.loop-i-test.true late (to_z-of_z f ∙ rw r at c.later.ensures)

pub returns : goal.returns
returns c =
    let f : SFits w32 c.limit_by-limit.result = search rules in
    let limit-is : to_z w32 (of_z w32 c.limit_by-limit.result) ≡ limit_of c.args.ready = to_z-of_z f ∙ rw (to_z-of_z c.ranges.ready) at c.limit_by-limit.ensures in
    let delta-is = delta-back c.requires.fits c.delta_of-delta.ensures in
    elim c.loop-i-test.branch [
      | then-loop-i-test+then-code-limit w ↦
          let r = coded-back (pushing-coded c.requires c.loop-i.invariant w.loop-i-test.true) in
          let test : le_z (at0 c.args.work.now (c.loop-i.i - 1)) (to_z w32 (of_z w32 c.limit_by-limit.result)) ≡ true = rw r at w.if-code-limit.true in
          let soon : at0 c.args.work.now (c.loop-i.i - 1) ≤ℤ to_z w32 (of_z w32 c.limit_by-limit.result) = omega signed in
          let f : SFits w32 w.waits.result = search rules in
          let is = to_z-of_z f ∙ rw (to_z-of_z c.ranges.ready, r) at w.waits.ensures in
          pushes c.requires limit-is delta-is (pushing-waited c.requires c.loop-i.invariant w.pushed-is w.p-is w.loop-i-test.true soon is)
      | else-loop-i-test w ↦
          pushes c.requires limit-is delta-is (pushing-none c.requires c.loop-i.invariant w.pushed-is w.p-is w.loop-i-test.false)
    ]
