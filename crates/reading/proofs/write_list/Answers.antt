-- `reading::write_list` meets its contract: the first k points are written. Assumes nothing.
use Rattle.std.proofs.Common.{◌≡◌, ◌+◌, ◌*◌, ℤ, pos, ◌≤ℤ◌, set, ap, ◌∙◌, arith, rules, w32, to_z, of_z, to_z-of_z}
use mir.Val.{SFits}
use mir.Facts.{to_z_pos}
use Rattle.seconds.specs.Signed.{signed}
use Rattle.codes.specs.Code.{point_of, at0}
use Rattle.reading.specs.ReadingLaws.{number-there}
use Rattle.reading.specs.Listing.{listing-more, listing-all}
use Rattle.reading.proofs.write_list.Goals as goal
use Rattle.reading.proofs.write_list.Goals.{In-loop-k}

-- The number that a turn reads is a point's.
module _ (c : In-loop-k) where
  abbrev number : ℤ
  number = at0 c.args.work.now (c.args.list.place + c.loop-k.k)

  there : pos 0 ≤ℤ number
  there = number-there c.args.list.count c.requires.held c.loop-k.k (omega (arith, c.loop-k-test.true))

pub time_in-requires : goal.time_in-requires
time_in-requires c =
    let f : SFits w32 (at0 c.args.work.now (c.args.list.place + c.loop-k.k)) = search rules in
    rw (to_z-of_z f) (there (goal.at.time_in-requires c).In-loop-k)

pub weight_in-requires : goal.weight_in-requires
weight_in-requires c =
    let f : SFits w32 (at0 c.args.work.now (c.args.list.place + c.loop-k.k)) = search rules in
    rw (to_z-of_z f) (there (goal.at.weight_in-requires c).In-loop-k)

pub overflow_cast-weight_in : goal.overflow_cast-weight_in
overflow_cast-weight_in c = omega (signed, c.weight_in.ensures)

pub put_point-requires : goal.put_point-requires
put_point-requires c = omega (arith, c.requires.places, c.loop-k.invariant.writing.size)

-- The turn writes the time and the weight of that point.
pub loop-k-preserved : goal.loop-k-preserved
loop-k-preserved c =
    let l = c.loop-k in
    let p = point_of (number (goal.at.loop-k-preserved c).In-loop-k) in
    let f : SFits w32 c.time_in.result = search rules in
    let n : SFits w32 (at0 c.args.work.now (c.args.list.place + c.loop-k.k)) = search rules in
    let x = to_z w32 (of_z w32 c.time_in.result) in
    let y = to_z w32 c.weight_in.result in
    let time : x ≡ p.time = to_z-of_z f ∙ c.time_in.ensures ∙ ap (λ (z : ℤ). (point_of z).time) (to_z-of_z n) in
    let heavy : c.weight_in.result ≡ p.weight =
    c.weight_in.ensures ∙ ap (λ (z : ℤ). (point_of z).weight) (to_z-of_z n) in
    let weight : y ≡ pos p.weight = to_z_pos w32 (omega signed) ∙ ap pos heavy in
    let put : c.put_point.new.out ≡ set (set l.out (2 * l.k) x) (2 * l.k + 1) y = c.put_point.ensures in
    rw put (listing-more l.invariant (omega (arith, c.loop-k-test.true)) c.requires.places x y time weight)

pub returns : goal.returns
returns c = listing-all c.loop-k.invariant (omega arith) c.requires.places
