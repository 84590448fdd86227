-- `reading::last_by` meets its contract: the number before the place that the search finds is the last point's by the time asked
-- for. Assumes nothing.
use Rattle.std.proofs.Common.{◌≡◌, ◌+◌, ◌-◌, ◌<◌, sym, ap, ◌∙◌, arith, ℤ, pos, ◌≤ℤ◌, ◌<ℤ◌, rules, w32, to_z, of_z, to_z-of_z}
use mir.Val.{SFits}
use Rattle.seconds.specs.Limits.{rest, earliest}
use Rattle.seconds.specs.Signed.{signed}
use Rattle.codes.specs.Code.{limit_of, at0, point_of}
use Rattle.codes.specs.Held.{After}
use Rattle.reading.specs.Reading.{found}
use Rattle.reading.specs.LastBy.{asked, asked-free, none_before, none_found, found_number, last_found}
use Rattle.reading.proofs.last_by.Goals as goal
use Rattle.reading.proofs.last_by.Goals.{After-after-end, After-lesser, Else-end-place}

pub returns-then-by-lt-EARLIEST : goal.returns-then-by-lt-EARLIEST
returns-then-by-lt-EARLIEST c =
    let f = c.ranges in
    let soon : c.args.by <ℤ earliest = omega (signed, c.if-by-lt-EARLIEST.true) in
    sym (ap found (none_before c.requires c.args.by soon))

-- The time is not before all points, and the search asks for the earlier of it and the last second of all: the code's last second is
-- tied to the rest here.
module _ (c : After-lesser) where
  late : earliest ≤ℤ c.args.by
  late = let f = c.ranges in omega (signed, c.if-by-lt-EARLIEST.false)

  is-asked : to_z w32 (of_z w32 c.lesser.result) ≡ asked c.args.by
  unfolding rest
  is-asked =
      let f : SFits w32 c.lesser.result = search rules in
      let least : c.lesser.result ≡ asked (to_z w32 (of_z w32 c.args.by)) = c.lesser.ensures in
      to_z-of_z f ∙ least ∙ ap asked (to_z-of_z c.ranges.by)

pub limit_by-requires : goal.limit_by-requires
limit_by-requires c =
    let l = (goal.at.limit_by-requires c).After-lesser in
    rw (is-asked l) (asked-free (late l))

-- The search found the place behind the points up to the time asked for.
searched : (c : After-after-end) → After c.args.work.now c.args.list.place (c.args.list.place + c.args.list.count) (limit_of (asked c.args.by)) c.after-end.result
searched c =
    let l = (goal.at.After-after-end c).After-lesser in
    let g : SFits w32 c.limit_by.result = search rules in
    let limit = to_z-of_z g ∙ c.limit_by.ensures ∙ ap limit_of (is-asked l) in
    rw (c.end.ensures, limit) at c.after-end.ensures

pub returns-then-end-place : goal.returns-then-end-place
returns-then-end-place c =
    let a = (goal.at.returns-then-end-place c).After-after-end in
    let l = (goal.at.After-after-end a).After-lesser in
    sym (ap found (none_found c.requires (late l) (searched a) (omega arith)))

-- The number that is read is a point's.
module _ (c : Else-end-place) where
  abbrev a : After-after-end
  a = (goal.at.Else-end-place c).After-after-end

  abbrev l : After-lesser
  l = (goal.at.After-after-end a).After-lesser

  abbrev number : ℤ
  number = at0 c.args.work.now (c.after-end.result - 1)

  more : c.args.list.place < c.after-end.result
  more = omega (arith, (searched a).low)

  there : pos 0 ≤ℤ number
  there = found_number c.requires (late l) (searched a) more

pub weight_in-requires : goal.weight_in-requires
weight_in-requires c =
    let f : SFits w32 (at0 c.args.work.now (c.after-end.result - 1)) = search rules in
    rw (to_z-of_z f) (there (goal.at.weight_in-requires c).Else-end-place)

pub time_in-requires : goal.time_in-requires
time_in-requires c =
    let f : SFits w32 (at0 c.args.work.now (c.after-end.result - 1)) = search rules in
    rw (to_z-of_z f) (there (goal.at.time_in-requires c).Else-end-place)

pub returns : goal.returns
returns c =
    let e = (goal.at.returns c).Else-end-place in
    let t : SFits w32 c.time_in.result = search rules in
    let n : SFits w32 (at0 c.args.work.now (c.after-end.result - 1)) = search rules in
    let weight = c.weight_in.ensures ∙ ap (λ (z : ℤ). (point_of z).weight) (to_z-of_z n) in
    let time = to_z-of_z t ∙ c.time_in.ensures ∙ ap (λ (z : ℤ). (point_of z).time) (to_z-of_z n) in
    rw (weight, time) (sym (ap found (last_found c.requires (late (l e)) (searched (a e)) (more e))))
