-- `planner::plan_by_lists` meets its contract: the last point of the last list is the plan's end, if there is one, and the walk
-- back from there gives its mask. Assumes nothing.
use mathlib.Core.Path.{◌≡◌, sym, ap, subst, ◌∙◌}
use Prim.Native.Nat.{ℕ}
use mathlib.Core.List.{List, [], ◌∷◌}
use lib.IntN.{ℤ}
use lib.ListN.{length}
use mir.Syntax.{w32}
use mir.Val.{SFits, to_z, of_z}
use mir.Facts.{to_z-of_z}
use borrow.Author.Rules.{rules}
use Rattle.std.proofs.Common.{Some, None}
use Rattle.seconds.specs.Limits.{rest, latest_free}
use Rattle.seconds.specs.RangesLaws.{time-fits}
use Rattle.order.specs.Job.{Point}
use Rattle.profile.specs.Profile.{lookup, start_point}
use Rattle.codes.specs.Code.{points_at}
use Rattle.codes.specs.Held.{Held}
use Rattle.reading.specs.declared.Found.{Found}
use Rattle.reading.specs.Reading.{found}
use Rattle.filling.specs.Lists.{noted, CanFillLists, Filled}
use mathlib.Core.Option.{some}
use Rattle.packed.specs.Packed.{count_of, t0_of, jobs_in}
use Rattle.packed.proofs.RefusalLaws.{header-fine}
use Rattle.walking.specs.Trail.{Walks, walk_mask}
use Rattle.planner.specs.PlanningLaws.{can-start, can-fill, last-stands, nothing-made, can-walk, can-make}
use Rattle.planner.proofs.plan_by_lists.Goals as goal
use Rattle.planner.proofs.plan_by_lists.Goals.{After-fill_lists-totals, After-last_by, After-start_at, After-walk-mask, In-Some, In-None, Start}

-- ---- the first list is started

-- The header's time, as the code reads it back.
t0-back : (s : Start) → to_z w32 (of_z w32 s.args.header.t0) ≡ s.args.header.t0
t0-back s =
    let p = s.requires.planning in
    let fits : SFits w32 s.args.header.t0 = rw p.read.t0 (time-fits p.order.header.timely) in
    to_z-of_z fits

pub start_at-requires : goal.start_at-requires
start_at-requires c = let s = (goal.at.start_at-requires c).Start in rw (t0-back s) (can-start s.requires)

pub records_in-records-requires : goal.records_in-records-requires
records_in-records-requires c = (header-fine c.args.bytes.now).1 c.requires.planning.order.header

module _ (c : After-start_at) where
  abbrev entry : Start
  entry = (goal.at.After-start_at c).Start

  -- The records are the order's.
  abbrev records : List ℕ
  records = c.records_in-records.result.bytes.now

  same : records ≡ entry.args.bytes.now
  same = c.records_in-records.ensures

  counted : c.records_in-records.result.count ≡ entry.args.header.count
  counted = c.records_in-records.result.stand.counted ∙ ap count_of same ∙ sym entry.requires.planning.read.count

  abbrev first : List ℤ
  first = c.start_at.new.work

  sized : length first ≡ length entry.args.work.now
  sized = search rules

  started : Held first 0 (start_point entry.args.header.t0 ∷ [])
  started = rw (t0-back entry) at c.start_at.ensures

  -- What holds of the order's bytes and count holds of the records, and back.
  of-records : (P : List ℕ → ℕ → Type 0) → P entry.args.bytes.now entry.args.header.count → P records c.records_in-records.result.count
  of-records P h = subst (λ b. P b c.records_in-records.result.count) (sym same) (subst (P entry.args.bytes.now) (sym counted) h)

  of-order : (P : List ℕ → ℕ → Type 0) → P records c.records_in-records.result.count → P entry.args.bytes.now entry.args.header.count
  of-order P h = subst (P entry.args.bytes.now) counted (subst (λ b. P b c.records_in-records.result.count) same h)

-- ---- all lists are filled

pub fill_lists-totals-requires : goal.fill_lists-totals-requires
fill_lists-totals-requires c =
    let from : After-start_at = (goal.at.fill_lists-totals-requires c).After-start_at in
    of-records from (λ b n. CanFillLists b n c.start_at.new.work c.args.notes.now)
    (can-fill (entry from).requires (sized from) (started from))

module _ (c : After-fill_lists-totals) where
  abbrev from : After-start_at
  from = (goal.at.After-fill_lists-totals c).After-start_at

  abbrev all : List ℤ
  all = c.fill_lists-totals.new.work

  kept : length all ≡ length (first from)
  kept = search rules

  same-notes : length c.fill_lists-totals.new.notes ≡ length (entry from).args.notes.now
  same-notes = search rules

  filled : Filled (entry from).args.bytes.now (entry from).args.header.count (noted (entry from).args.notes.now 0).count (first from)
      c.fill_lists-totals.result c.fill_lists-totals.new.notes all
  filled =
      of-order from (λ b n. Filled b n (noted (entry from).args.notes.now 0).count (first from) c.fill_lists-totals.result
      c.fill_lists-totals.new.notes all) c.fill_lists-totals.ensures

  -- The last of them.
  abbrev last : List Point
  last = points_at all (noted c.fill_lists-totals.new.notes (entry from).args.header.count)

-- ---- the end of the last one is found, or nothing is: the code's last second of all is tied to the rest here

pub last_by-requires : goal.last_by-requires
last_by-requires c =
    let f : After-fill_lists-totals = (goal.at.last_by-requires c).After-fill_lists-totals in
    let d = from f in
    last-stands (entry d).requires (sized d) (started d) (kept f) (filled f)

searched : (c : After-last_by)
    → c.last_by.result ≡ found (lookup (last (goal.at.After-last_by c).After-fill_lists-totals) latest_free)
unfolding rest
searched c = c.last_by.ensures

module _ (c : In-Some) where
  abbrev ended : After-last_by
  ended = (goal.at.In-Some c).After-last_by

  abbrev lists : After-fill_lists-totals
  lists = (goal.at.After-last_by ended).After-fill_lists-totals

  abbrev end : Found
  end = c.in-Some.end

  is-end : Some end ≡ found (lookup (last lists) latest_free)
  is-end = sym c.in-Some.is ∙ searched ended

-- ---- the plan is made from there

pub walk-mask-requires : goal.walk-mask-requires
walk-mask-requires c =
    let e : In-Some = (goal.at.walk-mask-requires c).In-Some in
    let f = lists e in
    let d = from f in
    of-records d (λ b n. Walks (all f) b n f.fill_lists-totals.new.notes (end e))
    (can-walk (entry d).requires (sized d) (started d) (kept f) (filled f) (end e) (is-end e) (same-notes f))

pub make_plan-requires : goal.make_plan-requires
make_plan-requires c =
    let walked : After-walk-mask = (goal.at.make_plan-requires c).After-walk-mask in
    let e : In-Some = (goal.at.After-walk-mask walked).In-Some in
    let f = lists e in
    let d = from f in
    can-make (entry d).requires (sized d) (started d) (kept f) (filled f) (end e) (is-end e) walked.walk-mask.result
    (subst (λ b. some walked.walk-mask.result ≡ walk_mask (t0_of b) (jobs_in b) (end e).weight (end e).time) (same d) walked.walk-mask.ensures)

pub returns-in-None : goal.returns-in-None
returns-in-None c =
    let told : In-None = (goal.at.returns-in-None c).In-None in
    let ended : After-last_by = (goal.at.In-None told).After-last_by in
    let f : After-fill_lists-totals = (goal.at.After-last_by ended).After-fill_lists-totals in
    let d = from f in
    let none : None ≡ found (lookup (last f) latest_free) = sym told.in-None.is ∙ searched ended in
    rw c.into.ensures (nothing-made (entry d).requires (sized d) (started d) (kept f) (filled f) none)
