-- `weighing::weigh` meets its contract: the lists of all jobs are filled behind the first, and the last is searched.
-- Assumes nothing.
use Rattle.std.proofs.Common.{◌≡◌, ◌≤◌, sym, ap, subst, ◌∙◌, length, rules, to_z-of_z}
use Rattle.packed.specs.Packed.{count_of}
use Rattle.packed.proofs.RefusalLaws.{header-fine}
use mathlib.Core.List.{[], ◌∷◌}
use Rattle.profile.specs.Profile.{start_point}
use Rattle.fields.specs.Facts.{HeaderRead, header_read}
use Rattle.area.specs.Area.{area}
use Rattle.codes.specs.Held.{Held}
use Rattle.filling.specs.Lists.{CanFill, FilledLast}
use Rattle.weighing.specs.WeighingLaws.{header-there, header-stands, t0-kept, can-start, can-fill, weighed}
use Rattle.weighing.proofs.weigh.Goals as goal
use Rattle.weighing.proofs.weigh.Goals.{After-header_at-header, After-records_in}

pub header_at-header-requires : goal.header_at-header-requires
header_at-header-requires c = header-there c.requires

-- The header that was read is the order's.
read : (c : After-header_at-header) → HeaderRead c.args.bytes.now c.header_at-header.result
read c = header_read c.args.bytes.now c.header_at-header.result c.header_at-header.ensures

pub start_at-requires : goal.start_at-requires
start_at-requires c =
    let h = read (goal.at.start_at-requires c).After-header_at-header in
    rw (t0-kept c.requires h) (can-start c.requires h)

pub records_in-requires : goal.records_in-requires
records_in-requires c = (header-fine c.args.bytes.now).1 (header-stands c.requires)

-- The first list was started in a work area as long as it was, and the records are the order's.
module _ (c : After-records_in) where
  header : HeaderRead c.args.bytes.now c.header_at-header.result
  header = read (goal.at.After-records_in c).After-header_at-header

  started : Held c.start_at.new.work 0 (start_point c.header_at-header.result.t0 ∷ [])
  started = rw (t0-kept c.requires header) at c.start_at.ensures

  room : area ≤ length c.start_at.new.work
  room = search rules

  counted : c.records_in.result.count ≡ c.header_at-header.result.count
  counted = c.records_in.result.stand.counted ∙ ap count_of c.records_in.ensures ∙ sym header.count

pub fill_last-last-requires : goal.fill_last-last-requires
fill_last-last-requires c =
    let r = (goal.at.fill_last-last-requires c).After-records_in in
    subst (λ b. CanFill b c.records_in.result.count 1 c.start_at.new.work) (sym c.records_in.ensures)
    (subst (λ n. CanFill c.args.bytes.now n 1 c.start_at.new.work) (sym (counted r)) (can-fill c.requires (header r) (started r) (room r)))

pub returns : goal.returns
returns c =
    let r = (goal.at.returns c).After-records_in in
    let last = subst (λ b. FilledLast b 1 c.start_at.new.work c.fill_last-last.result c.fill_last-last.new.work) c.records_in.ensures
    c.fill_last-last.ensures in
    weighed c.requires (header r) (started r) (room r) last (to_z-of_z c.ranges.t) c.last_by.ensures
