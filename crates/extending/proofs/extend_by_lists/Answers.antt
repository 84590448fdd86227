-- `extending::extend_by_lists` meets its contract: the profile is the first list, and the extended one is the last.
-- Assumes nothing.
use Prim.Native.Nat.{◌≤◌}
use mathlib.Core.Path.{◌≡◌, sym, ap, subst, ◌∙◌}
use lib.ListN.{length}
use borrow.Author.Rules.{rules}
use Rattle.packed.specs.Packed.{count_of}
use Rattle.packed.proofs.RefusalLaws.{header-fine}
use Rattle.area.specs.Area.{area}
use Rattle.filling.specs.Lists.{CanFill, FilledLast}
use Rattle.extending.proofs.ExtendingLaws.{header-stands, can-begin, can-fill, can-put, extended}
use Rattle.extending.proofs.extend_by_lists.Goals as goal
use Rattle.extending.proofs.extend_by_lists.Goals.{After-fill_last-last, After-records_in}

pub start_profile-count-requires : goal.start_profile-count-requires
start_profile-count-requires c = can-begin c.requires

pub records_in-requires : goal.records_in-requires
records_in-requires c = (header-fine c.args.bytes.now).1 (header-stands c.requires)

-- The records are the order's, and the work area is as long as it was.
module _ (c : After-records_in) where
  counted : c.records_in.result.count ≡ count_of c.args.bytes.now
  counted = c.records_in.result.stand.counted ∙ ap count_of c.records_in.ensures

  room : area ≤ length c.start_profile-count.new.work
  room = search rules

pub fill_last-last-requires : goal.fill_last-last-requires
fill_last-last-requires c =
    let r : After-records_in = (goal.at.fill_last-last-requires c).After-records_in in
    subst (λ b. CanFill b c.records_in.result.count c.start_profile-count.result c.start_profile-count.new.work) (sym c.records_in.ensures)
    (can-fill c.requires (counted r) c.start_profile-count.ensures (room r))

-- The last list is the order's.
last : (c : After-fill_last-last)
    → FilledLast c.args.bytes.now c.start_profile-count.result c.start_profile-count.new.work c.fill_last-last.result c.fill_last-last.new.work
last c =
    subst (λ b. FilledLast b c.start_profile-count.result c.start_profile-count.new.work c.fill_last-last.result c.fill_last-last.new.work)
    c.records_in.ensures c.fill_last-last.ensures

pub write_list-requires : goal.write_list-requires
write_list-requires c =
    let f : After-fill_last-last = (goal.at.write_list-requires c).After-fill_last-last in
    let r : After-records_in = (goal.at.After-fill_last-last f).After-records_in in
    can-put c.requires (counted r) c.start_profile-count.ensures (room r) (last f)

pub returns : goal.returns
returns c =
    let f : After-fill_last-last = (goal.at.returns c).After-fill_last-last in
    let r : After-records_in = (goal.at.After-fill_last-last f).After-records_in in
    extended c.requires (counted r) c.start_profile-count.ensures (room r) (last f) c.write_list.ensures
