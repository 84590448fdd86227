-- `sheet::join_into` meets its contract: the sums are added, and where the second one's total is greater it comes, its place moved on.
-- Assumes nothing.
use native.Mathlib.Omega.{arith}
use borrow.Author.Tests.{lt-ltb, le-ltb}
use Rattle.sheet.specs.NumbersLaws.{joined-stays, joined-moves}
use Rattle.sheet.proofs.join_into.Goals as goal
use Rattle.sheet.proofs.join_into.Goals.{After-add_sums, Start}

pub overflow_add-to : goal.overflow_add-to
overflow_add-to c =
    let s : Start = (goal.at.overflow_add-to c).Start in
    omega (arith, s.requires.small 0 (omega arith), s.requires.second-small 25 (omega arith))

pub returns-then-top-more : goal.returns-then-top-more
returns-then-top-more c =
    let a : After-add_sums = (goal.at.returns-then-top-more c).After-add_sums in
    let s : Start = (goal.at.returns-then-top-more c).Start in
    joined-moves s.args.to.now s.args.from.now s.requires.room s.requires.second-room a.add_sums.new.to a.add_sums.ensures
    (lt-ltb _ _ c.if-top-more.true)

pub returns-else-top-more : goal.returns-else-top-more
returns-else-top-more c =
    let a : After-add_sums = (goal.at.returns-else-top-more c).After-add_sums in
    let s : Start = (goal.at.returns-else-top-more c).Start in
    joined-stays s.args.to.now s.args.from.now s.requires.room s.requires.second-room a.add_sums.new.to a.add_sums.ensures
    (le-ltb _ _ c.if-top-more.false)
