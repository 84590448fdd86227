-- `choosing::compare` meets its contract: the test judges the room, both openings are weighed in the part lent, and `clear`
-- clears behind them. Assumes nothing.
use mathlib.Core.Path.{◌≡◌}
use mathlib.Core.List.{◌++◌}
use native.Mathlib.Omega.{arith}
use lib.ListN.{length, drop}
use lib.Seq.{length-take-le, drop_at}
use mir.Facts.{to_z-of_z}
use Rattle.area.specs.Area.{area}
use Rattle.ties.specs.Winning.{rule_of}
use Rattle.choosing.proofs.ChoosingLaws.{no_room, compared}
use Rattle.choosing.proofs.compare.Goals as goal

pub returns-then-work-lt-AREA : goal.returns-then-work-lt-AREA
returns-then-work-lt-AREA c =
    let a = c.args in
    rw c.into.ensures (no_room (rule_of a.tie) a.first.now a.second.now a.t a.work.now c.requires c.if-work-lt-AREA.true)

pub returns : goal.returns
returns c =
    let a = c.args in
    let part = c.weigh_both-won.new.work in
    let rest = drop area a.work.now in
    let long : length part ≡ area = omega (arith, length-take-le area a.work.now c.if-work-lt-AREA.false) in
    compared (rule_of a.tie) a.first.now a.second.now a.t a.work.now c.requires (part ++ rest) c.if-work-lt-AREA.false
    (rw (to_z-of_z c.ranges.t) at c.weigh_both-won.ensures) (drop_at part rest area long) c.clear.ensures
