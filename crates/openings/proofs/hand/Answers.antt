-- `openings::hand` meets its contract: where there is a winner, both openings have a header. Assumes nothing.
use Prim.Native.Nat.{◌≤◌}
use mathlib.Core.Path.{◌≡◌}
use native.Mathlib.Omega.{arith}
use lib.ListN.{length}
use mir.Facts.{to_z-of_z}
use Rattle.std.proofs.Common.{Ok}
use Rattle.ties.specs.Winning.{rule_of}
use Rattle.ties.specs.declared.Winner.{Winner}
use Rattle.choosing.proofs.ChoosingLaws.{headers-there}
use Rattle.openings.proofs.hand.Goals as goal
use Rattle.openings.proofs.hand.Goals.{After-ask}

headers : (c : After-ask) {w : Winner} → c.ask.result ≡ Ok w → (4 ≤ length c.args.first.now) × (4 ≤ length c.args.second.now)
headers c =
    let a = c.args in
    headers-there (rule_of a.tie) a.first a.second a.t a.work.now (rw (to_z-of_z c.ranges.t) at c.ask.ensures)

pub slice_bounds-result-count : goal.slice_bounds-result-count
slice_bounds-result-count c =
    let h = headers (goal.at.slice_bounds-result-count c).After-ask c.in-Ok-First.is in omega arith

pub slice_bounds-result-start : goal.slice_bounds-result-start
slice_bounds-result-start c =
    let h = headers (goal.at.slice_bounds-result-start c).After-ask c.in-Ok-First.is in omega arith

pub slice_bounds-result-count-in-Ok-Second : goal.slice_bounds-result-count-in-Ok-Second
slice_bounds-result-count-in-Ok-Second c =
    let h = headers (goal.at.slice_bounds-result-count-in-Ok-Second c).After-ask c.in-Ok-Second.is in omega arith

pub slice_bounds-result-start-in-Ok-Second : goal.slice_bounds-result-start-in-Ok-Second
slice_bounds-result-start-in-Ok-Second c =
    let h = headers (goal.at.slice_bounds-result-start-in-Ok-Second c).After-ask c.in-Ok-Second.is in omega arith
