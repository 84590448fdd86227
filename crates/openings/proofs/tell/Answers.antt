-- `openings::tell` meets its contract: where there is a winner, both openings are accepted. Assumes nothing.
use mir.Facts.{to_z-of_z}
use Rattle.ties.specs.Winning.{rule_of}
use Rattle.choosing.proofs.ChoosingLaws.{both-accepted}
use Rattle.openings.proofs.tell.Goals as goal

pub kind_won-kind-requires : goal.kind_won-kind-requires
kind_won-kind-requires c =
    let a = c.args in
    both-accepted (rule_of a.tie) a.first a.second a.t a.work.now (rw (to_z-of_z c.ranges.t) at c.ask.ensures) c.in_ok-winner.was
