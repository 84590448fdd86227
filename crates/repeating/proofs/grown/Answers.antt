-- `repeating::grown` meets its contract: a frame that is too long stays too long with one period more, and any other is grown by it.
-- Assumes nothing.
use native.Mathlib.Omega.{arith}
use Rattle.multiples.specs.MultiplesLaws.{lcm-above}
use Rattle.repeating.specs.Repeating.{past}
use Rattle.repeating.proofs.grown.Goals as goal
use Rattle.repeating.proofs.grown.Goals.{Start}

pub returns-then-frame : goal.returns-then-frame
returns-then-frame c =
    let s : Start = (goal.at.returns-then-frame c).Start in
    past c.if-frame.true (omega (arith, c.if-frame.true, lcm-above s.args.frame s.args.period s.requires.first s.requires.second))
