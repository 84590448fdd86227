-- `plan_answers::with_seconds` meets its contract: each number is copied, the finish from its bits.
-- Assumes nothing.
use borrow.Author.Rules.{rules}
use mathlib.Core.Path.{refl}
use mir.Syntax.{w32}
use mir.Val.{SFits}
use mir.Facts.{to_z-of_z}
use Rattle.plan_answers.proofs.with_seconds.Goals as goal

pub returns : goal.returns
returns c =
    let fits : SFits w32 c.args.plan.finish = search rules in
    rw (to_z-of_z fits) refl
