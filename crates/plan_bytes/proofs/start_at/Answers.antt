-- `plan_bytes::start_at` meets its contract: the three bytes are the last of the plan that ends with the start.
-- Assumes nothing.
use mathlib.Core.Path.{◌∙◌}
use Prim.Native.Nat.{◌+◌}
use lib.Pow.{pow_pos}
use mir.Syntax.{w32}
use mir.Val.{SFits}
use mir.Facts.{to_z-of_z}
use Rattle.packed_plan.specs.Plan.{pad_bits}
use Rattle.plan_bytes.specs.Steps.{read_is}
use borrow.Author.Rules.{rules}
use Rattle.plan_bytes.proofs.start_at.Goals as goal
use Rattle.plan_bytes.proofs.start_at.Goals.{Start}

pub nonzero_div-word : goal.nonzero_div-word
nonzero_div-word c =
    let s : Start = (goal.at.nonzero_div-word c).Start in
    rw c.unit.ensures (pow_pos (pad_bits (s.args.k + 1)))

pub returns : goal.returns
returns c =
    let u = c.before in
    let w = u.before in
    let p = w.before in
    let a = p.args in
    let fits : SFits w32 c.time_of.result = search rules in
    to_z-of_z fits ∙ c.time_of.ensures
    ∙ read_is a.plan.now a.k p.plan_bytes-end.result w.word_at-word.result u.unit.result p.plan_bytes-end.ensures
    w.word_at-word.ensures.is u.unit.ensures
