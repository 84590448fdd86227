-- `repeating::Repeating::in_range` meets its contract: the six tests are those of the definition, each of a number that is read as its bits.
-- Assumes nothing.
use mathlib.Core.Path.{◌≡◌, ◌∙◌, ap}
use lib.Dec.{eqb}
use lib.IntN.{pos}
use mir.Syntax.{w32}
use mir.Val.{of_z}
use mir.Facts.{to_z-of_z}
use borrow.Author.Rules.{rules}
use Rattle.seconds.specs.Limits.{longest, longest_frame}
use Rattle.seconds.specs.Ranges.{is_between}
use Rattle.packed.specs.Refusals.{weight_test}
use Rattle.repeating.specs.RepeatingLaws.{RepeatingFits, range-tested}
use Rattle.repeating.specs.declared.Repeating.{Repeating}
use Rattle.repeating.proofs.Repeating.in_range.Goals as goal
use Rattle.repeating.proofs.Repeating.in_range.Goals.{After-between, After-between-2, After-between-3, After-weight_within, Start}

-- Each number of the job is an i32.
fits : (c : Start) → RepeatingFits c.args.self
fits c =
    record {
      critical = search rules;
      weight = search rules;
      phase = search rules;
      long = search rules;
      deadline = search rules;
      period = search rules;
    }

pub returns : goal.returns
returns c =
    let three : After-between-3 = (goal.at.returns c).After-between-3 in
    let two : After-between-2 = (goal.at.After-between-3 three).After-between-2 in
    let weighed : After-weight_within = (goal.at.After-between-2 two).After-weight_within in
    let one : After-between = (goal.at.After-weight_within weighed).After-between in
    let start : Start = (goal.at.After-between one).Start in
    let j : Repeating = start.args.self in
    let f : RepeatingFits j = fits start in
    let critical : one.between.result ≡ is_between (pos 0) (pos 1) j.critical =
    one.between.ensures ∙ ap (is_between (pos 0) (pos 1)) (to_z-of_z f.critical) in
    let weight : weighed.weight_within.result ≡ weight_test (eqb (of_z w32 j.critical) 1) j.weight =
    weighed.weight_within.ensures ∙ ap (weight_test (eqb (of_z w32 j.critical) 1)) (to_z-of_z f.weight) in
    let long : two.between-2.result ≡ is_between (pos 1) (pos longest) j.length =
    two.between-2.ensures ∙ ap (is_between (pos 1) (pos longest)) (to_z-of_z f.long) in
    let deadline : three.between-3.result ≡ is_between (pos 1) (pos longest_frame) j.deadline =
    three.between-3.ensures ∙ ap (is_between (pos 1) (pos longest_frame)) (to_z-of_z f.deadline) in
    let period : c.between-4.result ≡ is_between (pos 1) (pos longest_frame) j.period =
    c.between-4.ensures ∙ ap (is_between (pos 1) (pos longest_frame)) (to_z-of_z f.period) in
    rw (critical, weight, to_z-of_z f.phase, long, deadline, period) (range-tested j)
