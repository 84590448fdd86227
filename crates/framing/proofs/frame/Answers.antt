-- `framing::frame` meets its contract: the verdict on the jobs that are given, then their frame; then the order is made.
-- Assumes nothing.
use mathlib.Core.Path.{◌≡◌, sym, ap, ◌∙◌}
use borrow.Author.Rules.{rules}
use Rattle.std.proofs.Common.{Err}
use Rattle.frames.specs.Facts.{GivenFine}
use Rattle.frames.proofs.GivenLaws.{given-fine}
use Rattle.repeating.specs.RepeatingLaws.{found-past, found-whole}
use Rattle.framing.specs.AnswerLaws.{frames-refused, frames-long}
use Rattle.framing.proofs.frame.Goals as goal
use Rattle.framing.proofs.frame.Goals.{In_ok-judge_given}

pub returns-in_err-judge_given : goal.returns-in_err-judge_given
returns-in_err-judge_given c =
    let e : c.from_residual.result ≡ Err c.in_err-judge_given.field-0.0 = search rules in
    let frames = frames-refused c.args.numbers.now c.args.order.now _ (sym c.judge_given.ensures ∙ c.in_err-judge_given.was) in
    record { answer = e ∙ frames.0; lent = frames.1 }

-- Past 3, 4 and 16.
passed : (c : In_ok-judge_given) → GivenFine c.args.numbers.now
passed c = (given-fine c.args.numbers.now).0 (sym c.judge_given.ensures ∙ c.in_ok-judge_given.was)

pub frame_of-frame-requires : goal.frame_of-frame-requires
frame_of-frame-requires c = passed c

pub returns-then-frame : goal.returns-then-frame
returns-then-frame c =
    let frames = frames-long c.args.numbers.now c.args.order.now (passed (goal.at.returns-then-frame c).In_ok-judge_given)
    (found-past c.frame_of-frame.ensures c.if-frame.true) in
    record { answer = ap (λ r. Err r) c.into.ensures ∙ frames.0; lent = frames.1 }

pub make-requires : goal.make-requires
make-requires c =
    record {
      given = passed (goal.at.make-requires c).In_ok-judge_given;
      is = found-whole c.frame_of-frame.ensures c.if-frame.false;
      short = c.if-frame.false;
    }
