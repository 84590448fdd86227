-- `framing::make` meets its contract: the repeats are counted and weighed, then the room; then the header and the repeats are
-- written. Assumes nothing.
use mathlib.Core.Path.{ap, ◌∙◌}
use Rattle.std.proofs.Common.{Err}
use Rattle.pack.specs.Writing.{first_records}
use Rattle.frames.specs.Frames.{frame_numbers}
use Rattle.framing.specs.AnswerLaws.{frames-many, frames-heavy, frames-no-room, frames-written}
use Rattle.framing.proofs.make.Goals as goal

pub returns-then-count-gt-MOST_JOBS : goal.returns-then-count-gt-MOST_JOBS
returns-then-count-gt-MOST_JOBS c =
    let frames = frames-many c.args.numbers.now c.args.order.now c.requires c.totals_of-made.ensures c.if-count-gt-MOST_JOBS.true in
    record { answer = ap (λ r. Err r) c.into.ensures ∙ frames.0; lent = frames.1 }

pub returns-then-weight-gt-MOST_WEIGHT : goal.returns-then-weight-gt-MOST_WEIGHT
returns-then-weight-gt-MOST_WEIGHT c =
    let frames = frames-heavy c.args.numbers.now c.args.order.now c.requires c.totals_of-made.ensures c.if-count-gt-MOST_JOBS.false
    c.if-weight-gt-MOST_WEIGHT.true in
    record { answer = ap (λ r. Err r) c.into-then-weight-gt-MOST_WEIGHT.ensures ∙ frames.0; lent = frames.1 }

pub returns-then-order-bytes : goal.returns-then-order-bytes
returns-then-order-bytes c =
    let frames = frames-no-room c.args.numbers.now c.args.order.now c.requires c.totals_of-made.ensures c.if-count-gt-MOST_JOBS.false
    c.if-weight-gt-MOST_WEIGHT.false c.if-order-bytes.true in
    record { answer = ap (λ r. Err r) c.into-then-order-bytes.ensures ∙ frames.0; lent = frames.1 }

pub returns : goal.returns
returns c =
    let frames = frames-written c.args.numbers.now c.args.order.now c.requires c.totals_of-made.ensures c.if-count-gt-MOST_JOBS.false
    c.if-weight-gt-MOST_WEIGHT.false c.if-order-bytes.false c.write_repeats.new.order
    (c.write_repeats.ensures
    ∙ ap (first_records 0 (frame_numbers c.args.numbers.now) c.totals_of-made.result.count) c.put_header.ensures) in
    record { answer = frames.0; lent = frames.1 }
