-- `unpack::unpack` meets its contract: the verdict on the order, then the room, and `write_numbers` writes the rest.
-- Assumes nothing.
use mathlib.Core.Path.{◌≡◌, sym, ap, subst, ◌∙◌}
use native.Mathlib.Omega.{arith}
use mir.Syntax.{w32}
use mir.Val.{SFits}
use mir.Facts.{to_z-of_z}
use borrow.Author.Rules.{rules}
use Rattle.std.proofs.Common.{Err}
use Rattle.packed.specs.Packed.{count_of}
use Rattle.packed.proofs.RefusalLaws.{header-fine}
use Rattle.packed.proofs.Accepted.{order-fine}
use Rattle.fields.specs.Facts.{header_read}
use Rattle.unpack.specs.Answer.{Jobs}
use Rattle.unpack.specs.AnswerLaws.{unpacks-refused, unpacks-no-room, unpackable, unpacks-written}
use Rattle.unpack.specs.Writing.{Unpackable, first_jobs}
use Rattle.unpack.proofs.unpack.Goals as goal
use Rattle.unpack.proofs.unpack.Goals.{After-records_in}

pub header_at-count-requires : goal.header_at-count-requires
header_at-count-requires c =
    let passed = sym c.judge_order.ensures ∙ c.in_ok-judge_order.was in
    ((order-fine c.args.bytes.now).0 passed).header.long

pub overflow_mul-count : goal.overflow_mul-count
overflow_mul-count c =
    let bytes = c.args.bytes.now in
    let passed = sym c.judge_order.ensures ∙ c.in_ok-judge_order.was in
    omega (
      arith,
      (header_read bytes c.header_at-count.result c.header_at-count.ensures).count,
      ((order-fine bytes).0 passed).header.few,
    )

pub returns-then-numbers-count : goal.returns-then-numbers-count
returns-then-numbers-count c =
    let passed = sym c.judge_order.ensures ∙ c.in_ok-judge_order.was in
    let unpacks =
    unpacks-no-room c.args.bytes.now c.args.numbers.now passed c.header_at-count.result c.header_at-count.ensures
    c.if-numbers-count.true in
    record { answer = ap (λ r. Err r) c.into.ensures ∙ unpacks.0; lent = unpacks.1 }

pub records_in-requires : goal.records_in-requires
records_in-requires c =
    let passed = sym c.judge_order.ensures ∙ c.in_ok-judge_order.was in
    (header-fine c.args.bytes.now).1 ((order-fine c.args.bytes.now).0 passed).header

-- The records are as many as the header says.
counted : (c : After-records_in) → c.records_in.result.count ≡ c.header_at-count.result.count
counted c =
    c.records_in.result.stand.counted ∙ ap count_of c.records_in.ensures
    ∙ sym (header_read c.args.bytes.now c.header_at-count.result c.header_at-count.ensures).count

pub write_numbers-requires : goal.write_numbers-requires
write_numbers-requires c =
    let passed = sym c.judge_order.ensures ∙ c.in_ok-judge_order.was in
    let can =
    unpackable c.args.bytes.now c.args.numbers.now passed c.header_at-count.result c.header_at-count.ensures
    c.if-numbers-count.false in
    subst (λ b. Unpackable b c.records_in.result.count c.args.numbers.now) (sym c.records_in.ensures)
    (subst (λ n. Unpackable c.args.bytes.now n c.args.numbers.now) (sym (counted (goal.at.write_numbers-requires c).After-records_in)) can)

pub returns-in_err-judge_order : goal.returns-in_err-judge_order
returns-in_err-judge_order c =
    let e : c.from_residual.result ≡ Err c.in_err-judge_order.field-0.0 = search rules in
    let unpacks = unpacks-refused c.args.bytes.now c.args.numbers.now _ (sym c.judge_order.ensures ∙ c.in_err-judge_order.was) in
    record { answer = e ∙ unpacks.0; lent = unpacks.1 }

pub returns : goal.returns
returns c =
    let passed = sym c.judge_order.ensures ∙ c.in_ok-judge_order.was in
    let given = c.header_at-count.result in
    let kept : SFits w32 c.header_at-count.result.t0 = search rules in
    let written =
    c.write_numbers.ensures
    ∙ ap (λ b. first_jobs b c.records_in.result.count c.args.numbers.now) c.records_in.ensures
    ∙ ap (λ n. first_jobs c.args.bytes.now n c.args.numbers.now) (counted (goal.at.returns c).After-records_in) in
    let unpacks =
    unpacks-written c.args.bytes.now c.args.numbers.now passed given c.header_at-count.ensures c.write_numbers.new.numbers
    c.if-numbers-count.false written in
    record { answer = ap (Jobs given.count) (to_z-of_z kept) ∙ unpacks.0; lent = unpacks.1 }
