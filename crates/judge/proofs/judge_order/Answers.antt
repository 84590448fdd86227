-- `judge::judge_order` meets its contract: the header's verdict, or that of the jobs where it is fine.
-- Assumes nothing.
use mathlib.Core.Path.{◌≡◌, sym, subst, ◌∙◌}
use borrow.Author.Rules.{rules}
use Rattle.std.proofs.Common.{Ok, Err}
use Rattle.packed.specs.Packed.{numbers_of}
use Rattle.packed.specs.Refusals.{header_checks, job_checks, weight_checks}
use Rattle.judge.specs.Verdicts.{JudgedEach}
use Rattle.judge.specs.Told.{first-refused, jobs-refused, sum-left}
use Rattle.judge.proofs.judge_order.Goals as goal

pub returns-in_err-judge_header : goal.returns-in_err-judge_header
returns-in_err-judge_header c =
    let e : c.from_residual.result ≡ Err c.in_err-judge_header.field-0.0 = search rules in
    let bytes = c.args.bytes.now in
    e ∙ sym (first-refused (header_checks bytes) (job_checks (numbers_of bytes)) (weight_checks c.args.before (numbers_of bytes)) (sym c.judge_header.ensures ∙ c.in_err-judge_header.was))

pub returns-in_err-weight : goal.returns-in_err-weight
returns-in_err-weight c =
    let e : c.from_residual-in_err-weight.result ≡ Err c.in_err-weight.field-0.0 = search rules in
    let bytes = c.args.bytes.now in
    let passed = sym c.judge_header.ensures ∙ c.in_ok-judge_header.was in
    let told = subst (λ b. JudgedEach (numbers_of b) (Err c.in_err-weight.field-0.0)) c.records_in.ensures c.in_err-weight.ensures in
    e ∙ sym (jobs-refused (header_checks bytes) (numbers_of bytes) c.args.before passed told)

pub returns : goal.returns
returns c =
    let bytes = c.args.bytes.now in
    let passed = sym c.judge_header.ensures ∙ c.in_ok-judge_header.was in
    let told = subst (λ b. JudgedEach (numbers_of b) (Ok c.in_ok-weight.weight)) c.records_in.ensures c.in_ok-weight.ensures in
    c.judge_sum.ensures ∙ sym (sum-left (header_checks bytes) (numbers_of bytes) c.args.before passed told)
