-- `judge::judge_jobs` meets its contract: the header's verdict, or that of the jobs where it is fine.
-- Assumes nothing.
use mathlib.Core.Path.{◌≡◌, sym, ap, ◌∙◌}
use borrow.Author.Rules.{rules}
use Rattle.std.proofs.Common.{Err}
use Rattle.packed.specs.Judge.{judge}
use Rattle.packed.specs.Packed.{numbers_of}
use Rattle.packed.specs.Refusals.{header_checks, job_checks}
use Rattle.judge.specs.Told.{told-next, stays}
use Rattle.judge.proofs.judge_jobs.Goals as goal

pub returns-in_err-judge_header : goal.returns-in_err-judge_header
returns-in_err-judge_header c =
    let e : c.from_residual.result ≡ Err c.in_err-judge_header.field-0.0 = search rules in
    let bytes = c.args.bytes.now in
    e ∙ sym (stays (header_checks bytes) (job_checks (numbers_of bytes)) (sym c.judge_header.ensures ∙ c.in_err-judge_header.was))

pub returns-in_err-judge_each : goal.returns-in_err-judge_each
returns-in_err-judge_each c =
    let e : c.from_residual-in_err-judge_each.result ≡ Err c.in_err-judge_each.field-0.0 = search rules in
    let bytes = c.args.bytes.now in
    let seen = ap (λ b. judge (job_checks (numbers_of b))) c.records_in.ensures in
    e ∙ sym (told-next (header_checks bytes) (job_checks (numbers_of bytes)) (sym c.judge_header.ensures ∙ c.in_ok-judge_header.was)
    ∙ sym seen ∙ c.in_err-judge_each.ensures)

pub returns : goal.returns
returns c =
    let bytes = c.args.bytes.now in
    let seen = ap (λ b. judge (job_checks (numbers_of b))) c.records_in.ensures in
    sym (told-next (header_checks bytes) (job_checks (numbers_of bytes)) (sym c.judge_header.ensures ∙ c.in_ok-judge_header.was)
    ∙ sym seen ∙ c.in_ok-judge_each.ensures.0)
