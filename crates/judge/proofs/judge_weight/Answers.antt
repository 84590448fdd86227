-- `judge::judge_weight` meets its contract: the weights of all jobs, against the most that there may be.
-- Assumes nothing.
use mathlib.Core.Path.{sym, ap, ◌∙◌}
use Rattle.packed.specs.JudgeLaws.{refused-fine, stages-fine}
use Rattle.packed.specs.Judge.{judge}
use Rattle.packed.specs.Packed.{numbers_of}
use Rattle.packed.specs.Refusals.{header_checks, job_checks, weight_checks}
use Rattle.judge.specs.Told.{weight-told}
use Rattle.judge.proofs.judge_weight.Goals as goal

pub records_in-requires : goal.records_in-requires
records_in-requires c =
    let bytes = c.args.bytes.now in ((stages-fine (header_checks bytes) (job_checks (numbers_of bytes))).0 c.requires).0

-- They have passed 6.
pub returns-in_err-weight : goal.returns-in_err-weight
returns-in_err-weight c =
    let bytes = c.args.bytes.now in
    let passed = ((stages-fine (header_checks bytes) (job_checks (numbers_of bytes))).0 c.requires).1 in
    absurd (refused-fine (sym c.in_err-weight.ensures ∙ ap (λ b. judge (job_checks (numbers_of b))) c.records_in.ensures ∙ passed))

pub returns : goal.returns
returns c =
    c.judge_sum.ensures
    ∙ sym (weight-told (numbers_of c.records_in.result.bytes.now) c.args.before c.in_ok-weight.weight c.in_ok-weight.ensures.weighed)
    ∙ ap (λ b. judge (weight_checks c.args.before (numbers_of b))) c.records_in.ensures
