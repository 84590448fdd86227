-- `extending::extend` meets its contract: bytes that 1 to 7 refuse are answered so, any others are gone on with.
-- Assumes nothing.
use mathlib.Core.Path.{◌≡◌, sym, subst, ◌∙◌}
use borrow.Author.Rules.{rules}
use Rattle.std.proofs.Common.{Err}
use Rattle.extending.specs.Calls.{ExtendCall}
use Rattle.extending.proofs.CallLaws.{extend-stopped}
use Rattle.extending.proofs.extend.Goals as goal

pub extend_profile-requires : goal.extend_profile-requires
extend_profile-requires c = sym c.judge_jobs.ensures ∙ c.in_ok-judge_jobs.was

pub returns-in_err-judge_jobs : goal.returns-in_err-judge_jobs
returns-in_err-judge_jobs c =
    let e : c.from_residual.result ≡ Err c.in_err-judge_jobs.field-0.0 = search rules in
    let a = c.args in
    subst (λ r. ExtendCall a.profile.now a.bytes.now a.out.now a.work.now r a.out.now a.work.now) (sym e)
    (extend-stopped a.profile.now a.bytes.now a.out.now a.work.now (sym c.judge_jobs.ensures ∙ c.in_err-judge_jobs.was))
