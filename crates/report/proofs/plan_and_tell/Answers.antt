-- `report::plan_and_tell` meets its contract: each answer of planning gives its text.
-- Assumes nothing.
use Prim.Native.Nat.{◌≤◌}
use mathlib.Core.Path.{◌≡◌, sym, ◌∙◌}
use native.Mathlib.Omega.{arith}
use Rattle.seconds.specs.Limits.{most_jobs}
use Rattle.report.specs.Report.{refusal_line, report_of}
use Rattle.report.specs.Telling.{refusal-told, plan-tellable}
use Rattle.report.proofs.plan_and_tell.Goals as goal
use Rattle.report.proofs.plan_and_tell.Goals.{In-Err}

-- What planning refused.
told : (c : In-Err) → (report_of c.args.bytes.now ≡ refusal_line c.in-Err.refusal) × (c.in-Err.refusal.place ≤ most_jobs)
told c =
    refusal-told c.args.bytes.now c.args.starts.now c.args.work.now c.args.out.now c.requires c.in-Err.refusal
    (sym c.in-Err.is ∙ c.plan.ensures.answer)

pub put_refusal-requires : goal.put_refusal-requires
put_refusal-requires c =
    record { early = (told (goal.at.put_refusal-requires c).In-Err).1; room = omega (arith, c.requires.room) }

pub tell_plan-requires : goal.tell_plan-requires
tell_plan-requires c =
    plan-tellable c.args.bytes.now c.args.starts.now c.args.work.now c.args.out.now c.requires c.in-Ok.figures c.plan.new.starts
    (sym c.in-Ok.is ∙ c.plan.ensures.answer) c.plan.ensures.written

pub returns-in-Err : goal.returns-in-Err
returns-in-Err c = rw (told (goal.at.returns-in-Err c).In-Err).0 c.put_refusal.ensures
