-- `reader::step` meets its contract: where a job is given the reader stands below 48, and moves on.
-- Assumes nothing.
use mathlib.Core.Path.{◌≡◌, sym, ap, ◌∙◌}
use native.Mathlib.Omega.{arith}
use borrow.Author.Rules.{rules}
use Rattle.std.proofs.Common.{Some, Ok}
use Rattle.reader.proofs.ReadingLaws.{job-given}
use Rattle.reader.proofs.step.Goals as goal

pub overflow_add-place : goal.overflow_add-place
overflow_add-place c =
    let some : c.in-Ok-Some.field-0 ≡ Some c.in-Ok-Some.field-0-0 = search rules in
    let given = job-given c.args.bytes.now c.args.place (sym c.job_at-answer.ensures ∙ c.in-Ok-Some.is ∙ ap (λ j. Ok j) some) in
    omega (arith, given.few)
