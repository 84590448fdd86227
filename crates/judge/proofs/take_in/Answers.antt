-- `judge::take_in` meets its contract: a job within its limits has a number and a weight that can be cast.
-- Assumes nothing.
use mathlib.Core.Path.{◌≡◌, refl, sym, ap, ◌∙◌}
use mathlib.Core.Bool.{true, false}
use native.Mathlib.Omega.{arith}
use mir.Syntax.{w8, w32}
use Rattle.std.proofs.Common.{rules, Option, Some, None}
use Rattle.refusals.specs.declared.Field.{Field}
use Rattle.refusals.specs.NumbersLaws.{figure-low}
use Rattle.refusals.specs.Numbers.{figure_of, figure_or_none}
use Rattle.packed.specs.Refusals.{fields_within, bad_field}
use Rattle.fields.specs.Fields.{fields_of}
use Rattle.fields.specs.Facts.{job-facts}
use Rattle.limits.specs.Tests.{no-bad-field, some-bad-field}
use Rattle.fields.specs.declared.Job.{Job}
use Rattle.judge.specs.Gathering.{kept, casts}
use Rattle.judge.proofs.take_in.Goals as goal

-- A field is named: the job is out of range.
out : (job : Job) (f : Option Field) (n : Field) → figure_or_none f ≡ bad_field (fields_of job) → f ≡ Some n
    → (fields_within (fields_of job) ≡ false) × (figure_of n ≡ bad_field (fields_of job))
out job f n named is =
    let figure : figure_of n ≡ bad_field (fields_of job) = ap figure_or_none (sym is) ∙ named in
    (some-bad-field job (λ e. absurd (omega (arith, figure-low n, figure, e))), figure)

-- None is: it is within its limits.
within : (job : Job) (f : Option Field) → figure_or_none f ≡ bad_field (fields_of job) → f ≡ None
    → fields_within (fields_of job) ≡ true
within job f named is = no-bad-field job (sym named ∙ ap figure_or_none is)

pub returns-in-Some : goal.returns-in-Some
returns-in-Some c =
    let told = out c.args.job c.bad_field.result c.in-Some.field c.bad_field.ensures c.in-Some.is in
    rw (told.0, ← told.1) (record { goes = search rules; notes = refl })

pub overflow_cast-numbers : goal.overflow_cast-numbers
overflow_cast-numbers c =
    let f = (job-facts c.args.job).0 (within c.args.job c.bad_field.result c.bad_field.ensures c.in-None.is) in
    casts w8 63 c.args.job.number f.number (omega arith) (omega arith)

pub overflow_cast-result : goal.overflow_cast-result
overflow_cast-result c =
    let f = (job-facts c.args.job).0 (within c.args.job c.bad_field.result c.bad_field.ensures c.in-None.is) in
    casts w32 50 c.args.job.weight f.weight (omega arith) (omega arith)

pub returns-in-None : goal.returns-in-None
returns-in-None c =
    let told = within c.args.job c.bad_field.result c.bad_field.ensures c.in-None.is in
    let f = (job-facts c.args.job).0 told in
    rw (kept 50 c.args.job.weight f.weight (omega arith), kept 63 c.args.job.number f.number (omega arith), told)
    (record { goes = refl; notes = refl })
