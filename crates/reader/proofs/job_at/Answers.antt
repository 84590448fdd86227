-- `reader::job_at` meets its contract: each way out is a case of the step.
-- Assumes nothing.
use mathlib.Core.Path.{◌≡◌, sym, ap, ◌∙◌}
use mathlib.Core.Bool.{true, false}
use mathlib.Core.List.{List}
use Prim.Native.Nat.{ℕ}
use native.Mathlib.Omega.{arith}
use borrow.Author.Rules.{rules}
use Rattle.std.proofs.Common.{Option, Some, None, Ok, Err}
use Rattle.refusals.specs.declared.Field.{Field}
use Rattle.refusals.specs.Numbers.{figure_of, figure_or_none}
use Rattle.refusals.specs.NumbersLaws.{figure-low}
use Rattle.packed.specs.Judge.{in_field}
use Rattle.packed.specs.Packed.{job_fields}
use Rattle.packed.specs.Refusals.{fields_within, bad_field}
use Rattle.fields.specs.Fields.{fields_of}
use Rattle.fields.specs.Facts.{record-in}
use Rattle.fields.specs.declared.Job.{Job}
use Rattle.limits.specs.Tests.{no-bad-field, some-bad-field}
use Rattle.reader.proofs.ReadingLaws.{made_again, step_end, step-job, step-bad, OpenFine, open-accepted, open-refused}
use Rattle.reader.specs.Reading.{Read}
use Rattle.reader.specs.declared.Moved.{Moved}
use Rattle.reader.proofs.job_at.Goals as goal

-- The answer of a step.
abbrev answer : Moved → Read
answer m = m.answer

-- The job that was read is the job at the place, and the field that is named of it says whether it is within its limits.
module _ (bytes : List ℕ) (place : ℕ) (job : Job) (read : fields_of job ≡ job_fields bytes place) (f : Option Field)
    (named : figure_or_none f ≡ bad_field (fields_of job)) where
  out : {n : Field} → f ≡ Some n → fields_within (job_fields bytes place) ≡ false
  out {n} is =
      let figure : figure_of n ≡ bad_field (fields_of job) = ap figure_or_none (sym is) ∙ named in
      rw (← read) (some-bad-field job (λ e. absurd (omega (arith, figure-low n, figure, e))))

  field : {n : Field} → f ≡ Some n → figure_of n ≡ bad_field (job_fields bytes place)
  field is = ap figure_or_none (sym is) ∙ named ∙ ap bad_field read

  within : f ≡ None → fields_within (job_fields bytes place) ≡ true
  within is = rw (← read) (no-bad-field job (sym named ∙ ap figure_or_none is))

pub returns-in_err-count : goal.returns-in_err-count
returns-in_err-count c =
    let e : c.from_residual.result ≡ Err c.in_err-count.field-0.0 = search rules in
    e ∙ sym (ap answer (open-refused c.args.bytes.now c.args.place (sym c.open.ensures ∙ c.in_err-count.was)).1)

pub returns-then-place-count : goal.returns-then-place-count
returns-then-place-count c =
    let opened : OpenFine c.args.bytes.now c.in_ok-count.count =
    open-accepted c.args.bytes.now _ (sym c.open.ensures ∙ c.in_ok-count.was) in
    sym (ap answer (step_end c.args.bytes.now c.args.place opened.passed (omega (arith, opened.counted, c.if-place-count.true))))

pub job_in-job-requires : goal.job_in-job-requires
job_in-job-requires c =
    let opened : OpenFine c.args.bytes.now c.in_ok-count.count =
    open-accepted c.args.bytes.now _ (sym c.open.ensures ∙ c.in_ok-count.was) in
    record-in c.args.bytes.now c.args.place opened.header (omega (arith, opened.counted, c.if-place-count.false))

pub returns-in-Some : goal.returns-in-Some
returns-in-Some c =
    let bytes = c.args.bytes.now in
    let place = c.args.place in
    let opened : OpenFine c.args.bytes.now c.in_ok-count.count = open-accepted bytes _ (sym c.open.ensures ∙ c.in_ok-count.was) in
    let job = c.job_in-job in
    let f = c.bad_field in
    ap (λ r. Err r) (c.in_field.ensures ∙ ap (in_field 6 place) (field bytes place job.result job.ensures f.result f.ensures c.in-Some.is))
    ∙ sym (ap answer (step-bad bytes place opened.passed (omega (arith, opened.counted, c.if-place-count.false))
    (out bytes place job.result job.ensures f.result f.ensures c.in-Some.is)))

pub returns-in-None : goal.returns-in-None
returns-in-None c =
    let bytes = c.args.bytes.now in
    let place = c.args.place in
    let opened : OpenFine c.args.bytes.now c.in_ok-count.count = open-accepted bytes _ (sym c.open.ensures ∙ c.in_ok-count.was) in
    let job = c.job_in-job in
    let f = c.bad_field in
    ap (λ j. Ok (Some j)) (made_again job.result job.ensures)
    ∙ sym (ap answer (step-job bytes place opened.passed (omega (arith, opened.counted, c.if-place-count.false))
    (within bytes place job.result job.ensures f.result f.ensures c.in-None.is)))
