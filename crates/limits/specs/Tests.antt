-- The tests of a job as the code makes them, from the last field to the first, and what a branch on the field says.
use Rattle.std.specs.Prelude.{ℕ, ◌≡◌, refl, true, false, cond, ◌≢◌, eqb, ℤ, pos, negsuc}
use Rattle.std.proofs.Common.{sym, ap, ◌∙◌, of_z, eq-eqb, ne_eqb}
use Rattle.std.specs.Int.{w32}
use Rattle.seconds.specs.Limits.{highest_pack, longest}
use Rattle.seconds.specs.Ranges.{same, is_between, is_time}
use Rattle.seconds.specs.RangesLaws.{same-is}
use Rattle.packed.specs.Refusals.{weight_test, fields_within, bad_field}
use Rattle.packed.proofs.FieldLaws.{no-field-within}
use Rattle.fields.specs.Fields.{fields_of}
use Rattle.fields.specs.declared.Job.{Job}

-- The mark is compared as its bits.
mark-tested : (mark weight : ℤ) (later : ℕ)
    → cond (is_between (pos 0) (pos 1) mark) (cond (weight_test (eqb (of_z w32 mark) 1) weight) later 4) 3
    ≡ cond (is_between (pos 0) (pos 1) mark) (cond (weight_test (same mark (pos 1)) weight) later 4) 3
mark-tested (pos n) weight later = rw (same-is n 1)
mark-tested (negsuc n) weight later = refl

-- The seven tests together, the last field's first.
pub job-tested : (j : Job)
    → cond (is_between (pos 0) (pos 63) j.number)
    (cond (is_between (pos 0) (pos highest_pack) j.pack)
    (cond (is_between (pos 0) (pos 1) j.critical)
    (cond (weight_test (eqb (of_z w32 j.critical) 1) j.weight)
    (cond (is_time j.ready)
    (cond (is_between (pos 1) (pos longest) j.length) (cond (is_time j.deadline) 0 7) 6) 5) 4) 3) 2) 1
    ≡ bad_field (fields_of j)
unfolding bad_field
job-tested j =
    ap (λ f. cond (is_between (pos 0) (pos 63) j.number) (cond (is_between (pos 0) (pos highest_pack) j.pack) f 2) 1) (mark-tested j.critical j.weight _)

-- No field is named exactly when the job is within its limits: what a branch on the field says.
pub no-bad-field : (j : Job) → bad_field (fields_of j) ≡ 0 → fields_within (fields_of j) ≡ true
no-bad-field j e = sym (no-field-within (fields_of j)) ∙ eq-eqb (bad_field (fields_of j)) 0 e

pub some-bad-field : (j : Job) → bad_field (fields_of j) ≢ 0 → fields_within (fields_of j) ≡ false
some-bad-field j n = sym (no-field-within (fields_of j)) ∙ ne_eqb (bad_field (fields_of j)) 0 n
