-- What the loop of unpacking says on the way: the numbers of the jobs before a place are written, the rest is as it was.
use Rattle.std.specs.Prelude.{ℕ, ◌+◌, ◌*◌, ◌≤◌, ◌≡◌, ℤ, length, take}
use Rattle.std.proofs.Math.Path.{ap}
use Rattle.std.proofs.Common.{◌∙◌, length-append, length-drop}
use mathlib.Core.List.{List, ◌++◌}
use native.Mathlib.Omega.{arith}
use Rattle.std.proofs.Math.ListN.{drop}
use Rattle.packed.specs.Places.{flat}
use Rattle.packed.specs.PlacesLaws.{flat-zero, flat-more, length-flat, fill_on}
use Rattle.packed.specs.Packed.{count_of, job_fields, numbers_of}
use Rattle.packed.proofs.PackedLaws.{length_fields, numbers-is, length-numbers}
use Rattle.fields.specs.Fields.{fields_of}
use Rattle.fields.specs.declared.Job.{Job}
use Rattle.unpack.specs.Writing.{first_jobs}

module _ (bytes : List ℕ) (was : List ℤ) where
  -- At first nothing is written.
  pub none_written : first_jobs bytes 0 was ≡ was
  unfolding first_jobs
  none_written = rw (flat-zero (job_fields bytes))

  -- In the end the numbers of all jobs are.
  pub all-written : first_jobs bytes (count_of bytes) was ≡ numbers_of bytes ++ drop (length (numbers_of bytes)) was
  unfolding first_jobs
  all-written = rw (length-numbers bytes, numbers-is bytes)

  -- The numbers stay as many.
  pub written-length : (k : ℕ) → 7 * k ≤ length was → length (first_jobs bytes k was) ≡ length was
  unfolding first_jobs
  written-length k h =
      rw (length-append, length-flat 7 (job_fields bytes) (length_fields bytes) k, length-drop) (omega arith)

  -- One job more.
  pub one_more : (k : ℕ) (j : Job) → fields_of j ≡ job_fields bytes k
      → take (7 * k) (first_jobs bytes k was) ++ fields_of j ++ drop (7 * k + 7) (first_jobs bytes k was) ≡ first_jobs bytes (k + 1) was
  unfolding first_jobs
  one_more k j r =
      let e : 7 * (k + 1) ≡ 7 * k + 7 = omega arith in
      rw (e, flat-more (job_fields bytes) k)
      (fill_on (flat (job_fields bytes) k) was (fields_of j) (7 * k) 7 (length-flat 7 (job_fields bytes) (length_fields bytes) k)
      ∙ ap (λ (l : List ℤ). flat (job_fields bytes) k ++ l ++ drop (7 * k + 7) was) r)
