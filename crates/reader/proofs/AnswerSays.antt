-- What the reader says in numbers (R23), over all bytes and at every place: refused, what the first check that applies says
-- and all else 0; else no refusal, and the count of jobs, the job's numbers, or the end.
use Rattle.std.specs.Prelude.{ℕ, ◌+◌, ◌≤◌, ◌<◌, ◌≡◌, refl, List, [], ℤ}
use Rattle.std.proofs.Common.{lt-ltb, le-ltb}
use Rattle.packed.specs.declared.Refusal.{Refusal}
use Rattle.packed.specs.Judge.{no_refusal, fine, refused, judge}
use Rattle.packed.specs.Packed.{count_of, job_fields}
use Rattle.packed.specs.Refusals.{header_checks}
use Rattle.reader.specs.Reading.{open_of, open_refusal, open_count}
use Rattle.reader.specs.Reading.{step_checks, step_of, read_refusal, read_end, read_numbers}
use Rattle.reader.proofs.ReadingLaws.{seven-numbers}

module _ (bytes : List ℕ) where
  -- Opening: the refusal number and the count of jobs.
  abbrev OpenSays : ℕ → ℕ → Type 0
  OpenSays refusal count = (open_refusal (open_of bytes) ≡ refusal) × (open_count (open_of bytes) ≡ count)

  pub open-refused-says : {r : Refusal} → judge (header_checks bytes) ≡ refused r → OpenSays r.number 0
  open-refused-says e = rw e (refl, refl)

  pub accepted-says : judge (header_checks bytes) ≡ fine → OpenSays 0 (count_of bytes)
  accepted-says e = rw e (refl, refl)

  module _ (place : ℕ) where
    -- A step: the refusal, the end, the numbers of the job, and where the reader then stands.
    abbrev StepSays : Refusal → ℕ → List ℤ → ℕ → Type 0
    StepSays refusal end numbers next =
        let m = step_of bytes place in
        (read_refusal m.answer ≡ refusal) × (read_end m.answer ≡ end)
        × (read_numbers m.answer ≡ numbers) × (m.place ≡ next)

    pub refused_says : {r : Refusal} → judge (step_checks bytes place) ≡ refused r → StepSays r 0 [] place
    refused_says e = rw e (refl, refl, refl, refl)

    pub job-says : judge (step_checks bytes place) ≡ fine → place < count_of bytes
        → StepSays no_refusal 0 (job_fields bytes place) (place + 1)
    job-says e h = rw (e, lt-ltb place (count_of bytes) h) (refl, refl, seven-numbers bytes place, refl)

    pub end-says : judge (step_checks bytes place) ≡ fine → count_of bytes ≤ place → StepSays no_refusal 1 [] place
    end-says e h = rw (e, le-ltb place (count_of bytes) h) (refl, refl, refl, refl)
