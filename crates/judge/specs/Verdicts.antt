-- What the judging calls ask of their callers, and what is gathered of the jobs on the way.
-- Definitions only.
use Rattle.std.specs.Prelude.{ℕ, ◌+◌, ◌<◌, ◌≡◌, cond, ◌&&◌, List, [], ◌∷◌, ltb, eqb, ℤ, pos, nat_abs, length, get_or, set, Result, Ok, Err}
use Rattle.seconds.specs.Limits.{most_weight}
use Rattle.order.specs.Job.{weight_of}
use Rattle.packed.specs.declared.Refusal.{Refusal}
use Rattle.packed.specs.Judge.{in_field, plainly, Verdict, fine, refused, judge, check, check_at}
use Rattle.packed.specs.Packed.{kind_of, numbers_of, kind_for, job_count, jobs_of}
use Rattle.packed.specs.Refusals.{fields_within, bad_field, number_at, first_bad, job_checks}
use Rattle.fields.specs.Fields.{fields_of}
use Rattle.fields.specs.declared.Job.{Job}
use Rattle.repeats.specs.Repeats.{first_again}

-- ---- the kind

-- 19 alone.
abbrev pub kind_judged : List ℕ → Verdict
kind_judged bytes = cond (eqb (kind_of bytes) 1 && eqb (kind_for (numbers_of bytes)) 0) (refused (plainly 19)) fine

-- ---- what is gathered of the jobs

-- A job within its limits is taken in, and its weight told; else it is refused at its place, and its bad field is named.
abbrev pub taken_in : Job → ℕ → Result ℕ Refusal
taken_in j place = cond (fields_within (fields_of j)) (Ok (nat_abs j.weight)) (Err (in_field 6 place (bad_field (fields_of j))))

-- The number of a job that is taken in is noted at its place.
abbrev pub noted_in : Job → ℕ → List ℕ → List ℕ
noted_in j place numbers = cond (fields_within (fields_of j)) (set numbers place (nat_abs j.number)) numbers

-- None is out of range, and their numbers and weights are gathered.
pub record AllIn (zs : List ℤ) (numbers : List ℕ) (weight : ℕ) : Type 0 where
  pub none-bad : first_bad zs ≡ job_count zs
  pub gathered : (k : ℕ) → k < job_count zs → number_at zs k ≡ pos (get_or numbers k 0)
  pub weighed : weight ≡ weight_of (jobs_of zs)

-- That, or refusal 6 as it is judged.
abbrev pub Gathers : List ℤ → List ℕ → Result ℕ Refusal → Type 0
Gathers zs numbers (Ok weight) = AllIn zs numbers weight
Gathers zs numbers (Err r) = judge (job_checks zs) ≡ refused r

-- 6 and 7 are passed, and this is what the jobs weigh; or the refusal as it is judged.
abbrev pub JudgedEach : List ℤ → Result ℕ Refusal → Type 0
JudgedEach zs (Ok weight) = (judge (job_checks zs) ≡ fine) × (weight ≡ weight_of (jobs_of zs))
JudgedEach zs (Err r) = judge (job_checks zs) ≡ refused r

-- 7 of gathered numbers.
abbrev pub repeats_judged : List ℕ → Verdict
repeats_judged numbers = judge (check_at 7 (first_again numbers) (length numbers) ∷ [])

-- 9 of a weight that is there before, and the weight of all jobs.
abbrev pub sum_judged : ℕ → ℕ → Verdict
sum_judged before weight = judge (check 9 (ltb most_weight (before + weight)) ∷ [])
