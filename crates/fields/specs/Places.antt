-- The jobs of packed bytes place by place, as the code reads them.
use Rattle.std.specs.Prelude.{ℕ, zero, suc, ◌+◌, ◌-◌, ◌≤◌, ◌<◌, ◌≡◌, refl, true, List, [], ◌∷◌, ◌++◌, reverse, ℤ, nat_abs, length, take, drop}
use Rattle.std.proofs.Common.{ap, ◌∙◌, add-zero, zero-add, arith}
use Rattle.std.proofs.lemmas.List.{reverse-append}
use Rattle.std.proofs.Math.Option.{some, none-ne-some, some-injective}
use Rattle.std.proofs.Math.ListN.{get_elem?}
use Rattle.seconds.specs.Signed.{true-T}
use Rattle.order.specs.Job.{Rate, Job, rate_of, weight_of}
use Rattle.order.proofs.Within.{JobWithin, job-within}
use Rattle.order.proofs.Moves.{one-rate-whole}
use Rattle.order.proofs.OneRate.{OneRate}
use Rattle.packed.specs.Places.{each_of, each}
use Rattle.packed.specs.PlacesLaws.{length-each}
use Rattle.packed.specs.Packed.{count_of, numbers_of, job_count, fields_at, job_fields, job_of, job_in, order_of, jobs_in}
use Rattle.packed.specs.Packed.{the_number, the_weight, the_ready, the_length, the_deadline, is_critical}
use Rattle.packed.proofs.PackedLaws.{numbers-count, fields-of-numbers, order-jobs}
use Rattle.packed.specs.Refusals.{fields_within}
use Rattle.packed.proofs.RefusalLaws.{within-is, fields_within_lem}
use Rattle.packed.proofs.Accepted.{OrderFine}
use Rattle.fields.specs.declared.Job.{Job as Numbers}
use Rattle.fields.specs.Fields.{fields_of, as_job}

-- ---- the job at a place

module _ {j : Job} where
  -- It is one of the jobs.
  pub place-below : (js : List Job) (k : ℕ) → get_elem? js k ≡ some j → k < length js
  place-below [] k e = absurd (none-ne-some j e)
  place-below (i ∷ js) zero e = omega arith
  place-below (i ∷ js) (suc k) e = let h = place-below js k e in omega arith

  -- The jobs up to it, and from it on.
  pub take_more : (js : List Job) (k : ℕ) → get_elem? js k ≡ some j → take (suc k) js ≡ take k js ++ (j ∷ [])
  take_more [] k e = absurd (none-ne-some j e)
  take_more (i ∷ js) zero e = ap (λ (x : Job). x ∷ []) (some-injective i j e)
  take_more (i ∷ js) (suc k) e = ap (λ (l : List Job). i ∷ l) (take_more js k e)

  pub drop_more : (js : List Job) (k : ℕ) → get_elem? js k ≡ some j → drop k js ≡ j ∷ drop (suc k) js
  drop_more [] k e = absurd (none-ne-some j e)
  drop_more (i ∷ js) zero e = ap (λ (x : Job). x ∷ js) (some-injective i j e)
  drop_more (i ∷ js) (suc k) e = drop_more js k e

  -- Told from the last to the first, it stands before those up to it.
  pub back_more : (js : List Job) (k : ℕ) → get_elem? js k ≡ some j → reverse (take (suc k) js) ≡ j ∷ reverse (take k js)
  back_more js k e = rw (take_more js k e) (reverse-append (take k js) (j ∷ []))

-- No jobs up to a place weigh more than all.
pub weight-up-to : (js : List Job) (k : ℕ) → weight_of (take k js) ≤ weight_of js
weight-up-to [] zero = omega arith
weight-up-to [] (suc k) = omega arith
weight-up-to (j ∷ js) zero = omega arith
weight-up-to (j ∷ js) (suc k) = let h = weight-up-to js k in omega arith

-- ---- the jobs of bytes

-- The one for a place.
one-of-each : (f : ℕ → Job) (at m k : ℕ) → k < m → get_elem? (each_of f at m) k ≡ some (f (at + k))
one-of-each f at zero k h = absurd (omega arith)
one-of-each f at (suc m) zero h = rw (add-zero at)
one-of-each f at (suc m) (suc k) h =
    let e : at + suc k ≡ suc at + k = omega arith in
    rw e (one-of-each f (suc at) m k (omega arith))

-- A job of seven numbers has one.
rate-of-each : (zs : ℕ → List ℤ) (at m : ℕ) → OneRate (each_of (λ k. job_of (zs k)) at m)
unfolding job_of
rate-of-each zs at zero = tt
rate-of-each zs at (suc m) = (refl, rate-of-each zs (suc at) m)

-- At which it counts its whole weight.
whole-of-each : (zs : ℕ → List ℤ) (at m k : ℕ) {j : Job} → get_elem? (each_of (λ k. job_of (zs k)) at m) k ≡ some j
    → (i : ℕ) (r : Rate) → rate_of j i ≡ some r → r.gain ≡ j.weight
unfolding job_of
whole-of-each zs at zero k e i r g = absurd (none-ne-some _ e)
whole-of-each zs at (suc m) zero {j} e i r g =
    let z : List ℤ = zs at in
    let same : job_of z ≡ j = some-injective _ _ e in
    rw (← same)
    (one-rate-whole (nat_abs (the_number z)) (is_critical z) (nat_abs (the_weight z)) (the_ready z) (nat_abs (the_length z)) (the_deadline z) i r
    (rw (← same) at g))
whole-of-each zs at (suc m) (suc k) e i r g = whole-of-each zs (suc at) m k e i r g

module _ (bytes : List ℕ) where
  -- Each from its own bytes.
  jobs-are : jobs_in bytes ≡ each (job_in bytes) 0 (count_of bytes)
  unfolding order_of
  jobs-are = order-jobs bytes

  -- As many as the header says.
  pub jobs-count : length (jobs_in bytes) ≡ count_of bytes
  jobs-count = rw jobs-are (omega (arith, length-each (job_in bytes) 0 (count_of bytes)))

  -- Each has one rate,
  pub jobs-one-rate : OneRate (jobs_in bytes)
  unfolding each
  jobs-one-rate = rw jobs-are (rate-of-each (job_fields bytes) 0 (count_of bytes - 0))

  -- and counts its whole weight at it.
  pub jobs-whole : (k : ℕ) {j : Job} → get_elem? (jobs_in bytes) k ≡ some j → (i : ℕ) (r : Rate) → rate_of j i ≡ some r
      → r.gain ≡ j.weight
  unfolding each
  jobs-whole k e = whole-of-each (job_fields bytes) 0 (count_of bytes - 0) k (rw jobs-are at e)

  -- The numbers read at a place are those of the job there,
  module _ (k : ℕ) (below : k < count_of bytes) (numbers : Numbers)
      (numbers-there : fields_of numbers ≡ job_fields bytes k) where
    pub job-there : get_elem? (jobs_in bytes) k ≡ some (as_job numbers)
    unfolding each
    job-there =
        rw (jobs-are, numbers-there)
        (one-of-each (job_in bytes) 0 (count_of bytes - 0) k (omega arith) ∙ rw (zero-add k))

    -- they are within their limits,
    pub job-fine : OrderFine bytes → fields_within (fields_of numbers) ≡ true
    job-fine fine =
        let there : k < job_count (numbers_of bytes) = omega (arith, numbers-count bytes) in
        rw (numbers-there, ← (fields-of-numbers bytes k below))
        ((within-is (fields_at (numbers_of bytes) k)).1 (fine.jobs.within k there))

    -- and so is the job.
    pub job-limits : OrderFine bytes → JobWithin (as_job numbers)
    job-limits fine = job-within (as_job numbers) (fields_within_lem (fields_of numbers) (true-T (job-fine fine)))
