-- The laws of summing the weight that a mask keeps: one job, as the code weighs it, and job by job; and what is compared.
use Rattle.std.specs.Prelude.{ℕ, suc, ◌+◌, ◌*◌, ◌≤◌, ◌<◌, ◌≡◌, refl, Bool, true, false, List, [], ◌∷◌, nat_abs, drop}
use Rattle.std.proofs.Common.{sym, ap, ap₂, ◌∙◌, arith, to_z, of_z, to_z-of_z}
use Rattle.std.specs.Int.{w32}
use Rattle.seconds.specs.Limits.{heaviest}
use Rattle.seconds.specs.Signed.{signed, abs_is}
use Rattle.order.specs.Job.{Job, gain_of}
use Rattle.order.specs.Choice.{kept_weight}
use Rattle.packed.specs.Packed.{job_fields, count_of, job_of, jobs_in}
use Rattle.packed.specs.Places.{each}
use Rattle.packed.specs.PlacesLaws.{each_on, each-end}
use Rattle.packed.specs.Refusals.{fields_within}
use Rattle.packed.proofs.Accepted.{OrderFine}
use Rattle.fields.specs.declared.Job.{Job as Numbers}
use Rattle.fields.specs.Fields.{fields_of, as_job}
use Rattle.fields.specs.Facts.{job-facts, facts-fit}
use Rattle.fields.specs.Places.{drop_more, job-there, job-fine}
use Rattle.packed_plan.specs.Plan.{kept_at}
use Rattle.legal.specs.Legal.{pick_of, choice_of}
use Rattle.best_plan.specs.Weights.{weight_under, CanSum}

-- ---- one job

-- Kept, it counts its weight,
gain-kept : (job : Numbers) → gain_of (as_job job) 1 ≡ nat_abs job.weight
unfolding job_of
gain-kept job = refl

-- as the code reads it.
pub weight-kept : (job : Numbers) → fields_within (fields_of job) ≡ true
    → nat_abs (to_z w32 (of_z w32 job.weight)) ≡ gain_of (as_job job) 1
weight-kept job within =
    ap nat_abs (to_z-of_z (facts-fit job ((job-facts job).0 within)).weight) ∙ sym (gain-kept job)

-- Kept or left out, it counts at most the weight of the heaviest.
gain-light : (job : Numbers) → fields_within (fields_of job) ≡ true → (kept : Bool) → gain_of (as_job job) (pick_of kept) ≤ heaviest
gain-light job within false = omega arith
gain-light job within true =
    let f = ((job-facts job).0 within).weight in
    omega (signed, gain-kept job, abs_is job.weight)

-- ---- job by job

-- The weight so far and that of the jobs from here on are the whole weight.
pub record Summing (bytes : List ℕ) (n mask weight place : ℕ) : Type 0 where
  pub order : OrderFine bytes
  pub count : n ≡ count_of bytes
  pub going : place ≤ n
  pub light : weight ≤ heaviest * place
  pub sum : weight + kept_weight (drop place (jobs_in bytes)) (choice_of (each (kept_at mask) place n)) ≡ weight_under bytes n mask

pub sum-starts : (bytes : List ℕ) (n mask : ℕ) → CanSum bytes n → Summing bytes n mask 0 0
sum-starts bytes n mask c =
    record { order = c.order; count = c.count; going = omega arith; light = omega arith; sum = omega arith }

-- A job was read at a place.
module _ {bytes : List ℕ} {n mask weight place : ℕ} (s : Summing bytes n mask weight place) (more : place < n)
    (job : Numbers) (read : fields_of job ≡ job_fields bytes place) where
  below : place < count_of bytes
  below = omega (arith, s.count)

  -- It is within its limits,
  pub job-weighs : fields_within (fields_of job) ≡ true
  job-weighs = job-fine bytes place below job read s.order

  from-here : kept_weight (drop place (jobs_in bytes)) (choice_of (each (kept_at mask) place n))
      ≡ gain_of (as_job job) (pick_of (kept_at mask place))
      + kept_weight (drop (place + 1) (jobs_in bytes)) (choice_of (each (kept_at mask) (place + 1) n))
  from-here =
      let next : suc place ≡ place + 1 = omega arith in
      ap₂ (λ (js : List Job) (ks : List Bool). kept_weight js (choice_of ks))
      (rw next at (drop_more (jobs_in bytes) place (job-there bytes place below job read))) (each_on (kept_at mask) place n more)

  module _ {kept : Bool} {gain : ℕ} (is-kept : kept ≡ kept_at mask place) (gains : gain ≡ gain_of (as_job job) (pick_of kept)) where
    -- what it counts is small,
    pub gain-small : gain ≤ heaviest
    gain-small = rw gains (gain-light job job-weighs kept)

    -- and the sum goes on behind it.
    pub sum-on : Summing bytes n mask (weight + gain) (place + 1)
    sum-on =
        let its : gain ≡ gain_of (as_job job) (pick_of (kept_at mask place)) =
        gains ∙ ap (λ (k : Bool). gain_of (as_job job) (pick_of k)) is-kept in
        record {
          order = s.order;
          count = s.count;
          going = omega arith;
          light = omega (arith, s.light, gain-small);
          sum = omega (arith, s.sum, from-here, its);
        }

-- No picks keep nothing.
none_kept : (js : List Job) → kept_weight js [] ≡ 0
none_kept [] = refl
none_kept (j ∷ js) = refl

-- No job is left.
pub sum-ends : {bytes : List ℕ} {n mask weight place : ℕ} → Summing bytes n mask weight place → n ≤ place
    → weight ≡ weight_under bytes n mask
sum-ends {bytes} {n} {mask} {weight} {place} s h =
    let e : place ≡ n = omega (arith, s.going) in
    let left : kept_weight (drop place (jobs_in bytes)) (choice_of (each (kept_at mask) place n)) ≡ 0 =
    rw (e, each-end (kept_at mask) n) (none_kept (drop n (jobs_in bytes))) in
    omega (arith, s.sum, left)
