-- What it is to be accepted, in bytes and in numbers; and that what is accepted is an order by R2 and R3.
use Rattle.std.specs.Prelude.{ℕ, zero, suc, ◌+◌, ◌-◌, ◌≤◌, ◌<◌, ◌≡◌, refl, false, ◌↔◌, ◌≢◌, List, ◌++◌, T, ℤ, nat_abs}
use Rattle.std.proofs.Common.{sym, ◌∙◌, arith, ne_eqb}
use Rattle.std.specs.Float.Ieee.Fits.{and_i}
use Rattle.seconds.specs.Limits.{most_weight}
use Rattle.seconds.specs.Signed.{signed, abs_is}
use Rattle.order.specs.Job.{Job, weight_of, job_within, jobs_within, has_number, numbers_unlike, order_within}
use Rattle.order.proofs.Within.{within-order, order-within as order-limits}
use Rattle.packed.specs.Places.{each_of, each}
use Rattle.packed.specs.PlacesLaws.{length-each}
use Rattle.packed.specs.Packed.{count_of, t0_of, numbers_of, job_count, fields_at}
use Rattle.packed.specs.Packed.{job_of, job_at, jobs_of, jobs_in, order_from, order_of}
use Rattle.packed.proofs.PackedLaws.{numbers-count, length-numbers}
use Rattle.packed.specs.Judge.{Check, fine, judge}
use Rattle.packed.specs.JudgeLaws.{stages-fine}
use Rattle.packed.specs.Refusals.{number_at, header_checks, list_checks, job_checks}
use Rattle.packed.specs.Refusals.{weight_checks, order_checks, number_checks}
use Rattle.packed.proofs.RefusalLaws.{job-within, HeaderFine, header-fine, ListFine}
use Rattle.packed.proofs.RefusalLaws.{list-fine, JobsFine, jobs-fine, weight-fine}

-- ---- all stages

-- A stage, then 6, 7 and 9 on numbers.
then-fine : (cs : List Check) (zs : List ℤ)
    → judge (cs ++ job_checks zs ++ weight_checks 0 zs) ≡ fine
    ↔ ((judge cs ≡ fine) × JobsFine zs × (weight_of (jobs_of zs) ≤ most_weight))
then-fine cs zs = (there, back)
  where
    there : judge (cs ++ job_checks zs ++ weight_checks 0 zs) ≡ fine
        → (judge cs ≡ fine) × JobsFine zs × (weight_of (jobs_of zs) ≤ most_weight)
    there e =
        let a = (stages-fine (cs ++ job_checks zs) (weight_checks 0 zs)).0 e in
        let b = (stages-fine cs (job_checks zs)).0 a.0 in
        let w = (weight-fine 0 zs).0 a.1 in
        (b.0, (jobs-fine zs).0 b.1, omega arith)

    back : (judge cs ≡ fine) × JobsFine zs × (weight_of (jobs_of zs) ≤ most_weight)
        → judge (cs ++ job_checks zs ++ weight_checks 0 zs) ≡ fine
    back h =
        (stages-fine (cs ++ job_checks zs) (weight_checks 0 zs)).1
        ((stages-fine cs (job_checks zs)).1 (h.0, (jobs-fine zs).1 h.1), (weight-fine 0 zs).1 (omega arith))

-- A bus-free time and numbers that are an order.
pub record NumbersFine (t0 : ℤ) (zs : List ℤ) : Type 0 where
  pub list : ListFine t0 zs
  pub jobs : JobsFine zs
  pub light : weight_of (jobs_of zs) ≤ most_weight

-- The checks say so.
pub numbers-fine : (t0 : ℤ) (zs : List ℤ) → judge (number_checks t0 zs) ≡ fine ↔ NumbersFine t0 zs
numbers-fine t0 zs = (there, λ f. (then-fine (list_checks t0 zs) zs).1 ((list-fine t0 zs).1 f.list, f.jobs, f.light))
  where
    there : judge (number_checks t0 zs) ≡ fine → NumbersFine t0 zs
    there e =
        let h = (then-fine (list_checks t0 zs) zs).0 e in
        record { list = (list-fine t0 zs).0 h.0; jobs = h.1; light = h.2 }

-- Bytes that are an order.
pub record OrderFine (bytes : List ℕ) : Type 0 where
  pub header : HeaderFine bytes
  pub jobs : JobsFine (numbers_of bytes)
  pub light : weight_of (jobs_of (numbers_of bytes)) ≤ most_weight

-- The checks say so.
pub order-fine : (bytes : List ℕ) → judge (order_checks bytes) ≡ fine ↔ OrderFine bytes
order-fine bytes =
    (there, λ f. (then-fine (header_checks bytes) (numbers_of bytes)).1 ((header-fine bytes).1 f.header, f.jobs, f.light))
  where
    there : judge (order_checks bytes) ≡ fine → OrderFine bytes
    there e =
        let h = (then-fine (header_checks bytes) (numbers_of bytes)).0 e in
        record { header = (header-fine bytes).0 h.0; jobs = h.1; light = h.2 }

-- What bytes that are an order say is an order in numbers.
pub order-numbers : (bytes : List ℕ) → OrderFine bytes → NumbersFine (t0_of bytes) (numbers_of bytes)
order-numbers bytes f =
    let count : job_count (numbers_of bytes) ≡ count_of bytes = numbers-count bytes in
    record {
      list = record { few = omega arith; whole = rw count (length-numbers bytes); timely = f.header.timely };
      jobs = f.jobs;
      light = f.light;
    }

-- ---- the limits of R2 and R3

each_within : (f : ℕ → Job) (at m : ℕ) → ((k : ℕ) → at ≤ k → k < at + m → T (job_within (f k))) → T (jobs_within (each_of f at m))
each_within f at zero h = tt
each_within f at (suc m) h =
    and_i (job_within (f at)) (jobs_within (each_of f (suc at) m)) (h at (omega arith) (omega arith))
    (each_within f (suc at) m (λ k a b. h k (omega arith) (omega arith)))

each-other : (f : ℕ → Job) (x at m : ℕ) → ((k : ℕ) → at ≤ k → k < at + m → x ≢ (f k).number) → has_number x (each_of f at m) ≡ false
each-other f x at zero h = refl
each-other f x at (suc m) h =
    rw (ne_eqb x (f at).number (h at (omega arith) (omega arith)))
    (each-other f x (suc at) m (λ k a b. h k (omega arith) (omega arith)))

each-unlike : (f : ℕ → Job) (at m : ℕ) → ((j k : ℕ) → at ≤ j → j < k → k < at + m → (f j).number ≢ (f k).number)
    → T (numbers_unlike (each_of f at m))
each-unlike f at zero h = tt
each-unlike f at (suc m) h =
    rw (each-other f (f at).number (suc at) m (λ k a b. h at k (omega arith) (omega arith) (omega arith)))
    (each-unlike f (suc at) m (λ j k a b c. h j k (omega arith) b (omega arith)))

job-number : (zs : List ℤ) (k : ℕ) → (job_at zs k).number ≡ nat_abs (number_at zs k)
unfolding job_of number_at
job-number zs k = refl

numbers-unlike : (zs : List ℤ) → JobsFine zs → (j k : ℕ) → j < k → k < job_count zs → (job_at zs j).number ≢ (job_at zs k).number
unfolding number_at
numbers-unlike zs f j k h b e =
    let alike : nat_abs (number_at zs j) ≡ nat_abs (number_at zs k) = sym (job-number zs j) ∙ e ∙ job-number zs k in
    let first = (f.within j (omega arith)).number in
    let second = (f.within k b).number in
    f.unlike j k h b (omega (signed, abs_is (number_at zs j), abs_is (number_at zs k)))

-- A bus-free time and numbers that are accepted are an order within the limits.
pub numbers-within : (t0 : ℤ) (zs : List ℤ) → NumbersFine t0 zs → T (order_within (order_from t0 zs))
unfolding jobs_of each
numbers-within t0 zs f =
    let n : ℕ = job_count zs in
    within-order (order_from t0 zs)
    (record {
      t0 = f.list.timely;
      few = omega (arith, length-each (job_at zs) 0 n, f.list.few);
      jobs = each_within (job_at zs) 0 (n - 0) (λ k a b. job-within (fields_at zs k) (f.jobs.within k (omega arith)));
      unlike = each-unlike (job_at zs) 0 (n - 0) (λ j k a b c. numbers-unlike zs f.jobs j k b (omega arith));
      weight = f.light;
    })

-- The jobs of bytes that are accepted are within the limits,
pub jobs-fit : (bytes : List ℕ) → OrderFine bytes → T (jobs_within (jobs_in bytes))
jobs-fit bytes f =
    (order-limits (order_from (t0_of bytes) (numbers_of bytes))
    (numbers-within (t0_of bytes) (numbers_of bytes) (order-numbers bytes f))).jobs

-- and so is the order that they say.
pub order-within : (bytes : List ℕ) → judge (order_checks bytes) ≡ fine → T (order_within (order_of bytes))
unfolding order_of
order-within bytes e = numbers-within (t0_of bytes) (numbers_of bytes) (order-numbers bytes ((order-fine bytes).0 e))
