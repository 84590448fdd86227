-- The limits of jobs and orders as facts, each from its test and back.
use Rattle.std.specs.Prelude.{ℕ, zero, suc, ◌+◌, ◌≤◌, ◌≡◌, refl, Bool, true, false, ◌&&◌, List, [], ◌∷◌, ◌++◌, T, ℤ, length}
use Rattle.std.proofs.Common.{sym, ap, ◌∙◌, true≢false, arith, leb→le, le→leb, eqb→eq}
use Rattle.std.proofs.Math.Bool.{and_assoc}
use Rattle.std.proofs.lemmas.Bool.{false≢true}
use Rattle.std.proofs.Math.Option.{some, none-ne-some}
use Rattle.std.specs.Float.Ieee.Bits.{is_true}
use Rattle.std.specs.Float.Ieee.Fits.{and_l, and_r, and_i}
use Rattle.std.proofs.Math.ListN.{get_elem?}
use Rattle.seconds.specs.Limits.{earliest, latest, heaviest, longest, most_jobs, most_weight}
use Rattle.seconds.specs.Signed.{signed, true-T}
use Rattle.seconds.specs.Ranges.{InTime, is_time}
use Rattle.seconds.specs.RangesLaws.{between-true}
use Rattle.order.specs.Job.{Rate, Job, Order, rate_of, weight_of}
use Rattle.order.specs.Job.{weight_within, rates_within, job_within, jobs_within, numbers_unlike, order_within}

-- ---- a job

-- The test of a time, and back.
time-in : (z : ℤ) → T (is_time z) → InTime z
time-in z t = (between-true earliest latest z).0 (is_true (is_time z) t)

in-time : (z : ℤ) → InTime z → T (is_time z)
in-time z h = true-T ((between-true earliest latest z).1 h)

-- A rate of a job of weight w takes 1 to 10,000 seconds and counts at most w.
pub record RateWithin (w : ℕ) (r : Rate) : Type 0 where
  pub least : 1 ≤ r.takes
  pub most : r.takes ≤ longest
  pub light : r.gain ≤ w

-- What the limits say of a job.
pub record JobWithin (j : Job) : Type 0 where
  pub number : j.number ≤ 63
  pub weightless : j.critical ≡ true → j.weight ≡ 0
  pub weighty : j.critical ≡ false → 1 ≤ j.weight
  pub light : j.weight ≤ heaviest
  pub ready : InTime j.ready
  pub rates : (k : ℕ) (r : Rate) → rate_of j k ≡ some r → RateWithin j.weight r
  pub deadline : InTime j.deadline

rates-within : (w : ℕ) (rs : List Rate) → T (rates_within w rs)
    → (k : ℕ) (r : Rate) → get_elem? rs k ≡ some r → RateWithin w r
rates-within w [] t k r e = absurd (none-ne-some r e)
rates-within w (q ∷ rs) t zero r e =
    let same : q ≡ r = cc in
    rw (← same) (record {
      least = leb→le 1 q.takes (search (and_l, and_r));
      most = leb→le q.takes longest (search (and_l, and_r));
      light = leb→le q.gain w (search (and_l, and_r));
    })
rates-within w (q ∷ rs) t (suc k) r e = rates-within w rs (search (and_l, and_r)) k r e

weight-within : (c : Bool) (w : ℕ) → T (weight_within c w) → ((c ≡ true → w ≡ 0) × (c ≡ false → 1 ≤ w) × (w ≤ heaviest))
weight-within true w t = let e : w ≡ 0 = eqb→eq w 0 t in ((λ h. e), (λ h. absurd (true≢false h)), omega arith)
weight-within false w t =
    ((λ h. absurd (false≢true h)), (λ h. leb→le 1 w (search (and_l, and_r))), leb→le w heaviest (search (and_l, and_r)))

-- A job that passes the test is within the limits, and back.
pub job-within : (j : Job) → T (job_within j) → JobWithin j
job-within j t =
    let ws = weight-within j.critical j.weight (search (and_l, and_r)) in
    record {
      number = leb→le j.number 63 (search (and_l, and_r));
      weightless = ws.0;
      weighty = ws.1;
      light = ws.2;
      ready = time-in j.ready (search (and_l, and_r));
      rates = rates-within j.weight j.rates (search (and_l, and_r));
      deadline = time-in j.deadline (search (and_l, and_r));
    }

within-rates : (w : ℕ) (rs : List Rate) → ((k : ℕ) (r : Rate) → get_elem? rs k ≡ some r → RateWithin w r)
    → T (rates_within w rs)
within-rates w [] h = tt
within-rates w (r ∷ rs) h =
    let first = h 0 r refl in
    let further = within-rates w rs (λ k. h (suc k)) in
    search (and_i, le→leb)

within-weight : (c : Bool) (w : ℕ) → (c ≡ true → w ≡ 0) → (c ≡ false → 1 ≤ w) → w ≤ heaviest → T (weight_within c w)
within-weight true w z l m = omega (signed, z refl)
within-weight false w z l m = let least = l refl in search (and_i, le→leb)

pub within-job : (j : Job) → JobWithin j → T (job_within j)
within-job j w =
    let weight = within-weight j.critical j.weight w.weightless w.weighty w.light in
    let rates = within-rates j.weight j.rates w.rates in
    search (and_i, le→leb, in-time)

-- ---- several jobs, and an order

-- Of jobs within the limits the first is, and so are the others.
pub jobs-within : (j : Job) (js : List Job) → T (jobs_within (j ∷ js)) → JobWithin j × T (jobs_within js)
jobs-within j js t = (job-within j (and_l (job_within j) (jobs_within js) t), and_r (job_within j) (jobs_within js) t)

-- Joined jobs are within the limits if both parts are.
pub jobs_within-append : (js ks : List Job) → jobs_within (js ++ ks) ≡ (jobs_within js && jobs_within ks)
jobs_within-append [] ks = refl
jobs_within-append (j ∷ js) ks =
    ap (λ (b : Bool). job_within j && b) (jobs_within-append js ks)
    ∙ sym (and_assoc (job_within j) (jobs_within js) (jobs_within ks))

-- The weights of joined jobs add up.
pub weight_of-append : (js ks : List Job) → weight_of (js ++ ks) ≡ weight_of js + weight_of ks
weight_of-append [] ks = omega arith
weight_of-append (j ∷ js) ks = let ih = weight_of-append js ks in omega arith

-- What the limits say of an order.
pub record OrderWithin (o : Order) : Type 0 where
  pub t0 : InTime o.t0
  pub few : length o.jobs ≤ most_jobs
  pub jobs : T (jobs_within o.jobs)
  pub unlike : T (numbers_unlike o.jobs)
  pub weight : weight_of o.jobs ≤ most_weight

-- An order that passes the test is within the limits, and back.
pub order-within : (o : Order) → T (order_within o) → OrderWithin o
order-within o t =
    record {
      t0 = time-in o.t0 (search (and_l, and_r));
      few = leb→le (length o.jobs) most_jobs (search (and_l, and_r));
      jobs = search (and_l, and_r);
      unlike = search (and_l, and_r);
      weight = leb→le (weight_of o.jobs) most_weight (search (and_l, and_r));
    }

pub within-order : (o : Order) → OrderWithin o → T (order_within o)
within-order o w = search (and_i, le→leb, in-time)
