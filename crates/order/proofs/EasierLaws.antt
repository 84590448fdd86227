-- Facts about easier jobs, before anything runs: every job is as easy as itself, unchanged weights are no lower, and of two jobs'
-- rates at one place both are there or neither is.
use Rattle.std.specs.Prelude.{ℕ, zero, suc, refl}
use mathlib.Core.List.{List, Forall₂}
use Rattle.std.proofs.Math.Option.{Option, none, some}
use mathlib.Mathlib.Data.List.Forall2.Forall₂
use mathlib.Mathlib.Data.List.Forall2.{Forall₂-refl}
use Rattle.std.proofs.Common.{le_refl, arith}
use Rattle.std.proofs.Math.ListN.{get_elem?}
use Rattle.std.specs.Int.Signed.{≤ℤ_refl}
use Rattle.order.specs.Job.{Rate, Job, Order}
use Rattle.order.specs.Easier.{Unchanged, NoLower, EasierRate, EasierJob, EasierJobs, EasierOrder}

-- ---- the same job

same-rate : (r : Rate) → EasierRate Unchanged r r
same-rate r = record { takes = le_refl r.takes; gain = refl }

-- A job is as easy as itself.
pub same-job : (j : Job) → EasierJob Unchanged j j
same-job j =
    record {
      critical = refl;
      weight = refl;
      ready = ≤ℤ_refl j.ready;
      rates = Forall₂-refl (record { refl = same-rate }) j.rates;
      deadline = ≤ℤ_refl j.deadline;
    }

-- ---- unchanged weights are no lower

no-lower-rate : (new old : Rate) → EasierRate Unchanged new old → EasierRate NoLower new old
no-lower-rate new old e = record { takes = e.takes; gain = omega (arith, e.gain) }

pub no-lower-job : (new old : Job) → EasierJob Unchanged new old → EasierJob NoLower new old
no-lower-job new old e =
    record {
      critical = e.critical;
      weight = omega (arith, e.weight);
      ready = e.ready;
      rates = Forall₂.imp no-lower-rate e.rates;
      deadline = e.deadline;
    }

-- So it is of an order,
pub no_lower : {new old : Order} → EasierOrder Unchanged new old → EasierOrder NoLower new old
no_lower e = record { t0 = e.t0; jobs = Forall₂.imp no-lower-job e.jobs }

-- and of the same jobs.
pub same-jobs : (js : List Job) → EasierJobs NoLower js js
same-jobs js = Forall₂-refl (record { refl = λ j. no-lower-job j j (same-job j) }) js

-- ---- the rates at one place

-- Neither job has one, or both do.
pub data RatesAt : Option Rate → Option Rate → Type 0 where
  neither : RatesAt none none
  both : {new old : Rate} → EasierRate NoLower new old → RatesAt (some new) (some old)

pub rates-at : {new old : List Rate} → Forall₂ (EasierRate NoLower) new old → (k : ℕ) → RatesAt (get_elem? new k) (get_elem? old k)
rates-at Forall₂.nil k = neither
rates-at (Forall₂.cons e es) zero = both e
rates-at (Forall₂.cons e es) (suc k) = rates-at es k
