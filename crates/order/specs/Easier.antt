-- Easier jobs (R51): the same marks in the same sequence, the bus free and each job ready no later, no job longer at any of its
-- rates, none due earlier, and the weights unchanged or, for what holds of raised weights too, no lower. Numbers may differ.
-- Definitions only.
use Rattle.std.specs.Prelude.{ℕ, ◌≤◌, ◌≡◌, ◌≤ℤ◌}
use mathlib.Core.List.{List, Forall₂}
use Rattle.order.specs.Job.{Rate, Job, Order}

-- How new weights compare with old ones.
abbrev pub Unchanged : ℕ → ℕ → Type 0
Unchanged new old = new ≡ old

abbrev pub NoLower : ℕ → ℕ → Type 0
NoLower new old = old ≤ new

module _ (Weights : ℕ → ℕ → Type 0) where
  -- A rate takes no longer than the old one, for a weight that compares so.
  pub record EasierRate (new old : Rate) : Type 0 where
    pub takes : new.takes ≤ old.takes
    pub gain : Weights new.gain old.gain

  -- A job has the old one's mark and a weight that compares so, is ready no later, takes no longer at any rate, and is due no
  -- earlier.
  pub record EasierJob (new old : Job) : Type 0 where
    pub critical : new.critical ≡ old.critical
    pub weight : Weights new.weight old.weight
    pub ready : new.ready ≤ℤ old.ready
    pub rates : Forall₂ EasierRate new.rates old.rates
    pub deadline : old.deadline ≤ℤ new.deadline

  -- Jobs, place by place, as many as before.
  abbrev pub EasierJobs : List Job → List Job → Type 0
  EasierJobs new old = Forall₂ EasierJob new old

  -- An order: the bus is free no later too.
  pub record EasierOrder (new old : Order) : Type 0 where
    pub t0 : new.t0 ≤ℤ old.t0
    pub jobs : EasierJobs new.jobs old.jobs
