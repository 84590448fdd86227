-- What the turns of the jobs in a plan give, and what they ask. Definitions only.
use Rattle.std.specs.Prelude.{ℕ, ◌+◌, ◌-◌, ◌%◌, ◌^◌, ◌≤◌, ◌≡◌, Bool, true, false, cond, Option, Some, None, List, ℤ, pos, ◌+ℤ◌, length}
use Rattle.std.specs.Int.Count.{ones}
use Rattle.seconds.specs.Limits.{rest, most_jobs}
use Rattle.order.specs.Job.{Job}
use Rattle.packed.specs.Packed.{count_of}
use Rattle.packed.specs.Refusals.{fields_within}
use Rattle.packed.proofs.Accepted.{OrderFine}
use Rattle.fields.specs.declared.Job.{Job as Numbers}
use Rattle.fields.specs.Fields.{fields_of}
use Rattle.starting.specs.Picks.{picks_of}
use Rattle.packed_plan.specs.Plan.{plan_bytes}
use Rattle.legal.specs.Legal.{end_of, start_legal, kept_of}
use Rattle.plan_bytes.specs.Asks.{StartThere}
use Rattle.checking.specs.declared.Turn.{Turn}

-- Which of the first n jobs a mask of 64 bits keeps.
abbrev pub kept_by : ℕ → ℕ → List Bool
kept_by n mask = kept_of (picks_of n mask)

-- A job's turn, left out or kept with a start that stands at a place; none where it is not legal.
abbrev pub turn_of : Job → Bool → ℤ → ℕ → ℤ → Option Turn
turn_of j false s k free = cond j.critical None (Some (record { next = k; free = free }))
turn_of j true s k free = cond (start_legal j s free) (Some (record { next = k + 1; free = end_of j s +ℤ pos rest })) None

-- A job can take its turn: where it is kept, its start is there.
pub record CanTake (plan : List ℕ) (k : ℕ) (job : Numbers) (kept : Bool) : Type 0 where
  pub within : fields_within (fields_of job) ≡ true
  pub few : k ≤ most_jobs
  pub there : kept ≡ true → StartThere plan k

-- All jobs can: the order is accepted, and the plan has a start for each one in the mask, none beyond the jobs.
pub record CanGo (order : List ℕ) (n mask : ℕ) (plan : List ℕ) : Type 0 where
  pub accepted : OrderFine order
  pub count : n ≡ count_of order
  pub whole : length plan ≡ plan_bytes (ones mask)
  pub many : ones mask ≤ most_jobs
  pub none-beyond : mask % 2 ^ (64 - n) ≡ 0
