-- What the parts of planning halves ask of their callers and give: the numbers that are awaited on the way through an order.
-- Definitions only.
use Rattle.std.specs.Prelude.{ℕ, ◌+◌, ◌*◌, ◌≤◌, ◌≡◌, Bool, true, not, cond, ◌&&◌, List, ltb, eqb, length, get_or, set, replicate, Ok, Err}
use Rattle.seconds.specs.Limits.{highest_half, halves_apart, seconds_per_weight, most_weight}
use Rattle.order.specs.Job.{Job, length_of}
use Rattle.order.specs.Halves.{is_half}
use Rattle.packed.specs.Packed.{count_of}
use Rattle.packed.specs.Refusals.{fields_within}
use Rattle.packed.proofs.Accepted.{OrderFine}
use Rattle.fields.specs.Fields.{fields_of}
use Rattle.fields.specs.declared.Job.{Job as Fields}
use Rattle.planner.specs.Calls.{Planned}
use Rattle.halves.specs.Calls.{HalvesPlanned, plan_with}

-- A job is within its limits, and there is a place for each number.
pub record CanTake (job : Fields) (awaited : List ℕ) : Type 0 where
  pub within : fields_within (fields_of job) ≡ true
  pub room : length awaited ≡ 64

-- Whether a job offends, by the numbers that are awaited.
abbrev pub offends_by : List ℕ → Job → Bool
offends_by awaited j =
    cond j.critical (ltb highest_half j.number)
    (not (eqb (length_of j) (seconds_per_weight * j.weight) && not (eqb (get_or awaited j.number 0) 0)))

-- A critical half's optional one is awaited.
abbrev pub awaited_after : Job → List ℕ → List ℕ
awaited_after j awaited = cond (is_half j) (set awaited (j.number + halves_apart) 1) awaited

-- The order is accepted and counted, and no number is awaited yet.
pub record CanSearch (bytes : List ℕ) (n : ℕ) (awaited : List ℕ) : Type 0 where
  pub order : OrderFine bytes
  pub count : n ≡ count_of bytes
  pub none : awaited ≡ replicate 64 0

-- The weights that a plan keeps and loses are together at most the most weight of an order.
abbrev pub Light : Planned → Type 0
Light (Err r) = Unit {0}
Light (Ok f) = f.kept_weight + f.lost_weight ≤ most_weight

-- So many seconds for each weight lost.
abbrev pub seconds_added : Planned → HalvesPlanned
seconds_added (Err r) = Err r
seconds_added (Ok f) = Ok (plan_with f (seconds_per_weight * f.lost_weight))
