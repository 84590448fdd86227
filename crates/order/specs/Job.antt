-- Jobs, points, and a job's moves: what each pick of a job does to the time at which the bus is free.
-- Definitions only. The facts about moves stand in Moves, and nothing else opens them.
use Rattle.std.specs.Prelude.{ℕ, zero, suc, ◌+◌, ◌-◌, Bool, true, false, not, cond, ◌&&◌, List, [], ◌∷◌, ◌++◌, leb, eqb, ℤ, pos, ◌+ℤ◌, length}
use Rattle.std.proofs.Math.Option.{Option, none, some}
use Rattle.std.specs.Int.Signed.{le_z}
use Rattle.std.proofs.Math.ListN.{get_elem?}
use Rattle.seconds.specs.Limits.{rest, highest_number, longest, heaviest, most_weight, most_jobs}
use Rattle.seconds.specs.Ranges.{max_z, is_time}

-- A rate at which a job may run: the seconds it then takes, and the weight it then counts.
pub record Rate : Type 0 where
  pub takes : ℕ
  pub gain : ℕ

-- A job. Its weight is the weight at the first rate, the normal one.
pub record Job : Type 0 where
  pub number : ℕ
  pub critical : Bool
  pub weight : ℕ
  pub ready : ℤ
  pub rates : List Rate
  pub deadline : ℤ

-- A job of the rules has one rate: its length, at its full weight.
abbrev pub one_rate : ℕ → Bool → ℕ → ℤ → ℕ → ℤ → Job
one_rate n c w r l d =
    record { number = n; critical = c; weight = w; ready = r; rates = record { takes = l; gain = w } ∷ []; deadline = d }

-- A job's length: the seconds that it takes at its first rate, the normal one.
abbrev pub first_takes : List Rate → ℕ
first_takes [] = 0
first_takes (r ∷ rs) = r.takes

abbrev pub length_of : Job → ℕ
length_of j = first_takes j.rates

-- An order: the time at which the bus is free, and the jobs in the dispatcher's sequence.
pub record Order : Type 0 where
  pub t0 : ℤ
  pub jobs : List Job

-- A joined order has the first order's bus-free time.
abbrev pub joined : Order → Order → Order
joined a b = record { t0 = a.t0; jobs = a.jobs ++ b.jobs }

-- ---- the limits

-- A critical job has weight 0, any other 1 to 50.
abbrev pub weight_within : Bool → ℕ → Bool
weight_within true w = eqb w 0
weight_within false w = leb 1 w && leb w heaviest

-- Every rate takes 1 to 10,000 seconds and counts at most the job's weight.
abbrev pub rates_within : ℕ → List Rate → Bool
rates_within w [] = true
rates_within w (r ∷ rs) = leb 1 r.takes && (leb r.takes longest && (leb r.gain w && rates_within w rs))

abbrev pub job_within : Job → Bool
job_within j =
    leb j.number highest_number && (weight_within j.critical j.weight
    && (is_time j.ready && (rates_within j.weight j.rates && is_time j.deadline)))

abbrev pub jobs_within : List Job → Bool
jobs_within [] = true
jobs_within (j ∷ js) = job_within j && jobs_within js

-- No number stands twice.
abbrev pub has_number : ℕ → List Job → Bool
has_number n [] = false
has_number n (j ∷ js) = cond (eqb n j.number) true (has_number n js)

abbrev pub numbers_unlike : List Job → Bool
numbers_unlike [] = true
numbers_unlike (j ∷ js) = not (has_number j.number js) && numbers_unlike js

-- The weights of all jobs together.
abbrev pub weight_of : List Job → ℕ
weight_of [] = 0
weight_of (j ∷ js) = j.weight + weight_of js

abbrev pub order_within : Order → Bool
order_within o =
    is_time o.t0 && (leb (length o.jobs) most_jobs
    && (jobs_within o.jobs && (numbers_unlike o.jobs && leb (weight_of o.jobs) most_weight)))

-- ---- a job's moves. A pick is 0 for left out, 1 for the first rate, 2 for the second

-- A kept job starts at the greater of its ready time and the time at which the bus is free.
abbrev pub start_at : Job → ℤ → ℤ
start_at j free = max_z j.ready free

-- The rate of a pick, if the job has it.
abbrev pub rate_of : Job → ℕ → Option Rate
rate_of j x = get_elem? j.rates x

-- Finish = start + length; a deadline binds the finish, and the bus is free a rest later.
abbrev pub finish_at : Job → Rate → ℤ → ℤ
finish_at j r free = start_at j free +ℤ pos r.takes

abbrev pub allowed_at : Job → Option Rate → ℤ → Bool
allowed_at j none free = false
allowed_at j (some r) free = le_z (finish_at j r free) j.deadline

abbrev pub free_at : Job → Option Rate → ℤ → ℤ
free_at j none free = free
free_at j (some r) free = finish_at j r free +ℤ pos rest

abbrev pub gain_at : Option Rate → ℕ
gain_at none = 0
gain_at (some r) = r.gain

-- Whether a pick is allowed with the bus free at a time: a critical job is kept, a kept job finishes by its deadline.
abbrev pub allowed : Job → ℕ → ℤ → Bool
allowed j zero free = not j.critical
allowed j (suc k) free = allowed_at j (rate_of j k) free

-- When the bus is free after a pick.
abbrev pub bus_free : Job → ℕ → ℤ → ℤ
bus_free j zero free = free
bus_free j (suc k) free = free_at j (rate_of j k) free

-- The weight that a pick counts, and the weight that it loses.
abbrev pub gain_of : Job → ℕ → ℕ
gain_of j zero = 0
gain_of j (suc k) = gain_at (rate_of j k)

abbrev pub loss_of : Job → ℕ → ℕ
loss_of j x = j.weight - gain_of j x

-- The picks of a job: left out, then each rate.
abbrev pub up_to : ℕ → ℕ → List ℕ
up_to from zero = from ∷ []
up_to from (suc n) = from ∷ up_to (suc from) n

abbrev pub picks : Job → List ℕ
picks j = up_to 0 (length j.rates)

-- A point: a time at which the bus is free, and the weight kept by then.
pub record Point : Type 0 where
  pub time : ℤ
  pub weight : ℕ

-- A move takes a point to a later one, or nowhere.
abbrev pub move : Job → ℕ → Point → Option Point
move j x p =
    cond (allowed j x p.time) (some (record { time = bus_free j x p.time; weight = p.weight + gain_of j x })) none
