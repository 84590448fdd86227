-- A choice read back from its mask, and the starts as the code writes them. Definitions only.
use Rattle.std.specs.Prelude.{ℕ, zero, suc, ◌*◌, ◌/◌, ◌%◌, ◌^◌, ◌≤◌, ◌≡◌, true, List, [], ◌∷◌, ◌++◌, ℤ, length, drop}
use Rattle.seconds.specs.Ranges.{InFree}
use Rattle.order.specs.Job.{Job, allowed, bus_free}
use Rattle.order.specs.Choice.{Choice, feasible, start_of, starts}
use Rattle.packed.specs.Packed.{count_of, jobs_in}
use Rattle.packed.specs.Refusals.{fields_within}
use Rattle.packed.proofs.Accepted.{OrderFine}
use Rattle.fields.specs.declared.Job.{Job as Numbers}
use Rattle.fields.specs.Fields.{fields_of, as_job}
use Rattle.starting.specs.declared.Turn.{Turn}

-- The first n picks that a mask says: the highest bit is the first pick, and the other bits move up one place.
unfoldable pub picks_of : ℕ → ℕ → Choice
picks_of zero m = []
picks_of (suc n) m = m / 2 ^ 63 ∷ picks_of n (m % 2 ^ 63 * 2)

-- The list of the jobs that a choice keeps.
abbrev pub jobs_kept : List Job → Choice → List Job
jobs_kept [] c = []
jobs_kept (j ∷ js) [] = []
jobs_kept (j ∷ js) (zero ∷ c) = jobs_kept js c
jobs_kept (j ∷ js) (suc k ∷ c) = j ∷ jobs_kept js c

-- ---- one job

-- A job can take its turn: its pick is allowed with the bus free at a time.
pub record TakesTurn (job : Numbers) (pick : ℕ) (free : ℤ) : Type 0 where
  pub within : fields_within (fields_of job) ≡ true
  pub mark : pick ≤ 1
  pub may : allowed (as_job job) pick free ≡ true
  pub range : InFree free

-- Its start, and the bus-free time after it.
abbrev pub turn_of : Job → ℕ → ℤ → Turn
turn_of j pick free = record { start = start_of j pick free; free = bus_free j pick free }

-- ---- all jobs

-- The starts can be written: the bytes are an order, the mask's choice is feasible from the bus-free time, and there is room.
pub record WritesStarts (bytes : List ℕ) (n : ℕ) (t0 : ℤ) (mask : ℕ) (old : List ℤ) : Type 0 where
  pub order : OrderFine bytes
  pub count : n ≡ count_of bytes
  pub range : InFree t0
  pub may : feasible (jobs_in bytes) (picks_of n mask) t0 ≡ true
  pub room : n ≤ length old

-- The starts of the mask's choice, and behind them all as it was.
abbrev pub starts_written : List ℕ → ℕ → ℤ → ℕ → List ℤ → List ℤ
starts_written bytes n t0 mask old = starts (jobs_in bytes) (picks_of n mask) t0 ++ drop n old
