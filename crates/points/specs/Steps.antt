-- A list of scheduling points from job to job: the three cases of source 000, section 3.3, with the corrections of the rules
-- and the rest. Definitions only.
use Rattle.std.specs.Prelude.{ℕ, ◌+◌, Bool, cond, List, [], ◌∷◌, ◌++◌, ℤ, pos, ◌+ℤ◌, ◌-ℤ◌, length}
use Rattle.std.specs.Int.Signed.{le_z, lt_z}
use Rattle.seconds.specs.Limits.{rest}
use Rattle.seconds.specs.Ranges.{max_z}
use Rattle.order.specs.Job.{Rate, Job, Point}
use Rattle.profiles.specs.OnePass.{below_all}
use Rattle.better.specs.Heavier.{merge}

-- ---- the list pushed by a job at one rate

-- A point as the job finds it when it is ready.
abbrev pub waited : ℤ → Point → Point
waited ready p = record { time = max_z ready p.time; weight = p.weight }

-- The points as the job finds them: of those at or before its ready time only the last one counts, and it waits.
abbrev pub waiting : ℤ → Point → List Point → List Point
waiting ready p [] = waited ready p ∷ []
waiting ready p (q ∷ qs) = cond (le_z q.time ready) (waiting ready q qs) (waited ready p ∷ q ∷ qs)

abbrev pub when_ready : ℤ → List Point → List Point
when_ready ready [] = []
when_ready ready (p ∷ ps) = waiting ready p ps

-- The points up to a time.
abbrev pub up_to_time : ℤ → List Point → List Point
up_to_time last [] = []
up_to_time last (p ∷ ps) = cond (le_z p.time last) (p ∷ up_to_time last ps) []

-- A point after a job that starts at its time: later by the rate's seconds and a rest, and heavier by what the rate counts.
abbrev pub later_by : Rate → Point → Point
later_by r p = record { time = (p.time +ℤ pos r.takes) +ℤ pos rest; weight = p.weight + r.gain }

abbrev pub all_later : Rate → List Point → List Point
all_later r [] = []
all_later r (p ∷ ps) = later_by r p ∷ all_later r ps

-- The last start at a rate: ready + length and every later finish are held to the deadline by it.
abbrev pub last_start_by : Job → Rate → ℤ
last_start_by j r = j.deadline -ℤ pos r.takes

-- The list pushed by a job at one rate.
abbrev pub pushed_by : Job → Rate → List Point → List Point
pushed_by j r ps = all_later r (up_to_time (last_start_by j r) (when_ready j.ready ps))

-- ---- the three cases

-- What is left of the list without the job: none if it is critical.
abbrev pub leaving : Job → List Point → List Point
leaving j ps = cond j.critical [] ps

-- The last of a list that has a first point.
abbrev pub last_of : Point → List Point → Point
last_of p [] = p
last_of p (q ∷ qs) = last_of q qs

-- Whether a job can no longer start, from a list that begins with a point.
abbrev pub too_late : Job → Rate → Point → Bool
too_late j r p = lt_z (last_start_by j r) (max_z j.ready p.time)

-- Case 1: the job can no longer start: nothing new. Case 3: it becomes ready after the last point: one point more. Case 2:
-- the list pushed by the job, merged with the list as it was; of a critical job the pushed list alone. In a merge only what
-- is heavier than all before it is kept, so a point of equal weight goes, and of two at one time the lighter.
abbrev pub step_by : Job → Rate → List Point → List Point
step_by j r [] = []
step_by j r (p ∷ ps) =
    let pushed = pushed_by j r (p ∷ ps) in
    let last = last_of p ps in
    cond (too_late j r p) (leaving j (p ∷ ps))
    (cond (lt_z last.time j.ready) (leaving j (p ∷ ps) ++ (later_by r (waited j.ready last) ∷ []))
    (cond j.critical pushed (merge below_all (p ∷ ps) pushed)))

-- ---- from job to job

-- The list after one job: it has one rate, and with none it can only be left out.
abbrev pub step_rates : Job → List Rate → List Point → List Point
step_rates j [] ps = leaving j ps
step_rates j (r ∷ rs) ps = step_by j r ps

abbrev pub list_step : Job → List Point → List Point
list_step j ps = step_rates j j.rates ps

-- The list after jobs in their sequence, and the points of the lists after each of them.
abbrev pub list_after : List Job → List Point → List Point
list_after [] ps = ps
list_after (j ∷ js) ps = list_after js (list_step j ps)

abbrev pub points_by_lists : List Job → List Point → ℕ
points_by_lists [] ps = 0
points_by_lists (j ∷ js) ps = length (list_step j ps) + points_by_lists js (list_step j ps)
