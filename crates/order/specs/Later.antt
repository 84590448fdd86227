-- A stand repeats its jobs frame by frame: a job, jobs and a point set later; and what lets a frame stand by itself, when its
-- jobs are ready and by when they leave the bus free. Definitions only.
use Rattle.std.specs.Prelude.{ℕ, ◌+◌, ℤ, pos, ◌+ℤ◌, ◌≤ℤ◌}
use mathlib.Core.List.{List, map, Memᴰ}
use Rattle.seconds.specs.Limits.{rest}
use Rattle.order.specs.Job.{Job, Point}

-- ---- set later by so many seconds

-- The same job so many seconds later, with its number raised.
abbrev pub later : ℤ → ℕ → Job → Job
later d n j =
    record {
      number = j.number + n;
      critical = j.critical;
      weight = j.weight;
      ready = j.ready +ℤ d;
      rates = j.rates;
      deadline = j.deadline +ℤ d;
    }

abbrev pub later_jobs : ℤ → ℕ → List Job → List Job
later_jobs d n js = map (later d n) js

abbrev pub later_point : ℤ → Point → Point
later_point d p = record { time = p.time +ℤ d; weight = p.weight }

-- ---- jobs that stand in a frame

-- None of the jobs is ready before a time.
abbrev pub NoneBefore : ℤ → List Job → Type 0
NoneBefore s js = (j : Job) → Memᴰ j js → s ≤ℤ j.ready

-- Each job that meets its deadline leaves the bus free by a time.
abbrev pub AllDoneBy : ℤ → List Job → Type 0
AllDoneBy F js = (j : Job) → Memᴰ j js → (j.deadline +ℤ pos rest) ≤ℤ F

-- A job stands in a frame of F seconds: it is ready at 0 or later, and its deadline leaves time for the rest.
pub record InFrame (F : ℤ) (j : Job) : Type 0 where
  pub from : pos 0 ≤ℤ j.ready
  pub until : (j.deadline +ℤ pos rest) ≤ℤ F

abbrev pub AllInFrame : ℤ → List Job → Type 0
AllInFrame F js = (j : Job) → Memᴰ j js → InFrame F j
