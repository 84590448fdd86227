-- What the checks of framing say where they are passed, as facts: of a job that may repeat, of the jobs that are given, and of the
-- order that they make. Definitions only.
use Rattle.std.specs.Prelude.{ℕ, ◌*◌, ◌≤◌, ◌<◌, ◌≡◌, true, List, ℤ, pos, ◌+ℤ◌, length, ◌≤ℤ◌}
use Rattle.seconds.specs.Limits.{rest, longest, most_weight, most_jobs, most_repeating, longest_frame}
use Rattle.seconds.specs.Ranges.{same, Between}
use Rattle.order.specs.Job.{weight_of}
use Rattle.packed.specs.Packed.{jobs_of}
use Rattle.packed.specs.Refusals.{weight_test}
use Rattle.frames.specs.Frames.{the_mark, the_weight, the_phase, the_length, the_deadline, the_period, jobs_given, given_at}
use Rattle.frames.specs.Frames.{frame_of, repeat_count, frame_numbers}

-- A job may repeat: its numbers are within their limits, and it leaves the bus free by the end of its period.
pub record MayRepeat (job : List ℤ) : Type 0 where
  pub mark : Between (pos 0) (pos 1) (the_mark job)
  pub weight : weight_test (same (the_mark job) (pos 1)) (the_weight job) ≡ true
  pub phase : pos 0 ≤ℤ the_phase job
  pub long : Between (pos 1) (pos longest) (the_length job)
  pub deadline : Between (pos 1) (pos longest_frame) (the_deadline job)
  pub period : Between (pos 1) (pos longest_frame) (the_period job)
  pub timely : ((the_phase job +ℤ the_deadline job) +ℤ pos rest) ≤ℤ the_period job

-- 3, 4 and 16: so many jobs at most, each with all its numbers, and each may repeat.
pub record GivenFine (zs : List ℤ) : Type 0 where
  pub few : jobs_given zs ≤ most_repeating
  pub whole : length zs ≡ 6 * jobs_given zs
  pub repeat : (p : ℕ) → p < jobs_given zs → MayRepeat (given_at zs p)

-- The jobs that are given may repeat, and the order of their frame is one.
pub record MakingFine (zs : List ℤ) : Type 0 where
  pub given : GivenFine zs
  pub short : frame_of zs ≤ longest_frame
  pub few : repeat_count zs ≤ most_jobs
  pub light : weight_of (jobs_of (frame_numbers zs)) ≤ most_weight
