-- How the sequence of repeats is made: each job's next ready time stands in a list, and the least of them, the first of those that
-- are equal, is the next repeat. What stands on the way, and what the code's parts ask for. Definitions only.
use Rattle.std.specs.Prelude.{ℕ, ◌+◌, ◌*◌, ◌≤◌, ◌<◌, ◌≡◌, ◌↔◌, ℤ, length, get_or, drop}
use mathlib.Core.List.{List, Memᴰ}
use Rattle.seconds.specs.Limits.{most_jobs, longest_frame}
use Rattle.frames.specs.Frames.{Repeat, jobs_given, phase_at, period_at, sequence_of, repeat_count}
use Rattle.frames.specs.Facts.{MayRepeat, GivenFine, MakingFine}

-- Of the first n numbers the one at a place is the least, and none before it is as small.
pub record IsLeast (times : List ℕ) (n place : ℕ) : Type 0 where
  pub there : place < n
  pub least : (p : ℕ) → p < n → get_or times place 0 ≤ get_or times p 0
  pub first : (p : ℕ) → p < place → get_or times place 0 < get_or times p 0

-- A job is ready next at its phase + a multiple of its period.
pub record ReadyAt (zs : List ℤ) (p time : ℕ) : Type 0 where
  pub times : ℕ
  pub is : time ≡ phase_at zs p + times * period_at zs p

-- The first k repeats are done: each job has its next ready time, and the repeats that are left are those from these times on.
pub record Reached (zs : List ℤ) (next : List ℕ) (k : ℕ) : Type 0 where
  pub room : jobs_given zs ≤ length next
  pub each : (p : ℕ) → p < jobs_given zs → ReadyAt zs p (get_or next p 0)
  pub left : (a : Repeat) → Memᴰ a (sequence_of zs) → Memᴰ a (drop k (sequence_of zs)) ↔ (get_or next a.place 0 ≤ a.ready)

-- ---- what the parts of the code ask for

-- All jobs may repeat, and there is room for a time for each.
pub record CanStart (zs : List ℤ) (next : List ℕ) : Type 0 where
  pub given : GivenFine zs
  pub room : jobs_given zs ≤ length next

-- A job that may repeat, ready at a time within a frame, at a place of an order.
pub record CanMake (number ready : ℕ) (job : List ℤ) : Type 0 where
  pub few : number < most_jobs
  pub soon : ready < longest_frame
  pub repeats : MayRepeat job

-- The first k repeats are done, there is one more, and room for the bytes of all.
pub record CanPut (zs : List ℤ) (k : ℕ) (next order : List ℕ) : Type 0 where
  pub making : MakingFine zs
  pub more : k < repeat_count zs
  pub reached : Reached zs next k
  pub room : 4 + 8 * repeat_count zs ≤ length order

-- So many repeats are to be written, and there is room for their bytes.
pub record CanWrite (zs : List ℤ) (count : ℕ) (order : List ℕ) : Type 0 where
  pub making : MakingFine zs
  pub all : count ≡ repeat_count zs
  pub room : 4 + 8 * repeat_count zs ≤ length order
