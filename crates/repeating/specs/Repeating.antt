-- A repeating job as the code holds it, and what judging and counting such jobs asks for and gives. Definitions only.
use Rattle.std.specs.Prelude.{ℕ, ◌*◌, ◌≤◌, ◌<◌, ◌≡◌, Bool, List, [], ◌∷◌, ℤ, pos, ◌+ℤ◌}
use Rattle.std.specs.Int.Signed.{le_z}
use Rattle.seconds.specs.Limits.{rest, longest, heaviest, longest_frame}
use Rattle.seconds.specs.Ranges.{same, is_between}
use Rattle.order.specs.Job.{weight_of}
use Rattle.packed.specs.Packed.{jobs_of}
use Rattle.packed.specs.Refusals.{weight_test, all_true}
use Rattle.frames.specs.Frames.{frame_of, repeat_count, frame_numbers}
use Rattle.frames.specs.Facts.{GivenFine}
use Rattle.repeating.specs.declared.Repeating.{Repeating}
use Rattle.repeating.specs.declared.Totals.{Totals}

-- ---- one job

-- Its six numbers, in their sequence.
abbrev pub numbers_in : Repeating → List ℤ
numbers_in j = j.critical ∷ j.weight ∷ j.phase ∷ j.length ∷ j.deadline ∷ j.period ∷ []

-- Each of its numbers against its limits,
abbrev pub range_tests : Repeating → List Bool
range_tests j =
    is_between (pos 0) (pos 1) j.critical
    ∷ weight_test (same j.critical (pos 1)) j.weight
    ∷ le_z (pos 0) j.phase
    ∷ is_between (pos 1) (pos longest) j.length
    ∷ is_between (pos 1) (pos longest_frame) j.deadline
    ∷ is_between (pos 1) (pos longest_frame) j.period
    ∷ []

-- and all of them within. What is left of may_repeat is in_period.
unfoldable pub in_range : Repeating → Bool
in_range j = all_true (range_tests j)

-- The bus is free again by the end of the period.
unfoldable pub in_period : Repeating → Bool
in_period j = le_z ((j.phase +ℤ j.deadline) +ℤ pos rest) j.period

-- ---- the frame

-- A frame that was found is the frame; or both are longer than any frame may be, and the search was given up.
pub data Grown (frame found : ℕ) : Type 0 where
  whole : found ≡ frame → Grown frame found
  past : longest_frame < found → longest_frame < frame → Grown frame found

-- ---- the repeats

-- One job repeats so often and has so much weight that its repeats can be weighed.
pub record CanWeigh (times weight : ℕ) : Type 0 where
  pub few : times ≤ longest_frame
  pub light : weight ≤ heaviest

-- Its repeats weigh so much, and not too much to be added up.
pub record Weighs (times weight sum : ℕ) : Type 0 where
  pub is : sum ≡ times * weight
  pub light : sum ≤ longest_frame * heaviest

-- The jobs that are given may repeat, and this is their frame, not too long.
pub record CanCount (zs : List ℤ) (frame : ℕ) : Type 0 where
  pub given : GivenFine zs
  pub is : frame ≡ frame_of zs
  pub short : frame ≤ longest_frame

-- The repeats are counted, and their weights added up.
pub record Counts (zs : List ℤ) (totals : Totals) : Type 0 where
  pub count : totals.count ≡ repeat_count zs
  pub weight : totals.weight ≡ weight_of (jobs_of (frame_numbers zs))
