-- Repeating jobs and one frame of them (R41 to R43): the frame, the repeats, their sequence, the order that they make, and the
-- refusals. Definitions only.
use Rattle.std.specs.Prelude.{ℕ, ◌+◌, ◌*◌, ◌/◌, ◌%◌, Bool, not, cond, ◌&&◌, ◌||◌, List, [], ◌∷◌, ◌++◌, ltb, eqb, ℤ, pos, nat_abs, ◌+ℤ◌, length, get_or}
use Rattle.std.specs.Int.Signed.{le_z}
use Rattle.seconds.specs.Limits.{rest, longest, most_jobs, most_repeating, longest_frame}
use Rattle.seconds.specs.Ranges.{same, is_between}
use Rattle.multiples.specs.Multiples.{least_common}
use Rattle.packed.specs.Layout.{header_bytes, record_bytes}
use Rattle.packed.specs.Places.{part, flat, each, first}
use Rattle.packed.specs.Judge.{Check, check, check_at}
use Rattle.packed.specs.Packed.{pack_order}
use Rattle.packed.specs.Refusals.{weight_test, all_true, weight_checks, room_checks}

-- ---- a repeating job

-- It has six numbers.
abbrev pub repeating_numbers : ℕ
repeating_numbers = 6

-- By name, in their sequence.
abbrev pub the_mark : List ℤ → ℤ
the_mark job = get_or job 0 (pos 0)

abbrev pub the_weight : List ℤ → ℤ
the_weight job = get_or job 1 (pos 0)

abbrev pub the_phase : List ℤ → ℤ
the_phase job = get_or job 2 (pos 0)

abbrev pub the_length : List ℤ → ℤ
the_length job = get_or job 3 (pos 0)

-- The deadline counts from the ready time.
abbrev pub the_deadline : List ℤ → ℤ
the_deadline job = get_or job 4 (pos 0)

abbrev pub the_period : List ℤ → ℤ
the_period job = get_or job 5 (pos 0)

-- Each number against its limits, and the bus free again by the end of the period.
abbrev pub repeating_tests : List ℤ → List Bool
repeating_tests job =
    is_between (pos 0) (pos 1) (the_mark job)
    ∷ weight_test (same (the_mark job) (pos 1)) (the_weight job)
    ∷ le_z (pos 0) (the_phase job)
    ∷ is_between (pos 1) (pos longest) (the_length job)
    ∷ is_between (pos 1) (pos longest_frame) (the_deadline job)
    ∷ is_between (pos 1) (pos longest_frame) (the_period job)
    ∷ le_z ((the_phase job +ℤ the_deadline job) +ℤ pos rest) (the_period job)
    ∷ []

-- A job may repeat if all of them are passed.
unfoldable pub may_repeat : List ℤ → Bool
may_repeat job = all_true (repeating_tests job)

-- ---- the jobs that are given, as one list of numbers

-- How many there are.
unfoldable pub jobs_given : List ℤ → ℕ
jobs_given zs = length zs / repeating_numbers

-- The numbers of the job at a place.
unfoldable pub given_at : List ℤ → ℕ → List ℤ
given_at zs p = part repeating_numbers zs p

-- Its weight, its phase and its period, as counts.
abbrev pub weight_at : List ℤ → ℕ → ℕ
weight_at zs p = nat_abs (the_weight (given_at zs p))

abbrev pub phase_at : List ℤ → ℕ → ℕ
phase_at zs p = nat_abs (the_phase (given_at zs p))

abbrev pub period_at : List ℤ → ℕ → ℕ
period_at zs p = nat_abs (the_period (given_at zs p))

-- A place whose job may not repeat.
abbrev pub unfit_at : List ℤ → ℕ → Bool
unfit_at zs p = not (may_repeat (given_at zs p))

-- The first such place.
unfoldable pub first_unfit : List ℤ → ℕ
first_unfit zs = first (unfit_at zs) 0 (jobs_given zs)

-- ---- the frame and the repeats in it

-- The frame is the least common multiple of the periods.
unfoldable pub frame_of : List ℤ → ℕ
frame_of zs = least_common (each (period_at zs) 0 (jobs_given zs))

-- A repeat of the job at a place, with its ready time.
pub record Repeat : Type 0 where
  pub place : ℕ
  pub ready : ℕ

-- The job at a place repeats at its phase + a multiple of its period, once for each period in the frame.
abbrev pub repeat_of : List ℤ → ℕ → ℕ → Repeat
repeat_of zs p m = record { place = p; ready = phase_at zs p + m * period_at zs p }

abbrev pub times_at : List ℤ → ℕ → ℕ
times_at zs p = frame_of zs / period_at zs p

abbrev pub repeats_at : List ℤ → ℕ → List Repeat
repeats_at zs p = each (repeat_of zs p) 0 (times_at zs p)

-- The repeats of all jobs.
unfoldable pub repeats_of : List ℤ → List Repeat
repeats_of zs = flat (repeats_at zs) (jobs_given zs)

-- ---- their sequence

-- Of two repeats the one that is ready earlier comes first; of two that are ready at once, the one whose job was given first.
abbrev pub before : Repeat → Repeat → Bool
before a b = ltb a.ready b.ready || (eqb a.ready b.ready && ltb a.place b.place)

-- A repeat put behind those that come before it, and so a whole list.
abbrev pub insert : Repeat → List Repeat → List Repeat
insert a [] = a ∷ []
insert a (b ∷ l) =
    let behind = insert a l in
    cond (before b a) (b ∷ behind) (a ∷ b ∷ l)

abbrev pub sorted : List Repeat → List Repeat
sorted [] = []
sorted (a ∷ l) = insert a (sorted l)

unfoldable pub sequence_of : List ℤ → List Repeat
sequence_of zs = sorted (repeats_of zs)

-- How many repeats there are.
abbrev pub repeat_count : List ℤ → ℕ
repeat_count zs = length (sequence_of zs)

-- ---- the order of a frame

-- A repeat as a job of an order, by its number and its ready time: with pack 0, with the mark, the weight and the length of its
-- repeating job, and its deadline that much later than it is ready.
abbrev pub made_of : ℕ → ℕ → List ℤ → List ℤ
made_of number ready job =
    pos number ∷ pos 0 ∷ the_mark job ∷ the_weight job ∷ pos ready ∷ the_length job ∷ (pos ready +ℤ the_deadline job) ∷ []

-- It is numbered by its place in the sequence.
abbrev pub numbers_for : List ℤ → ℕ → Repeat → List ℤ
numbers_for zs k r = made_of k r.ready (given_at zs r.place)

abbrev pub repeat_at : List ℤ → ℕ → Repeat
repeat_at zs k = get_or (sequence_of zs) k (record { place = 0; ready = 0 })

unfoldable pub frame_numbers : List ℤ → List ℤ
frame_numbers zs = flat (λ k. numbers_for zs k (repeat_at zs k)) (repeat_count zs)

-- In bytes, with the bus free at 0.
abbrev pub frame_bytes : List ℤ → List ℕ
frame_bytes zs = pack_order (pos 0) (frame_numbers zs)

-- ---- the refusals

-- 3, 4 and 16 of the jobs that are given.
unfoldable pub given_checks : List ℤ → List Check
given_checks zs =
    check 3 (ltb (repeating_numbers * most_repeating) (length zs))
    ∷ check 4 (not (eqb (length zs % repeating_numbers) 0))
    ∷ check_at 16 (first_unfit zs) (jobs_given zs)
    ∷ []

-- 17 of the frame, and 3 of the order made.
unfoldable pub made_checks : List ℤ → List Check
made_checks zs = check 17 (ltb longest_frame (frame_of zs)) ∷ check 3 (ltb most_jobs (repeat_count zs)) ∷ []

-- Whether the jobs that are given make the order of a frame; and, with room for so many bytes, whether it is written.
abbrev pub making_checks : List ℤ → List Check
making_checks zs = given_checks zs ++ made_checks zs ++ weight_checks 0 (frame_numbers zs)

abbrev pub frame_checks : List ℤ → ℕ → List Check
frame_checks zs room = making_checks zs ++ room_checks (header_bytes + record_bytes 0 * repeat_count zs) room
