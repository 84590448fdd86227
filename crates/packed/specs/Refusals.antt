-- The refusals of orders. Checks 1 to 7, 9, 10, 13 and 19 stand here once each, in stages: a call's refusals are the stages that it
-- names, one behind the other. Checks 6, 7, 9 and 13 are over the numbers of all jobs, for bytes and for numbers alike.
-- Definitions only.
use Rattle.std.specs.Prelude.{ℕ, suc, ◌+◌, ◌*◌, ◌%◌, Bool, true, not, cond, ◌&&◌, List, [], ◌∷◌, ◌++◌, ltb, eqb, ℤ, pos, length}
use Rattle.seconds.specs.Limits.{highest_number, highest_pack, longest, heaviest, most_weight, most_jobs}
use Rattle.seconds.specs.Ranges.{same, is_between, is_time}
use Rattle.order.specs.Job.{weight_of}
use Rattle.order.specs.Halves.{offends_at}
use Rattle.packed.specs.Layout.{header_bytes, record_bytes, job_numbers}
use Rattle.packed.specs.Places.{first}
use Rattle.packed.specs.Judge.{Check, check, check_at, check_field}
use Rattle.packed.specs.Packed.{count_of, t0_of, kind_of, numbers_of, job_count, fields_at, the_number}
use Rattle.packed.specs.Packed.{kind_for, the_pack, the_mark, the_weight, the_ready, the_length, the_deadline, is_critical, jobs_of}

-- ---- one job

-- A critical job has weight 0, any other 1 to 50.
abbrev pub weight_test : Bool → ℤ → Bool
weight_test critical w = cond critical (is_between (pos 0) (pos 0) w) (is_between (pos 1) (pos heaviest) w)

-- Each number of a job against its limits, in the sequence of the layout.
abbrev pub field_tests : List ℤ → List Bool
field_tests zs =
    is_between (pos 0) (pos highest_number) (the_number zs)
    ∷ is_between (pos 0) (pos highest_pack) (the_pack zs)
    ∷ is_between (pos 0) (pos 1) (the_mark zs)
    ∷ weight_test (is_critical zs) (the_weight zs)
    ∷ is_time (the_ready zs)
    ∷ is_between (pos 1) (pos longest) (the_length zs)
    ∷ is_time (the_deadline zs)
    ∷ []

-- Every test is passed.
abbrev pub all_true : List Bool → Bool
all_true [] = true
all_true (b ∷ bs) = b && all_true bs

-- A job's numbers are within their limits.
unfoldable pub fields_within : List ℤ → Bool
fields_within zs = all_true (field_tests zs)

-- The first test that is not passed, by its place in the list, the first counted as so much; 0 if all are passed.
abbrev pub first_failed : ℕ → List Bool → ℕ
first_failed at [] = 0
first_failed at (b ∷ bs) =
    let later = first_failed (suc at) bs in
    cond b later at

-- The first field of a job that is out of range: 1 is its number, 7 its deadline, 0 none.
unfoldable pub bad_field : List ℤ → ℕ
bad_field zs = first_failed 1 (field_tests zs)

-- ---- all jobs

-- A place whose job is out of range.
abbrev pub bad_at : List ℤ → ℕ → Bool
bad_at zs k = not (fields_within (fields_at zs k))

-- The first such place.
unfoldable pub first_bad : List ℤ → ℕ
first_bad zs = first (bad_at zs) 0 (job_count zs)

-- The first field there that is out of range.
abbrev pub field_of_bad : List ℤ → ℕ
field_of_bad zs = bad_field (fields_at zs (first_bad zs))

-- The number of the job at a place.
unfoldable pub number_at : List ℤ → ℕ → ℤ
number_at zs k = the_number (fields_at zs k)

-- Whether the number at a place j is that at k.
abbrev pub same_at : List ℤ → ℕ → ℕ → Bool
same_at zs k j = same (number_at zs j) (number_at zs k)

-- The first place before k that has the number at k; k if none has.
abbrev pub first_like : List ℤ → ℕ → ℕ
first_like zs k = first (same_at zs k) 0 k

-- A place whose number stood earlier.
abbrev pub repeated_at : List ℤ → ℕ → Bool
repeated_at zs k = ltb (first_like zs k) k

-- The first such place.
unfoldable pub first_repeat : List ℤ → ℕ
first_repeat zs = first (repeated_at zs) 0 (job_count zs)

-- The first place whose job offends, in an order of halves.
unfoldable pub first_offending : List ℤ → ℕ
first_offending zs = first (offends_at (jobs_of zs)) 0 (job_count zs)

-- ---- the checks, in stages

-- 1 to 5 on bytes.
abbrev pub first_five : List ℕ → List Check
first_five bytes =
    check 1 (ltb (length bytes) header_bytes)
    ∷ check 2 (ltb 1 (kind_of bytes))
    ∷ check 3 (ltb most_jobs (count_of bytes))
    ∷ check 4 (not (eqb (length bytes) (header_bytes + record_bytes (kind_of bytes) * count_of bytes)))
    ∷ check 5 (not (is_time (t0_of bytes)))
    ∷ []

-- 19: kind 1 where every pack is 0.
abbrev pub kind_checks : List ℕ → List Check
kind_checks bytes = check 19 (eqb (kind_of bytes) 1 && eqb (kind_for (numbers_of bytes)) 0) ∷ []

-- Both, before a job is judged.
unfoldable pub header_checks : List ℕ → List Check
header_checks bytes = first_five bytes ++ kind_checks bytes

-- 3 to 5 on a bus-free time and numbers, in packing.
unfoldable pub list_checks : ℤ → List ℤ → List Check
list_checks t0 zs =
    check 3 (ltb (job_numbers * most_jobs) (length zs))
    ∷ check 4 (not (eqb (length zs % job_numbers) 0))
    ∷ check 5 (not (is_time t0))
    ∷ []

-- 6 and 7 on the numbers of all jobs.
unfoldable pub job_checks : List ℤ → List Check
job_checks zs =
    check_field 6 (first_bad zs) (job_count zs) (field_of_bad zs)
    ∷ check_at 7 (first_repeat zs) (job_count zs)
    ∷ []

-- 9, with the weight that is there before the jobs.
unfoldable pub weight_checks : ℕ → List ℤ → List Check
weight_checks before zs = check 9 (ltb most_weight (before + weight_of (jobs_of zs))) ∷ []

-- 13, on the numbers of all jobs: the order is not of halves.
unfoldable pub halves_checks : List ℤ → List Check
halves_checks zs = check_at 13 (first_offending zs) (job_count zs) ∷ []

-- 10: how much room is needed, and how much there is.
abbrev pub room_checks : ℕ → ℕ → List Check
room_checks need room = check 10 (ltb room need) ∷ []

-- ---- the checks of an order, and of the two calls

-- Whether bytes are an order.
abbrev pub order_checks : List ℕ → List Check
order_checks bytes = header_checks bytes ++ job_checks (numbers_of bytes) ++ weight_checks 0 (numbers_of bytes)

-- Whether a bus-free time and numbers are.
abbrev pub number_checks : ℤ → List ℤ → List Check
number_checks t0 zs = list_checks t0 zs ++ job_checks zs ++ weight_checks 0 zs

-- Unpacking, with room for so many numbers.
abbrev pub unpack_checks : List ℕ → ℕ → List Check
unpack_checks bytes room = order_checks bytes ++ room_checks (job_numbers * count_of bytes) room

-- Packing, with room for so many bytes.
abbrev pub pack_checks : ℤ → List ℤ → ℕ → List Check
pack_checks t0 zs room = number_checks t0 zs ++ room_checks (header_bytes + record_bytes (kind_for zs) * job_count zs) room
