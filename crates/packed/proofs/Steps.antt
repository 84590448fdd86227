-- What the code's branches and loops take: the checks written out, where the search for a job out of range begins, and one
-- step of the sum of weights.
use Rattle.std.specs.Prelude.{ℕ, ◌+◌, ◌*◌, ◌%◌, ◌<◌, ◌≡◌, refl, not, cond, ◌&&◌, List, ltb, eqb, ℤ, nat_abs, length}
use Rattle.seconds.specs.Ranges.{is_time}
use Rattle.order.specs.Job.{weight_of}
use Rattle.packed.specs.Layout.{record_bytes}
use Rattle.packed.specs.Places.{each, first}
use Rattle.packed.specs.PlacesLaws.{each_on}
use Rattle.packed.specs.Packed.{count_of, t0_of, kind_of, kind_for, numbers_of}
use Rattle.packed.specs.Packed.{job_count, fields_at, job_at}
use Rattle.packed.specs.Packed.{the_weight}
use Rattle.packed.proofs.PackedLaws.{job_is}
use Rattle.packed.specs.Judge.{in_field, at_place, plainly, fine, refused, judge}
use Rattle.packed.specs.Refusals.{bad_at, first_bad, field_of_bad}
use Rattle.packed.specs.Refusals.{first_repeat, header_checks, list_checks, job_checks}

-- ---- the checks written out

-- 1 to 5 and 19 on bytes.
pub header-judge : (bytes : List ℕ) → judge (header_checks bytes)
    ≡ cond (ltb (length bytes) 4) (refused (plainly 1))
    (cond (ltb 1 (kind_of bytes)) (refused (plainly 2))
    (cond (ltb 48 (count_of bytes)) (refused (plainly 3))
    (cond (not (eqb (length bytes) (4 + record_bytes (kind_of bytes) * count_of bytes))) (refused (plainly 4))
    (cond (not (is_time (t0_of bytes))) (refused (plainly 5))
    (cond (eqb (kind_of bytes) 1 && eqb (kind_for (numbers_of bytes)) 0) (refused (plainly 19)) fine)))))
unfolding header_checks
header-judge bytes = refl

-- 3 to 5 on a bus-free time and numbers.
pub list-judge : (t0 : ℤ) (zs : List ℤ) → judge (list_checks t0 zs)
    ≡ cond (ltb 336 (length zs)) (refused (plainly 3))
    (cond (not (eqb (length zs % 7) 0)) (refused (plainly 4))
    (cond (not (is_time t0)) (refused (plainly 5)) fine))
unfolding list_checks
list-judge t0 zs = refl

-- 6 and 7.
pub jobs-judge : (zs : List ℤ) → judge (job_checks zs)
    ≡ cond (ltb (first_bad zs) (job_count zs)) (refused (in_field 6 (first_bad zs) (field_of_bad zs)))
    (cond (ltb (first_repeat zs) (job_count zs)) (refused (at_place 7 (first_repeat zs))) fine)
unfolding job_checks
jobs-judge zs = refl

-- ---- the search and the sum

-- The search for a job out of range, from its first place.
pub bad-from-0 : (zs : List ℤ) → first_bad zs ≡ first (bad_at zs) 0 (job_count zs)
unfolding first_bad
bad-from-0 zs = refl

-- The weights from a place on: one, and those from the next place on.
pub weights-on : (zs : List ℤ) (k n : ℕ) → k < n
    → weight_of (each (job_at zs) k n) ≡ nat_abs (the_weight (fields_at zs k)) + weight_of (each (job_at zs) (k + 1) n)
weights-on zs k n h = rw (each_on (job_at zs) k n h, job_is (fields_at zs k))
