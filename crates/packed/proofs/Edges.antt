-- Both sides of the edges of packing and unpacking, and of orders of halves, as one list: each verdict, and what the rules say
-- of it.
-- One statement holds of the whole list, by computation.
use Rattle.std.specs.Prelude.{ℕ, ◌≡◌, refl, true, false, List, [], ◌∷◌, ◌++◌, map, ℤ, pos, negsuc, replicate}
use Rattle.seconds.specs.Twos.{bits_to, to_bits}
use Rattle.packed.specs.Layout.{decode, encode, number_of, bytes_of, record_bytes}
use Rattle.packed.specs.Places.{part, flat, each, first}
use Rattle.packed.specs.Packed.{header_word, header_of, count_of, t0_of, kind_of, record_at, job_word, job_fields}
use Rattle.packed.specs.Packed.{numbers_of, job_count, fields_at, packed_header, packed_job, pack_in, pack_order, first_packed, kind_for, is_critical, job_of, jobs_of}
use Rattle.packed.specs.Judge.{in_field, at_place, plainly, Verdict, fine, refused, judge}
use Rattle.packed.specs.Refusals.{fields_within, bad_field, first_bad, number_at, first_repeat, first_offending, header_checks}
use Rattle.packed.specs.Refusals.{list_checks, job_checks, weight_checks, halves_checks, number_checks, unpack_checks, pack_checks}

-- A job ready at 0 with the deadline 100: its number, mark, weight and length.
abbrev job : ℕ → ℤ → ℤ → ℤ → List ℤ
job number mark weight long = pos number ∷ pos 0 ∷ mark ∷ weight ∷ pos 0 ∷ long ∷ pos 100 ∷ []

-- One that is within its limits.
abbrev weighing : ℕ → ℕ → List ℤ
weighing number weight = job number (pos 0) (pos weight) (pos 10)

-- One with these times.
abbrev timed : ℤ → ℤ → List ℤ
timed ready deadline = pos 0 ∷ pos 0 ∷ pos 0 ∷ pos 1 ∷ ready ∷ pos 1 ∷ deadline ∷ []

-- One of these numbers, its pack 0.
abbrev other : ℤ → ℤ → ℤ → ℤ → ℤ → ℤ → List ℤ
other number mark weight ready long deadline = number ∷ pos 0 ∷ mark ∷ weight ∷ ready ∷ long ∷ deadline ∷ []

-- One of a pack.
abbrev in_pack : ℤ → List ℤ
in_pack pack = pos 9 ∷ pack ∷ pos 0 ∷ pos 1 ∷ pos 0 ∷ pos 10 ∷ pos 100 ∷ []

-- Six jobs of weight 50.
abbrev heavy_six : List ℤ
heavy_six = weighing 1 50 ++ weighing 2 50 ++ weighing 3 50 ++ weighing 4 50 ++ weighing 5 50 ++ weighing 6 50

-- Packing with the bus free at 0 and room enough, and unpacking with room enough.
abbrev packing : List ℤ → Verdict
packing zs = judge (pack_checks (pos 0) zs 436)

abbrev unpacking : List ℕ → Verdict
unpacking bytes = judge (unpack_checks bytes 336)

-- Whether numbers are an order of halves, behind the checks of packing.
abbrev halving : List ℤ → Verdict
halving zs = judge (number_checks (pos 0) zs ++ halves_checks zs)

-- A critical job, and an optional one of so much weight and so many seconds.
abbrev critical : ℕ → List ℤ
critical number = job number (pos 1) (pos 0) (pos 10)

abbrev optional : ℕ → ℕ → ℕ → List ℤ
optional number weight long = job number (pos 0) (pos weight) (pos long)

-- The mark of a critical job is 1, and no other number is.
pub critical-marks : map (λ (mark : ℤ). is_critical (job 2 mark (pos 0) (pos 1))) (pos 1 ∷ pos 0 ∷ pos 2 ∷ negsuc 0 ∷ [])
    ≡ true ∷ false ∷ false ∷ false ∷ []
critical-marks = refl

-- ---- the list

pub record Edge : Type 0 where
  pub asked : Verdict
  pub told : Verdict

abbrev edge : Verdict → Verdict → Edge
edge a b = record { asked = a; told = b }

abbrev pub edges : List Edge
edges =
    -- 1: three bytes, and four
    edge (unpacking (0 ∷ 0 ∷ 0 ∷ [])) (refused (plainly 1))
    ∷ edge (unpacking (0 ∷ 0 ∷ 0 ∷ 0 ∷ [])) fine
    -- 2 before 3, 3 before 4, and a record that is missing
    ∷ edge (unpacking (255 ∷ 0 ∷ 0 ∷ 2 ∷ [])) (refused (plainly 2))
    ∷ edge (unpacking (196 ∷ 0 ∷ 0 ∷ 0 ∷ [])) (refused (plainly 3))
    ∷ edge (unpacking (192 ∷ 0 ∷ 0 ∷ 0 ∷ [])) (refused (plainly 4))
    -- in packing: 337 numbers, 335, and 336 of jobs out of range
    ∷ edge (packing (replicate 337 (pos 0))) (refused (plainly 3))
    ∷ edge (packing (replicate 335 (pos 0))) (refused (plainly 4))
    ∷ edge (packing (replicate 336 (pos 0))) (refused (in_field 6 0 4))
    -- kinds: 1 with no job and with one of pack 0, in 8 bytes, and 2 and 255; a pack alone
    ∷ edge (unpacking (0 ∷ 0 ∷ 0 ∷ 1 ∷ [])) (refused (plainly 19))
    ∷ edge (unpacking (1 ∷ 0x86 ∷ 0xA1 ∷ 1 ∷ [])) (refused (plainly 5))
    ∷ edge (unpacking (0 ∷ 0 ∷ 0 ∷ 2 ∷ [])) (refused (plainly 2))
    ∷ edge (unpacking (0 ∷ 0 ∷ 0 ∷ 255 ∷ [])) (refused (plainly 2))
    ∷ edge (unpacking (pack_in 1 (pos 0) (weighing 1 1))) (refused (plainly 19))
    ∷ edge (unpacking (pack_in 1 (pos 0) (weighing 1 51))) (refused (plainly 19))
    ∷ edge (unpacking (pack_order (pos 0) (weighing 1 1 ++ in_pack (pos 3)))) fine
    ∷ edge (judge (pack_checks (pos 0) (weighing 1 1 ++ in_pack (pos 3)) 22)) fine
    ∷ edge (judge (pack_checks (pos 0) (weighing 1 1 ++ in_pack (pos 3)) 21)) (refused (plainly 10))
    ∷ edge (packing (in_pack (pos 255))) fine
    ∷ edge (packing (in_pack (pos 256))) (refused (in_field 6 0 2))
    ∷ edge (packing (in_pack (negsuc 0))) (refused (in_field 6 0 2))
    ∷ edge (packing (pos 64 ∷ pos 256 ∷ pos 2 ∷ pos 51 ∷ pos 0 ∷ pos 0 ∷ pos 0 ∷ [])) (refused (in_field 6 0 1))
    ∷ edge (packing (pos 63 ∷ pos 256 ∷ pos 2 ∷ pos 51 ∷ pos 0 ∷ pos 0 ∷ pos 0 ∷ [])) (refused (in_field 6 0 2))
    -- 5: the bus free at 100,000, at 100,001, and at -100,001
    ∷ edge (unpacking (1 ∷ 0x86 ∷ 0xA0 ∷ 0 ∷ [])) fine
    ∷ edge (unpacking (1 ∷ 0x86 ∷ 0xA1 ∷ 0 ∷ [])) (refused (plainly 5))
    ∷ edge (judge (pack_checks (negsuc 100000) [] 4)) (refused (plainly 5))
    -- 6: lengths, in packing and in unpacking
    ∷ edge (packing (weighing 1 1 ++ job 2 (pos 0) (pos 1) (pos 10000))) fine
    ∷ edge (packing (weighing 1 1 ++ job 2 (pos 0) (pos 1) (pos 10001))) (refused (in_field 6 1 6))
    ∷ edge (packing (weighing 1 1 ++ job 2 (pos 0) (pos 1) (pos 0))) (refused (in_field 6 1 6))
    ∷ edge (unpacking (pack_order (pos 0) (weighing 1 1 ++ job 2 (pos 0) (pos 1) (pos 10001)))) (refused (in_field 6 1 6))
    -- numbers and marks
    ∷ edge (packing (job 63 (pos 1) (pos 0) (pos 1))) fine
    ∷ edge (packing (job 64 (pos 1) (pos 0) (pos 1))) (refused (in_field 6 0 1))
    ∷ edge (packing (job 2 (pos 2) (pos 1) (pos 1))) (refused (in_field 6 0 3))
    ∷ edge (packing (job 2 (negsuc 0) (pos 0) (pos 1))) (refused (in_field 6 0 3))
    -- weights, critical and not
    ∷ edge (packing (job 2 (pos 1) (pos 1) (pos 1))) (refused (in_field 6 0 4))
    ∷ edge (packing (weighing 2 0)) (refused (in_field 6 0 4))
    ∷ edge (packing (weighing 2 51)) (refused (in_field 6 0 4))
    -- ready times and deadlines
    ∷ edge (packing (timed (negsuc 99999) (pos 100000))) fine
    ∷ edge (packing (timed (negsuc 100000) (pos 100000))) (refused (in_field 6 0 5))
    ∷ edge (packing (timed (negsuc 99999) (pos 100001))) (refused (in_field 6 0 7))
    -- the field: the first that is out of range, with a later one out of range too
    ∷ edge (packing (other (negsuc 0) (pos 0) (pos 1) (pos 0) (pos 1) (pos 0))) (refused (in_field 6 0 1))
    ∷ edge (packing (other (pos 64) (pos 2) (pos 51) (pos 100001) (pos 0) (pos 100001))) (refused (in_field 6 0 1))
    ∷ edge (packing (other (pos 0) (pos 2) (pos 0) (pos 100001) (pos 0) (pos 100001))) (refused (in_field 6 0 3))
    ∷ edge (packing (other (pos 0) (negsuc 0) (pos 51) (pos 0) (pos 1) (pos 0))) (refused (in_field 6 0 3))
    ∷ edge (packing (other (pos 0) (pos 1) (pos 1) (pos 100001) (pos 0) (pos 100001))) (refused (in_field 6 0 4))
    ∷ edge (packing (other (pos 0) (pos 1) (negsuc 0) (pos 0) (pos 1) (pos 0))) (refused (in_field 6 0 4))
    ∷ edge (packing (other (pos 0) (pos 0) (negsuc 0) (pos 0) (pos 1) (pos 0))) (refused (in_field 6 0 4))
    ∷ edge (packing (other (pos 0) (pos 0) (pos 50) (pos 100001) (pos 0) (pos 100001))) (refused (in_field 6 0 5))
    ∷ edge (packing (other (pos 0) (pos 0) (pos 50) (pos 0) (pos 10001) (negsuc 100000))) (refused (in_field 6 0 6))
    ∷ edge (packing (other (pos 0) (pos 0) (pos 50) (pos 0) (negsuc 0) (pos 0))) (refused (in_field 6 0 6))
    ∷ edge (packing (other (pos 0) (pos 0) (pos 50) (pos 0) (pos 1) (negsuc 100000))) (refused (in_field 6 0 7))
    -- that of the first job out of range, and not of another
    ∷ edge (packing (weighing 1 1 ++ timed (pos 0) (pos 100001) ++ weighing 3 0)) (refused (in_field 6 1 7))
    ∷ edge (unpacking (pack_order (pos 0) (weighing 1 1 ++ weighing 2 0 ++ timed (pos 100001) (pos 0)))) (refused (in_field 6 1 4))
    ∷ edge (unpacking (pack_order (pos 0) (job 2 (pos 1) (pos 1) (pos 10001)))) (refused (in_field 6 0 4))
    -- 7: the numbers 4, 9, 4, 9; and not where a job is out of range
    ∷ edge (packing (weighing 4 1 ++ weighing 9 1 ++ weighing 4 1 ++ weighing 9 1)) (refused (at_place 7 2))
    ∷ edge (packing (weighing 4 1 ++ weighing 4 1 ++ weighing 9 0)) (refused (in_field 6 2 4))
    -- 9: six weights of 50, and one more of 1
    ∷ edge (packing heavy_six) fine
    ∷ edge (packing (heavy_six ++ weighing 7 1)) (refused (plainly 9))
    -- 10: room that is just enough, and one short; no jobs at all
    ∷ edge (judge (pack_checks (pos 0) [] 4)) fine
    ∷ edge (judge (pack_checks (pos 0) [] 3)) (refused (plainly 10))
    ∷ edge (judge (unpack_checks (pack_order (pos 0) (weighing 1 1)) 7)) fine
    ∷ edge (judge (unpack_checks (pack_order (pos 0) (weighing 1 1)) 6)) (refused (plainly 10))
    -- 13: no jobs, only critical ones, and numbers: 0 and 32, 31 and 63, a critical 32, an optional 31
    ∷ edge (halving []) fine
    ∷ edge (halving (critical 4 ++ critical 9)) fine
    ∷ edge (halving (critical 0 ++ optional 32 1 60)) fine
    ∷ edge (halving (critical 31 ++ optional 63 50 3000)) fine
    ∷ edge (halving (critical 31 ++ critical 32)) (refused (at_place 13 1))
    ∷ edge (halving (critical 4 ++ optional 31 1 60)) (refused (at_place 13 1))
    -- lengths, at 60 seconds for each weight and beside that
    ∷ edge (halving (critical 4 ++ optional 36 2 119)) (refused (at_place 13 1))
    ∷ edge (halving (critical 4 ++ optional 36 2 120)) fine
    ∷ edge (halving (critical 4 ++ optional 36 2 121)) (refused (at_place 13 1))
    -- no partner, one that is not critical, one that stands behind, and one that is 31 or 33 below
    ∷ edge (halving (optional 36 1 60)) (refused (at_place 13 0))
    ∷ edge (halving (optional 4 1 60 ++ optional 36 1 60)) (refused (at_place 13 0))
    ∷ edge (halving (critical 5 ++ optional 36 1 60 ++ critical 4)) (refused (at_place 13 1))
    ∷ edge (halving (critical 5 ++ optional 36 1 60)) (refused (at_place 13 1))
    ∷ edge (halving (critical 3 ++ optional 36 1 60)) (refused (at_place 13 1))
    -- the first of two that offend; after 7 and 9
    ∷ edge (halving (critical 4 ++ optional 37 1 60 ++ critical 40)) (refused (at_place 13 1))
    ∷ edge (halving (critical 4 ++ optional 36 1 60 ++ optional 36 1 61)) (refused (at_place 7 2))
    ∷ edge (halving (heavy_six ++ weighing 7 1)) (refused (plainly 9))
    ∷ edge (halving heavy_six) (refused (at_place 13 0))
    ∷ []

-- Every edge is where the rules have it.
pub edges-hold : map (λ (e : Edge). e.asked) edges ≡ map (λ (e : Edge). e.told) edges
unfolding decode encode number_of bytes_of bits_to to_bits part flat each first header_word header_of count_of t0_of kind_of
    record_at job_word job_fields numbers_of job_count fields_at packed_header packed_job pack_in first_packed kind_for record_bytes job_of jobs_of
    fields_within bad_field first_bad number_at first_repeat first_offending header_checks list_checks job_checks weight_checks halves_checks
edges-hold = refl
