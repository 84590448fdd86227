-- P1 read job by job, and both sides of the reader's edges, as one list: each answer, and what the rules say of it.
-- One statement holds of the whole list, by computation.
use Rattle.std.specs.Prelude.{ℕ, ◌≡◌, refl, List, [], ◌∷◌, ◌++◌, map, ℤ, pos, negsuc, Some, None, Ok, Err}
use Rattle.seconds.specs.Twos.{bits_to, to_bits}
use Rattle.packed.specs.Layout.{decode, encode, number_of, bytes_of, record_bytes}
use Rattle.packed.specs.Places.{part, flat, first as find}
use Rattle.packed.specs.Packed.{header_word, header_of, count_of, t0_of, kind_of, record_at, job_word, job_fields, numbers_of}
use Rattle.packed.specs.Packed.{job_count, fields_at, packed_header, packed_job, pack_in, pack_order, first_packed, kind_for}
use Rattle.packed.specs.Judge.{in_field, plainly}
use Rattle.packed.specs.Refusals.{fields_within, bad_field, header_checks}
use Rattle.reader.specs.Reading.{Opened, open_of, job_from, Read, step_of}
use Rattle.reader.specs.declared.Moved.{Moved}

-- ---- orders in bytes

-- The numbers of P1's jobs.
abbrev first : List ℤ
first = pos 7 ∷ pos 0 ∷ pos 1 ∷ pos 0 ∷ negsuc 599 ∷ pos 495 ∷ pos 0 ∷ []

abbrev second : List ℤ
second = pos 3 ∷ pos 0 ∷ pos 0 ∷ pos 20 ∷ negsuc 199 ∷ pos 300 ∷ pos 250 ∷ []

abbrev third : List ℤ
third = pos 12 ∷ pos 0 ∷ pos 0 ∷ pos 15 ∷ pos 0 ∷ pos 200 ∷ pos 300 ∷ []

abbrev fourth : List ℤ
fourth = pos 5 ∷ pos 0 ∷ pos 1 ∷ pos 0 ∷ pos 100 ∷ pos 100 ∷ pos 450 ∷ []

abbrev last : List ℤ
last = pos 9 ∷ pos 0 ∷ pos 0 ∷ pos 15 ∷ pos 0 ∷ pos 100 ∷ pos 500 ∷ []

-- P1.
abbrev p1 : List ℕ
p1 = pack_order (negsuc 599) (first ++ second ++ third ++ fourth ++ last)

-- P1 with a third job of no length.
abbrev damaged : List ℕ
damaged = pack_order (negsuc 599) (first ++ second ++ (pos 12 ∷ pos 0 ∷ pos 0 ∷ pos 15 ∷ pos 0 ∷ pos 0 ∷ pos 300 ∷ []) ++ fourth ++ last)

-- A job with number 1: its mark, weight, ready time, length and deadline.
abbrev shaped : ℕ → ℕ → ℤ → ℕ → ℤ → List ℤ
shaped mark weight ready long deadline = pos 1 ∷ pos 0 ∷ pos mark ∷ pos weight ∷ ready ∷ pos long ∷ deadline ∷ []

-- Jobs out of range in the fields 4 to 7: of each field but the last one in it alone, then one in it and a later one; a critical
-- job of weight 1 last.
abbrev bad : List ℕ
bad =
    pack_order (pos 0)
    (shaped 0 0 (pos 0) 1 (pos 1)
    ++ shaped 0 51 (pos 100001) 1 (pos 1)
    ++ shaped 0 1 (pos 100001) 1 (pos 1)
    ++ shaped 0 1 (negsuc 100000) 1 (pos 100001)
    ++ shaped 0 1 (pos 0) 10001 (pos 1)
    ++ shaped 0 1 (pos 0) 0 (negsuc 100000)
    ++ shaped 0 1 (pos 0) 1 (pos 100001)
    ++ shaped 1 1 (pos 0) 1 (pos 1))

-- One job seven times: its number is repeated, and the weights sum to 350.
abbrev heavy : List ℤ
heavy = pos 1 ∷ pos 0 ∷ pos 0 ∷ pos 50 ∷ pos 0 ∷ pos 1 ∷ pos 1 ∷ []

-- One of pack 255.
abbrev in_pack : List ℤ
in_pack = pos 2 ∷ pos 255 ∷ pos 1 ∷ pos 0 ∷ pos 0 ∷ pos 1 ∷ pos 1 ∷ []

abbrev repeated : List ℕ
repeated = pack_order (pos 0) (heavy ++ heavy ++ heavy ++ heavy ++ heavy ++ heavy ++ heavy)

-- ---- the list

pub record Edge : Type 0 where
  pub asked : Moved
  pub told : Moved

-- A step over bytes at a place, the answer and the place after it.
abbrev edge : List ℕ → ℕ → Read → ℕ → Edge
edge bytes place answer next = record { asked = step_of bytes place; told = record { answer = answer; place = next } }

abbrev pub edges : List Edge
edges =
    -- P1 to the end, and past it
    edge p1 0 (Ok (Some (job_from first))) 1
    ∷ edge p1 1 (Ok (Some (job_from second))) 2
    ∷ edge p1 2 (Ok (Some (job_from third))) 3
    ∷ edge p1 3 (Ok (Some (job_from fourth))) 4
    ∷ edge p1 4 (Ok (Some (job_from last))) 5
    ∷ edge p1 5 (Ok None) 5
    ∷ edge p1 6 (Ok None) 6
    -- a job out of range; those beside it are given
    ∷ edge damaged 1 (Ok (Some (job_from second))) 2
    ∷ edge damaged 2 (Err (in_field 6 2 6)) 2
    ∷ edge damaged 3 (Ok (Some (job_from fourth))) 4
    -- the first field that is out of range: the weight, the ready time, the length and the deadline
    ∷ edge bad 0 (Err (in_field 6 0 4)) 0
    ∷ edge bad 1 (Err (in_field 6 1 4)) 1
    ∷ edge bad 2 (Err (in_field 6 2 5)) 2
    ∷ edge bad 3 (Err (in_field 6 3 5)) 3
    ∷ edge bad 4 (Err (in_field 6 4 6)) 4
    ∷ edge bad 5 (Err (in_field 6 5 6)) 5
    ∷ edge bad 6 (Err (in_field 6 6 7)) 6
    ∷ edge bad 7 (Err (in_field 6 7 4)) 7
    -- 7 and 9 are not judged
    ∷ edge repeated 6 (Ok (Some (job_from heavy))) 7
    -- bytes that are not accepted
    ∷ edge [] 0 (Err (plainly 1)) 0
    ∷ edge [] 7 (Err (plainly 1)) 7
    ∷ edge (0 ∷ 0 ∷ 0 ∷ 2 ∷ []) 0 (Err (plainly 2)) 0
    ∷ edge (196 ∷ 0 ∷ 0 ∷ 0 ∷ []) 0 (Err (plainly 3)) 0
    ∷ edge (p1 ++ 0 ∷ []) 2 (Err (plainly 4)) 2
    ∷ edge (1 ∷ 0x86 ∷ 0xA1 ∷ 0 ∷ []) 0 (Err (plainly 5)) 0
    -- a pack, the only one; kind 1 without a pack, also of a job out of range and at the end
    ∷ edge (pack_order (pos 0) (heavy ++ in_pack)) 0 (Ok (Some (job_from heavy))) 1
    ∷ edge (pack_order (pos 0) (heavy ++ in_pack)) 1 (Ok (Some (job_from in_pack))) 2
    ∷ edge (pack_in 1 (pos 0) heavy) 0 (Err (plainly 19)) 0
    ∷ edge (pack_in 1 (pos 0) heavy) 1 (Err (plainly 19)) 1
    ∷ edge (pack_in 1 (pos 0) (shaped 0 0 (pos 0) 1 (pos 1))) 0 (Err (plainly 19)) 0
    ∷ edge (0 ∷ 0 ∷ 0 ∷ 1 ∷ []) 0 (Err (plainly 19)) 0
    -- no jobs
    ∷ edge (0 ∷ 0 ∷ 0 ∷ 0 ∷ []) 0 (Ok None) 0
    ∷ []

-- Opening over the same bytes.
abbrev pub openings : List Opened
openings = open_of p1 ∷ open_of damaged ∷ open_of repeated ∷ open_of [] ∷ open_of (p1 ++ 0 ∷ []) ∷ open_of (0 ∷ 0 ∷ 0 ∷ 0 ∷ []) ∷ []

-- Every edge is where R23 has it.
pub edges-hold : (map (λ (e : Edge). e.asked) edges ≡ map (λ (e : Edge). e.told) edges)
    × (openings
    ≡ Ok 5 ∷ Ok 5 ∷ Ok 7 ∷ Err (plainly 1) ∷ Err (plainly 4) ∷ Ok 0 ∷ [])
unfolding decode encode number_of bytes_of bits_to to_bits part flat header_word header_of count_of t0_of kind_of record_at job_word
    job_fields job_count fields_at packed_header packed_job pack_in first_packed kind_for record_bytes numbers_of find fields_within bad_field header_checks
edges-hold = (refl, refl)
