-- Orders of halves (R34, R35): the README's four jobs, and the edges of the call around check 13. Each question as the call is asked it,
-- and what the rules say. One statement holds of the whole list, by computation.
use Rattle.std.specs.Prelude.{ℕ, ◌*◌, ◌≤◌, ◌<◌, ◌≡◌, List, [], ◌∷◌, ◌++◌, map, ℤ, pos, negsuc, length, replicate}
use borrow.Author.Tests.{le-ltb, lt-ltb}
use Rattle.seconds.specs.Limits.{rest}
use Rattle.seconds.specs.Twos.{bits_to, to_bits}
use Rattle.packed.specs.Layout.{decode, encode, number_of, bytes_of, record_bytes}
use Rattle.packed.specs.Places.{part, flat, each, first}
use Rattle.packed.specs.Packed.{header_word, header_of, count_of, t0_of, kind_of, record_at, job_word, job_fields, numbers_of}
use Rattle.packed.specs.Packed.{job_count, fields_at, packed_header, packed_job, pack_in, pack_order, first_packed, kind_for, job_of, jobs_of, order_of}
use Rattle.packed.specs.Refusals.{fields_within, first_bad, number_at, first_repeat, first_offending, header_checks, job_checks}
use Rattle.packed.specs.Refusals.{weight_checks, halves_checks}
use Rattle.halves.specs.Calls.{plan_halves_checks, halves_of, halves_starts_after, halves_numbers}
use Rattle.worked.specs.Examples.{Example, job, critical, from0, figures}

-- The README's order: the bus is free at -900, and two checks are split in two.
abbrev pub two_checks : List ℕ
two_checks =
    pack_order (negsuc 899)
    (job 4 1 0 (negsuc 899) 300 (negsuc 299)
    ++ (job 36 0 5 (negsuc 899) 300 (pos 0) ++ (job 9 1 0 (negsuc 899) 200 (pos 0) ++ job 41 0 8 (negsuc 899) 480 (pos 300))))

-- An optional half, ready at 0, of 60 seconds for each weight.
abbrev optional : ℕ → ℕ → ℤ → List ℤ
optional number weight deadline = job number 0 weight (pos 0) (60 * weight) deadline

-- Six of weight 50 with no partner, and one more of weight 1.
abbrev heavy : List ℤ
heavy =
    optional 40 50 (pos 9000) ++ (optional 41 50 (pos 9000) ++ (optional 42 50 (pos 9000) ++ (optional 43 50 (pos 9000)
    ++ (optional 44 50 (pos 9000) ++ (optional 45 50 (pos 9000) ++ optional 46 1 (pos 9000))))))

-- A refused answer: its number, its place and noughts.
abbrev refusal : ℕ → ℕ → List ℤ
refusal number place =
    pos number ∷ pos place ∷ pos 0 ∷ pos 0 ∷ pos 0 ∷ pos 0 ∷ pos 0 ∷ pos 0 ∷ []

-- A call is lent a work area of 14,749 numbers or more, of any values, or one that is shorter.
module _ (work short : List ℤ) where
  -- A plan's figures and the seconds lost, then the starts, which were 1 for each of so many places.
  abbrev with-work : List ℤ → List ℕ → ℕ → List ℤ
  with-work area order places =
      let n = halves_numbers (halves_of order (replicate places (pos 1)) area) in
      figures n.plan ++ (pos n.seconds_lost ∷ halves_starts_after order (replicate places (pos 1)) area)

  abbrev halved : List ℕ → ℕ → List ℤ
  halved order places = with-work work order places

  abbrev pub halves : List Example
  halves =
      -- the README's order: job 36 is left out, and 300 optional seconds are lost
      record {
        asked = halved two_checks 4;
        told =
            pos 0 ∷ pos 0 ∷ pos 3 ∷ pos 8 ∷ pos 5 ∷ pos 125 ∷ pos 8 ∷ pos 300
            ∷ negsuc 899 ∷ pos 200000 ∷ negsuc 584 ∷ negsuc 369 ∷ [];
      }
      -- both halves fit: no seconds lost; a second earlier the optional one does not
      ∷ record {
        asked = halved (from0 (critical 31 10 (pos 10) ++ optional 63 50 (pos 3025))) 2;
        told = pos 0 ∷ pos 0 ∷ pos 2 ∷ pos 50 ∷ pos 0 ∷ pos 3040 ∷ pos 3 ∷ pos 0 ∷ pos 0 ∷ pos 25 ∷ [];
      }
      ∷ record {
        asked = halved (from0 (critical 31 10 (pos 10) ++ optional 63 50 (pos 3024))) 2;
        told = pos 0 ∷ pos 0 ∷ pos 1 ∷ pos 0 ∷ pos 50 ∷ pos 25 ∷ pos 2 ∷ pos 3000 ∷ pos 0 ∷ pos 200000 ∷ [];
      }
      -- no jobs, and only critical ones
      ∷ record {
        asked = halved (pack_order (pos 5) []) 0;
        told = pos 0 ∷ pos 0 ∷ pos 0 ∷ pos 0 ∷ pos 0 ∷ pos 5 ∷ pos 0 ∷ pos 0 ∷ [];
      }
      ∷ record {
        asked = halved (from0 (critical 0 10 (pos 10))) 1;
        told = pos 0 ∷ pos 0 ∷ pos 1 ∷ pos 0 ∷ pos 0 ∷ pos 25 ∷ pos 1 ∷ pos 0 ∷ pos 0 ∷ [];
      }
      -- 9 before 13
      ∷ record { asked = halved (from0 heavy) 0; told = refusal 9 0 }
      -- 13 before 10: with no room for a start, and with a work area that is too short
      ∷ record { asked = halved (from0 (optional 36 1 (pos 9000) ++ critical 4 10 (pos 10))) 0; told = refusal 13 0 }
      ∷ record {
        asked = with-work short (from0 (critical 4 10 (pos 10) ++ critical 32 10 (pos 1000))) 2;
        told = refusal 13 1 ++ (pos 1 ∷ pos 1 ∷ []);
      }
      -- 10 after it, in the same two ways
      ∷ record { asked = halved two_checks 3; told = refusal 10 0 ++ (pos 1 ∷ pos 1 ∷ pos 1 ∷ []) }
      ∷ record { asked = with-work short (from0 (critical 4 10 (pos 10))) 1; told = refusal 10 0 ++ (pos 1 ∷ []) }
      -- 13 before 11, and 11 where the order is of halves
      ∷ record {
        asked = halved (from0 (critical 4 10 (pos 9) ++ critical 32 10 (pos 1000))) 2;
        told = refusal 13 1 ++ (pos 1 ∷ pos 1 ∷ []);
      }
      ∷ record {
        asked = halved (from0 (critical 4 10 (pos 9) ++ optional 36 1 (pos 1000))) 2;
        told = refusal 11 0 ++ (pos 1 ∷ pos 1 ∷ []);
      }
      ∷ []

  -- Every one comes out as the rules say.
  pub halves-hold : 14749 ≤ length work → length short < 14749
      → map (λ (e : Example). e.asked) halves ≡ map (λ (e : Example). e.told) halves
  unfolding rest bits_to to_bits decode encode number_of bytes_of part flat each first header_word header_of count_of t0_of kind_of record_bytes
      record_at job_word job_fields numbers_of job_count fields_at packed_header packed_job pack_in first_packed kind_for job_of jobs_of order_of fields_within
      first_bad number_at first_repeat first_offending header_checks job_checks weight_checks halves_checks plan_halves_checks
  halves-hold area less = rw (le-ltb (length work) 14749 area, lt-ltb (length short) 14749 less)
