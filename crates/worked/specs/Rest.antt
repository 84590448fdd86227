-- The rest after every job (R5, R6, R11), on both sides of its edges: each question as a call is asked it, and what the rules say.
-- One statement holds of the whole list, by computation.
use Rattle.std.specs.Prelude.{ℕ, ◌≤◌, ◌≡◌, List, [], ◌∷◌, ◌++◌, map, ℤ, pos, negsuc, length}
use borrow.Author.Tests.{le-ltb}
use Rattle.seconds.specs.Limits.{rest}
use Rattle.seconds.specs.Twos.{bits_to, to_bits}
use Rattle.packed.specs.Layout.{decode, encode, number_of, bytes_of, record_bytes}
use Rattle.packed.specs.Places.{part, flat, each, first}
use Rattle.packed.specs.Packed.{header_word, header_of, count_of, t0_of, kind_of, record_at, job_word, job_fields, numbers_of}
use Rattle.packed.specs.Packed.{job_count, fields_at, packed_header, packed_job, pack_in, pack_order, first_packed, kind_for, job_of, jobs_of, order_of}
use Rattle.packed.specs.Refusals.{fields_within, first_bad, number_at, first_repeat, header_checks, job_checks, weight_checks}
use Rattle.extending.specs.Calls.{extend_judged, extend_checks}
use Rattle.planner.specs.Calls.{plan_checks}
use Rattle.worked.specs.Examples.{Example, job, critical, worth10, from0, found, planned, extended, joined}

-- A critical job from 0 to 10, and one of 5 seconds behind it: the bus is free for that at 25, so it finishes at 30.
abbrev followed : List ℤ → List ℕ
followed second = from0 (critical 0 10 (pos 10) ++ second)

-- A job that finishes at 100,000 at the earliest and by its deadline.
abbrev last : List ℕ
last = from0 (job 0 0 10 (pos 99990) 10 (pos 100000))

-- The profile of one point, of nothing kept at a time.
abbrev at : ℤ → List ℤ
at t = t ∷ pos 0 ∷ []

module _ (out work : List ℤ) where
  abbrev pub rests : List Example
  rests =
      -- a job starts a rest after the finish before it and just meets its deadline: kept
      record {
        asked = planned out work (followed (worth10 1 5 (pos 30))) 2;
        told = pos 0 ∷ pos 0 ∷ pos 2 ∷ pos 10 ∷ pos 0 ∷ pos 45 ∷ pos 3 ∷ pos 0 ∷ pos 25 ∷ [];
      }
      ∷ record {
        asked = extended out work (at (pos 0)) (followed (worth10 1 5 (pos 30)));
        told = pos 0 ∷ pos 2 ∷ pos 25 ∷ pos 0 ∷ pos 45 ∷ pos 10 ∷ [];
      }
      -- its window ends a second too early: left out, and where it is critical nothing is feasible
      ∷ record {
        asked = planned out work (followed (worth10 1 5 (pos 29))) 2;
        told = pos 0 ∷ pos 0 ∷ pos 1 ∷ pos 0 ∷ pos 10 ∷ pos 25 ∷ pos 2 ∷ pos 0 ∷ pos 200000 ∷ [];
      }
      ∷ record {
        asked = extended out work (at (pos 0)) (followed (worth10 1 5 (pos 29)));
        told = pos 0 ∷ pos 1 ∷ pos 25 ∷ pos 0 ∷ [];
      }
      ∷ record {
        asked = planned out work (followed (critical 1 5 (pos 29))) 2;
        told = pos 11 ∷ pos 0 ∷ pos 0 ∷ pos 0 ∷ pos 0 ∷ pos 0 ∷ pos 0 ∷ pos 1 ∷ pos 1 ∷ [];
      }
      ∷ record { asked = extended out work (at (pos 0)) (followed (critical 1 5 (pos 29))); told = pos 0 ∷ pos 0 ∷ [] }
      -- a deadline binds the finish at 10, and not the bus-free time at 25: kept, at 24 as at 10 (P4)
      ∷ record {
        asked = planned out work (from0 (critical 0 10 (pos 24))) 1;
        told = pos 0 ∷ pos 0 ∷ pos 1 ∷ pos 0 ∷ pos 0 ∷ pos 25 ∷ pos 1 ∷ pos 0 ∷ [];
      }
      ∷ record {
        asked = extended out work (at (pos 0)) (from0 (critical 0 10 (pos 24)));
        told = pos 0 ∷ pos 1 ∷ pos 25 ∷ pos 0 ∷ [];
      }
      -- no rest before the first job: from 0 a job just meets its deadline; from 1 it is left out, and the point keeps its time
      ∷ record {
        asked = extended out work (at (pos 0)) (from0 (worth10 0 10 (pos 10)));
        told = pos 0 ∷ pos 2 ∷ pos 0 ∷ pos 0 ∷ pos 25 ∷ pos 10 ∷ [];
      }
      ∷ record {
        asked = extended out work (at (pos 1)) (from0 (worth10 0 10 (pos 10)));
        told = pos 0 ∷ pos 1 ∷ pos 1 ∷ pos 0 ∷ [];
      }
      -- a last job that finishes at 100,000 leaves the bus free at 100,015; that profile is valid, and extended again it stays
      ∷ record {
        asked = planned out work last 1;
        told = pos 0 ∷ pos 0 ∷ pos 1 ∷ pos 10 ∷ pos 0 ∷ pos 100015 ∷ pos 2 ∷ pos 99990 ∷ [];
      }
      ∷ record {
        asked = extended out work (at (pos 0)) last;
        told = pos 0 ∷ pos 2 ∷ pos 0 ∷ pos 0 ∷ pos 100015 ∷ pos 10 ∷ [];
      }
      ∷ record {
        asked = extended out work (pos 0 ∷ pos 0 ∷ pos 100015 ∷ pos 10 ∷ []) last;
        told = pos 0 ∷ pos 2 ∷ pos 0 ∷ pos 0 ∷ pos 100015 ∷ pos 10 ∷ [];
      }
      -- points from -100,000 to 100,015 are accepted
      ∷ record { asked = found (at (pos 100015)) (pos 100015); told = pos 0 ∷ pos 1 ∷ pos 0 ∷ [] }
      ∷ record { asked = found (at (negsuc 99999)) (pos 0); told = pos 0 ∷ pos 1 ∷ pos 0 ∷ [] }
      ∷ record { asked = extended out work (at (pos 100015)) (pack_order (pos 0) []); told = pos 0 ∷ pos 1 ∷ at (pos 100015) }
      ∷ record { asked = joined out work (at (pos 100015)) []; told = pos 0 ∷ pos 1 ∷ at (pos 100015) }
      -- and one past either end refused with 8
      ∷ record { asked = found (at (pos 100016)) (pos 100016); told = pos 8 ∷ pos 0 ∷ pos 0 ∷ [] }
      ∷ record { asked = found (at (negsuc 100000)) (pos 0); told = pos 8 ∷ pos 0 ∷ pos 0 ∷ [] }
      ∷ record { asked = extended out work (at (pos 100016)) (pack_order (pos 0) []); told = pos 8 ∷ pos 0 ∷ [] }
      ∷ record { asked = joined out work (at (pos 100016)) []; told = pos 8 ∷ pos 0 ∷ [] }
      ∷ []

  -- Every one comes out as the rules say.
  pub rests-hold : 602 ≤ length out → 14749 ≤ length work
      → map (λ (e : Example). e.asked) rests ≡ map (λ (e : Example). e.told) rests
  unfolding rest bits_to to_bits decode encode number_of bytes_of part flat each first header_word header_of count_of t0_of kind_of record_bytes
      record_at job_word job_fields numbers_of job_count fields_at packed_header packed_job pack_in first_packed kind_for job_of jobs_of order_of fields_within
      first_bad number_at first_repeat header_checks job_checks weight_checks plan_checks extend_judged extend_checks
  rests-hold room area = rw (le-ltb (length out) 602 room, le-ltb (length work) 14749 area)
