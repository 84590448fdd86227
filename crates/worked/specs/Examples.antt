-- P1 to P11 as one list, with an order of no jobs and a job that never runs: each question as a call is asked it, and the
-- figures that the rules give for it. Answers and lent numbers are those of the definitions that the calls' contracts cite.
-- One statement holds of the whole list, by computation.
use Rattle.std.specs.Prelude.{ℕ, ◌*◌, ◌≤◌, ◌≡◌, refl, true, false, List, [], ◌∷◌, ◌++◌, map, ℤ, pos, negsuc, length, take, drop, replicate}
use borrow.Author.Tests.{le-ltb}
use Rattle.seconds.specs.Limits.{rest}
use Rattle.seconds.specs.Twos.{bits_to, to_bits}
use Rattle.order.specs.Job.{Order, one_rate}
use Rattle.packed.specs.Layout.{decode, encode, number_of, bytes_of, record_bytes}
use Rattle.packed.specs.Places.{part, flat, each, first}
use Rattle.packed.specs.Packed.{header_word, header_of, count_of, t0_of, kind_of, record_at, job_word, job_fields, numbers_of}
use Rattle.packed.specs.Packed.{job_count, fields_at, packed_header, packed_job, pack_in, pack_order, first_packed, kind_for, job_of, jobs_of, order_of}
use Rattle.packed.specs.Refusals.{fields_within, first_bad, number_at, first_repeat, header_checks, job_checks, weight_checks}
use Rattle.profiles.specs.Answer.{lookup_of, lookup_refusal, found_of, weight_found}
use Rattle.better.specs.Answer.{joined_of, join_refusal, points_written as points_joined, out_after as joined_after}
use Rattle.packed.specs.Judge.{refusal_of as extend_refusal}
use Rattle.extending.specs.Calls.{extend_judged, extend_checks, extended_of, points_written, out_after}
use Rattle.planner.specs.Calls.{plan_checks, planned_of, plan_numbers, PlanNumbers, starts_after}
use Rattle.heat.specs.Answer.{heating_of, refusal_of as heat_refusal, length_of}

-- ---- the orders

-- A job's seven numbers: its number, pack, whether it is critical, weight, ready time, length and deadline.
abbrev pub for_pack : ℕ → ℕ → ℕ → ℕ → ℤ → ℕ → ℤ → List ℤ
for_pack pack number critical weight ready long deadline =
    pos number ∷ pos pack ∷ pos critical ∷ pos weight ∷ ready ∷ pos long ∷ deadline ∷ []

abbrev pub job : ℕ → ℕ → ℕ → ℤ → ℕ → ℤ → List ℤ
job number critical weight ready long deadline = for_pack 0 number critical weight ready long deadline

-- Single jobs and pairs are numbered by their place, ready at 0, with the bus free at 0.
abbrev pub critical : ℕ → ℕ → ℤ → List ℤ
critical number long deadline = job number 1 0 (pos 0) long deadline

abbrev pub worth10 : ℕ → ℕ → ℤ → List ℤ
worth10 number long deadline = job number 0 10 (pos 0) long deadline

abbrev pub from0 : List ℤ → List ℕ
from0 jobs = pack_order (pos 0) jobs

-- The order of P1: five jobs, the bus free at -600.
abbrev pub morning : Order
morning =
    record {
      t0 = negsuc 599;
      jobs =
          one_rate 7 true 0 (negsuc 599) 495 (pos 0)
          ∷ one_rate 3 false 20 (negsuc 199) 300 (pos 250)
          ∷ one_rate 12 false 15 (pos 0) 200 (pos 300)
          ∷ one_rate 5 true 0 (pos 100) 100 (pos 450)
          ∷ one_rate 9 false 15 (pos 0) 100 (pos 500)
          ∷ [];
    }

-- The same packed.
abbrev packed_morning : List ℕ
packed_morning =
    pack_order (negsuc 599)
    (job 7 1 0 (negsuc 599) 495 (pos 0)
    ++ (job 3 0 20 (negsuc 199) 300 (pos 250)
    ++ (job 12 0 15 (pos 0) 200 (pos 300) ++ (job 5 1 0 (pos 100) 100 (pos 450) ++ job 9 0 15 (pos 0) 100 (pos 500)))))

-- The same for packs 3 and 255, of which kind 1 tells: the first job's and the last one's.
abbrev morning_of_packs : List ℕ
morning_of_packs =
    pack_order (negsuc 599)
    (for_pack 3 7 1 0 (negsuc 599) 495 (pos 0)
    ++ (job 3 0 20 (negsuc 199) 300 (pos 250)
    ++ (job 12 0 15 (pos 0) 200 (pos 300) ++ (job 5 1 0 (pos 100) 100 (pos 450) ++ for_pack 255 9 0 15 (pos 0) 100 (pos 500)))))

pub morning-packed : (order_of packed_morning ≡ morning) × (order_of morning_of_packs ≡ morning)
unfolding bits_to to_bits decode encode number_of bytes_of part flat each first header_word header_of count_of t0_of kind_of record_bytes
    record_at job_word job_fields numbers_of job_count fields_at packed_header packed_job pack_in first_packed kind_for job_of jobs_of order_of
morning-packed = (refl, refl)

-- ---- the answers as figures

-- Of a plan: refusal, place, jobs kept, kept weight, lost weight, bus-free time, point total.
abbrev pub figures : PlanNumbers → List ℤ
figures n =
    pos n.refusal.number ∷ pos n.refusal.place ∷ pos n.kept ∷ pos n.kept_weight ∷ pos n.lost_weight ∷ n.finish
    ∷ pos n.points ∷ []

-- Of a lookup: refusal, found, weight.
abbrev pub found : List ℤ → ℤ → List ℤ
found profile t =
    let r = lookup_of profile t in
    pos (lookup_refusal r) ∷ pos (found_of r) ∷ pos (weight_found r) ∷ []

-- Of heating: refusal, length.
abbrev heated : ℕ → List ℤ
heated byte = pos (heat_refusal (heating_of byte)) ∷ pos (length_of (heating_of byte)) ∷ []

-- ---- the list

-- The numbers of P1's profile, as P2 tells them.
abbrev morning_profile : List ℤ
morning_profile = pos 215 ∷ pos 0 ∷ pos 330 ∷ pos 15 ∷ pos 340 ∷ pos 20 ∷ pos 445 ∷ pos 30 ∷ pos 455 ∷ pos 35 ∷ []

pub record Example : Type 0 where
  pub asked : List ℤ
  pub told : List ℤ

-- Beside an example's own numbers a call is lent room for a profile and a work area: 602 and 14,749 numbers or more, of any values.
module _ (out work : List ℤ) where
  -- A plan's figures, then the starts, which were 1 for each job.
  abbrev pub planned : List ℕ → ℕ → List ℤ
  planned order jobs =
      figures (plan_numbers (planned_of order (replicate jobs (pos 1)) work)) ++ starts_after order (replicate jobs (pos 1)) work

  -- Of extending and of better-of: refusal, points written, and the numbers written.
  abbrev pub extended : List ℤ → List ℕ → List ℤ
  extended profile order =
      let points = points_written (extended_of profile order out work) in
      pos (extend_refusal (extended_of profile order out work)).number ∷ pos points ∷ take (2 * points) (out_after profile order out work)

  abbrev pub joined : List ℤ → List ℤ → List ℤ
  joined p q =
      let points = points_joined (joined_of p q out) in
      pos (join_refusal (joined_of p q out)) ∷ pos points ∷ take (2 * points) (joined_after p q out)

  abbrev pub examples : List Example
  examples =
      -- P1: the packed header and the first record
      record {
        asked = map pos (take 12 packed_morning);
        told =
            pos 0x17 ∷ pos 0xFD ∷ pos 0xA8 ∷ pos 0x00
            ∷ pos 0x1E ∷ pos 0x03 ∷ pos 0xFD ∷ pos 0xA8 ∷ pos 0x07 ∷ pos 0xBC ∷ pos 0x00 ∷ pos 0x00 ∷ [];
      }
      -- the same with packs: the header, the first record and the last one
      ∷ record {
        asked = map pos (take 13 morning_of_packs ++ drop 40 morning_of_packs);
        told =
            pos 0x17 ∷ pos 0xFD ∷ pos 0xA8 ∷ pos 0x01
            ∷ pos 0x1C ∷ pos 0x0E ∷ pos 0x03 ∷ pos 0xFD ∷ pos 0xA8 ∷ pos 0x07 ∷ pos 0xBC ∷ pos 0x00 ∷ pos 0x00
            ∷ pos 0x27 ∷ pos 0xFC ∷ pos 0x3C ∷ pos 0x00 ∷ pos 0x00 ∷ pos 0x01 ∷ pos 0x90 ∷ pos 0x01 ∷ pos 0xF4 ∷ [];
      }
      -- P1: jobs 7, 3, 5 and 9 are kept, job 12 is left out, whatever the packs
      ∷ record {
        asked = planned morning_of_packs 5;
        told =
            pos 0 ∷ pos 0 ∷ pos 4 ∷ pos 35 ∷ pos 15 ∷ pos 455 ∷ pos 14
            ∷ negsuc 599 ∷ negsuc 89 ∷ pos 200000 ∷ pos 225 ∷ pos 340 ∷ [];
      }
      ∷ record {
        asked = planned packed_morning 5;
        told =
            pos 0 ∷ pos 0 ∷ pos 4 ∷ pos 35 ∷ pos 15 ∷ pos 455 ∷ pos 14
            ∷ negsuc 599 ∷ negsuc 89 ∷ pos 200000 ∷ pos 225 ∷ pos 340 ∷ [];
      }
      -- P2: its profile, from the point (-600, 0): five points
      ∷ record {
        asked = extended (negsuc 599 ∷ pos 0 ∷ []) packed_morning;
        told =
            pos 0 ∷ pos 5
            ∷ pos 215 ∷ pos 0 ∷ pos 330 ∷ pos 15 ∷ pos 340 ∷ pos 20 ∷ pos 445 ∷ pos 30 ∷ pos 455 ∷ pos 35 ∷ [];
      }
      -- P3: lookups in it at 214, 215, 454 and 455
      ∷ record { asked = found morning_profile (pos 214); told = pos 0 ∷ pos 0 ∷ pos 0 ∷ [] }
      ∷ record { asked = found morning_profile (pos 215); told = pos 0 ∷ pos 1 ∷ pos 0 ∷ [] }
      ∷ record { asked = found morning_profile (pos 454); told = pos 0 ∷ pos 1 ∷ pos 30 ∷ [] }
      ∷ record { asked = found morning_profile (pos 455); told = pos 0 ∷ pos 1 ∷ pos 35 ∷ [] }
      -- P4: a critical job that just meets its deadline
      ∷ record {
        asked = planned (from0 (critical 0 10 (pos 10))) 1;
        told = pos 0 ∷ pos 0 ∷ pos 1 ∷ pos 0 ∷ pos 0 ∷ pos 25 ∷ pos 1 ∷ pos 0 ∷ [];
      }
      -- P5: one that does not is refused, and the start stays; a non-critical one is left out
      ∷ record {
        asked = planned (from0 (critical 0 10 (pos 9))) 1;
        told = pos 11 ∷ pos 0 ∷ pos 0 ∷ pos 0 ∷ pos 0 ∷ pos 0 ∷ pos 0 ∷ pos 1 ∷ [];
      }
      ∷ record {
        asked = planned (from0 (worth10 0 10 (pos 9))) 1;
        told = pos 0 ∷ pos 0 ∷ pos 0 ∷ pos 0 ∷ pos 10 ∷ pos 0 ∷ pos 1 ∷ pos 200000 ∷ [];
      }
      -- P6: of two alike the first is kept
      ∷ record {
        asked = planned (from0 (worth10 0 10 (pos 10) ++ worth10 1 10 (pos 10))) 2;
        told = pos 0 ∷ pos 0 ∷ pos 1 ∷ pos 10 ∷ pos 10 ∷ pos 25 ∷ pos 4 ∷ pos 0 ∷ pos 200000 ∷ [];
      }
      -- P7: the second is shorter, and is kept
      ∷ record {
        asked = planned (from0 (worth10 0 10 (pos 10) ++ worth10 1 5 (pos 10))) 2;
        told = pos 0 ∷ pos 0 ∷ pos 1 ∷ pos 10 ∷ pos 10 ∷ pos 20 ∷ pos 4 ∷ pos 200000 ∷ pos 0 ∷ [];
      }
      -- P8: A and C, though after B alone the bus would be free before A's
      ∷ record {
        asked = planned (from0 (worth10 0 4 (pos 4) ++ (worth10 1 2 (pos 4) ++ job 2 1 0 (pos 40) 1 (pos 41)))) 3;
        told = pos 0 ∷ pos 0 ∷ pos 2 ∷ pos 10 ∷ pos 10 ∷ pos 56 ∷ pos 5 ∷ pos 0 ∷ pos 200000 ∷ pos 40 ∷ [];
      }
      -- no jobs: the bus stays free at t0, and all counts are 0 (R24)
      ∷ record {
        asked = planned (pack_order (pos 5) []) 0;
        told = pos 0 ∷ pos 0 ∷ pos 0 ∷ pos 0 ∷ pos 0 ∷ pos 5 ∷ pos 0 ∷ [];
      }
      -- ready 5, length 10, deadline 12: left out, though the bus is free at 0 (R4)
      ∷ record {
        asked = planned (from0 (job 0 0 1 (pos 5) 10 (pos 12))) 1;
        told = pos 0 ∷ pos 0 ∷ pos 0 ∷ pos 0 ∷ pos 1 ∷ pos 0 ∷ pos 1 ∷ pos 200000 ∷ [];
      }
      -- P9: the better of two profiles: two points
      ∷ record {
        asked = joined (pos 0 ∷ pos 0 ∷ pos 20 ∷ pos 7 ∷ []) (pos 5 ∷ pos 7 ∷ []);
        told = pos 0 ∷ pos 2 ∷ pos 0 ∷ pos 0 ∷ pos 5 ∷ pos 7 ∷ [];
      }
      -- P10: the bytes 255, 0, 9 and 10
      ∷ record {
        asked = heated 255 ++ (heated 0 ++ (heated 9 ++ heated 10));
        told = pos 0 ∷ pos 495 ∷ pos 0 ∷ pos 450 ∷ pos 0 ∷ pos 45 ∷ pos 0 ∷ pos 0 ∷ [];
      }
      -- P11: the bytes 246, 245, 226 and 225
      ∷ record {
        asked = heated 246 ++ (heated 245 ++ (heated 226 ++ heated 225));
        told = pos 0 ∷ pos 900 ∷ pos 0 ∷ pos 1020 ∷ pos 0 ∷ pos 3300 ∷ pos 12 ∷ pos 0 ∷ [];
      }
      ∷ []

  -- Every example comes out as the rules say.
  pub examples-hold : 602 ≤ length out → 14749 ≤ length work
      → map (λ (e : Example). e.asked) examples ≡ map (λ (e : Example). e.told) examples
  unfolding rest bits_to to_bits decode encode number_of bytes_of part flat each first header_word header_of count_of t0_of kind_of record_bytes
      record_at job_word job_fields numbers_of job_count fields_at packed_header packed_job pack_in first_packed kind_for job_of jobs_of order_of fields_within
      first_bad number_at first_repeat header_checks job_checks weight_checks plan_checks extend_judged extend_checks
  examples-hold room area = rw (le-ltb (length out) 602 room, le-ltb (length work) 14749 area)
