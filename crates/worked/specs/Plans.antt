-- Checking plans and writing them (R37 to R40): the plans of P1, every condition of a legal plan on both sides, and the edges of the calls
-- around checks 14 and 15. Each question as the calls are asked it, and what the rules say. One statement holds of the whole list, by
-- computation.
use Rattle.std.specs.Prelude.{ℕ, ◌*◌, ◌^◌, ◌≤◌, ◌<◌, ◌≡◌, refl, List, [], ◌∷◌, ◌++◌, map, ℤ, pos, negsuc, length, take, replicate, set}
use Rattle.std.specs.Int.Count.{ones}
use borrow.Author.Tests.{le-ltb, lt-ltb}
use Rattle.seconds.specs.Limits.{rest}
use Rattle.seconds.specs.Twos.{bits_to, to_bits}
use Rattle.packed.specs.Layout.{decode, encode, number_of, bytes_of, record_bytes}
use Rattle.packed.specs.Places.{part, flat, each, first}
use Rattle.packed.specs.Packed.{header_word, header_of, count_of, t0_of, kind_of, record_at, job_word, job_fields, numbers_of}
use Rattle.packed.specs.Packed.{job_count, fields_at, packed_header, packed_job, pack_in, pack_order, first_packed, kind_for, job_of, jobs_of, order_of}
use Rattle.packed.specs.Refusals.{fields_within, first_bad, number_at, first_repeat, header_checks, job_checks, weight_checks}
use Rattle.packed_plan.specs.Plan.{plan_number, pack_plan, mask_in, count_in, plan_fields, starts_in, pad_in, kept_in, sent_checks}
use Rattle.packed_plan.proofs.PlanLaws.{ones-raised}
use Rattle.legal.specs.Legal.{is_legal, is_best}
use Rattle.packed.specs.Judge.{refusal_of}
use Rattle.pack.specs.Answer.{bytes_written}
use Rattle.checking.specs.Calls.{legal_checks, legal_of, checked_numbers}
use Rattle.checking.specs.Calls.{Checked}
use Rattle.best_plan.specs.Calls.{best_checks, best_of}
use Rattle.plan_writer.specs.Calls.{write_checks, bytes_for, written_of, out_after}
use Rattle.report.specs.AsPrinted.{morning_bytes}
use Rattle.worked.specs.Examples.{Example, job, critical, worth10, from0}

-- ---- plans

-- The jobs whose bits stand in a byte are kept, the highest bit for place 0, at these starts.
abbrev pub keeping : ℕ → List ℤ → List ℕ
keeping byte starts = pack_plan (byte * 2 ^ 40) starts

-- Our own plan of P1: jobs 7, 3, 5 and 9 at -600, -90, 225 and 340.
abbrev pub own_plan : List ℕ
own_plan =
    0xD8 ∷ 0x00 ∷ 0x00 ∷ 0x00 ∷ 0x00 ∷ 0x00
    ∷ 0xFF ∷ 0x6A ∷ 0x3F ∷ 0xFA ∷ 0x60 ∷ 0x03 ∷ 0x84 ∷ 0x01 ∷ 0x54 ∷ []

-- Jobs 7, 12, 5 and 9, of weight 30.
abbrev pub lighter_plan : List ℕ
lighter_plan = keeping 0xB8 (negsuc 599 ∷ pos 0 ∷ pos 215 ∷ pos 330 ∷ [])

-- Nothing kept; one job kept, the first; and that with a bit set at the end.
abbrev nothing : List ℕ
nothing = replicate 6 0

abbrev at : ℤ → List ℕ
at start = keeping 0x80 (start ∷ [])

abbrev padded : List ℕ
padded = set (at (pos 5)) 8 0x41

-- ---- orders

-- One critical job of 10 seconds with the deadline 20, and the bus free at 0.
abbrev single : ℤ → List ℕ
single ready = from0 (job 0 1 0 ready 10 (pos 20))

-- P4's job, and one more, of weight 10.
abbrev pair : List ℕ
pair = from0 (critical 0 10 (pos 10) ++ worth10 1 5 (pos 100))

-- P5: a critical job that cannot be done.
abbrev hopeless : List ℕ
hopeless = from0 (critical 0 10 (pos 9))

-- ---- answers as figures

-- Of a checked plan: refusal, and 1 for yes.
abbrev verdict : Checked → List ℤ
verdict r = pos (checked_numbers r).refusal.number ∷ pos (checked_numbers r).yes ∷ []

-- Of Legal and then of Best: yes to both, to the first alone, and to neither.
abbrev both : List ℤ
both = pos 0 ∷ pos 1 ∷ pos 0 ∷ pos 1 ∷ []

abbrev legal_alone : List ℤ
legal_alone = pos 0 ∷ pos 1 ∷ pos 0 ∷ pos 0 ∷ []

abbrev neither : List ℤ
neither = pos 0 ∷ pos 0 ∷ pos 0 ∷ pos 0 ∷ []

-- A refused answer, and two of them.
abbrev refusal : ℕ → List ℤ
refusal number = pos number ∷ pos 0 ∷ []

abbrev both_refuse : ℕ → List ℤ
both_refuse number = refusal number ++ refusal number

-- Calls are lent a work area of 14,749 numbers or more, of any values, or one that is shorter.
module _ (work short : List ℤ) where
  -- Of Legal, then of Best.
  abbrev checked : List ℕ → List ℕ → List ℤ
  checked order plan = verdict (legal_of order plan) ++ verdict (best_of order plan work)

  -- Of the writer, with room for so many bytes: refusal, bytes written, and these.
  abbrev written : List ℤ → ℕ → List ℕ → List ℤ
  written area room order =
      let out : List ℕ = replicate room 1 in
      let bytes = bytes_written (written_of order out area) in
      pos (refusal_of (written_of order out area)).number ∷ pos bytes ∷ map pos (take bytes (out_after order out area))

  abbrev pub plans : List Example
  plans =
      -- the writer: P1's own plan, and that of no jobs; 11 where nothing is feasible
      record { asked = written work 114 morning_bytes; told = pos 0 ∷ pos 15 ∷ map pos own_plan }
      ∷ record { asked = written work 114 (pack_order (pos 5) []); told = pos 0 ∷ pos 6 ∷ map pos nothing }
      ∷ record { asked = written work 114 hopeless; told = refusal 11 }
      -- 10: room for a byte too few, and a work area of a number too few
      ∷ record { asked = written work 113 morning_bytes; told = refusal 10 }
      ∷ record { asked = written short 114 morning_bytes; told = refusal 10 }
      -- P1's plans (R39): its own, with idle time, of weight 30, after a rest of 14 seconds, without the critical job 5
      ∷ record { asked = checked morning_bytes own_plan; told = both }
      ∷ record {
        asked = checked morning_bytes (keeping 0xD8 (negsuc 599 ∷ negsuc 59 ∷ pos 260 ∷ pos 400 ∷ []));
        told = both;
      }
      ∷ record { asked = checked morning_bytes lighter_plan; told = legal_alone }
      ∷ record {
        asked = checked morning_bytes (keeping 0xD8 (negsuc 599 ∷ negsuc 90 ∷ pos 225 ∷ pos 340 ∷ []));
        told = neither;
      }
      ∷ record { asked = checked morning_bytes (keeping 0xC8 (negsuc 599 ∷ negsuc 89 ∷ pos 340 ∷ [])); told = neither }
      -- a second before the bus is free, and when it is
      ∷ record { asked = checked (single (negsuc 4)) (at (negsuc 0)); told = neither }
      ∷ record { asked = checked (single (negsuc 4)) (at (pos 0)); told = both }
      -- a second before the job is ready, and when it is
      ∷ record { asked = checked (single (pos 5)) (at (pos 4)); told = neither }
      ∷ record { asked = checked (single (pos 5)) (at (pos 5)); told = both }
      -- finished at the deadline, and a second past it
      ∷ record { asked = checked (single (pos 5)) (at (pos 10)); told = both }
      ∷ record { asked = checked (single (pos 5)) (at (pos 11)); told = neither }
      -- after a rest of 14 seconds, and of 15; the second job left out
      ∷ record { asked = checked pair (keeping 0xC0 (pos 0 ∷ pos 24 ∷ [])); told = neither }
      ∷ record { asked = checked pair (keeping 0xC0 (pos 0 ∷ pos 25 ∷ [])); told = both }
      ∷ record { asked = checked pair (at (pos 0)); told = legal_alone }
      -- the critical job left out
      ∷ record { asked = checked (single (pos 5)) nothing; told = neither }
      -- nothing is feasible: no plan is best
      ∷ record { asked = checked hopeless (at (pos 0)); told = neither }
      ∷ record { asked = checked hopeless nothing; told = neither }
      -- no jobs
      ∷ record { asked = checked (pack_order (pos 5) []) nothing; told = both }
      -- 14: under 6 bytes, a byte too few, a byte too many
      ∷ record { asked = checked (single (pos 5)) (take 5 nothing); told = both_refuse 14 }
      ∷ record { asked = checked morning_bytes (take 14 own_plan); told = both_refuse 14 }
      ∷ record { asked = checked morning_bytes (own_plan ++ (0 ∷ [])); told = both_refuse 14 }
      -- a bit beyond the jobs is 14 without its start, and 15 with it; a bit at the end is 15
      ∷ record { asked = checked (single (pos 5)) (keeping 0xC0 (pos 5 ∷ [])); told = both_refuse 14 }
      ∷ record { asked = checked (single (pos 5)) (keeping 0xC0 (pos 5 ∷ pos 30 ∷ [])); told = both_refuse 15 }
      ∷ record { asked = checked (single (pos 5)) padded; told = both_refuse 15 }
      -- the order is judged before the plan, and the plan before the work area
      ∷ record { asked = checked [] []; told = both_refuse 1 }
      ∷ record { asked = verdict (best_of (single (pos 5)) (take 5 nothing) short); told = refusal 14 }
      ∷ record { asked = verdict (best_of (single (pos 5)) padded short); told = refusal 15 }
      ∷ record { asked = verdict (best_of (single (pos 5)) (at (pos 5)) short); told = refusal 10 }
      ∷ []

  -- Every one comes out as the rules say.
  pub plans-hold : 14749 ≤ length work → length short < 14749
      → map (λ (e : Example). e.asked) plans ≡ map (λ (e : Example). e.told) plans
  unfolding to_bits encode number_of bytes_of plan_number pack_plan mask_in count_in starts_in pad_in sent_checks legal_checks best_checks
      write_checks
  plans-hold area less =
      rw (
        ones-raised 0x80 40,
        ones-raised 0xB8 40,
        ones-raised 0xC0 40,
        ones-raised 0xC8 40,
        ones-raised 0xD8 40,
        le-ltb (length work) 14749 area,
        lt-ltb (length short) 14749 less,
      )
      (unfold
      ones rest bits_to decode part flat each first header_word header_of count_of t0_of kind_of record_bytes record_at job_word job_fields numbers_of
      job_count fields_at packed_header packed_job pack_in first_packed kind_for job_of jobs_of order_of fields_within first_bad number_at first_repeat header_checks
      job_checks weight_checks plan_fields kept_in is_legal is_best bytes_for
      in refl)
