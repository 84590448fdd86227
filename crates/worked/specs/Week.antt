-- A week of three entries, from the bytes of its stream to those of its text (R46 to R48): P1, an entry of no bytes, and the infeasible
-- order of P5. Its entries, its sheet and its text; the same without the last byte; and the same fed in two pieces. By computation.
use Rattle.std.specs.Prelude.{ℕ, ◌≡◌, refl, true, false, List, [], ◌∷◌, ◌++◌, take, drop, replicate}
use Rattle.seconds.specs.Limits.{rest}
use Rattle.seconds.specs.Twos.{bits_to}
use Rattle.packed.specs.Layout.{decode, number_of, record_bytes}
use Rattle.packed.specs.Places.{part, flat, each, first}
use Rattle.packed.specs.Packed.{header_word, header_of, count_of, t0_of, kind_of, record_at, job_word, job_fields, numbers_of}
use Rattle.packed.specs.Packed.{job_count, fields_at, job_of, jobs_of, order_of}
use Rattle.packed.specs.Refusals.{fields_within, first_bad, number_at, first_repeat, header_checks, job_checks, weight_checks}
use Rattle.text.specs.Decimal.{digits_in, digits}
use Rattle.multiples.specs.Multiples.{gcd_in, gcd}
use Rattle.fractions.specs.Fractions.{lowest_of}
use Rattle.report.specs.AsPrinted.{morning_bytes}
use Rattle.sheet.specs.Sheet.{no_sheet, one_order, join, sheet_of, figure_count, numbers_of as figures_of}
use Rattle.sheet.specs.Answered.{answered, with_order, week_of}
use Rattle.streams.specs.Entries.{parts_by, parts_of, is_cut, stream_sheet}
use Rattle.streams.specs.Stream.{front_room, feed_count, State, over, byte, run, state_in, feed_over}
use Rattle.sheet_text.specs.SheetText.{top_line, fraction_line, last_line, sheet_text}

-- ---- the stream

-- P5: one critical job, ready at 0, of 10 seconds and with the deadline 9; the bus is free at 0.
abbrev pub late_bytes : List ℕ
late_bytes = 0x04 ∷ 0x00 ∷ 0x00 ∷ 0x00 ∷ 0x02 ∷ 0x00 ∷ 0x00 ∷ 0x00 ∷ 0x00 ∷ 0x28 ∷ 0x00 ∷ 0x09 ∷ []

-- Each entry behind its length: 44 bytes, none, and 12.
abbrev pub week : List ℕ
week = 0 ∷ 44 ∷ (morning_bytes ++ (0 ∷ 0 ∷ 0 ∷ 12 ∷ late_bytes))

-- The same without its last byte.
abbrev pub cut_week : List ℕ
cut_week = take 61 week

-- ---- what the rules say of it

-- One order is refused with 1 and one with 11. P1 is feasible: of its weight of 50 it keeps 35, with four jobs and 14 points, at place 0.
abbrev pub week_figures : List ℕ
week_figures = 3 ∷ 1 ∷ (replicate 9 0 ++ (1 ∷ (replicate 8 0 ++ (1 ∷ 50 ∷ 35 ∷ 4 ∷ 15 ∷ 0 ∷ []))))

-- The text: 3, 1, 0 nine times, 1, 0 eight times, 1, 50, 35, 4, then 14 0, 1/2, 3/10 and whole.
abbrev pub week_lines : List ℕ
week_lines =
    51 ∷ 10 ∷ 49 ∷ 10 ∷ 48 ∷ 10 ∷ 48 ∷ 10 ∷ 48 ∷ 10 ∷ 48 ∷ 10 ∷ 48 ∷ 10 ∷ 48 ∷ 10 ∷ 48 ∷ 10 ∷ 48 ∷ 10 ∷ 48 ∷ 10
    ∷ 49 ∷ 10 ∷ 48 ∷ 10 ∷ 48 ∷ 10 ∷ 48 ∷ 10 ∷ 48 ∷ 10 ∷ 48 ∷ 10 ∷ 48 ∷ 10 ∷ 48 ∷ 10 ∷ 48 ∷ 10 ∷ 49 ∷ 10 ∷ 53 ∷ 48
    ∷ 10 ∷ 51 ∷ 53 ∷ 10 ∷ 52 ∷ 10 ∷ 49 ∷ 52 ∷ 32 ∷ 48 ∷ 10 ∷ 49 ∷ 47 ∷ 50 ∷ 10 ∷ 51 ∷ 47 ∷ 49 ∷ 48 ∷ 10 ∷ 119 ∷ 104
    ∷ 111 ∷ 108 ∷ 101 ∷ 10 ∷ []

-- Cut, with two entries: 2, 1, 0 eighteen times, 1, 50, 35, 4, then 14 0, 1/1, 3/10 and cut.
abbrev pub cut_lines : List ℕ
cut_lines =
    50 ∷ 10 ∷ 49 ∷ 10 ∷ 48 ∷ 10 ∷ 48 ∷ 10 ∷ 48 ∷ 10 ∷ 48 ∷ 10 ∷ 48 ∷ 10 ∷ 48 ∷ 10 ∷ 48 ∷ 10 ∷ 48 ∷ 10 ∷ 48 ∷ 10
    ∷ 48 ∷ 10 ∷ 48 ∷ 10 ∷ 48 ∷ 10 ∷ 48 ∷ 10 ∷ 48 ∷ 10 ∷ 48 ∷ 10 ∷ 48 ∷ 10 ∷ 48 ∷ 10 ∷ 48 ∷ 10 ∷ 49 ∷ 10 ∷ 53 ∷ 48
    ∷ 10 ∷ 51 ∷ 53 ∷ 10 ∷ 52 ∷ 10 ∷ 49 ∷ 52 ∷ 32 ∷ 48 ∷ 10 ∷ 49 ∷ 47 ∷ 49 ∷ 10 ∷ 51 ∷ 47 ∷ 49 ∷ 48 ∷ 10 ∷ 99 ∷ 117
    ∷ 116 ∷ 10 ∷ []

-- What is held at the beginning; and what is held, as numbers.
abbrev begun : State
begun = state_in (replicate feed_count 0) (replicate front_room 0)

abbrev numbers : State → List ℕ
numbers s = feed_over s []

-- ---- so it is

pub record AsRuled : Type 0 where
  pub entries : parts_of week ≡ record { whole = morning_bytes ∷ [] ∷ late_bytes ∷ []; rest = [] }
  pub whole : is_cut week ≡ false
  pub sheet : figures_of (stream_sheet week) ≡ week_figures
  pub text : sheet_text (stream_sheet week) (is_cut week) ≡ week_lines
  -- without the last byte the last entry is left, with its length
  pub cut-entries : parts_of cut_week ≡ record { whole = morning_bytes ∷ [] ∷ []; rest = 0 ∷ 12 ∷ take 11 late_bytes }
  pub cut : is_cut cut_week ≡ true
  pub cut-text : sheet_text (stream_sheet cut_week) (is_cut cut_week) ≡ cut_lines
  -- fed in two pieces: after 20 bytes 18 of P1's 44 have come; after both it is as fed at once
  pub first_piece : numbers (run begun (take 20 week)) ≡ replicate figure_count 0 ++ (2 ∷ 44 ∷ 18 ∷ [])
  pub both-pieces : numbers (run (run begun (take 20 week)) (drop 20 week)) ≡ week_figures ++ (0 ∷ 0 ∷ 0 ∷ [])
  pub at_once : run (run begun (take 20 week)) (drop 20 week) ≡ run begun week

pub week-holds : AsRuled
unfolding rest bits_to decode number_of part flat each first header_word header_of count_of t0_of kind_of record_bytes record_at job_word job_fields
    numbers_of job_count fields_at job_of jobs_of order_of fields_within first_bad number_at first_repeat header_checks job_checks weight_checks
    no_sheet one_order join sheet_of answered with_order week_of parts_by parts_of over byte feed_over gcd_in gcd digits_in digits lowest_of top_line
    fraction_line last_line sheet_text
week-holds =
    record {
      entries = refl;
      whole = refl;
      sheet = refl;
      text = refl;
      cut-entries = refl;
      cut = refl;
      cut-text = refl;
      first_piece = refl;
      both-pieces = refl;
      at_once = refl;
    }
