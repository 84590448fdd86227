-- The whole output of P1, by computation: the bytes of the order, and the bytes of the text.
use Rattle.std.specs.Prelude.{◌≡◌, refl, List, [], ◌∷◌, ℕ}
use Rattle.seconds.specs.Limits.{rest}
use Rattle.seconds.specs.Twos.{bits_to}
use Rattle.packed.specs.Layout.{decode, number_of, record_bytes}
use Rattle.packed.specs.Places.{part, flat, each, first}
use Rattle.packed.specs.Packed.{header_word, header_of, count_of, t0_of, kind_of, record_at, job_word, job_fields, numbers_of}
use Rattle.packed.specs.Packed.{job_count, fields_at, first_packed, kind_for, job_of, jobs_of, order_of}
use Rattle.packed.specs.Refusals.{fields_within, bad_field, first_bad, number_at, first_repeat, header_checks, job_checks, weight_checks}
use Rattle.text.specs.Decimal.{digits_in, digits, figure}
use Rattle.report.specs.Report.{refusal_line, plan_line, start_word, job_line, job_lines, plan_text, text_of, report_of}

-- The packed order: five jobs, the bus free at -600.
abbrev pub morning_bytes : List ℕ
morning_bytes =
    0x17 ∷ 0xFD ∷ 0xA8 ∷ 0x00
    ∷ 0x1E ∷ 0x03 ∷ 0xFD ∷ 0xA8 ∷ 0x07 ∷ 0xBC ∷ 0x00 ∷ 0x00
    ∷ 0x0C ∷ 0x53 ∷ 0xFF ∷ 0x38 ∷ 0x04 ∷ 0xB0 ∷ 0x00 ∷ 0xFA
    ∷ 0x30 ∷ 0x3C ∷ 0x00 ∷ 0x00 ∷ 0x03 ∷ 0x20 ∷ 0x01 ∷ 0x2C
    ∷ 0x16 ∷ 0x00 ∷ 0x00 ∷ 0x64 ∷ 0x01 ∷ 0x90 ∷ 0x01 ∷ 0xC2
    ∷ 0x24 ∷ 0x3C ∷ 0x00 ∷ 0x00 ∷ 0x01 ∷ 0x90 ∷ 0x01 ∷ 0xF4 ∷ []

-- What is printed for it: 0 0 4 35 15 455 14, then 7 -600, 3 -90, 12 -, 5 225, 9 340.
abbrev pub morning_text : List ℕ
morning_text =
    48 ∷ 32 ∷ 48 ∷ 32 ∷ 52 ∷ 32 ∷ 51 ∷ 53 ∷ 32 ∷ 49 ∷ 53 ∷ 32 ∷ 52 ∷ 53 ∷ 53 ∷ 32 ∷ 49 ∷ 52 ∷ 10
    ∷ 55 ∷ 32 ∷ 45 ∷ 54 ∷ 48 ∷ 48 ∷ 10
    ∷ 51 ∷ 32 ∷ 45 ∷ 57 ∷ 48 ∷ 10
    ∷ 49 ∷ 50 ∷ 32 ∷ 45 ∷ 10
    ∷ 53 ∷ 32 ∷ 50 ∷ 50 ∷ 53 ∷ 10
    ∷ 57 ∷ 32 ∷ 51 ∷ 52 ∷ 48 ∷ 10 ∷ []

-- So it is.
pub morning-printed : report_of morning_bytes ≡ morning_text
unfolding rest bits_to decode number_of part flat each first header_word header_of count_of t0_of kind_of record_bytes record_at job_word job_fields
    numbers_of job_count fields_at first_packed kind_for job_of jobs_of order_of fields_within bad_field first_bad number_at first_repeat header_checks job_checks
    weight_checks digits_in digits figure refusal_line plan_line start_word job_line job_lines plan_text text_of report_of
morning-printed = refl
