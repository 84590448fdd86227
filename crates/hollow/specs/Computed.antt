-- What the definitions say at the named inputs, by computation, as far as it depends on the bytes: the orders that they
-- mean, that all checks are passed, or which is not, and which plans are legal and best.
use Rattle.std.specs.Prelude.{ℕ, suc, ◌≡◌, refl, true, false, List, [], ◌∷◌, ℤ, pos, negsuc, length, get_or, Ok, Err}
use Rattle.std.proofs.Common.{◌∙◌}
use Rattle.std.specs.Int.Count.{ones as count_ones}
use Rattle.std.proofs.lemmas.List.{length-replicate}
use Rattle.seconds.specs.Limits.{rest}
use Rattle.seconds.specs.Twos.{bits_to, to_bits}
use Rattle.order.specs.Job.{Order, one_rate}
use Rattle.packed.specs.Judge.{in_field, plainly, fine, refused}
use Rattle.packed.specs.Layout.{decode, encode, number_of, bytes_of, record_bytes}
use Rattle.packed.specs.Places.{part, flat, each, first}
use Rattle.packed.specs.Packed.{header_word, header_of, count_of, t0_of, kind_of, record_at, job_word, job_fields, numbers_of}
use Rattle.packed.specs.Packed.{job_count, fields_at, packed_header, packed_job, pack_in, first_packed, kind_for, job_of, jobs_of, order_of}
use Rattle.packed.specs.Refusals.{fields_within, bad_field, first_bad, number_at, first_repeat, first_offending, header_checks, job_checks, weight_checks}
use Rattle.packed.specs.Refusals.{halves_checks}
use Rattle.packed_plan.specs.Plan.{plan_number, pack_plan, mask_in, count_in, plan_fields, starts_in, pad_in, kept_in, sent_checks}
use Rattle.legal.specs.Legal.{is_legal, is_best}
use Rattle.profiles.specs.Numbers.{most_numbers}
use Rattle.area.specs.Area.{area, cleared, cleared_to}
use Rattle.extending.specs.Calls.{extend_judged, extend_checks, extend_verdict}
use Rattle.planner.specs.Calls.{plan_checks, plan_verdict}
use Rattle.halves.specs.Calls.{plan_halves_checks, halves_verdict}
use Rattle.choosing.specs.Choosing.{choosing_checks, choosing_verdict}
use Rattle.checking.specs.Calls.{legal_checks, legal_of}
use Rattle.best_plan.specs.Calls.{best_checks, best_verdict, best_of}
use Rattle.plan_writer.specs.Calls.{write_checks, write_verdict}
use Rattle.text.specs.Decimal.{digits_in, digits, figure}
use Rattle.report.specs.Report.{refusal_line, plan_line, start_word, job_line, job_lines, plan_text, text_of, report_of}
use Rattle.report.specs.Report.{text_room, printed}
use Rattle.report.specs.AsPrinted.{morning_bytes, morning_text, morning-printed}
use Rattle.worked.specs.Examples.{morning}
use Rattle.worked.specs.Halves.{two_checks}
use Rattle.packed_plan.proofs.PlanLaws.{ones-raised}
use Rattle.worked.specs.Plans.{own_plan, lighter_plan}
use Rattle.hollow.specs.Named.{ones, front, room, work_area, refused_bytes, one_job_bytes, one_pack_bytes, start, page}
use Rattle.hollow.specs.Named.{one_job_plan, plan_page}

-- P4 as an order.
abbrev pub one_job : Order
one_job = record { t0 = pos 0; jobs = one_rate 0 true 0 (pos 0) 10 (pos 10) ∷ [] }

-- The README's order of halves.
abbrev pub checked : Order
checked =
    record {
      t0 = negsuc 899;
      jobs =
          one_rate 4 true 0 (negsuc 899) 300 (negsuc 299)
          ∷ one_rate 36 false 5 (negsuc 899) 300 (pos 0)
          ∷ one_rate 9 true 0 (negsuc 899) 200 (pos 0)
          ∷ one_rate 41 false 8 (negsuc 899) 480 (pos 300)
          ∷ [];
    }

-- With room for a profile and for the work area,
pub record Accepted (out work : List ℤ) : Type 0 where
  pub plan-morning : plan_verdict morning_bytes (ones 5) work ≡ fine
  pub plan-refused : plan_verdict refused_bytes (ones 5) work ≡ refused (in_field 6 2 6)
  pub plan-one-job : plan_verdict one_job_bytes (ones 1) work ≡ fine
  pub halves-checked : halves_verdict two_checks (ones 4) work ≡ fine
  pub halves-one-job : halves_verdict one_job_bytes (ones 1) work ≡ fine
  pub extend-morning : extend_verdict start morning_bytes out work ≡ fine
  pub extend-one-job : extend_verdict start one_job_bytes out work ≡ fine
  pub choose : choosing_verdict morning_bytes one_pack_bytes work ≡ fine
  pub legal-own : legal_of morning_bytes own_plan ≡ Ok true
  pub legal-other : legal_of morning_bytes one_job_plan ≡ Ok false
  pub legal-one-job : legal_of one_job_bytes one_job_plan ≡ Ok true
  pub legal-refused : legal_of one_job_bytes own_plan ≡ Err (plainly 15)
  pub best-passed : best_verdict morning_bytes own_plan work ≡ fine
  pub best-own : best_of morning_bytes own_plan work ≡ Ok true
  pub best-lighter : best_of morning_bytes lighter_plan work ≡ Ok false
  pub best-refused : best_of one_job_bytes own_plan work ≡ Err (plainly 15)
  pub write-morning : write_verdict morning_bytes plan_page work ≡ fine
  pub write-one-job : write_verdict one_job_bytes plan_page work ≡ fine
  pub morning-order : order_of morning_bytes ≡ morning
  pub one-job-order : order_of one_job_bytes ≡ one_job
  pub one-pack-order : order_of one_pack_bytes ≡ one_job
  pub one-pack-kind : kind_of one_pack_bytes ≡ 1
  pub checked-order : order_of two_checks ≡ checked

-- whatever the buffers hold.
with-room : (out work : List ℤ) → length out ≡ most_numbers → length work ≡ area → Accepted out work
unfolding rest bits_to to_bits decode encode number_of bytes_of part flat each first header_word header_of count_of t0_of kind_of
    record_bytes record_at job_word job_fields numbers_of job_count fields_at packed_header packed_job pack_in first_packed kind_for job_of
    jobs_of order_of fields_within bad_field first_bad number_at first_repeat first_offending header_checks job_checks weight_checks
    halves_checks plan_checks plan_halves_checks extend_judged extend_checks choosing_checks plan_number pack_plan mask_in count_in
    plan_fields starts_in pad_in kept_in sent_checks is_legal is_best legal_checks best_checks write_checks ones
with-room out work d e =
    record {
      plan-morning = rw e;
      plan-refused = refl;
      plan-one-job = rw e;
      halves-checked = rw e;
      halves-one-job = rw e;
      extend-morning = rw (d, e);
      extend-one-job = rw (d, e);
      choose = rw e;
      legal-own = rw (ones-raised 0xD8 40) (unfold count_ones in refl);
      legal-other = rw (ones-raised 0x80 40) (unfold count_ones in refl);
      legal-one-job = rw (ones-raised 0x80 40) (unfold count_ones in refl);
      legal-refused = rw (ones-raised 0xD8 40) (unfold count_ones in refl);
      best-passed = rw (ones-raised 0xD8 40) (unfold count_ones in rw e);
      best-own = rw (ones-raised 0xD8 40) (unfold count_ones in rw e);
      best-lighter = rw (ones-raised 0xB8 40) (unfold count_ones in rw e);
      best-refused = rw (ones-raised 0xD8 40) (unfold count_ones in refl);
      write-morning = rw e;
      write-one-job = rw e;
      morning-order = refl;
      one-job-order = refl;
      one-pack-order = refl;
      one-pack-kind = refl;
      checked-order = refl;
    }

-- The named buffers are long enough.
pub length-ones : (n : ℕ) → length (ones n) ≡ n
unfolding ones
length-ones n = length-replicate n (pos 1)

pub accepted : Accepted room work_area
accepted = with-room room work_area (length-ones most_numbers) (length-ones area)

-- What stands in front of them, and of any work area that is cleared.
pub front-ones : (n : ℕ) → front (ones (suc n)) ≡ pos 1
unfolding ones
front-ones n = refl

pub front-cleared : (work : List ℤ) → front (cleared work) ≡ pos 0
unfolding cleared cleared_to
front-cleared work = refl

-- ---- the text

-- P4's text: 0 0 1 0 0 25 1, then 0 0.
abbrev pub one_job_text : List ℕ
one_job_text =
    48 ∷ 32 ∷ 48 ∷ 32 ∷ 49 ∷ 32 ∷ 48 ∷ 32 ∷ 48 ∷ 32 ∷ 50 ∷ 53 ∷ 32 ∷ 49 ∷ 10
    ∷ 48 ∷ 32 ∷ 48 ∷ 10 ∷ []

one-job-printed : report_of one_job_bytes ≡ one_job_text
unfolding rest bits_to decode number_of part flat each first header_word header_of count_of t0_of kind_of record_bytes record_at
    job_word job_fields numbers_of job_count fields_at job_of jobs_of order_of fields_within first_bad number_at first_repeat header_checks
    job_checks weight_checks digits_in digits figure refusal_line plan_line start_word job_line job_lines plan_text text_of report_of
one-job-printed = refl

-- With room a page has the whole text.
with-page : (bytes out : List ℕ) → length out ≡ text_room → printed bytes out ≡ report_of bytes
unfolding printed
with-page bytes out e = rw e

page-long : length page ≡ text_room
unfolding page
page-long = length-replicate {A = ℕ} text_room 1

pub morning-on-page : printed morning_bytes page ≡ morning_text
morning-on-page = with-page morning_bytes page page-long ∙ morning-printed

pub one-job-on-page : printed one_job_bytes page ≡ one_job_text
one-job-on-page = with-page one_job_bytes page page-long ∙ one-job-printed

pub page-front : get_or page 0 0 ≡ 1
unfolding page
page-front = refl
