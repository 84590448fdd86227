-- Of the calls of sheets, versions that refuse everything, that refuse nothing, that leave a buffer as it was and that ignore an input are
-- shut out: on sheets of entries of no bytes, which are refused with 1, on P4, and for the text on the week of three entries.
use Rattle.std.specs.Prelude.{ℕ, refl, true, false, List, [], ℤ, pos, get_or, Result, Ok, Err}
use Rattle.std.proofs.Common.{arith}
use Rattle.refusals.specs.declared.Reason.{Reason}
use Rattle.refusals.specs.Numbers.{code_of}
use Rattle.seconds.specs.Limits.{rest}
use Rattle.seconds.specs.Signed.{signed}
use Rattle.seconds.specs.Twos.{bits_to}
use Rattle.packed.specs.Layout.{decode, number_of, record_bytes}
use Rattle.packed.specs.Places.{part, flat, each, first}
use Rattle.packed.specs.Packed.{header_word, header_of, count_of, t0_of, kind_of, record_at, job_word, job_fields, numbers_of}
use Rattle.packed.specs.Packed.{job_count, fields_at, job_of, jobs_of, order_of}
use Rattle.packed.specs.Refusals.{fields_within, first_bad, number_at, first_repeat, header_checks, job_checks, weight_checks}
use Rattle.area.specs.Area.{area}
use Rattle.multiples.specs.Multiples.{gcd_in, gcd}
use Rattle.text.specs.Decimal.{digits_in, digits}
use Rattle.fractions.specs.Fractions.{lowest_of}
use Rattle.sheet.specs.Sheet.{one_order, join, sheet_over, fits, is_sheet, join_refusal, joined_after, most_orders}
use Rattle.sheet.specs.Answered.{answered, with_order}
use Rattle.adding.specs.Calls.{add_refusal, add_after, add_work_after}
use Rattle.streams.specs.Stream.{over, byte, feed_over, is_state}
use Rattle.feeding.specs.Calls.{feed_fits, feed_refusal, feed_after, front_after, feed_work_after}
use Rattle.sheet_text.specs.SheetText.{top_line, fraction_line, last_line, sheet_text, tell_refusal, told_text, text_after}
use Rattle.hollow.specs.Contract.{Refuses, Writes, TellsApart, NotHollow, NotHollowIn}
use Rattle.hollow.specs.Promises.{joining_sheets, adding, feeding, telling}
use Rattle.hollow.specs.Laws.{answered-wrongly, same-buffers, unwritten, not-hollow, not-hollow-in}
use Rattle.hollow.specs.Named.{front, work_area, one_job_bytes, empties, no_sheets, join_sheets, add_to, held_at, front_page}
use Rattle.hollow.specs.Named.{feed_to, one_piece, feed_last, one_job_front, tell_of, tell_week}
use Rattle.hollow.specs.Computed.{length-ones, front-ones, front-cleared}

-- The bytes written of a text, 0 if refused.
abbrev bytes_in : Result ℕ Reason → ℕ
bytes_in (Ok n) = n
bytes_in (Err r) = 0

-- The number at a place of figures, of a front or of a text.
abbrev at : ℕ → List ℕ → ℤ
at i l = pos (get_or l i 0)

-- ---- joining: one order behind none; one behind 10,000 is refused

pub join-not-hollow : NotHollowIn joining_sheets (λ b. b) (join_sheets 0 1) (join_sheets most_orders 1)
unfolding join sheet_over fits is_sheet join_refusal joined_after
join-not-hollow = not-hollow-in joining_sheets refl code_of (omega arith) (λ b. b) (at 0) (omega signed)

-- Neither sheet may be ignored.
pub record JoinTellsApart : Type 0 where
  pub first : TellsApart joining_sheets (λ b. b) (join_sheets 0 1) (join_sheets 1 1)
  pub second : TellsApart joining_sheets (λ b. b) (join_sheets 0 1) (join_sheets 0 0)

pub join-tells-apart : JoinTellsApart
unfolding join sheet_over fits is_sheet join_refusal joined_after
join-tells-apart =
    record {
      first = λ f. same-buffers joining_sheets (λ b. b) f (join_sheets 0 1) (join_sheets 1 1) (at 0) (omega signed);
      second = λ f. same-buffers joining_sheets (λ b. b) f (join_sheets 0 1) (join_sheets 0 0) (at 0) (omega signed);
    }

-- ---- one order more: an entry of no bytes on a sheet of none; on 10,000 it is refused

pub add-not-hollow : NotHollowIn adding (λ b. b.0) (add_to 0 []) (add_to most_orders [])
unfolding number_of header_checks one_order join sheet_over fits is_sheet answered with_order add_refusal add_after
add-not-hollow =
    not-hollow-in adding (rw (length-ones area)) code_of (rw (length-ones area) (omega arith)) (λ b. b.0) (at 0)
    (rw (length-ones area) (omega signed))

-- The work area may not stay as it was, though the order is refused.
pub add-clears : Writes adding (λ b. b.1) (add_to 0 [])
unfolding fits is_sheet add_refusal add_work_after
add-clears f leaves =
    unwritten adding (λ b. b.1) f (add_to 0 []) front
    (rw (length-ones area, front-cleared work_area, front-ones 14748) (omega signed)) (leaves (add_to 0 []))

-- Neither the sheet nor the order may be ignored: P4 is feasible.
pub record AddTellsApart : Type 0 where
  pub sheet : TellsApart adding (λ b. b.0) (add_to 0 []) (add_to 1 [])
  pub order : TellsApart adding (λ b. b.0) (add_to 0 []) (add_to 0 one_job_bytes)

pub add-tells-apart : AddTellsApart
unfolding rest bits_to decode number_of part flat each first header_word header_of count_of t0_of kind_of record_bytes record_at job_word job_fields
    numbers_of job_count fields_at job_of jobs_of order_of fields_within first_bad number_at first_repeat header_checks job_checks weight_checks
    one_order join sheet_over fits is_sheet answered with_order add_refusal add_after
add-tells-apart =
    record {
      sheet =
          λ f. same-buffers adding (λ b. b.0) f (add_to 0 []) (add_to 1 []) (at 0) (rw (length-ones area) (omega signed));
      order =
          λ f. same-buffers adding (λ b. b.0) f (add_to 0 []) (add_to 0 one_job_bytes) (at 20) (rw (length-ones area) (omega signed));
    }

-- ---- feeding: an entry of no bytes and a byte of another, to a stream of none; to one of 10,000 it is refused

pub feed-not-hollow : NotHollowIn feeding (λ b. b.0) (feed_to 0 one_piece) (feed_to most_orders one_piece)
unfolding number_of header_checks one_order join fits is_sheet answered with_order over byte feed_over is_state feed_fits feed_refusal feed_after
feed-not-hollow =
    not-hollow-in feeding (rw (length-ones area)) code_of (rw (length-ones area) (omega arith)) (λ b. b.0) (at 0)
    (rw (length-ones area) (omega signed))

-- Neither the front nor the work area may stay as it was.
pub record FeedWrites : Type 0 where
  pub keeps : Writes feeding (λ b. b.1) (feed_to 0 one_piece)
  pub clears : Writes feeding (λ b. b.2) (feed_to 0 one_piece)

pub feed-writes : FeedWrites
unfolding number_of header_checks one_order join fits is_sheet answered with_order over byte is_state feed_fits front_after feed_work_after
feed-writes =
    record {
      keeps = λ f leaves.
          unwritten feeding (λ b. b.1) f (feed_to 0 one_piece) (at 0) (rw (length-ones area) (omega signed))
          (leaves (feed_to 0 one_piece));
      clears = λ f leaves.
          unwritten feeding (λ b. b.2) f (feed_to 0 one_piece) front
          (rw (length-ones area, front-cleared work_area, front-ones 14748) (omega signed)) (leaves (feed_to 0 one_piece));
    }

-- None of the numbers, the front and the piece may be ignored: by its front an entry's last byte makes it P4.
pub record FeedTellsApart : Type 0 where
  pub numbers : TellsApart feeding (λ b. b.0) (feed_to 0 one_piece) (feed_to 1 one_piece)
  pub piece : TellsApart feeding (λ b. b.0) (feed_to 0 one_piece) (feed_to 0 [])
  pub front : TellsApart feeding (λ b. b.0) (feed_last one_job_front) (feed_last front_page)

pub feed-tells-apart : FeedTellsApart
unfolding rest bits_to decode number_of part flat each first header_word header_of count_of t0_of kind_of record_bytes record_at job_word job_fields
    numbers_of job_count fields_at job_of jobs_of order_of fields_within first_bad number_at first_repeat header_checks job_checks weight_checks
    one_order join fits is_sheet answered with_order over byte feed_over is_state feed_fits feed_after
feed-tells-apart =
    record {
      numbers = λ f.
          same-buffers feeding (λ b. b.0) f (feed_to 0 one_piece) (feed_to 1 one_piece) (at 0) (rw (length-ones area) (omega signed));
      piece = λ f.
          same-buffers feeding (λ b. b.0) f (feed_to 0 one_piece) (feed_to 0 []) (at 0) (rw (length-ones area) (omega signed));
      front = λ f.
          same-buffers feeding (λ b. b.0) f (feed_last one_job_front) (feed_last front_page) (at 20)
          (rw (length-ones area) (omega signed));
    }

-- ---- the text, of the week of three entries and of no order

-- By its length, and its first byte;
pub tell-not-hollow : NotHollowIn telling (λ b. b) (tell_week false) (tell_of (empties 0) false)
unfolding gcd_in gcd digits_in digits lowest_of top_line fraction_line last_line sheet_text fits is_sheet tell_refusal told_text text_after
tell-not-hollow = not-hollow-in telling refl bytes_in (omega arith) (λ b. b) (at 0) (omega signed)

-- cut or whole may not be ignored;
pub tell-not-without-cut : NotHollow telling (tell_week false) (tell_week true)
unfolding gcd_in gcd digits_in digits lowest_of top_line fraction_line last_line sheet_text fits is_sheet tell_refusal told_text
tell-not-without-cut = not-hollow telling refl bytes_in (omega arith)

-- the text may not be the same for texts of one length, whatever is answered;
pub tell-tells-apart : TellsApart telling (λ b. b) (tell_of (empties 1) false) (tell_of (empties 0) false)
unfolding gcd_in gcd digits_in digits lowest_of top_line fraction_line last_line sheet_text fits is_sheet tell_refusal told_text text_after
tell-tells-apart f =
    same-buffers telling (λ b. b) f (tell_of (empties 1) false) (tell_of (empties 0) false) (at 0) (omega signed)

-- ---- figures that no sheet has: no call may answer them

pub record SheetsRefuse : Type 0 where
  pub joins : Refuses joining_sheets (no_sheets, empties 0)
  pub joins-second : Refuses joining_sheets (empties 0, no_sheets)
  pub adds : Refuses adding (no_sheets, [], work_area)
  pub feeds : Refuses feeding (held_at no_sheets, front_page, [], work_area)
  pub tells : Refuses telling (tell_of no_sheets false)

pub sheets-refuse : SheetsRefuse
unfolding fits is_sheet join_refusal add_refusal is_state feed_fits feed_refusal tell_refusal
sheets-refuse =
    record {
      joins = λ f. answered-wrongly joining_sheets f (no_sheets, empties 0) refl;
      joins-second = λ f. answered-wrongly joining_sheets f (empties 0, no_sheets) refl;
      adds = λ f. answered-wrongly adding f (no_sheets, [], work_area) (rw (length-ones area));
      feeds = λ f. answered-wrongly feeding f (held_at no_sheets, front_page, [], work_area) (rw (length-ones area));
      tells = λ f. answered-wrongly telling f (tell_of no_sheets false) refl;
    }
