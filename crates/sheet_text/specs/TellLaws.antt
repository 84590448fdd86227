-- What the call answers and writes, case by case: nothing where it is refused, else the text.
use Rattle.std.specs.Prelude.{ℕ, ◌+◌, ◌≤◌, ◌<◌, ◌≡◌, Bool, true, List, ◌++◌, leb, Result, Ok, Err, is_ok}
use Rattle.std.proofs.Math.Path.{sym, ap}
use Rattle.std.proofs.Common.{◌∙◌, arith}
use Rattle.std.proofs.Math.Bool.{false}
use Rattle.std.proofs.Math.Nat.{zero-add}
use Rattle.std.proofs.Math.ListN.{length, drop, length-append, length-drop}
use borrow.Author.Tests.{le-leb, lt-leb}
use borrow.Table.Steps.{cases}
use Rattle.text.specs.Buffer.{Wrote}
use Rattle.sheet.specs.Sheet.{figure_count, sheet_in, is_sheet}
use Rattle.sheet_text.specs.SheetText.{sheet_text, sheet_room, tell_refusal, told_text, text_after, TellCall}
use Rattle.refusals.specs.declared.Reason.{Reason}
use Rattle.refusals.specs.declared.Reason.TheVariants.{BufferTooShort, NoSheet}
use Rattle.sheet_text.specs.Writing.{CanPut}

module _ (figures : List ℕ) (cut : Bool) (out : List ℕ) where
  -- A refused call writes nothing.
  refused-call : (r : Reason) → tell_refusal figures out ≡ Err r → TellCall figures cut out (Err r) out
  unfolding told_text text_after
  refused-call r e = record { answer = rw e; text = rw e }

  -- With too few numbers, or too little room, it is refused,
  pub few-numbers : length figures < figure_count → TellCall figures cut out (Err BufferTooShort) out
  unfolding tell_refusal
  few-numbers h = refused-call BufferTooShort (rw (lt-leb figure_count (length figures) h))

  pub little-room : length out < sheet_room → TellCall figures cut out (Err BufferTooShort) out
  unfolding tell_refusal
  little-room h = refused-call BufferTooShort (cases (leb figure_count (length figures))
      (λ e. rw (e, lt-leb sheet_room (length out) h))
      (λ e. rw e))

  module _ (numbers : figure_count ≤ length figures) (room : sheet_room ≤ length out) where
    -- and where the numbers are no sheet's,
    pub no-sheet : is_sheet (sheet_in figures) ≡ false → TellCall figures cut out (Err NoSheet) out
    unfolding tell_refusal
    no-sheet e = refused-call NoSheet (rw (le-leb figure_count (length figures) numbers, le-leb sheet_room (length out) room, e))

  none : CanPut figures out → tell_refusal figures out ≡ Ok tt
  unfolding tell_refusal
  none can =
      rw (le-leb figure_count (length figures) can.numbers, le-leb sheet_room (length out) can.room, can.sheet)

  -- and else the text is written.
  pub text-told : {exit : List ℕ} {next : ℕ} → CanPut figures out
      → Wrote out 0 (sheet_text (sheet_in figures) cut) exit next → TellCall figures cut out (Ok next) exit
  unfolding told_text text_after
  text-told can w =
      let text = sheet_text (sheet_in figures) cut in
      let e : tell_refusal figures out ≡ Ok tt = none can in
      let zero : 0 + length text ≡ length text = zero-add (length text) in
      record {
        answer = rw e (ap (λ n. Ok n) (w.behind ∙ zero));
        text = rw e (w.bytes ∙ ap (λ n. text ++ drop n out) zero);
      }

  -- Then the call is not refused, and wrote it.
  pub tells : {r : Result ℕ Reason} {exit : List ℕ} → CanPut figures out → TellCall figures cut out r exit → is_ok r ≡ true
  unfolding told_text
  tells {r} {exit} can call = rw (call.answer, none can)

  pub told_wrote : {next : ℕ} {exit : List ℕ} → CanPut figures out → TellCall figures cut out (Ok next) exit → length exit ≡ length out
      → Wrote out 0 (sheet_text (sheet_in figures) cut) exit next
  unfolding told_text text_after
  told_wrote {next} {exit} can call same =
      let text = sheet_text (sheet_in figures) cut in
      let e : tell_refusal figures out ≡ Ok tt = none can in
      let zero : 0 + length text ≡ length text = zero-add (length text) in
      let answer : ◌≡◌ {A = Result ℕ Reason} (Ok next) (Ok (length text)) = rw e at call.answer in
      let count : next ≡ length text = cc in
      let is : exit ≡ text ++ drop (length text) out = rw e at call.text in
      let all : length exit ≡ length text + length (drop (length text) out) = ap length is ∙ length-append text (drop (length text) out) in
      record {
        bytes = is ∙ ap (λ n. text ++ drop n out) (sym zero);
        behind = count ∙ sym zero;
        room = omega (arith, length-drop (length text) out);
        kept = same;
      }
