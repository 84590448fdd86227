-- The laws of telling: what is held of a stream at its end says the text for that stream, however it came.
use Rattle.std.specs.Prelude.{ℕ, ◌+◌, ◌≤◌, ◌≡◌, true, false, List, [], ◌++◌, ltb, ℤ, length, take, drop}
use Rattle.std.proofs.Common.{sym, ap, ◌∙◌, zero-add, arith, take_at, ltb-false, le-leb}
use borrow.Table.Steps.{cases}
use Rattle.packed.specs.declared.Refusal.{Refusal}
use Rattle.packed.specs.Judge.{plainly}
use Rattle.text.specs.Buffer.{Wrote}
use Rattle.report.specs.Report.{refusal_line}
use Rattle.report.specs.Writing.{CanRefuse}
use Rattle.sheet.specs.Sheet.{most_orders, orders, no_sheet, sheet_in, is_sheet}
use Rattle.sheet.specs.NumbersLaws.{sheet-in-front}
use Rattle.sheet.specs.SheetLaws.{none-tidy}
use Rattle.sheet_text.specs.SheetText.{sheet_text, sheet_room}
use Rattle.sheet_text.specs.Writing.{CanPut}
use Rattle.streams.specs.Entries.{entries_of, too_many}
use Rattle.streams.specs.Stream.{front_room, State, over, edge, run}
use Rattle.streams.proofs.StreamLaws.{run-append}
use Rattle.streams.proofs.Told.{sheet-told, many-told}
use Rattle.feeding.specs.Feeding.{Fed}
use Rattle.feeding.specs.TakingLaws.{state-sound}
use Rattle.feeding.specs.StateLaws.{begin-state}
use Rattle.feeding.specs.declared.Part.{Part}
use Rattle.week_report.specs.WeekText.{week_text, held_text}
use Rattle.week_report.specs.Telling.{CanTell, CanRead, Reached}

-- ---- bytes that come

-- Nothing yet.
pub reached-none : (figures front : List ℕ) (work : List ℤ) → CanRead figures front work
    → Reached (record { known = 0; size = 0; got = 0 }) figures front
unfolding no_sheet
reached-none figures front work can =
    rw can.none
    (record {
      sound = state-sound (record { known = 0; size = 0; got = 0 }) _ front (omega arith) can.wide (begin-state front);
      lent = front;
      wide = can.wide;
      stream = [];
      state = ap (λ d. edge d front) (sheet-in-front no_sheet none-tidy.long []);
    })

-- One piece more.
pub reached-more : {p : Part} {figures front : List ℕ} → Reached p figures front
    → (piece : List ℕ) (work : List ℤ) (r : Part) (figures' front' : List ℕ) (work' : List ℤ)
    → Fed p figures front piece work r figures' front' work' → Reached r figures' front'
reached-more h piece work r figures' front' work' fed =
    record {
      sound = fed.sound;
      lent = h.lent;
      wide = h.wide;
      stream = h.stream ++ piece;
      state = fed.state ∙ ap (λ s. run s piece) h.state ∙ sym (run-append (edge no_sheet h.lent) h.stream piece);
    }

-- ---- what is held at the end

held-says : (room stream : List ℕ) → front_room ≤ length room
    → let s = run (edge no_sheet room) stream in held_text s.done s.known ≡ week_text stream
unfolding held_text week_text
held-says room stream wide = cases (too_many stream)
    (λ t. rw (t, many-told room stream wide ∙ t))
    (λ t. let few : length (entries_of stream) ≤ most_orders = ltb-false most_orders (length (entries_of stream)) t in
    let tells = sheet-told room stream wide few in
    rw (t, many-told room stream wide ∙ t, tells.done, tells.cut))

-- So it is for what the code holds.
pub reached-says : {p : Part} {figures front : List ℕ} (r : Reached p figures front)
    → held_text (sheet_in figures) p.known ≡ week_text r.stream
reached-says r =
    ap (λ (s : State). held_text s.done s.known) r.state ∙ held-says r.lent r.stream r.wide

-- ---- the code's cases

pub can-refuse : (r : Refusal) (out : List ℕ) → r ≡ plainly 18 → sheet_room ≤ length out → CanRefuse r out
can-refuse r out e room = rw e (record { early = omega arith; room = omega arith })

module _ (figures out : List ℕ) (known : ℕ) (can : CanTell figures out) where
  -- Too many entries are told by the line of 18,
  pub many-told-by : {exit : List ℕ} {next : ℕ} (r : Refusal) → r ≡ plainly 18 → over (sheet_in figures) ≡ true
      → Wrote out 0 (refusal_line r) exit next → Wrote out 0 (held_text (sheet_in figures) known) exit next
  unfolding held_text
  many-told-by r e o w = rw o (rw e at w)

  -- else there is a sheet,
  pub few-sheet : over (sheet_in figures) ≡ false → CanPut figures out
  unfolding over is_sheet
  few-sheet o =
      record {
        numbers = can.long;
        room = can.room;
        sheet = rw (le-leb (orders (sheet_in figures)) most_orders (ltb-false most_orders (orders (sheet_in figures)) o)) can.fitting;
      }

  -- and its text is told.
  pub sheet-wrote : {exit : List ℕ} {next : ℕ} → over (sheet_in figures) ≡ false
      → Wrote out 0 (sheet_text (sheet_in figures) (ltb 0 known)) exit next → Wrote out 0 (held_text (sheet_in figures) known) exit next
  unfolding held_text
  sheet-wrote o w = rw o w

-- Text put at the front of a buffer is its front.
pub wrote-front : {entry text exit : List ℕ} (next : ℕ) → Wrote entry 0 text exit next → take next exit ≡ text
wrote-front {entry} {text} next w =
    let long : next ≡ length text = w.behind ∙ zero-add (length text) in
    ap (take next) w.bytes ∙ take_at text (drop (0 + length text) entry) next (sym long)
