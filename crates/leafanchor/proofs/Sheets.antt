-- The contracts of the exported calls on sheets: each determines the numbers of its answer and every lent buffer at exit, for every
-- input, and no call gives another number than 0, 10 and 18.
use Prim.Native.Nat.{ℕ}
use mathlib.Core.Bool.{Bool, true, false, cond, ◌&&◌, ◌||◌}
use mathlib.Core.List.{List}
use contract.Lifetimes.{Lfts}
use lib.Dec.{T, leb, eqb}
use lib.IntN.{ℤ}
use lib.ListN.{length}
use Rattle.std.specs.Prelude.{Ok, Err, ⊤}
use Rattle.seconds.specs.Determined.{Determines, determined, two, three}
use Rattle.refusals.specs.Numbers.{code_of}
use Rattle.refusals.specs.declared.Reason.TheVariants.{BufferTooShort, NoSheet}
use Rattle.area.specs.Area.{area}
use Rattle.sheet.specs.Sheet.{figure_count, sheet_in, is_sheet, joins, join_refusal, joined_after}
use Rattle.adding.specs.Calls.{takes_one, add_refusal, add_after, add_work_after}
use Rattle.streams.specs.Stream.{over, state_in, is_state}
use Rattle.feeding.specs.Calls.{feed_fits, fed_state, feed_refusal, feed_after, front_after, feed_work_after}
use Rattle.sheet_text.specs.SheetText.{sheet_room, tell_refusal, told_text, with_bytes, told_of, text_after}
use Rattle.sheet_answers.specs.Numbers.{sheet_numbers, text_numbers, says_cut}
use Rattle.sheet_answers.specs.declared.SheetAnswer.{SheetAnswer}
use Rattle.sheet_answers.specs.declared.SheetTextAnswer.{SheetTextAnswer}
use Rattle.leafanchor.proofs.NumbersGiven.{Gives}
use Rattle.leafanchor.proofs.leafanchor_sheet_add.Reads as add
use Rattle.leafanchor.proofs.leafanchor_sheet_join.Reads as join
use Rattle.leafanchor.proofs.leafanchor_sheet_feed.Reads as feed
use Rattle.leafanchor.proofs.leafanchor_sheet_text.Reads as text

-- ---- determined

pub sheet-add-determined : (κs : Lfts 3)
    → Determines {Z = SheetAnswer × List ℕ × List ℤ} (add.Post κs) (λ r x. (r, x.0.now, x.1.1.0.now))
sheet-add-determined κs =
    determined (add.Post κs) (λ r x. (r, x.0.now, x.1.1.0.now))
    (λ a. (
      sheet_numbers (add_refusal a.0.now a.1.1.0.now),
      add_after a.0.now a.1.0.now a.1.1.0.now,
      add_work_after a.0.now a.1.1.0.now,
    ))
    (λ a r x h. three h.0 h.1.0 h.1.1)

pub sheet-join-determined : (κs : Lfts 2) → Determines {Z = SheetAnswer × List ℕ} (join.Post κs) (λ r x. (r, x.0.now))
sheet-join-determined κs =
    determined (join.Post κs) (λ r x. (r, x.0.now))
    (λ a. (sheet_numbers (join_refusal a.0.now a.1.0.now), joined_after a.0.now a.1.0.now))
    (λ a r x h. two h.0 h.1)

pub sheet-feed-determined : (κs : Lfts 4)
    → Determines {Z = (SheetAnswer × List ℤ) × (List ℕ × List ℕ)} (feed.Post κs)
    (λ r x. ((r, x.1.1.1.0.now), (x.0.now, x.1.0.now)))
sheet-feed-determined κs =
    determined (feed.Post κs) (λ r x. ((r, x.1.1.1.0.now), (x.0.now, x.1.0.now)))
    (λ a. (
      (
        sheet_numbers (feed_refusal a.0.now a.1.0.now a.1.1.0.now a.1.1.1.0.now),
        feed_work_after a.0.now a.1.0.now a.1.1.1.0.now,
      ),
      (
        feed_after a.0.now a.1.0.now a.1.1.0.now a.1.1.1.0.now,
        front_after a.0.now a.1.0.now a.1.1.0.now a.1.1.1.0.now,
      ),
    ))
    (λ a r x h. two (two h.0 h.1.1.1) (two h.1.0 h.1.1.0))

pub sheet-text-determined : (κs : Lfts 2)
    → Determines {Z = SheetTextAnswer × List ℕ} (text.Post κs) (λ r x. (r, x.1.1.0.now))
sheet-text-determined κs =
    determined (text.Post κs) (λ r x. (r, x.1.1.0.now))
    (λ a. (
      text_numbers (told_of a.0.now (says_cut a.1.0) a.1.1.0.now),
      text_after a.0.now (says_cut a.1.0) a.1.1.0.now,
    ))
    (λ a r x h. two h.0 h.1)

-- ---- the numbers given

abbrev of_sheets : ℕ → Bool
of_sheets n = eqb n 0 || (eqb n 10 || eqb n 18)

by_tests : (room sheet : Bool) → T (of_sheets (code_of {A = ⊤} (cond room (cond sheet (Ok tt) (Err NoSheet)) (Err BufferTooShort))))
by_tests true true = tt
by_tests true false = tt
by_tests false sheet = tt

by-piece : (room state many : Bool)
    → T (of_sheets (code_of {A = ⊤} (cond room (cond state (cond many (Err NoSheet) (Ok tt)) (Err NoSheet)) (Err BufferTooShort))))
by-piece true true true = tt
by-piece true true false = tt
by-piece true false many = tt
by-piece false state many = tt

by_told : (room sheet : Bool) (bytes : ℕ)
    → T (of_sheets (text_numbers (with_bytes bytes (cond room (cond sheet (Ok tt) (Err NoSheet)) (Err BufferTooShort)))).refusal)
by_told true true bytes = tt
by_told true false bytes = tt
by_told false sheet bytes = tt

add-gives : (figures : List ℕ) (work : List ℤ) → T (of_sheets (code_of (add_refusal figures work)))
unfolding add_refusal
add-gives figures work = by_tests (leb figure_count (length figures) && leb area (length work)) (takes_one (sheet_in figures))

join-gives : (to from : List ℕ) → T (of_sheets (code_of (join_refusal to from)))
unfolding join_refusal
join-gives to from = by_tests (leb figure_count (length to) && leb figure_count (length from)) (joins (sheet_in to) (sheet_in from))

feed-gives : (feed front piece : List ℕ) (work : List ℤ) → T (of_sheets (code_of (feed_refusal feed front piece work)))
unfolding feed_refusal
feed-gives feed front piece work =
    by-piece (feed_fits feed front work) (is_state (state_in feed front)) (over (fed_state feed front piece).done)

text-gives : (figures : List ℕ) (cut : Bool) (out : List ℕ) → T (of_sheets (text_numbers (told_of figures cut out)).refusal)
unfolding tell_refusal
text-gives figures cut out =
    by_told (leb figure_count (length figures) && leb sheet_room (length out)) (is_sheet (sheet_in figures)) (length (told_text figures cut out))

pub record SheetsGiven : Type 0 where
  pub adds : (κs : Lfts 3) → Gives of_sheets (add.Post κs) (λ (r : SheetAnswer). r.refusal)
  pub joins : (κs : Lfts 2) → Gives of_sheets (join.Post κs) (λ (r : SheetAnswer). r.refusal)
  pub feeds : (κs : Lfts 4) → Gives of_sheets (feed.Post κs) (λ (r : SheetAnswer). r.refusal)
  pub tells : (κs : Lfts 2) → Gives of_sheets (text.Post κs) (λ (r : SheetTextAnswer). r.refusal)

pub sheets-given : SheetsGiven
sheets-given =
    record {
      adds = λ κs a r x h. rw h.0 (add-gives a.0.now a.1.1.0.now);
      joins = λ κs a r x h. rw h.0 (join-gives a.0.now a.1.0.now);
      feeds = λ κs a r x h. rw h.0 (feed-gives a.0.now a.1.0.now a.1.1.0.now a.1.1.1.0.now);
      tells = λ κs a r x h. rw h.0 (text-gives a.0.now (says_cut a.1.0) a.1.1.0.now);
    }
