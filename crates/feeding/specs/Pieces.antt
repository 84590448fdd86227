-- What calls of feeding say together: two pieces, one call behind the other, give what both give as one piece; and a whole stream fed
-- from the beginning gives its sheet and whether it is cut, or 18 for too many entries.
use Rattle.std.specs.Prelude.{ℕ, ◌≤◌, ◌≡◌, true, false, List, ◌++◌, ltb, ℤ, length, get_or, replicate, Result, Err, ⊤}
use Rattle.std.proofs.Math.Path.{refl}
use Rattle.std.proofs.Common.{sym, ap, ◌∙◌, arith, length-take-le, ltb-true, ltb-false}
use borrow.Table.Steps.{cases}
use Rattle.refusals.specs.declared.Reason.{Reason}
use Rattle.refusals.specs.declared.Reason.TheVariants.{BufferTooShort, NoSheet}
use Rattle.area.specs.Area.{area, cleared}
use Rattle.area.specs.Clearing.{cleared-long, cleared-twice}
use Rattle.packed.proofs.LayoutLaws.{AreBytes}
use Rattle.sheet.specs.Sheet.{most_orders, sheet_in, no_sheet}
use Rattle.sheet.specs.SheetLaws.{none-tidy}
use Rattle.streams.specs.Entries.{entries_of, is_cut, too_many, stream_sheet}
use Rattle.streams.specs.Stream.{front_room, feed_count, State, over, edge, run, state_in, feed_over, is_state}
use Rattle.streams.proofs.StreamLaws.{run-append, run-over}
use Rattle.streams.proofs.Told.{sheet-told, many-told}
use Rattle.feeding.specs.Calls.{many_refusal}
use Rattle.feeding.specs.Calls.{FeedCall}
use Rattle.feeding.specs.TakingLaws.{numbers-short, front-short, area-short, no-state, piece-taken}
use Rattle.feeding.specs.StateLaws.{Sized, begin-state, run-sized, run-state, over-no-state, state-back, over-long, over-twice}

-- ---- one call's outcome for another's

-- Two calls that can have one outcome have every outcome in common.
same_outcome : {feed front piece : List ℕ} {work : List ℤ} {feed' front' piece' : List ℕ} {work' : List ℤ}
    {r : Result ⊤ Reason} {a b : List ℕ} {c : List ℤ} {s : Result ⊤ Reason} {d e : List ℕ} {f : List ℤ}
    → FeedCall feed front piece work r a b c → FeedCall feed front piece work s d e f → FeedCall feed' front' piece' work' s d e f
    → FeedCall feed' front' piece' work' r a b c
same_outcome x y z =
    record {
      answer = x.answer ∙ sym y.answer ∙ z.answer;
      numbers = x.numbers ∙ sym y.numbers ∙ z.numbers;
      room = x.room ∙ sym y.room ∙ z.room;
      cleaned = x.cleaned ∙ sym y.cleaned ∙ z.cleaned;
    }

-- A call with the same input.
pub on_same : {feed front piece : List ℕ} {work : List ℤ} {feed' front' piece' : List ℕ} {work' : List ℤ}
    {r : Result ⊤ Reason} {a b : List ℕ} {c : List ℤ} → feed ≡ feed' → front ≡ front' → piece ≡ piece' → work ≡ work'
    → FeedCall feed front piece work r a b c → FeedCall feed' front' piece' work' r a b c
on_same e f g h x = rw (e, f, g, h) at x

-- ---- two pieces

module _ (feed front x y : List ℕ) (work : List ℤ) (r₁ : Result ⊤ Reason) (feed₁ front₁ : List ℕ) (work₁ : List ℤ)
    (r₂ : Result ⊤ Reason) (feed₂ front₂ : List ℕ) (work₂ : List ℤ)
    (first : FeedCall feed front x work r₁ feed₁ front₁ work₁) (second : FeedCall feed₁ front₁ y work₁ r₂ feed₂ front₂ work₂) where
  -- The second call is one on what the first has left.
  on-left : {r : Result ⊤ Reason} {a b : List ℕ} {c : List ℤ} → FeedCall feed front x work r a b c → FeedCall a b y c r₂ feed₂ front₂ work₂
  on-left h =
      on_same (first.numbers ∙ sym h.numbers) (first.room ∙ sym h.room) refl (first.cleaned ∙ sym h.cleaned) second

  -- A piece that is not taken changes nothing, whatever it is.
  not_taken : (r : Result ⊤ Reason) → ((piece : List ℕ) → FeedCall feed front piece work r feed front work)
      → FeedCall feed front (x ++ y) work r₂ feed₂ front₂ work₂
  not_taken r h = same_outcome (on-left (h x)) (h y) (h (x ++ y))

  module _ (bytes : AreBytes x) (long : feed_count ≤ length feed) (wide : front_room ≤ length front) (space : area ≤ length work)
      (state : is_state (state_in feed front) ≡ true) where
    abbrev between : State
    between = run (state_in feed front) x

    sized : Sized between
    sized = run-sized (state_in feed front) x (record { long = length-take-le 24 feed (omega arith); wide = wide })

    both : run (state_in feed front) (x ++ y) ≡ run between y
    both = run-append (state_in feed front) x y

    left : FeedCall feed front x work (many_refusal (over between.done)) (feed_over between feed) between.room (cleared work)
    left =
        piece-taken feed front x work long wide space state _ _ _ _
        (record { answer = refl; numbers = refl; room = refl; cleaned = refl })

    at_once : FeedCall feed front (x ++ y) work (many_refusal (over (run between y).done)) (feed_over (run between y) feed) (run between y).room (cleared work)
    at_once =
        piece-taken feed front (x ++ y) work long wide space state _ _ _ _
        (record {
          answer = ap (λ (s : State). many_refusal (over s.done)) (sym both);
          numbers = ap (λ (s : State). feed_over s feed) (sym both);
          room = ap (λ (s : State). s.room) (sym both);
          cleaned = refl;
        })

    -- The state between them is in the numbers again.
    again : state_in (feed_over between feed) between.room ≡ between
    again = state-back between feed sized

    -- With too many entries already nothing more changes,
    many-taken : over between.done ≡ true → FeedCall feed front (x ++ y) work r₂ feed₂ front₂ work₂
    many-taken o =
        let stays : run between y ≡ between = run-over between y o in
        let after : FeedCall feed front (x ++ y) work (Err NoSheet) (feed_over between feed) between.room (cleared work) =
        rw (stays, o) at at_once in
        same_outcome (on-left left)
        (no-state (feed_over between feed) between.room y (cleared work) (over-long between feed sized) sized.wide (cleared-long work)
        (ap is_state again ∙ over-no-state between o))
        after

    -- else the second piece is taken too.
    few-taken : over between.done ≡ false → FeedCall feed front (x ++ y) work r₂ feed₂ front₂ work₂
    few-taken o =
        same_outcome (on-left left)
        (piece-taken (feed_over between feed) between.room y (cleared work) (over-long between feed sized) sized.wide (cleared-long work)
        (ap is_state again ∙ run-state (state_in feed front) x bytes start state o) _ _ _ _
        (record {
          answer = ap (λ (s : State). many_refusal (over (run s y).done)) (sym again);
          numbers = sym (over-twice between feed sized (run between y)) ∙ ap (λ (s : State). feed_over (run s y) (feed_over between feed)) (sym again);
          room = ap (λ (s : State). (run s y).room) (sym again);
          cleaned = sym (cleared-twice work);
        }))
        at_once
      where
        start : Sized (state_in feed front)
        start = record { long = length-take-le 24 feed (omega arith); wide = wide }

    both-taken : FeedCall feed front (x ++ y) work r₂ feed₂ front₂ work₂
    both-taken = cases (over between.done) many-taken few-taken

  -- Feeding x and then y is feeding x ++ y: the second call's answer and buffers are those of one call with both.
  pub two-pieces : AreBytes x → FeedCall feed front (x ++ y) work r₂ feed₂ front₂ work₂
  two-pieces bytes = cases (ltb (length feed) feed_count)
      (λ s. not_taken (Err BufferTooShort) (λ p. numbers-short feed front p work (ltb-true (length feed) feed_count s)))
      (λ s. let long : feed_count ≤ length feed = ltb-false (length feed) feed_count s in
      cases (ltb (length front) front_room)
      (λ t. not_taken (Err BufferTooShort) (λ p. front-short feed front p work long (ltb-true (length front) front_room t)))
      (λ t. let wide : front_room ≤ length front = ltb-false (length front) front_room t in
      cases (ltb (length work) area)
      (λ u. not_taken (Err BufferTooShort) (λ p. area-short feed front p work long wide (ltb-true (length work) area u)))
      (λ u. let space : area ≤ length work = ltb-false (length work) area u in
      cases (is_state (state_in feed front))
      (λ e. both-taken bytes long wide space e)
      (λ e. not_taken (Err NoSheet) (λ p. no-state feed front p work long wide space e)))))

-- ---- a whole stream

-- The numbers of the beginning.
abbrev pub begin : List ℕ
begin = replicate feed_count 0

module _ (front stream : List ℕ) (work : List ℤ) (r : Result ⊤ Reason) (feed' front' : List ℕ) (work' : List ℤ)
    (wide : front_room ≤ length front) (space : area ≤ length work) (call : FeedCall begin front stream work r feed' front' work') where
  abbrev end : State
  end = run (edge no_sheet front) stream

  fed : FeedCall begin front stream work (many_refusal (over end.done)) (feed_over end begin) end.room (cleared work)
  unfolding no_sheet
  fed =
      piece-taken begin front stream work (omega arith) wide space (begin-state front) _ _ _ _
      (record { answer = refl; numbers = refl; room = refl; cleaned = refl })

  -- The numbers then say the state.
  said-state : state_in feed' end.room ≡ end
  said-state =
      ap (λ (l : List ℕ). state_in l end.room) (call.numbers ∙ sym fed.numbers)
      ∙ state-back end begin (run-sized (edge no_sheet front) stream (record { long = none-tidy.long; wide = wide }))

  -- The answer is 18 for more than 10,000 entries, else 0;
  pub stream-answer : r ≡ many_refusal (too_many stream)
  stream-answer = call.answer ∙ sym fed.answer ∙ ap many_refusal (many-told front stream wide)

  -- and then the figures are the stream's sheet, and something of a length is known exactly where it is cut.
  pub stream-fed : length (entries_of stream) ≤ most_orders
      → (sheet_in feed' ≡ stream_sheet stream) × (ltb 0 (get_or feed' 26 0) ≡ is_cut stream)
  stream-fed few =
      let told = sheet-told front stream wide few in (
        ap (λ (s : State). s.done) said-state ∙ told.done,
        ap (λ (s : State). ltb 0 s.known) said-state ∙ told.cut,
      )
