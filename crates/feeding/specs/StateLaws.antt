-- What feeding keeps: every byte leaves figures and a room as long as they were, and a state, until there are too many entries.
use Rattle.std.specs.Prelude.{ℕ, zero, suc, ◌+◌, ◌≤◌, ◌<◌, ◌≡◌, refl, true, false, ltb, eqb, length, get_or}
use Rattle.std.proofs.Common.{sym, ◌∙◌, arith, ltb-true, ltb-false, le-leb, le-ltb, lt-ltb, eq-eqb, ne_eqb}
use Rattle.std.proofs.Math.Path.{ap}
use Rattle.std.proofs.Math.Bool.{and-eq-true_iff}
use mathlib.Core.List.{List, [], ◌∷◌, ◌++◌, append_assoc}
use Rattle.std.proofs.Math.ListN.{drop, length-append}
use Rattle.std.proofs.Math.Seq.{drop_at}
use Rattle.std.proofs.lemmas.List.{get_or_at}
use Rattle.std.proofs.lemmas.Bool.{eqb-false, lt-leb}
use borrow.Table.Steps.{cases}
use Rattle.packed.proofs.LayoutLaws.{AreBytes}
use Rattle.sheet.specs.Sheet.{Sheet, sum_count, most_orders, orders, numbers_of, sheet_in, no_sheet, one_order, fits, is_sheet}
use Rattle.sheet.specs.SheetLaws.{one-tidy}
use Rattle.sheet.specs.NumbersLaws.{sheet-in-front}
use Rattle.sheet.specs.FitsLaws.{join-fits, sheet-says, sheet-passes}
use Rattle.sheet.specs.Answered.{answered, with_order}
use Rattle.sheet.specs.AnsweredLaws.{answer-fits}
use Rattle.streams.specs.Entries.{said}
use Rattle.streams.specs.Stream.{front_room, feed_count, State, over, edge, within, kept_byte, byte, run, state_in, feed_over, part_fits, is_state}
use Rattle.streams.proofs.StreamLaws.{run-over}
use Rattle.streams.specs.Counting.{with-long}
use Rattle.streams.proofs.Kept.{kept-length}
use Rattle.feeding.specs.TakingLaws.{PartFitting, nothing, halfway, inner, state-says}

-- ---- lengths

-- As many sums as a sheet has, and room for a front.
pub record Sized (s : State) : Type 0 where
  pub long : length s.done.sums ≡ sum_count
  pub wide : front_room ≤ length s.room

within-sized : (d : Sheet) (size got : ℕ) (room : List ℕ) → length d.sums ≡ sum_count → front_room ≤ length room
    → Sized (within d size got room)
within-sized d size got room long wide = cases (eqb got size)
    (λ t. rw t (record { long = with-long d _ long; wide = wide }))
    (λ t. rw t (record { long = long; wide = wide }))

byte-sized : (s : State) (b : ℕ) → Sized s → Sized (byte s b)
unfolding byte
byte-sized s b h = cases (over s.done)
    (λ o. rw o h)
    (λ o. cases (eqb s.known 0)
    (λ t. rw (o, t) (record { long = h.long; wide = h.wide }))
    (λ t. cases (eqb s.known 1)
    (λ u. rw (o, t, u) (within-sized s.done (said s.size b) 0 s.room h.long h.wide))
    (λ u. rw (o, t, u)
    (within-sized s.done s.size (s.got + 1) (kept_byte s.room s.got b) h.long
    (omega (arith, h.wide, kept-length s.room s.got (b ∷ [])))))))

pub run-sized : (s : State) (x : List ℕ) → Sized s → Sized (run s x)
run-sized s [] h = h
run-sized s (b ∷ x) h = run-sized (byte s b) x (byte-sized s b h)

-- ---- states

part-passes : (known size got : ℕ) → PartFitting known size got → part_fits known size got ≡ true
part-passes known size got (nothing k s g) = rw (eq-eqb known 0 k, eq-eqb size 0 s, eq-eqb got 0 g)
part-passes known size got (halfway k s g) =
    rw (ne_eqb known 0 (λ q. omega arith), eq-eqb known 1 k, le-leb size 255 s, eq-eqb got 0 g)
part-passes known size got (inner k s g) =
    rw (ne_eqb known 0 (λ q. omega arith), ne_eqb known 1 (λ q. omega arith), eq-eqb known 2 k, le-leb size 65535 s, lt-ltb got size g)

state-passes : (s : State) → is_sheet s.done ≡ true → PartFitting s.known s.size s.got → is_state s ≡ true
unfolding is_state
state-passes s e p =
    (and-eq-true_iff (is_sheet s.done) (part_fits s.known s.size s.got)).1 (e, part-passes s.known s.size s.got p)

-- A sheet has not too many entries,
sheet-not-over : (d : Sheet) → is_sheet d ≡ true → over d ≡ false
unfolding over
sheet-not-over d e = le-ltb most_orders (orders d) (sheet-says d e).0

-- with one order more neither, or is none.
sheet-with : (d : Sheet) (bytes : List ℕ) → length d.sums ≡ sum_count → is_sheet d ≡ true → over (with_order d bytes) ≡ false
    → is_sheet (with_order d bytes) ≡ true
unfolding over with_order
sheet-with d bytes long e o =
    sheet-passes (with_order d bytes) (ltb-false most_orders (orders (with_order d bytes)) o)
    (join-fits d (one_order (answered bytes)) (long ∙ sym (one-tidy (answered bytes)).long) (sheet-says d e).1 (answer-fits bytes))

within-state : (d : Sheet) (size got : ℕ) (room : List ℕ) → length d.sums ≡ sum_count → is_sheet d ≡ true → size ≤ 65535 → got ≤ size
    → over (within d size got room).done ≡ false → is_state (within d size got room) ≡ true
within-state d size got room long e most come o = cases (eqb got size)
    (λ t. rw t (state-passes (edge (with_order d _) room) (sheet-with d _ long e (rw t at o)) (nothing refl refl refl)))
    (λ t. rw t
    (state-passes (record { done = d; known = 2; size = size; got = got; room = room }) e (inner refl most (less (eqb-false got size t)))))
  where
    less : (got ≡ size → ⊥) → got < size
    less q = cases (ltb got size)
        (λ u. ltb-true got size u)
        (λ u. let g : size ≤ got = ltb-false got size u in absurd (q (omega arith)))

byte-state : (s : State) (b : ℕ) → b < 256 → Sized s → is_state s ≡ true → over (byte s b).done ≡ false → is_state (byte s b) ≡ true
unfolding byte
byte-state s b small h e o = go (state-says s e).1
  where
    sheet : is_sheet s.done ≡ true
    sheet = (state-says s e).0

    not-over : over s.done ≡ false
    not-over = sheet-not-over s.done sheet

    go : PartFitting s.known s.size s.got → is_state (byte s b) ≡ true
    go (nothing k t g) =
        rw (not-over, eq-eqb s.known 0 k)
        (state-passes (record { done = s.done; known = 1; size = b; got = 0; room = s.room }) sheet (halfway refl (omega arith) refl))
    go (halfway k t g) =
        let zero-not = ne_eqb s.known 0 (λ q. omega arith) in
        let one = eq-eqb s.known 1 k in
        rw (not-over, zero-not, one)
        (within-state s.done (said s.size b) 0 s.room h.long sheet (omega arith) (omega arith) (rw (not-over, zero-not, one) at o))
    go (inner k t g) =
        let zero-not = ne_eqb s.known 0 (λ q. omega arith) in
        let one-not = ne_eqb s.known 1 (λ q. omega arith) in
        rw (not-over, zero-not, one-not)
        (within-state s.done s.size (s.got + 1) (kept_byte s.room s.got b) h.long sheet t (omega arith)
        (rw (not-over, zero-not, one-not) at o))

-- Any bytes leave a state, or too many entries.
pub run-state : (s : State) (x : List ℕ) → AreBytes x → Sized s → is_state s ≡ true → over (run s x).done ≡ false
    → is_state (run s x) ≡ true
run-state s [] small h e o = e
run-state s (b ∷ x) small h e o =
    run-state (byte s b) x (λ i. small (suc i)) (byte-sized s b h) (byte-state s b (small zero) h e still) o
  where
    still : over (byte s b).done ≡ false
    still = cases (over (byte s b).done)
        (λ t. sym (ap (λ (r : State). over r.done) (run-over (byte s b) x t)) ∙ o)
        (λ t. t)

-- Too many entries are no state.
pub over-no-state : (s : State) → over s.done ≡ true → is_state s ≡ false
unfolding over is_state is_sheet
over-no-state s o = rw (lt-leb (orders s.done) most_orders (ltb-true most_orders (orders s.done) o))

-- The beginning, with any room, is a state.
pub begin-state : (room : List ℕ) → is_state (edge no_sheet room) ≡ true
unfolding no_sheet is_state is_sheet fits
begin-state room = refl

-- ---- a state's numbers

module _ (s : State) (l : List ℕ) (h : Sized s) where
  front_long : length (numbers_of s.done) ≡ 26
  front_long = omega (arith, h.long, length-append s.done.sums (s.done.top ∷ s.done.place ∷ []))

  -- They say the state,
  pub state-back : state_in (feed_over s l) s.room ≡ s
  unfolding feed_over
  state-back = λ i. record { done = sheet i; known = known i; size = size i; got = got i; room = s.room }
    where
      sheet : sheet_in (numbers_of s.done ++ (s.known ∷ s.size ∷ s.got ∷ drop feed_count l)) ≡ s.done
      sheet =
          ap (λ (m : List ℕ). sheet_in m)
          (append_assoc s.done.sums (s.done.top ∷ s.done.place ∷ []) (s.known ∷ s.size ∷ s.got ∷ drop feed_count l))
          ∙ sheet-in-front s.done h.long (s.known ∷ s.size ∷ s.got ∷ drop feed_count l)

      known : get_or (numbers_of s.done ++ (s.known ∷ s.size ∷ s.got ∷ drop feed_count l)) 26 0 ≡ s.known
      known = get_or_at (numbers_of s.done) s.known (s.size ∷ s.got ∷ drop feed_count l) 0 26 front_long

      size : get_or (numbers_of s.done ++ (s.known ∷ s.size ∷ s.got ∷ drop feed_count l)) 27 0 ≡ s.size
      size =
          ap (λ (m : List ℕ). get_or m 27 0) (sym (append_assoc (numbers_of s.done) (s.known ∷ []) (s.size ∷ s.got ∷ drop feed_count l)))
          ∙ get_or_at (numbers_of s.done ++ (s.known ∷ [])) s.size (s.got ∷ drop feed_count l) 0 27
          (omega (arith, front_long, length-append (numbers_of s.done) (s.known ∷ [])))

      got : get_or (numbers_of s.done ++ (s.known ∷ s.size ∷ s.got ∷ drop feed_count l)) 28 0 ≡ s.got
      got =
          ap (λ (m : List ℕ). get_or m 28 0) (sym (append_assoc (numbers_of s.done) (s.known ∷ s.size ∷ []) (s.got ∷ drop feed_count l)))
          ∙ get_or_at (numbers_of s.done ++ (s.known ∷ s.size ∷ [])) s.got (drop feed_count l) 0 28
          (omega (arith, front_long, length-append (numbers_of s.done) (s.known ∷ s.size ∷ [])))

  -- are enough,
  pub over-long : feed_count ≤ length (feed_over s l)
  unfolding feed_over
  over-long =
      omega (arith, front_long, length-append (numbers_of s.done) (s.known ∷ s.size ∷ s.got ∷ drop feed_count l))

  -- and what lies behind stays.
  over-rest : drop feed_count (feed_over s l) ≡ drop feed_count l
  unfolding feed_over
  over-rest =
      ap (drop feed_count) (sym (append_assoc (numbers_of s.done) (s.known ∷ s.size ∷ s.got ∷ []) (drop feed_count l)))
      ∙ drop_at (numbers_of s.done ++ (s.known ∷ s.size ∷ s.got ∷ [])) (drop feed_count l) feed_count
      (omega (arith, front_long, length-append (numbers_of s.done) (s.known ∷ s.size ∷ s.got ∷ [])))

  -- So one state's over another's are its own.
  pub over-twice : (t : State) → feed_over t (feed_over s l) ≡ feed_over t l
  unfolding feed_over
  over-twice t = ap (λ (m : List ℕ). numbers_of t.done ++ (t.known ∷ t.size ∷ t.got ∷ m)) over-rest
