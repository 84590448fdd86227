-- A state in numbers: which numbers are a state's, a state written back over them, and what the call of feeding answers by its checks.
use Rattle.std.specs.Prelude.{ℕ, ◌≤◌, ◌<◌, ◌≡◌, Bool, true, false, ◌&&◌, List, [], ◌∷◌, ◌++◌, leb, ltb, eqb, ℤ, length, get_or, take, drop, set, Result, Err, ⊤}
use Rattle.refusals.specs.declared.Reason.{Reason}
use Rattle.refusals.specs.declared.Reason.TheVariants.{BufferTooShort, NoSheet}
use Rattle.std.proofs.Common.{sym, ap, ◌∙◌, append_assoc, arith, length-append, take-append-drop, drop-cons, drop-drop, take-add, length-take-le}
use Rattle.std.proofs.Math.Bool.{and-eq-true_iff}
use Rattle.std.proofs.lemmas.List.{set_at}
use borrow.Author.Tests.{leb-true, ltb-true, ltb-false, eqb-true, le-leb, lt-leb}
use borrow.Table.Steps.{cases}
use Rattle.area.specs.Area.{area, cleared}
use Rattle.area.specs.Clearing.{cleared-same}
use Rattle.sheet.specs.Sheet.{figure_count, most_orders, orders, numbers_of, sheet_in, fits, is_sheet}
use Rattle.streams.specs.Stream.{front_room, feed_count, State, over, run, state_in, feed_over, part_fits, is_state}
use Rattle.feeding.specs.declared.Part.{Part}
use Rattle.feeding.specs.Feeding.{seen, part_in, put_part, Sound, Fed, CanPut, Taken}
use Rattle.feeding.specs.Calls.{many_refusal}
use Rattle.feeding.specs.Calls.{feed_fits, feed_refusal, feed_after, front_after, feed_work_after, FeedCall}

-- ---- which numbers are a state's

-- Nothing of a length, half of one, or all of it and less than it says.
pub data PartFitting (known size got : ℕ) : Type 0 where
  nothing : known ≡ 0 → size ≡ 0 → got ≡ 0 → PartFitting known size got
  halfway : known ≡ 1 → size ≤ 255 → got ≡ 0 → PartFitting known size got
  inner : known ≡ 2 → size ≤ 65535 → got < size → PartFitting known size got

both : (a b : Bool) → (a && b) ≡ true → (a ≡ true) × (b ≡ true)
both a b e = (and-eq-true_iff a b).0 e

pub part_says : (known size got : ℕ) → part_fits known size got ≡ true → PartFitting known size got
part_says known size got e = cases (eqb known 0)
    (λ z. let h = both (eqb size 0) (eqb got 0) (rw z at e) in
    nothing (eqb-true known 0 z) (eqb-true size 0 h.0) (eqb-true got 0 h.1))
    (λ z. cases (eqb known 1)
    (λ o. let h = both (leb size 255) (eqb got 0) (rw (z, o) at e) in
    halfway (eqb-true known 1 o) (leb-true size 255 h.0) (eqb-true got 0 h.1))
    (λ o. let h = both (eqb known 2) (leb size 65535 && ltb got size) (rw (z, o) at e) in
    let g = both (leb size 65535) (ltb got size) h.1 in
    inner (eqb-true known 2 h.0) (leb-true size 65535 g.0) (ltb-true got size g.1)))

pub state-says : (s : State) → is_state s ≡ true → (is_sheet s.done ≡ true) × PartFitting s.known s.size s.got
unfolding is_state
state-says s e =
    let h = both (is_sheet s.done) (part_fits s.known s.size s.got) e in
    (h.0, part_says s.known s.size s.got h.1)

-- A state is sound.
pub state-sound : (p : Part) (figures room : List ℕ) → figure_count ≤ length figures → front_room ≤ length room
    → is_state (seen p figures room) ≡ true → Sound p figures room
unfolding is_sheet
state-sound p figures room long wide e =
    let h = state-says (seen p figures room) e in
    let g = both (leb (orders (sheet_in figures)) most_orders) (fits (sheet_in figures)) h.0 in
    by h.1 (leb-true (orders (sheet_in figures)) most_orders g.0) g.1
  where
    by : PartFitting p.known p.size p.got → orders (sheet_in figures) ≤ most_orders → fits (sheet_in figures) ≡ true
        → Sound p figures room
    by (nothing k s z) few fit =
        record {
          long = long;
          wide = wide;
          fitting = fit;
          count = omega arith;
          most = omega arith;
          few = omega arith;
          half = λ q. omega arith;
          idle = λ q. z;
          inside = λ q. omega arith;
        }
    by (halfway k s z) few fit =
        record {
          long = long;
          wide = wide;
          fitting = fit;
          count = omega arith;
          most = omega arith;
          few = omega arith;
          half = λ q. omega arith;
          idle = λ q. z;
          inside = λ q. omega arith;
        }
    by (inner k s z) few fit =
        record {
          long = long;
          wide = wide;
          fitting = fit;
          count = omega arith;
          most = omega arith;
          few = omega arith;
          half = λ q. omega arith;
          idle = λ q. omega arith;
          inside = λ q. z;
        }

-- Numbers can hold a sound state's.
pub sound-put : (p : Part) (feed room : List ℕ) → Sound p feed room → feed_count ≤ length feed → CanPut feed p
sound-put p feed room s long = record { long = long; size_small = omega (arith, s.most); got-small = omega (arith, few) }
  where
    few : p.got < 65536
    few = cases (ltb 1 p.known)
        (λ t. omega (arith, s.inside (ltb-true 1 p.known t), s.most))
        (λ t. omega (arith, s.idle (ltb-false 1 p.known t)))

-- ---- a state written back

-- Numbers begin with their sheet's.
numbers-front : (l : List ℕ) → figure_count ≤ length l → numbers_of (sheet_in l) ≡ take figure_count l
numbers-front l h =
    let two : drop 24 l ≡ get_or l 24 0 ∷ get_or l 25 0 ∷ drop 26 l =
    drop-cons l 24 0 (omega arith) ∙ ap (λ (x : List ℕ). get_or l 24 0 ∷ x) (drop-cons l 25 0 (omega arith)) in
    sym (take-add 24 2 l ∙ ap (λ (x : List ℕ). take 24 l ++ take 2 x) two)

-- Three numbers put behind so many.
set-three : (l : List ℕ) (x y z : ℕ) (r : List ℕ) (a b c : ℕ) → length l ≡ 26
    → set (set (set (l ++ (x ∷ y ∷ z ∷ r)) 26 a) 27 b) 28 c ≡ l ++ (a ∷ b ∷ c ∷ r)
set-three l x y z r a b c e =
    ap (λ (m : List ℕ). set (set m 27 b) 28 c) (set_at l x (y ∷ z ∷ r) a 26 e ∙ sym (append_assoc l (a ∷ []) (y ∷ z ∷ r)))
    ∙ ap (λ (m : List ℕ). set m 28 c)
    (set_at (l ++ (a ∷ [])) y (z ∷ r) b 27 (omega (arith, length-append l (a ∷ [])))
    ∙ append_assoc l (a ∷ []) (b ∷ z ∷ r)
    ∙ sym (append_assoc l (a ∷ b ∷ []) (z ∷ r)))
    ∙ set_at (l ++ (a ∷ b ∷ [])) z r c 28 (omega (arith, length-append l (a ∷ b ∷ [])))
    ∙ append_assoc l (a ∷ b ∷ []) (c ∷ r)

put_is : (l : List ℕ) (p : Part) (room : List ℕ) → feed_count ≤ length l → put_part l p ≡ feed_over (seen p l room) l
unfolding feed_over
put_is l p room h =
    let three : drop 26 l ≡ get_or l 26 0 ∷ get_or l 27 0 ∷ get_or l 28 0 ∷ drop 29 l =
    drop-cons l 26 0 (omega arith)
    ∙ ap (λ (x : List ℕ). get_or l 26 0 ∷ x)
    (drop-cons l 27 0 (omega arith) ∙ ap (λ (x : List ℕ). get_or l 27 0 ∷ x) (drop-cons l 28 0 (omega arith))) in
    let split : l ≡ take 26 l ++ (get_or l 26 0 ∷ get_or l 27 0 ∷ get_or l 28 0 ∷ drop 29 l) =
    sym (take-append-drop 26 l) ∙ ap (λ (x : List ℕ). take 26 l ++ x) three in
    ap (λ (m : List ℕ). set (set (set m 26 p.known) 27 p.size) 28 p.got) split
    ∙ set-three (take 26 l) (get_or l 26 0) (get_or l 27 0) (get_or l 28 0) (drop 29 l) p.known p.size p.got
    (length-take-le 26 l (omega arith))
    ∙ ap (λ (m : List ℕ). m ++ (p.known ∷ p.size ∷ p.got ∷ drop 29 l)) (sym (numbers-front l (omega arith)))

-- All on which it depends is behind.
over-same : (s : State) (old new : List ℕ) → drop figure_count new ≡ drop figure_count old → feed_over s new ≡ feed_over s old
unfolding feed_over
over-same s old new e =
    let behind : drop feed_count new ≡ drop feed_count old = sym (drop-drop 3 26 new) ∙ ap (drop 3) e ∙ drop-drop 3 26 old in
    ap (λ (l : List ℕ). numbers_of s.done ++ (s.known ∷ s.size ∷ s.got ∷ l)) behind

-- What a piece fed leaves, and the numbers put back, are the new state's.
pub taken-by : (feed front piece : List ℕ) (work : List ℤ) → feed_count ≤ length feed
    → (begun : Part) → begun ≡ part_in feed
    → (part : Part) (feed₁ front₁ : List ℕ) (work₁ : List ℤ) → Fed begun feed front piece work part feed₁ front₁ work₁
    → length feed₁ ≡ length feed → (many : Bool) → many ≡ over (sheet_in feed₁) → (feed₂ : List ℕ) → feed₂ ≡ put_part feed₁ part
    → (work₂ : List ℤ) → work₂ ≡ cleared work₁ → (r : Result ⊤ Reason) → r ≡ many_refusal many
    → Taken feed front piece work r feed₂ front₁ work₂
taken-by feed front piece work long begun b part feed₁ front₁ work₁ fed same many m feed₂ put work₂ clean r e =
    let ran : seen part feed₁ front₁ ≡ run (state_in feed front) piece =
    fed.state ∙ ap (λ (p : Part). run (seen p feed front) piece) b in
    record {
      answer = e ∙ ap many_refusal (m ∙ ap (λ (s : State). over s.done) ran);
      numbers =
          put
          ∙ put_is feed₁ part front₁ (omega arith)
          ∙ ap (λ (s : State). feed_over s feed₁) ran
          ∙ over-same (run (state_in feed front) piece) feed feed₁ fed.behind;
      room = ap (λ (s : State). s.room) ran;
      cleaned = clean ∙ cleared-same work work₁ fed.beyond;
    }

-- ---- the call, by its checks

module _ (feed front piece : List ℕ) (work : List ℤ) where
  no_room : feed_fits feed front work ≡ false → FeedCall feed front piece work (Err BufferTooShort) feed front work
  unfolding feed_refusal feed_after front_after feed_work_after
  no_room e = record { answer = rw e; numbers = rw e; room = rw e; cleaned = rw e }

  pub numbers-short : length feed < feed_count → FeedCall feed front piece work (Err BufferTooShort) feed front work
  unfolding feed_fits
  numbers-short h = no_room (rw (lt-leb feed_count (length feed) h))

  module _ (long : feed_count ≤ length feed) where
    pub front-short : length front < front_room → FeedCall feed front piece work (Err BufferTooShort) feed front work
    unfolding feed_fits
    front-short h =
        no_room (rw (le-leb feed_count (length feed) long, lt-leb front_room (length front) h))

    module _ (wide : front_room ≤ length front) where
      pub area-short : length work < area → FeedCall feed front piece work (Err BufferTooShort) feed front work
      unfolding feed_fits
      area-short h =
          no_room (rw (le-leb feed_count (length feed) long, le-leb front_room (length front) wide, lt-leb area (length work) h))

      module _ (space : area ≤ length work) where
        has_room : feed_fits feed front work ≡ true
        unfolding feed_fits
        has_room =
            rw (le-leb feed_count (length feed) long, le-leb front_room (length front) wide, le-leb area (length work) space)

        pub no-state : is_state (state_in feed front) ≡ false → FeedCall feed front piece work (Err NoSheet) feed front work
        unfolding feed_refusal feed_after front_after feed_work_after
        no-state e =
            record {
              answer = rw (has_room, e);
              numbers = rw (has_room, e);
              room = rw (has_room, e);
              cleaned = rw (has_room, e);
            }

        pub piece-taken : is_state (state_in feed front) ≡ true → (r : Result ⊤ Reason) (feed' front' : List ℕ) (work' : List ℤ)
            → Taken feed front piece work r feed' front' work' → FeedCall feed front piece work r feed' front' work'
        unfolding feed_refusal feed_after front_after feed_work_after
        piece-taken e r feed' front' work' t =
            record {
              answer = rw (has_room, e) t.answer;
              numbers = rw (has_room, e) t.numbers;
              room = rw (has_room, e) t.room;
              cleaned = rw (has_room, e) t.cleaned;
            }
