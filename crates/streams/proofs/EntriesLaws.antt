-- Feeding a stream is counting its whole entries in turn and then feeding what is left, which is short.
use Rattle.std.specs.Prelude.{ℕ, zero, suc, ◌+◌, ◌≤◌, ◌<◌, min, ◌≡◌, refl, true, false, cond, List, [], ◌∷◌, ltb, eqb, length, take, drop}
use Rattle.std.proofs.Common.{sym, ap, ◌∙◌, arith, length-drop, take-append-drop, length-take-le, ltb-true, ltb-false, lt-ltb, eq-eqb, ne_eqb}
use borrow.Table.Steps.{cases}
use Rattle.sheet.specs.Sheet.{Sheet}
use Rattle.sheet.specs.Answered.{with_order}
use Rattle.streams.specs.Entries.{said, parts_by, parts_of}
use Rattle.streams.specs.Stream.{front_room, State, over, edge, within, byte, run}
use Rattle.streams.proofs.Kept.{kept_in, kept-length, kept-front}
use Rattle.streams.proofs.StreamLaws.{run-append, run-over, run_inside}

-- Entries counted in turn, until there are too many: the figures,
unfoldable pub count_all : Sheet → List (List ℕ) → Sheet
count_all d [] = d
count_all d (e ∷ es) = cond (over d) d (count_all (with_order d (take front_room e)) es)

-- and the room.
unfoldable pub kept_all : Sheet → List (List ℕ) → List ℕ → List ℕ
kept_all d [] room = room
kept_all d (e ∷ es) room = cond (over d) room (kept_all (with_order d (take front_room e)) es (kept_in room 0 e))

-- ---- an entry

-- Two bytes of a length.
after-length : (d : Sheet) (room : List ℕ) (high low : ℕ) (s : List ℕ) → over d ≡ false
    → run (edge d room) (high ∷ low ∷ s) ≡ run (within d (said high low) 0 room) s
unfolding byte
after-length d room high low s e = rw (e, e)

-- Bytes of an entry of a size, as many or fewer.
entry-run : (d : Sheet) (room : List ℕ) (size : ℕ) (x : List ℕ) → over d ≡ false → length x ≤ size → 1 ≤ length x
    → run (within d size 0 room) x ≡ within d size (length x) (kept_in room 0 x)
entry-run d room size x e h some =
    let f : eqb 0 size ≡ false = ne_eqb 0 size (λ q. omega arith) in
    let n : 0 + length x ≡ length x = omega arith in
    rw f (run_inside d size 0 room x some e (omega arith) ∙ ap (λ k. within d size k (kept_in room 0 x)) n)

-- A whole entry is counted, by its front.
settled : (d : Sheet) (room x : List ℕ) → front_room ≤ length room
    → within d (length x) (length x) (kept_in room 0 x) ≡ edge (with_order d (take front_room x)) (kept_in room 0 x)
settled d room x h =
    let f : eqb (length x) (length x) ≡ true = eq-eqb (length x) (length x) refl in
    let n : 0 + length x ≡ length x = omega arith in
    let front : take (min (length x) front_room) (kept_in room 0 x) ≡ take front_room x =
    ap (λ k. take (min k front_room) (kept_in room 0 x)) (sym n) ∙ kept-front room 0 x h in
    rw f (ap (λ e. edge (with_order d e) (kept_in room 0 x)) front)

whole_run : (d : Sheet) (room x : List ℕ) → front_room ≤ length room → over d ≡ false
    → run (within d (length x) 0 room) x ≡ edge (with_order d (take front_room x)) (kept_in room 0 x)
whole_run d room [] h e = refl
whole_run d room (b ∷ x) h e =
    entry-run d room (length (b ∷ x)) (b ∷ x) e (omega arith) (omega arith) ∙ settled d room (b ∷ x) h

entry-counted : (d : Sheet) (room : List ℕ) (high low : ℕ) (s : List ℕ) → front_room ≤ length room → over d ≡ false
    → said high low ≤ length s
    → run (edge d room) (high ∷ low ∷ s)
    ≡ run (edge (with_order d (take front_room (take (said high low) s))) (kept_in room 0 (take (said high low) s)))
    (drop (said high low) s)
entry-counted d room high low s h e fits =
    let size = said high low in
    let n : length (take size s) ≡ size = length-take-le size s fits in
    after-length d room high low s e
    ∙ ap (run (within d size 0 room)) (sym (take-append-drop size s))
    ∙ run-append (within d size 0 room) (take size s) (drop size s)
    ∙ ap (λ t. run t (drop size s))
    (ap (λ k. run (within d k 0 room) (take size s)) (sym n) ∙ whole_run d room (take size s) h e)

-- ---- a stream

parts-run : (n : ℕ) (s : List ℕ) → length s ≤ n → (d : Sheet) (room : List ℕ) → front_room ≤ length room
    → run (edge d room) s
    ≡ run (edge (count_all d (parts_by n s).whole) (kept_all d (parts_by n s).whole room)) (parts_by n s).rest
unfolding parts_by count_all kept_all
parts-run zero s h d room long = refl
parts-run (suc n) [] h d room long = refl
parts-run (suc n) (b ∷ []) h d room long = refl
parts-run (suc n) (b ∷ l ∷ s) h d room long = cases (ltb (length s) (said b l))
    (λ t. rw t)
    (λ t. let fits : said b l ≤ length s = ltb-false (length s) (said b l) t in
    cases (over d)
    (λ o. run-over (edge d room) (b ∷ l ∷ s) o
    ∙ rw (t, o) (sym (run-over (edge d room) (parts_by n (drop (said b l) s)).rest o)))
    (λ o. let kept = kept_in room 0 (take (said b l) s) in
    entry-counted d room b l s long o fits
    ∙ rw (t, o)
    (parts-run n (drop (said b l) s) (omega (arith, length-drop (said b l) s))
    (with_order d (take front_room (take (said b l) s))) kept
    (omega (arith, kept-length room 0 (take (said b l) s))))))

pub feeding-is : (d : Sheet) (room s : List ℕ) → front_room ≤ length room
    → run (edge d room) s ≡ run (edge (count_all d (parts_of s).whole) (kept_all d (parts_of s).whole room)) (parts_of s).rest
unfolding parts_of
feeding-is d room s long = parts-run (length s) s (omega arith) d room long

-- ---- what is left counts nothing, and is seen in the state

-- What is left is no byte, one, or a length and less than it says.
pub data Short : List ℕ → Type 0 where
  ended : Short []
  half : {high : ℕ} → Short (high ∷ [])
  within-entry : {high low : ℕ} {s : List ℕ} → length s < said high low → Short (high ∷ low ∷ s)

parts-short : (n : ℕ) (s : List ℕ) → length s ≤ n → Short (parts_by n s).rest
unfolding parts_by
parts-short zero [] h = ended
parts-short zero (b ∷ s) h = absurd (omega arith)
parts-short (suc n) [] h = ended
parts-short (suc n) (b ∷ []) h = half
parts-short (suc n) (b ∷ l ∷ s) h = cases (ltb (length s) (said b l))
    (λ t. rw t (within-entry (ltb-true (length s) (said b l) t)))
    (λ t. rw t (parts-short n (drop (said b l) s) (omega (arith, length-drop (said b l) s))))

pub rest-short : (s : List ℕ) → Short (parts_of s).rest
unfolding parts_of
rest-short s = parts-short (length s) s (omega arith)

-- A state that says figures, and is at an edge exactly where nothing is left.
pub record Tells (d : Sheet) (rest : List ℕ) (s : State) : Type 0 where
  pub done : s.done ≡ d
  pub cut : ltb 0 s.known ≡ ltb 0 (length rest)

rest-run : (d : Sheet) (room rest : List ℕ) → over d ≡ false → Short rest → Tells d rest (run (edge d room) rest)
unfolding byte
rest-run d room [] o ended = record { done = refl; cut = refl }
rest-run d room (h ∷ []) o half = rw o (record { done = refl; cut = refl })
rest-run d room (h ∷ l ∷ []) o (within-entry less) =
    let e : eqb 0 (said h l) ≡ false = ne_eqb 0 (said h l) (λ q. omega arith) in
    rw (o, o, e) (record { done = refl; cut = refl })
rest-run d room (h ∷ l ∷ b ∷ s) o (within-entry less) =
    let e : eqb (length (b ∷ s)) (said h l) ≡ false = ne_eqb (length (b ∷ s)) (said h l) (λ q. omega arith) in
    let ran : run (edge d room) (h ∷ l ∷ b ∷ s)
    ≡ record { done = d; known = 2; size = said h l; got = length (b ∷ s); room = kept_in room 0 (b ∷ s) } =
    after-length d room h l (b ∷ s) o ∙ entry-run d room (said h l) (b ∷ s) o (omega arith) (omega arith) ∙ rw e in
    let more : ltb 0 (length (h ∷ l ∷ b ∷ s)) ≡ true = lt-ltb 0 (length (h ∷ l ∷ b ∷ s)) (omega arith) in
    record { done = ap (λ (s : State). s.done) ran; cut = ap (λ (s : State). ltb 0 s.known) ran ∙ sym more }

-- So after any stream that has not too many entries.
pub stream-tells : (d : Sheet) (room s : List ℕ) → front_room ≤ length room → over (count_all d (parts_of s).whole) ≡ false
    → Tells (count_all d (parts_of s).whole) (parts_of s).rest (run (edge d room) s)
stream-tells d room s long few =
    rw (feeding-is d room s long)
    (rest-run (count_all d (parts_of s).whole) (kept_all d (parts_of s).whole room) (parts_of s).rest few (rest-short s))
