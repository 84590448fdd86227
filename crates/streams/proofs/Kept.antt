-- What is kept of an entry's bytes in the room: its front, and the room as it was behind it.
use Rattle.std.specs.Prelude.{ℕ, suc, ◌+◌, ◌≤◌, ◌<◌, min, ◌≡◌, refl, cond, List, [], ◌∷◌, ◌++◌, ltb, length, set, take}
use Rattle.std.proofs.Common.{sym, ap, ◌∙◌, append_assoc, append-nil, arith, length-set, length-take, take_all, take-take, take-suc-set, ltb-true, ltb-false, lt-ltb, le-ltb}
use Rattle.std.proofs.lemmas.List.{take-append-le}
use borrow.Table.Steps.{cases}
use Rattle.streams.specs.Stream.{front_room, kept_byte}

-- The room after some bytes of an entry, behind as many as had come.
abbrev pub kept_in : List ℕ → ℕ → List ℕ → List ℕ
kept_in room got [] = room
kept_in room got (b ∷ x) = kept_in (kept_byte room got b) (got + 1) x

-- Bytes behind bytes.
pub kept_append : (room : List ℕ) (got : ℕ) (x y : List ℕ)
    → kept_in room got (x ++ y) ≡ kept_in (kept_in room got x) (got + length x) y
kept_append room got [] y = let e : got + 0 ≡ got = omega arith in rw e refl
kept_append room got (b ∷ x) y =
    let e : (got + 1) + length x ≡ got + length (b ∷ x) = omega arith in
    kept_append (kept_byte room got b) (got + 1) x y
    ∙ ap (λ n. kept_in (kept_in (kept_byte room got b) (got + 1) x) n y) e

-- A byte that is kept, and one that is not.
pub byte-kept : (room : List ℕ) (got b : ℕ) → got < front_room → kept_byte room got b ≡ set room got b
byte-kept room got b h = ap (λ t. cond t (set room got b) room) (lt-ltb got front_room h)

byte_left : (room : List ℕ) (got b : ℕ) → front_room ≤ got → kept_byte room got b ≡ room
byte_left room got b h = ap (λ t. cond t (set room got b) room) (le-ltb got front_room h)

-- With the front full nothing changes.
pub kept_full : (room : List ℕ) (got : ℕ) (x : List ℕ) → front_room ≤ got → kept_in room got x ≡ room
kept_full room got [] h = refl
kept_full room got (b ∷ x) h =
    ap (λ l. kept_in l (got + 1) x) (byte_left room got b h) ∙ kept_full room (got + 1) x (omega arith)

-- The room stays as long as it is.
byte-length : (room : List ℕ) (got b : ℕ) → length (kept_byte room got b) ≡ length room
byte-length room got b = cases (ltb got front_room) (λ t. rw t (length-set room got b)) (λ t. rw t refl)

pub kept-length : (room : List ℕ) (got : ℕ) (x : List ℕ) → length (kept_in room got x) ≡ length room
kept-length room got [] = refl
kept-length room got (b ∷ x) = kept-length (kept_byte room got b) (got + 1) x ∙ byte-length room got b

-- The front is that of what had come and the bytes behind it.
one-front : (room : List ℕ) (got b : ℕ) (x : List ℕ) → front_room ≤ length room
    → take front_room (take (got + 1) (kept_byte room got b) ++ x) ≡ take front_room (take got room ++ (b ∷ x))
one-front room got b x h = cases (ltb got front_room)
    (λ t. let less : got < front_room = ltb-true got front_room t in
    let one : got + 1 ≡ suc got = omega arith in
    ap (λ l. take front_room (take (got + 1) l ++ x)) (byte-kept room got b less)
    ∙ ap (λ n. take front_room (take n (set room got b) ++ x)) one
    ∙ ap (λ l. take front_room (l ++ x)) (take-suc-set room got b (omega arith))
    ∙ ap (take front_room) (append_assoc (take got room) (b ∷ []) x))
    (λ t. let full : front_room ≤ got = ltb-false got front_room t in
    ap (λ l. take front_room (take (got + 1) l ++ x)) (byte_left room got b full)
    ∙ full-front room (got + 1) x h (omega arith)
    ∙ sym (full-front room got (b ∷ x) h full))
  where
    full-front : (room : List ℕ) (n : ℕ) (x : List ℕ) → front_room ≤ length room → front_room ≤ n
        → take front_room (take n room ++ x) ≡ take front_room room
    full-front room n x h g =
        take-append-le front_room (take n room) x (omega (arith, length-take n room)) ∙ take-take front_room n room g

pub kept-front : (room : List ℕ) (got : ℕ) (x : List ℕ) → front_room ≤ length room
    → take (min (got + length x) front_room) (kept_in room got x) ≡ take front_room (take got room ++ x)
kept-front room got [] h = cases (ltb got front_room)
    (λ t. let less : got < front_room = ltb-true got front_room t in
    let m : min (got + 0) front_room ≡ got = omega arith in
    ap (λ n. take n room) m
    ∙ sym (take_all front_room (take got room) (omega (arith, length-take got room)))
    ∙ ap (take front_room) (sym (append-nil (take got room))))
    (λ t. let full : front_room ≤ got = ltb-false got front_room t in
    let m : min (got + 0) front_room ≡ front_room = omega arith in
    ap (λ n. take n room) m
    ∙ sym (take-take front_room got room full)
    ∙ ap (take front_room) (sym (append-nil (take got room))))
kept-front room got (b ∷ x) h =
    let e : got + length (b ∷ x) ≡ (got + 1) + length x = omega arith in
    ap (λ n. take (min n front_room) (kept_in room got (b ∷ x))) e
    ∙ kept-front (kept_byte room got b) (got + 1) x (omega (arith, byte-length room got b))
    ∙ one-front room got b x h
