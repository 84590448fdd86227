-- Repeats in sequence: which of two comes before the other, that a sorted list is fixed by its members, and that sorting gives
-- such a list with the same members, as many of them, and the same sums over them.
use Rattle.std.specs.Prelude.{ℕ, ◌+◌, ◌<◌, ◌≡◌, refl, true, false, ◌⊎◌, ◌↔◌, ◌≢◌, ltb, eqb, length}
use Rattle.std.proofs.Common.{sym, ap, ◌∙◌, inl, inr, ⊎_elim, arith, ltb-true, lt-ltb, le-ltb, eqb-true, eq-eqb, ltb-false}
use Rattle.std.proofs.lemmas.Bool.{false≢true}
use mathlib.Core.List.Memᴰ
use mathlib.Core.List.{List, [], ◌∷◌, ◌++◌, Memᴰ}
use borrow.Table.Steps.{cases}
use Rattle.frames.specs.Frames.{Repeat, before, insert, sorted}

-- ---- which comes first

-- It is ready earlier; or as early, and its job was given before.
pub data Comes (a b : Repeat) : Type 0 where
  earlier : a.ready < b.ready → Comes a b
  given : a.ready ≡ b.ready → a.place < b.place → Comes a b

-- The test says so.
pub comes-is : (a b : Repeat) → before a b ≡ true ↔ Comes a b
comes-is a b = (there, back)
  where
    there : before a b ≡ true → Comes a b
    there e = cases (ltb a.ready b.ready) (λ l. earlier (ltb-true _ _ l))
        (λ l. cases (eqb a.ready b.ready)
        (λ s. cases (ltb a.place b.place) (λ p. given (eqb-true _ _ s) (ltb-true _ _ p))
        (λ p. absurd (false≢true (rw (l, s, p) at e))))
        (λ s. absurd (false≢true (rw (l, s) at e))))

    back : Comes a b → before a b ≡ true
    back (earlier l) = rw (lt-ltb a.ready b.ready l)
    back (given s p) =
        rw (le-ltb a.ready b.ready (omega arith), eq-eqb a.ready b.ready s, lt-ltb a.place b.place p)

pub comes-then : {a b c : Repeat} → Comes a b → Comes b c → Comes a c
comes-then (earlier l) (earlier m) = earlier (omega arith)
comes-then (earlier l) (given s p) = earlier (omega arith)
comes-then (given s p) (earlier m) = earlier (omega arith)
comes-then (given s p) (given t q) = given (s ∙ t) (omega arith)

-- Never both ways, and so never before itself.
pub comes-once : {a b : Repeat} → Comes a b → Comes b a → ⊥
comes-once (earlier l) (earlier m) = omega arith
comes-once (earlier l) (given s p) = omega arith
comes-once (given s p) (earlier m) = omega arith
comes-once (given s p) (given t q) = omega arith

repeat-path : {a b : Repeat} → a.place ≡ b.place → a.ready ≡ b.ready → a ≡ b
repeat-path p r = λ i. record { place = p i; ready = r i }

-- One of two repeats comes first, unless they are one.
pub comes-else : (a b : Repeat) → before b a ≡ false → a ≢ b → Comes a b
comes-else a b e other = cases (ltb a.ready b.ready) (λ l. earlier (ltb-true _ _ l))
    (λ l. cases (ltb a.place b.place) (λ p. given (same l) (ltb-true _ _ p))
    (λ p. absurd (other (repeat-path (place l p) (same l)))))
  where
    not : ¬ Comes b a
    not c = false≢true (sym e ∙ (comes-is b a).1 c)

    same : ltb a.ready b.ready ≡ false → a.ready ≡ b.ready
    same l =
        let no : ¬ (b.ready < a.ready) = λ k. not (earlier k) in
        let h = ltb-false a.ready b.ready l in
        omega arith

    place : ltb a.ready b.ready ≡ false → ltb a.place b.place ≡ false → a.place ≡ b.place
    place l p =
        let no : ¬ (b.place < a.place) = λ k. not (given (sym (same l)) k) in
        let h = ltb-false a.place b.place p in
        omega arith

-- ---- sorted lists

-- Each repeat comes before all those behind it.
pub data Sorted : List Repeat → Type 0 where
  empty : Sorted []
  leads : {a : Repeat} {l : List Repeat} → ((b : Repeat) → Memᴰ b l → Comes a b) → Sorted l → Sorted (a ∷ l)

-- The same repeats stand in both.
abbrev pub SameMembers : List Repeat → List Repeat → Type 0
SameMembers l m = (a : Repeat) → Memᴰ a l ↔ Memᴰ a m

-- Sorted lists with the same members are one.
pub sorted-one : (l m : List Repeat) → Sorted l → Sorted m → SameMembers l m → l ≡ m
sorted-one [] [] s t same = refl
sorted-one [] (b ∷ m) s t same = absurd (Memᴰ.not-nil ((same b).1 (Memᴰ.head refl)))
sorted-one (a ∷ l) [] s t same = absurd (Memᴰ.not-nil ((same a).0 (Memᴰ.head refl)))
sorted-one (a ∷ l) (b ∷ m) (leads f s) (leads g t) same =
    let first : a ≡ b = heads ((same a).0 (Memᴰ.head refl)) ((same b).1 (Memᴰ.head refl)) in
    let further : l ≡ m =
    sorted-one l m s t (λ c. (λ h. to c first h ((same c).0 (Memᴰ.tail h)), λ h. back c first h ((same c).1 (Memᴰ.tail h)))) in
    λ i. first i ∷ further i
  where
    heads : Memᴰ a (b ∷ m) → Memᴰ b (a ∷ l) → a ≡ b
    heads (Memᴰ.head e) k = e
    heads (Memᴰ.tail h) (Memᴰ.head e) = sym e
    heads (Memᴰ.tail h) (Memᴰ.tail k) = absurd (comes-once (g a h) (f b k))

    to : (c : Repeat) → a ≡ b → Memᴰ c l → Memᴰ c (b ∷ m) → Memᴰ c m
    to c e h (Memᴰ.head d) = let own : Comes a a = rw (d ∙ sym e) at (f c h) in absurd (comes-once own own)
    to c e h (Memᴰ.tail k) = k

    back : (c : Repeat) → a ≡ b → Memᴰ c m → Memᴰ c (a ∷ l) → Memᴰ c l
    back c e h (Memᴰ.head d) = let own : Comes b b = rw (d ∙ e) at (g c h) in absurd (comes-once own own)
    back c e h (Memᴰ.tail k) = k

-- ---- sorting

-- No repeat stands twice.
pub data Unlike : List Repeat → Type 0 where
  empty : Unlike []
  unlike : {a : Repeat} {l : List Repeat} → ¬ Memᴰ a l → Unlike l → Unlike (a ∷ l)

-- What is inserted is a member, and so are the others.
insert-to : (a : Repeat) (l : List Repeat) (c : Repeat) → Memᴰ c (insert a l) → (c ≡ a) ⊎ Memᴰ c l
insert-to a [] c (Memᴰ.head e) = inl e
insert-to a [] c (Memᴰ.tail h) = inr h
insert-to a (b ∷ l) c h = cases (before b a) (λ e. behind (insert-to a l c) (rw e at h)) (λ e. front (rw e at h))
  where
    front : Memᴰ c (a ∷ b ∷ l) → (c ≡ a) ⊎ Memᴰ c (b ∷ l)
    front (Memᴰ.head e) = inl e
    front (Memᴰ.tail k) = inr k

    behind : (Memᴰ c (insert a l) → (c ≡ a) ⊎ Memᴰ c l) → Memᴰ c (b ∷ insert a l)
        → (c ≡ a) ⊎ Memᴰ c (b ∷ l)
    behind further (Memᴰ.head e) = inr (Memᴰ.head e)
    behind further (Memᴰ.tail k) = ⊎_elim inl (λ m. inr (Memᴰ.tail m)) (further k)

insert-own : (a : Repeat) (l : List Repeat) → Memᴰ a (insert a l)
insert-own a [] = Memᴰ.head refl
insert-own a (b ∷ l) = cases (before b a) (λ e. rw e (Memᴰ.tail (insert-own a l))) (λ e. rw e (Memᴰ.head refl))

insert-other : (a : Repeat) (l : List Repeat) {c : Repeat} → Memᴰ c l → Memᴰ c (insert a l)
insert-other a [] {c = c} x' = elim x' [ ]
insert-other a (b ∷ l) {c} (Memᴰ.head e) =
    cases (before b a) (λ t. rw t (Memᴰ.head e)) (λ t. rw t (Memᴰ.tail (Memᴰ.head e)))
insert-other a (b ∷ l) {c} (Memᴰ.tail m) =
    cases (before b a) (λ t. rw t (Memᴰ.tail (insert-other a l m))) (λ t. rw t (Memᴰ.tail (Memᴰ.tail m)))

-- Inserted into a sorted list in which it does not stand, a repeat leaves it sorted.
insert-sorted : (a : Repeat) (l : List Repeat) → ¬ Memᴰ a l → Sorted l → Sorted (insert a l)
insert-sorted a [] new empty = leads (λ c m. absurd (Memᴰ.not-nil m)) empty
insert-sorted a (b ∷ l) new (leads f s) = cases (before b a)
    (λ e. rw e (leads (λ c m. ⊎_elim (λ (d : c ≡ a). rw d ((comes-is b a).0 e)) (f c) (insert-to a l c m))
    (insert-sorted a l (λ m. new (Memᴰ.tail m)) s)))
    (λ e. let first : Comes a b = comes-else a b e (λ d. new (Memᴰ.head d)) in
    rw e (leads (λ c m. ⊎_elim (λ (d : c ≡ b). rw d first) (λ k. comes-then first (f c k)) (Memᴰ.cases_cons m)) (leads f s)))

-- Sorting keeps the members,
pub sorted-members : (l : List Repeat) → SameMembers (sorted l) l
sorted-members [] c = (λ m. m, λ m. m)
sorted-members (a ∷ l) c =
    let ih = sorted-members l c in (
      λ m. ⊎_elim (λ (e : c ≡ a). Memᴰ.head e) (λ k. Memᴰ.tail (ih.0 k)) (insert-to a (sorted l) c m),
      λ m. ⊎_elim (λ (e : c ≡ a). Memᴰ.cast e (insert-own a (sorted l))) (λ k. insert-other a (sorted l) (ih.1 k))
          (Memᴰ.cases_cons m),
    )

-- and sorts them.
pub sorted-sorts : (l : List Repeat) → Unlike l → Sorted (sorted l)
sorted-sorts [] empty = empty
sorted-sorts (a ∷ l) (unlike new u) =
    insert-sorted a (sorted l) (λ m. new ((sorted-members l a).0 m)) (sorted-sorts l u)

-- ---- sums over repeats

abbrev pub tally : (Repeat → ℕ) → List Repeat → ℕ
tally f [] = 0
tally f (a ∷ l) = f a + tally f l

insert-tally : (f : Repeat → ℕ) (a : Repeat) (l : List Repeat) → tally f (insert a l) ≡ f a + tally f l
insert-tally f a [] = refl
insert-tally f a (b ∷ l) = cases (before b a)
    (λ e. let ih = insert-tally f a l in rw e (omega arith)) (λ e. rw e)

-- Sorting keeps them,
pub sorted-tally : (f : Repeat → ℕ) (l : List Repeat) → tally f (sorted l) ≡ tally f l
sorted-tally f [] = refl
sorted-tally f (a ∷ l) = insert-tally f a (sorted l) ∙ ap (λ (n : ℕ). f a + n) (sorted-tally f l)

-- lists put together add them,
pub tally-append : (f : Repeat → ℕ) (l m : List Repeat) → tally f (l ++ m) ≡ tally f l + tally f m
tally-append f [] m = omega arith
tally-append f (a ∷ l) m = let ih = tally-append f l m in omega arith

-- and the number of repeats is one of them.
pub tally-length : (l : List Repeat) → tally (λ a. 1) l ≡ length l
tally-length [] = refl
tally-length (a ∷ l) = let ih = tally-length l in omega arith
