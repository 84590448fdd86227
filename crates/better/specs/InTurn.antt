-- The points of two rising lists in turn: the earlier first, and at one time the heavier first. So taken they are in order,
-- and give what both lists give.
use Rattle.std.specs.Prelude.{◌≡◌, refl, Bool, true, false, cond, ◌||◌, ◌&&◌, List, [], ◌∷◌, ◌++◌, ◌⊎◌, leb, ◌<ℤ◌}
use Rattle.std.proofs.Common.{inl, inr, ⊎_elim}
use Rattle.std.specs.Int.Signed.{le_z, lt_z}
use Rattle.seconds.specs.Signed.{signed}
use Rattle.order.specs.Job.{Point}
use Rattle.order.specs.Given.{Covers, Given, here, there, Same}
use Rattle.order.proofs.GivenLaws.{given-either, given-left, given-right}
use Rattle.profile.specs.Profile.{covers}
use Rattle.profile.proofs.Rising.{BelowAll, below_none, below_more, Rising, rising_none, rising-more}

-- ---- the definitions

-- A point goes before another if it is earlier or covers it.
abbrev pub goes_first : Point → Point → Bool
goes_first p q = lt_z p.time q.time || covers p q

-- A point, and what follows it, among other points.
abbrev pub among : Point → (List Point → List Point) → List Point → List Point
among p further [] = p ∷ further []
among p further (q ∷ qs) = cond (goes_first p q) (p ∷ further (q ∷ qs)) (q ∷ among p further qs)

-- The points of both lists in turn.
abbrev pub in_turn : List Point → List Point → List Point
in_turn [] qs = qs
in_turn (p ∷ ps) qs = among p (in_turn ps) qs

-- Whether the next of them is the first list's.
abbrev pub first_goes : List Point → List Point → Bool
first_goes [] qs = false
first_goes (p ∷ ps) [] = true
first_goes (p ∷ ps) (q ∷ qs) = goes_first p q

-- A turn takes the first list's point,
pub turn-first : (p : Point) (ps qs : List Point) → first_goes (p ∷ ps) qs ≡ true → in_turn (p ∷ ps) qs ≡ p ∷ in_turn ps qs
turn-first p ps [] e = refl
turn-first p ps (q ∷ qs) e = rw e

-- or the second's.
pub turn-second : (ps : List Point) (q : Point) (qs : List Point) → first_goes ps (q ∷ qs) ≡ false
    → in_turn ps (q ∷ qs) ≡ q ∷ in_turn ps qs
turn-second [] q qs e = refl
turn-second (p ∷ ps) q qs e = rw e

-- ---- points in order

-- Earlier or covering, as a fact.
abbrev pub Ahead : Point → Point → Type 0
Ahead p q = (p.time <ℤ q.time) ⊎ Covers p q

-- Ahead of every point of the list.
pub data AheadAll (p : Point) : List Point → Type 0 where
  ahead_none : AheadAll p []
  ahead_more : {q : Point} {qs : List Point} → Ahead p q → AheadAll p qs → AheadAll p (q ∷ qs)

-- Each point is ahead of all that come after it.
pub data Ordered : List Point → Type 0 where
  ordered-none : Ordered []
  ordered-more : {p : Point} {ps : List Point} → AheadAll p ps → Ordered ps → Ordered (p ∷ ps)

-- A point that is ahead of another is ahead of all that the other is below.
ahead-further : {p q : Point} {qs : List Point} → Ahead p q → BelowAll q qs → AheadAll p qs
ahead-further h below_none = ahead_none
ahead-further {p} h (below_more {q = r} b bs) =
    ahead_more {q = r} (inl (⊎_elim (λ k. omega signed) (λ k. omega signed) h)) (ahead-further h bs)

-- A point is ahead of all that it is below.
below-ahead : {p : Point} {ps : List Point} → BelowAll p ps → AheadAll p ps
below-ahead below_none = ahead_none
below-ahead (below_more b bs) = ahead_more (inl b.earlier) (below-ahead bs)

-- The test of who goes first decides who is ahead.
abbrev Leads : Bool → Point → Point → Type 0
Leads true p q = Ahead p q
Leads false p q = Ahead q p

leads : (p q : Point) → Leads (goes_first p q) p q
leads p q = go (lt_z p.time q.time) (le_z p.time q.time) (leb q.weight p.weight) refl refl refl
  where
    go : (a b c : Bool) → lt_z p.time q.time ≡ a → le_z p.time q.time ≡ b → leb q.weight p.weight ≡ c
        → Leads (a || (b && c)) p q
    go true b c f g h = inl (omega signed)
    go false true true f g h = inr (omega signed)
    go false true false f g h = inr (omega signed)
    go false false c f g h = inl (omega signed)

-- ---- two rising lists

-- How a list is made of two by turns: each takes a point that is ahead of all that are left.
pub data Turns : List Point → List Point → List Point → Type 0 where
  no_more : Turns [] [] []
  first : {p : Point} {ps qs ls : List Point} → AheadAll p ps → AheadAll p qs → Turns ps qs ls → Turns (p ∷ ps) qs (p ∷ ls)
  second : {q : Point} {ps qs ls : List Point} → AheadAll q ps → AheadAll q qs → Turns ps qs ls → Turns ps (q ∷ qs) (q ∷ ls)

-- One list alone is in turn,
turns_alone : {qs : List Point} → Rising qs → Turns [] qs qs
turns_alone rising_none = no_more
turns_alone (rising-more b r) = second ahead_none (below-ahead b) (turns_alone r)

-- and so is one more point with what follows it, among the points of the other.
turns-among : {p : Point} {ps : List Point} → BelowAll p ps → ((qs : List Point) → Rising qs → Turns ps qs (in_turn ps qs))
    → {qs : List Point} → Rising qs → Turns (p ∷ ps) qs (among p (in_turn ps) qs)
turns-among b further rising_none = first (below-ahead b) ahead_none (further [] rising_none)
turns-among {p} {ps} b further (rising-more {p = q} {ps = qs} d r) = go (goes_first p q) (leads p q) (turns-among b further r)
  where
    go : (c : Bool) → Leads c p q → Turns (p ∷ ps) qs (among p (in_turn ps) qs)
        → Turns (p ∷ ps) (q ∷ qs) (cond c (p ∷ in_turn ps (q ∷ qs)) (q ∷ among p (in_turn ps) qs))
    go true h i = first (below-ahead b) (ahead_more h (ahead-further h d)) (further (q ∷ qs) (rising-more d r))
    go false h i = second (ahead_more h (ahead-further h b)) (below-ahead d) i

-- Two rising lists in turn are made so.
pub turns : {ps : List Point} → Rising ps → (qs : List Point) → Rising qs → Turns ps qs (in_turn ps qs)
turns rising_none qs s = turns_alone s
turns (rising-more b r) qs s = turns-among b (turns r) s

-- A point that is ahead of both lists is ahead of them in turn.
ahead-turns : {x : Point} {ps qs ls : List Point} → Turns ps qs ls → AheadAll x ps → AheadAll x qs → AheadAll x ls
ahead-turns no_more a b = ahead_none
ahead-turns (first c d t) (ahead_more h a) b = ahead_more h (ahead-turns t a b)
ahead-turns (second c d t) a (ahead_more h b) = ahead_more h (ahead-turns t a b)

-- So they are in order,
pub turns-ordered : {ps qs ls : List Point} → Turns ps qs ls → Ordered ls
turns-ordered no_more = ordered-none
turns-ordered (first a b t) = ordered-more (ahead-turns t a b) (turns-ordered t)
turns-ordered (second a b t) = ordered-more (ahead-turns t a b) (turns-ordered t)

-- What they give, one of the two lists gives,
turns-to : {ps qs ls : List Point} → Turns ps qs ls → (r : Point) → Given r ls → Given r ps ⊎ Given r qs
turns-to no_more r g = inl g
turns-to (first a b t) r (here c) = inl (here c)
turns-to (first a b t) r (there g) = ⊎_elim (λ h. inl (there h)) inr (turns-to t r g)
turns-to (second a b t) r (here c) = inr (here c)
turns-to (second a b t) r (there g) = ⊎_elim inl (λ h. inr (there h)) (turns-to t r g)

-- and back;
turns-back : {ps qs ls : List Point} → Turns ps qs ls → (r : Point) → Given r ps ⊎ Given r qs → Given r ls
turns-back no_more r (inl g) = g
turns-back no_more r (inr g) = g
turns-back (first a b t) r (inl (here c)) = here c
turns-back (first a b t) r (inl (there g)) = there (turns-back t r (inl g))
turns-back (first a b t) r (inr g) = there (turns-back t r (inr g))
turns-back (second a b t) r (inl g) = there (turns-back t r (inl g))
turns-back (second a b t) r (inr (here c)) = here c
turns-back (second a b t) r (inr (there g)) = there (turns-back t r (inr g))

-- so they give what both give.
pub turns_same : {ps qs ls : List Point} → Turns ps qs ls → Same ls (ps ++ qs)
turns_same {ps} {qs} t = record {
  to = λ r g. ⊎_elim (given-left qs) (given-right ps) (turns-to t r g);
  back = λ r g. turns-back t r (given-either ps g);
}
