-- The profile of a list of points: it rises, it gives what the list gives, no other rising list does, and no list that
-- gives the same is shorter.
use Rattle.std.specs.Prelude.{suc, ◌<◌, ◌≤◌, ◌≡◌, refl, Bool, true, false, cond, ◌&&◌, ◌⊎◌, leb, length, ◌<ℤ◌}
use Rattle.std.proofs.Common.{sym, ap, ap₂, subst, true≢false, inl, inr, arith}
use mathlib.Core.List.{List, [], ◌∷◌, Memᴰ}
use Rattle.std.specs.Float.Ieee.Fits.{and_l, and_r}
use Rattle.std.specs.Int.Signed.{le_z, lt_z}
use Rattle.seconds.specs.Signed.{signed, true-T}
use Rattle.order.specs.Job.{Point}
use Rattle.order.specs.Given.{Covers, Given, here, there, ◌⊑◌, Same}
use Rattle.order.proofs.Moves.{point-path}
use Rattle.order.proofs.GivenLaws.{covers-trans, given-covered, given-own, giver, same_refl, same-append, same-sym, same-trans}
use Rattle.profile.specs.Profile.{covers, add, profile_of}
use Rattle.profile.proofs.Rising.{Below, BelowAll, below_none, below_more, below-further, below-member}
use Rattle.profile.proofs.Rising.{Rising, rising_none, rising-more}

-- The first point is given, and no point is given by no points.
given-first : (p : Point) {ps : List Point} → Given p (p ∷ ps)
given-first p = given-own (Memᴰ.head refl)

pub given-none : {r : Point} → Given r [] → ⊥
given-none g = elim g [ ]

-- ---- one point more

-- The test `covers` decides `Covers`.
covers-holds : (p q : Point) → covers p q ≡ true → Covers p q
covers-holds p q e =
    let s = and_l (le_z p.time q.time) (leb q.weight p.weight) (true-T e) in
    let u = and_r (le_z p.time q.time) (leb q.weight p.weight) (true-T e) in
    omega signed

covers-fails : (p q : Point) → covers p q ≡ false → (q.time <ℤ p.time) ⊎ (p.weight < q.weight)
covers-fails p q e = go (le_z p.time q.time) (leb q.weight p.weight) refl refl e
  where
    go : (a b : Bool) → le_z p.time q.time ≡ a → leb q.weight p.weight ≡ b → (a && b) ≡ false
        → (q.time <ℤ p.time) ⊎ (p.weight < q.weight)
    go true true f g h = absurd (true≢false h)
    go true false f g h = inr (omega signed)
    go false b f g h = inl (omega signed)

-- Of two points that do not cover each other one is below the other.
apart : {p q : Point} → (p.time <ℤ q.time) ⊎ (q.weight < p.weight) → (q.time <ℤ p.time) ⊎ (p.weight < q.weight)
    → Below q p ⊎ Below p q
apart (inl h) (inl k) = absurd (omega signed)
apart (inl h) (inr k) = inr (record { earlier = h; lighter = k })
apart (inr h) (inl k) = inl (record { earlier = k; lighter = h })
apart (inr h) (inr k) = absurd (omega arith)

-- How a point comes into a list that has a first point: it is not needed, it takes the first one's place, it belongs
-- further on, or it comes first.
data Added (p q : Point) (qs : List Point) : List Point → Type 0 where
  unneeded : Covers q p → Added p q qs (q ∷ qs)
  instead : Covers p q → Added p q qs (add p qs)
  further : Below q p → Added p q qs (q ∷ add p qs)
  first : Below p q → Added p q qs (p ∷ q ∷ qs)

added : (p q : Point) (qs : List Point) → Added p q qs (add p (q ∷ qs))
added p q qs = go (covers q p) (covers p q) (lt_z q.time p.time) refl refl refl
  where
    placed : Below q p ⊎ Below p q → (c : Bool) → lt_z q.time p.time ≡ c → Added p q qs (cond c (q ∷ add p qs) (p ∷ q ∷ qs))
    placed (inl b) true g = further b
    placed (inl b) false g = absurd (omega signed)
    placed (inr b) true g = absurd (omega signed)
    placed (inr b) false g = first b

    go : (a b c : Bool) → covers q p ≡ a → covers p q ≡ b → lt_z q.time p.time ≡ c
        → Added p q qs (cond a (q ∷ qs) (cond b (add p qs) (cond c (q ∷ add p qs) (p ∷ q ∷ qs))))
    go true b c e f g = unneeded (covers-holds q p e)
    go false true c e f g = instead (covers-holds p q f)
    go false false c e f g = placed (apart (covers-fails q p e) (covers-fails p q f)) c g

-- What is below a list and a new point is below the list with that point.
below-add : {x : Point} (p : Point) {ps : List Point} → Below x p → BelowAll x ps → BelowAll x (add p ps)
below-add {x} p {ps = []} h b = below_more h b
below-add {x} p {ps = q ∷ qs} h (below_more k b) = go (added p q qs) (below-add p h b)
  where
    go : {l : List Point} → Added p q qs l → BelowAll x (add p qs) → BelowAll x l
    go (unneeded c) i = below_more k b
    go (instead c) i = i
    go (further c) i = below_more k i
    go (first c) i = below_more h (below_more k b)

-- A rising list with one point more rises.
pub add-rises : (p : Point) {ps : List Point} → Rising ps → Rising (add p ps)
add-rises p {ps = []} r = rising-more below_none r
add-rises p {ps = q ∷ qs} (rising-more b r) = go (added p q qs) (add-rises p r)
  where
    go : {l : List Point} → Added p q qs l → Rising (add p qs) → Rising l
    go (unneeded c) i = rising-more b r
    go (instead c) i = i
    go (further c) i = rising-more (below-add p c b) i
    go (first c) i = rising-more (below_more c (below-further c b)) (rising-more b r)

-- Its points are the new one and old ones.
add-member : {r : Point} (p : Point) (ps : List Point) → Memᴰ r (add p ps) → Memᴰ r (p ∷ ps)
add-member p [] m = m
add-member {r} p (q ∷ qs) m = go (added p q qs) (add-member p qs) m
  where
    insert : Memᴰ r (p ∷ qs) → Memᴰ r (p ∷ q ∷ qs)
    insert (Memᴰ.head e) = Memᴰ.head e
    insert (Memᴰ.tail n) = Memᴰ.tail (Memᴰ.tail n)

    go : {l : List Point} → Added p q qs l → (Memᴰ r (add p qs) → Memᴰ r (p ∷ qs)) → Memᴰ r l
        → Memᴰ r (p ∷ q ∷ qs)
    go (unneeded c) i n = Memᴰ.tail n
    go (instead c) i n = insert (i n)
    go (further c) i (Memᴰ.head e) = Memᴰ.tail (Memᴰ.head e)
    go (further c) i (Memᴰ.tail n) = insert (i n)
    go (first c) i n = n

-- It is at most one point longer.
add-length : (p : Point) (ps : List Point) → length (add p ps) ≤ suc (length ps)
add-length p [] = omega arith
add-length p (q ∷ qs) = go (added p q qs) (add-length p qs)
  where
    go : {l : List Point} → Added p q qs l → length (add p qs) ≤ suc (length qs) → length l ≤ suc (suc (length qs))
    go (unneeded c) i = omega arith
    go (instead c) i = omega arith
    go (further c) i = omega arith
    go (first c) i = omega arith

-- It gives what the list with the point in front gives.
add-to : (p : Point) (ps : List Point) → add p ps ⊑ p ∷ ps
add-to p [] r g = g
add-to p (q ∷ qs) r g = go (added p q qs) (λ g. insert (add-to p qs r g)) g
  where
    insert : Given r (p ∷ qs) → Given r (p ∷ q ∷ qs)
    insert (here c) = here c
    insert (there g) = there (there g)

    go : {l : List Point} → Added p q qs l → (Given r (add p qs) → Given r (p ∷ q ∷ qs)) → Given r l
        → Given r (p ∷ q ∷ qs)
    go (unneeded c) i g = there g
    go (instead c) i g = i g
    go (further c) i (here d) = there (here d)
    go (further c) i (there g) = i g
    go (first c) i g = g

add_back : (p : Point) (ps : List Point) → p ∷ ps ⊑ add p ps
add_back p [] r g = g
add_back p (q ∷ qs) r g = go (added p q qs) (add_back p qs r) g
  where
    go : {l : List Point} → Added p q qs l → (Given r (p ∷ qs) → Given r (add p qs)) → Given r (p ∷ q ∷ qs) → Given r l
    go (unneeded c) i (here d) = here (covers-trans c d)
    go (unneeded c) i (there g) = g
    go (instead c) i (here d) = i (here d)
    go (instead c) i (there (here d)) = i (here (covers-trans c d))
    go (instead c) i (there (there g)) = i (there g)
    go (further c) i (here d) = there (i (here d))
    go (further c) i (there (here d)) = here d
    go (further c) i (there (there g)) = there (i (there g))
    go (first c) i g = g

pub add_same : (p : Point) (ps : List Point) → Same (add p ps) (p ∷ ps)
add_same p ps = record { to = add-to p ps; back = add_back p ps }

-- ---- the profile of a list

-- It rises.
pub profile_of-rises : (ps : List Point) → Rising (profile_of ps)
profile_of-rises [] = rising_none
profile_of-rises (p ∷ ps) = add-rises p (profile_of-rises ps)

-- It gives what the list gives.
pub profile_of-same : (ps : List Point) → Same (profile_of ps) ps
profile_of-same [] = same_refl []
profile_of-same (p ∷ ps) = same-trans (add_same p (profile_of ps)) (same-append (same_refl (p ∷ [])) (profile_of-same ps))

-- Its points are points of the list.
pub profile_of-member : {r : Point} (ps : List Point) → Memᴰ r (profile_of ps) → Memᴰ r ps
profile_of-member [] m = m
profile_of-member {r} (p ∷ ps) m = go (profile_of-member ps) (add-member p (profile_of ps) m)
  where
    go : (Memᴰ r (profile_of ps) → Memᴰ r ps) → Memᴰ r (p ∷ profile_of ps) → Memᴰ r (p ∷ ps)
    go i (Memᴰ.head e) = Memᴰ.head e
    go i (Memᴰ.tail n) = Memᴰ.tail (i n)

-- It is empty only for no points.
pub profile_of-none : (ps : List Point) → profile_of ps ≡ [] → ps ≡ []
profile_of-none [] e = refl
profile_of-none (p ∷ ps) e =
    absurd (given-none (subst (λ (l : List Point). Given p l) e ((profile_of-same (p ∷ ps)).back p (given-first p))))

-- It is no longer than the list.
pub profile_of-length : (ps : List Point) → length (profile_of ps) ≤ length ps
profile_of-length [] = omega arith
profile_of-length (p ∷ ps) = omega (arith, add-length p (profile_of ps), profile_of-length ps)

-- ---- only one rising list gives what it gives

-- What a rising list gives, its first point covers, or it is later than that point.
first-or-later : {p r : Point} {ps : List Point} → BelowAll p ps → Given r (p ∷ ps) → Covers p r ⊎ (p.time <ℤ r.time)
first-or-later b (here c) = inl c
first-or-later b (there g) =
    let m = giver g in
    let h = below-member b m.1 in
    let c = m.2 in
    inr (omega signed)

-- Points that cover each other are one.
pub covers-both : {p q : Point} → Covers p q → Covers q p → p ≡ q
covers-both h k = point-path (omega signed) (omega signed)

-- So first points of which each covers the other or is earlier are one.
first-same : {p q : Point} → Covers p q ⊎ (p.time <ℤ q.time) → Covers q p ⊎ (q.time <ℤ p.time) → p ≡ q
first-same (inl c) (inl d) = covers-both c d
first-same (inl c) (inr h) = absurd (omega signed)
first-same (inr h) (inl c) = absurd (omega signed)
first-same (inr h) (inr k) = absurd (omega signed)

-- Without the first point they share, the lists still give the same: that point is lighter than the others.
tail-⊑ : {p q : Point} {ps qs : List Point} → p ≡ q → BelowAll p ps → p ∷ ps ⊑ q ∷ qs → ps ⊑ qs
tail-⊑ {p} {q} {ps} {qs} e b h r g =
    let m = giver g in
    given-covered (go m.0 (below-member b m.1) (h m.0 (there (given-own m.1)))) m.2
  where
    go : (x : Point) → Below p x → Given x (q ∷ qs) → Given x qs
    go x k (here c) = let f = ap (λ (y : Point). y.weight) e in absurd (omega signed)
    go x k (there i) = i

-- Two rising lists that give the same are equal.
pub rising-equal : {ps qs : List Point} → Rising ps → Rising qs → Same ps qs → ps ≡ qs
rising-equal rising_none rising_none s = refl
rising-equal rising_none (rising-more {p = q} d t) s = absurd (given-none (s.back q (given-first q)))
rising-equal (rising-more {p = p} b r) rising_none s = absurd (given-none (s.to p (given-first p)))
rising-equal (rising-more {p = p} b r) (rising-more {p = q} d t) s =
    ap₂ (λ (x : Point) (xs : List Point). x ∷ xs) e
    (rising-equal r t (record { to = tail-⊑ e b s.to; back = tail-⊑ (sym e) d s.back }))
  where
    e : p ≡ q
    e = first-same (first-or-later b (s.back q (given-first q))) (first-or-later d (s.to p (given-first p)))

-- So lists that give the same have one profile,
pub profile_of-cong : {ps qs : List Point} → Same ps qs → profile_of ps ≡ profile_of qs
profile_of-cong {ps} {qs} s =
    rising-equal (profile_of-rises ps) (profile_of-rises qs)
    (same-trans (profile_of-same ps) (same-trans s (same-sym (profile_of-same qs))))

-- a rising list that gives the same is that profile,
pub profile_of-only : {ps qs : List Point} → Rising qs → Same qs ps → qs ≡ profile_of ps
profile_of-only {ps} r s = rising-equal r (profile_of-rises ps) (same-trans s (same-sym (profile_of-same ps)))

-- and a rising list is its own profile.
pub profile_of-rising : {ps : List Point} → Rising ps → profile_of ps ≡ ps
profile_of-rising {ps} r = sym (profile_of-only r (same_refl ps))

-- No list that gives the same is shorter.
pub profile_of-shortest : {ps qs : List Point} → Same qs ps → length (profile_of ps) ≤ length qs
profile_of-shortest {ps} {qs} s = rw (← profile_of-cong s) (profile_of-length qs)
