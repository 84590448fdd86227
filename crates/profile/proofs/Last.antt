-- The last point of a profile: the heaviest point of the list that it was made of, and the earliest of that weight.
use Rattle.std.specs.Prelude.{◌≤◌, ◌<◌, ◌≡◌, refl, ◌⊎◌, ◌↔◌, ◌≤ℤ◌}
use Rattle.std.proofs.Common.{sym, ap, ◌∙◌, subst, inl, inr, ⊎_elim, le_refl, arith}
use mathlib.Core.List.Memᴰ
use mathlib.Core.List.{List, [], ◌∷◌, Memᴰ}
use Rattle.std.proofs.Math.Option.{Option, none, some, none-ne-some, some-injective}
use Rattle.seconds.specs.Signed.{signed}
use Rattle.order.specs.Job.{Point}
use Rattle.order.specs.Given.{Covers, Given}
use Rattle.order.proofs.GivenLaws.{giver, given-own}
use Rattle.profile.specs.Profile.{or_else, profile_of}
pub use Rattle.profile.specs.Profile.{last_point, weight_or0, last_weight}
use Rattle.profile.proofs.Rising.{Below, Rising, rising_none, rising-more, below-member}
use Rattle.profile.proofs.Points.{covers-both, profile_of-rises, profile_of-same, profile_of-member, profile_of-none}

-- The best of some points: none is heavier, and none of its weight is earlier.
pub record Best (ps : List Point) (q : Point) : Type 0 where
  pub member : Memᴰ q ps
  pub heaviest : (r : Point) → Memᴰ r ps → r.weight ≤ q.weight
  pub earliest : (r : Point) → Memᴰ r ps → r.weight ≡ q.weight → q.time ≤ℤ r.time

-- There is at most one best.
pub best-one : {ps : List Point} {p q : Point} → Best ps p → Best ps q → p ≡ q
best-one {p = p} {q} a b =
    let h = a.heaviest q b.member in
    let k = b.heaviest p a.member in
    let w : p.weight ≡ q.weight = omega arith in
    covers-both (record { soon = a.earliest q b.member (sym w); heavy = h })
    (record { soon = b.earliest p a.member w; heavy = k })

-- An empty list has no member.
no_member : {ps : List Point} {r : Point} → ps ≡ [] → Memᴰ r ps → ⊥
no_member {r = r} e m = Memᴰ.not-nil (subst (λ (l : List Point). Memᴰ r l) e m)

-- Only the empty list has no last point.
pub last_none : (ps : List Point) → last_point ps ≡ none → ps ≡ []
last_none [] e = refl
last_none (p ∷ ps) e = absurd (go (last_point ps) e)
  where
    go : (o : Option Point) → or_else o (some p) ≡ none → ⊥
    go none f = none-ne-some p (sym f)
    go (some q) f = none-ne-some q (sym f)

-- The last point is a member,
pub last-member : (ps : List Point) {q : Point} → last_point ps ≡ some q → Memᴰ q ps
last-member [] e = absurd (none-ne-some _ e)
last-member (p ∷ ps) {q} e = go (last_point ps) (last-member ps) e
  where
    go : (o : Option Point) → (o ≡ some q → Memᴰ q ps) → or_else o (some p) ≡ some q → Memᴰ q (p ∷ ps)
    go none i f = Memᴰ.head (sym (some-injective p q f))
    go (some r) i f = Memᴰ.tail (i f)

-- and in a rising list all others are below it.
pub last-after : {ps : List Point} {q : Point} → Rising ps → last_point ps ≡ some q → (r : Point) → Memᴰ r ps
    → (r ≡ q) ⊎ Below r q
last-after rising_none e r m = elim m [ ]
last-after {q = q} (rising-more {p = p} {ps = ps} b s) e r m = go (last_point ps) refl (last-after s) e m
  where
    go : (o : Option Point) → last_point ps ≡ o → (o ≡ some q → (r : Point) → Memᴰ r ps → (r ≡ q) ⊎ Below r q)
        → or_else o (some p) ≡ some q → Memᴰ r (p ∷ ps) → (r ≡ q) ⊎ Below r q
    go none f i g (Memᴰ.head h) = inl (h ∙ some-injective p q g)
    go none f i g (Memᴰ.tail n) = absurd (no_member (last_none ps f) n)
    go (some x) f i g (Memᴰ.head h) = inr (rw h (below-member b (last-member ps (f ∙ g))))
    go (some x) f i g (Memᴰ.tail n) = i g r n

-- So it is the heaviest.
pub last-heaviest : {ps : List Point} → Rising ps → (r : Point) → Memᴰ r ps → r.weight ≤ last_weight ps
last-heaviest {ps} s r m = go (last_point ps) refl
  where
    go : (o : Option Point) → last_point ps ≡ o → r.weight ≤ weight_or0 o
    go none e = absurd (no_member (last_none ps e) m)
    go (some q) e = ⊎_elim (λ (h : r ≡ q). rw h (le_refl q.weight)) (λ (h : Below r q). omega arith) (last-after s e r m)

-- It covers each point that the list gives, or is heavier.
pub last-covers-given : {ps : List Point} {q r : Point} → Rising ps → last_point ps ≡ some q → Given r ps
    → Covers q r ⊎ (r.weight < q.weight)
last-covers-given {ps} {q} {r} s e g = let n = giver g in go n.0 n.2 (last-after s e n.0 n.1)
  where
    go : (x : Point) → Covers x r → (x ≡ q) ⊎ Below x q → Covers q r ⊎ (r.weight < q.weight)
    go x c (inl f) = inl (rw f at c)
    go x c (inr b) = inr (omega signed)

-- So in a list's profile it covers each point of the list, or is heavier;
last-covers : (ps : List Point) {q r : Point} → last_point (profile_of ps) ≡ some q → Memᴰ r ps
    → Covers q r ⊎ (r.weight < q.weight)
last-covers ps {r = r} e m = last-covers-given (profile_of-rises ps) e ((profile_of-same ps).back r (given-own m))

best-of-last : (ps : List Point) {q : Point} → last_point (profile_of ps) ≡ some q → Best ps q
best-of-last ps {q} e = record {
  member = profile_of-member ps (last-member (profile_of ps) e);
  heaviest = λ r m. ⊎_elim (λ (c : Covers q r). c.heavy) (λ (h : r.weight < q.weight). omega arith) (last-covers ps e m);
  earliest = λ r m w.
      ⊎_elim (λ (c : Covers q r). c.soon) (λ (h : r.weight < q.weight). absurd (omega arith)) (last-covers ps e m);
}

-- so it is the list's best, and the list's best is that point;
pub last-best : (ps : List Point) (q : Point) → last_point (profile_of ps) ≡ some q ↔ Best ps q
last-best ps q = (best-of-last ps, go (last_point (profile_of ps)) refl)
  where
    go : (o : Option Point) → last_point (profile_of ps) ≡ o → Best ps q → o ≡ some q
    go none e b = absurd (no_member (profile_of-none ps (last_none (profile_of ps) e)) b.member)
    go (some x) e b = ap some (best-one (best-of-last ps e) b)

-- there is none exactly for no points.
pub last-of-none : (ps : List Point) → last_point (profile_of ps) ≡ none ↔ (ps ≡ [])
last-of-none ps = ((λ e. profile_of-none ps (last_none (profile_of ps) e)), (λ e. rw e))
