-- What a list of points is worth at a time: the greatest weight of a point at or before it. Lists that give the same have
-- the same worth at every time, and back; the lookup in a rising list finds it, with the first time at which it is reached.
use Rattle.std.specs.Prelude.{ℕ, ◌≤◌, max, ◌≡◌, refl, Bool, true, false, cond, ◌⊎◌, ◌↔◌, ℤ, length, ◌≤ℤ◌}
use Rattle.std.proofs.Common.{sym, ap, ◌∙◌, subst, inl, inr, arith}
use mathlib.Core.List.{List, [], ◌∷◌, ◌++◌, Memᴰ}
use Rattle.std.proofs.Math.Option.{Option, none, some, map, some-injective, none-ne-some}
use Rattle.std.specs.Int.Signed.{le_z}
use Rattle.seconds.specs.Signed.{signed}
use Rattle.order.specs.Job.{Order, Point}
use Rattle.order.specs.Choice.{outcomes}
use Rattle.order.specs.Given.{◌⊑◌, Same}
use Rattle.order.proofs.GivenLaws.{giver, given-own, given-covered}
use Rattle.profile.specs.Profile.{greater, worth, lookup, or_else, profile_of, start_point, order_profile}
pub use Rattle.profile.specs.NoWorse.{lookup_weight}
use Rattle.profile.proofs.Rising.{Rising, rising_none, rising-more, below-member}
use Rattle.profile.proofs.Points.{profile_of-rises, profile_of-same, rising-equal, profile_of-shortest}
use Rattle.profile.proofs.Greatest.{Greatest, nothing, greatest, Under}
use Rattle.profile.proofs.Greatest.{greatest-equal, greatest-under, greatest-one, greatest-greater}

-- A weight that a point of the list has at or before a time.
pub record WeightBy (ps : List Point) (t : ℤ) (w : ℕ) : Type 0 where
  pub point : Point
  pub member : Memᴰ point ps
  pub by : point.time ≤ℤ t
  pub weighs : point.weight ≡ w

-- The worth is the greatest of these,
pub worth-greatest : (ps : List Point) (t : ℤ) → Greatest (WeightBy ps t) (worth ps t)
worth-greatest [] t = nothing (λ w h. elim h.member [ ])
worth-greatest (p ∷ ps) t =
    greatest-greater split (λ w h. record { point = p; member = Memᴰ.head refl; by = h.0; weighs = h.1 })
    (λ w h. record { point = h.point; member = Memᴰ.tail h.member; by = h.by; weighs = h.weighs })
    (go (le_z p.time t) refl) (worth-greatest ps t)
  where
    Own : ℕ → Type 0
    Own w = (p.time ≤ℤ t) × (p.weight ≡ w)

    which : {w : ℕ} (h : WeightBy (p ∷ ps) t w) → Memᴰ h.point (p ∷ ps) → Own w ⊎ WeightBy ps t w
    which h (Memᴰ.head e) = inl (rw e at h.by, rw e at h.weighs)
    which h (Memᴰ.tail m) = inr (record { point = h.point; member = m; by = h.by; weighs = h.weighs })

    split : (w : ℕ) → WeightBy (p ∷ ps) t w → Own w ⊎ WeightBy ps t w
    split w h = which h h.member

    go : (b : Bool) → le_z p.time t ≡ b → Greatest Own (cond b (some p.weight) none)
    go true e = greatest (omega signed, refl) (λ x h. omega signed)
    go false e = nothing (λ w h. omega signed)

-- and whatever is the greatest of these is the worth.
pub worth-is : (ps : List Point) (t : ℤ) (o : Option ℕ) → worth ps t ≡ o ↔ Greatest (WeightBy ps t) o
worth-is ps t o = ((λ e. subst (Greatest (WeightBy ps t)) e (worth-greatest ps t)), greatest-one (worth-greatest ps t))

-- ---- the worth at all times, and what a list gives

-- A list that gives all that another gives reaches the other's weights at every time,
pub given-under : {ps qs : List Point} → ps ⊑ qs → (t : ℤ) → Under (WeightBy ps t) (WeightBy qs t)
given-under h t w b =
    let m = giver (h b.point (given-own b.member)) in
    let c = m.2 in
    let s = b.by in
    let e = b.weighs in
    (m.0.weight, record { point = m.0; member = m.1; by = omega signed; weighs = refl }, omega signed)

-- and back.
pub under-given : {ps qs : List Point} → ((t : ℤ) → Under (WeightBy ps t) (WeightBy qs t)) → ps ⊑ qs
under-given h r g =
    let m = giver g in
    let c = m.2 in
    let b = h r.time m.0.weight (record { point = m.0; member = m.1; by = c.soon; weighs = refl }) in
    let s = b.1 in
    let l = b.2 in
    given-covered (given-own s.member) (omega signed)

-- Lists that give the same are worth the same at every time,
pub same-worth : {ps qs : List Point} → Same ps qs → (t : ℤ) → worth ps t ≡ worth qs t
same-worth {ps} {qs} s t =
    greatest-equal (given-under s.to t) (given-under s.back t) (worth-greatest ps t) (worth-greatest qs t)

-- and lists that are worth the same at every time give the same.
pub worth-same : (ps qs : List Point) → ((t : ℤ) → worth ps t ≡ worth qs t) → Same ps qs
worth-same ps qs e = record {
  to = under-given (λ t. greatest-under (worth-greatest ps t) ((worth-is qs t (worth ps t)).0 (sym (e t))));
  back = under-given (λ t. greatest-under (worth-greatest qs t) ((worth-is ps t (worth qs t)).0 (e t)));
}

-- ---- lists put together

greater-assoc : (a b c : Option ℕ) → greater (greater a b) c ≡ greater a (greater b c)
greater-assoc none b c = refl
greater-assoc (some x) none c = refl
greater-assoc (some x) (some y) none = refl
greater-assoc (some x) (some y) (some z) = ap some (omega arith)

-- Two lists together are worth the greater of both.
pub worth-append : (ps qs : List Point) (t : ℤ) → worth (ps ++ qs) t ≡ greater (worth ps t) (worth qs t)
worth-append [] qs t = refl
worth-append (p ∷ ps) qs t =
    ap (greater (cond (le_z p.time t) (some p.weight) none)) (worth-append ps qs t)
    ∙ sym (greater-assoc (cond (le_z p.time t) (some p.weight) none) (worth ps t) (worth qs t))

-- ---- lookup

-- In a rising list the last point by a time is the heaviest: lookup finds the worth.
pub lookup-worth : {ps : List Point} → Rising ps → (t : ℤ) → lookup_weight ps t ≡ worth ps t
lookup-worth rising_none t = refl
lookup-worth (rising-more {p = p} {ps = ps} b r) t = go (lookup ps t) (le_z p.time t) (lookup-worth r t)
  where
    weight : Point → ℕ
    weight q = q.weight

    heavier : {w : ℕ} → Greatest (WeightBy ps t) (some w) → max p.weight w ≡ w
    heavier (greatest h f) = let l = below-member b h.member in let e = h.weighs in omega arith

    go : (o : Option Point) (c : Bool) → map weight o ≡ worth ps t
        → map weight (or_else o (cond c (some p) none)) ≡ greater (cond c (some p.weight) none) (worth ps t)
    go none true e = rw (← e)
    go none false e = rw (← e)
    go (some q) true e = rw (← e) (ap some (sym (heavier ((worth-is ps t (some q.weight)).0 (sym e)))))
    go (some q) false e = rw (← e)

-- In the profile of a list, lookup finds the list's worth.
pub lookup-profile_of : (ps : List Point) (t : ℤ) → lookup_weight (profile_of ps) t ≡ worth ps t
lookup-profile_of ps t = lookup-worth (profile_of-rises ps) t ∙ same-worth (profile_of-same ps) t

-- Two rising lists in which every lookup finds the same are equal.
pub lookup-equal : {ps qs : List Point} → Rising ps → Rising qs → ((t : ℤ) → lookup_weight ps t ≡ lookup_weight qs t) → ps ≡ qs
lookup-equal {ps} {qs} r s e =
    rising-equal r s (worth-same ps qs (λ t. sym (lookup-worth r t) ∙ e t ∙ lookup-worth s t))

-- The profile of an order rises.
pub order-rises : (o : Order) → Rising (order_profile o)
order-rises o = profile_of-rises (outcomes o.jobs (start_point o.t0 ∷ []))

-- ---- the point that is found

-- What a lookup finds is a point of the list, by the time.
pub lookup-by : (ps : List Point) (t : ℤ) {p : Point} → lookup ps t ≡ some p → Memᴰ p ps × (p.time ≤ℤ t)
lookup-by [] t e = absurd (none-ne-some _ e)
lookup-by (q ∷ ps) t {p} e = go (lookup ps t) refl (le_z q.time t) refl (λ f. lookup-by ps t f) e
  where
    go : (o : Option Point) → lookup ps t ≡ o → (b : Bool) → le_z q.time t ≡ b
        → (lookup ps t ≡ some p → Memᴰ p ps × (p.time ≤ℤ t)) → or_else o (cond b (some q) none) ≡ some p
        → Memᴰ p (q ∷ ps) × (p.time ≤ℤ t)
    go (some r) d b c further f = let h = further (d ∙ f) in (Memᴰ.tail h.0, h.1)
    go none d true c further f =
        let same = some-injective q p f in
        (Memᴰ.head (sym same), omega (signed, ap (λ (x : Point). x.time) same))
    go none d false c further f = absurd (none-ne-some p f)

-- The heavier of two points of a rising list is the later.
rising-later : {ps : List Point} {p q : Point} → Rising ps → Memᴰ p ps → Memᴰ q ps → p.weight ≤ q.weight
    → p.time ≤ℤ q.time
rising-later {p = p} {q = q} rising_none x7 _ h = elim x7 [ ]
rising-later (rising-more b r) (Memᴰ.head d) (Memᴰ.head e) h = omega (signed, ap (λ (x : Point). x.time) (d ∙ sym e))
rising-later (rising-more b r) (Memᴰ.head d) (Memᴰ.tail m) h =
    let k = below-member b m in omega (signed, ap (λ (x : Point). x.time) d)
rising-later (rising-more b r) (Memᴰ.tail m) (Memᴰ.head e) h =
    let k = below-member b m in absurd (omega (signed, ap (λ (x : Point). x.weight) e))
rising-later (rising-more b r) (Memᴰ.tail m) (Memᴰ.tail n) h = rising-later r m n h

-- A list is worth at least a weight at a time.
abbrev pub Reaches : List Point → ℤ → ℕ → Type 0
Reaches ps u w = (v : ℕ) × ((worth ps u ≡ some v) × (w ≤ v))

-- A rising list is worth at least the weight of the point found exactly from that point's time on.
pub reaches-from : {ps : List Point} → Rising ps → (t : ℤ) {p : Point} → lookup ps t ≡ some p
    → (u : ℤ) → Reaches ps u p.weight ↔ p.time ≤ℤ u
reaches-from {ps} r t {p} e u = (there, λ h. back h (worth ps u) refl (worth-greatest ps u))
  where
    member : Memᴰ p ps
    member = (lookup-by ps t e).0

    there : Reaches ps u p.weight → p.time ≤ℤ u
    there h = go ((worth-is ps u (some h.0)).0 h.1.0)
      where
        go : Greatest (WeightBy ps u) (some h.0) → p.time ≤ℤ u
        go (greatest b f) =
            let later = rising-later r member b.member (omega (arith, b.weighs, h.1.1)) in
            omega (signed, b.by)

    back : p.time ≤ℤ u → (o : Option ℕ) → worth ps u ≡ o → Greatest (WeightBy ps u) o → Reaches ps u p.weight
    back h none d (nothing f) = absurd (f p.weight (record { point = p; member = member; by = h; weighs = refl }))
    back h (some v) d (greatest b f) =
        (v, (d, f p.weight (record { point = p; member = member; by = h; weighs = refl })))

-- ---- the shortest profile that gives something at each time

-- A rising list in which each lookup finds what is to be given: the only one, and no list worth as much at each time is
-- shorter.
pub record ShortestProfile (gives : ℤ → Option ℕ → Type 0) (ps : List Point) : Type 0 where
  pub rises : Rising ps
  pub finds : (t : ℤ) → gives t (lookup_weight ps t)
  pub only : (qs : List Point) → Rising qs → ((t : ℤ) → gives t (lookup_weight qs t)) → qs ≡ ps
  pub shortest : (qs : List Point) → ((t : ℤ) → gives t (worth qs t)) → length ps ≤ length qs

-- The profile of a list is the shortest profile that gives the list's worth.
pub profile_of-is : (gives : ℤ → Option ℕ → Type 0) → ((t : ℤ) (a b : Option ℕ) → gives t a → gives t b → a ≡ b)
    → (ps : List Point) → ((t : ℤ) → gives t (worth ps t)) → ShortestProfile gives (profile_of ps)
profile_of-is gives one ps h =
    let finds : (t : ℤ) → gives t (lookup_weight (profile_of ps) t) = λ t. rw (lookup-profile_of ps t) (h t) in
    record {
      rises = profile_of-rises ps;
      finds = finds;
      only = λ qs r k.
          lookup-equal r (profile_of-rises ps) (λ t. one t (lookup_weight qs t) (lookup_weight (profile_of ps) t) (k t) (finds t));
      shortest = λ qs k. profile_of-shortest (worth-same qs ps (λ t. one t (worth qs t) (worth ps t) (k t) (h t)));
    }
