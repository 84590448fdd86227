-- The points past the last start may be cut off before the others wait, as the code does it.
use Rattle.std.specs.Prelude.{◌≡◌, refl, Bool, true, false, cond, List, [], ◌∷◌, ℤ, ◌≤ℤ◌, ◌<ℤ◌}
use Rattle.std.specs.Int.Signed.{le_z}
use Rattle.seconds.specs.Signed.{signed, max-is, max_z}
use Rattle.order.specs.Job.{Point}
use Rattle.profile.proofs.Rising.{BelowAll, below_none, below_more, Rising, rising_none, rising-more}
use Rattle.points.specs.Steps.{waited, waiting, when_ready, up_to_time}

module _ (r l : ℤ) (h : r ≤ℤ l) where
  -- From a point that is not late,
  clip-waiting : (p : Point) {ps : List Point} → Rising ps → p.time ≤ℤ l → up_to_time l (waiting r p ps) ≡ waiting r p (up_to_time l ps)
  clip-waiting p rising_none e =
      let t : le_z (max_z r p.time) l ≡ true = omega (signed, max-is r p.time) in
      rw t
  clip-waiting p (rising-more {p = q} {ps = qs} b s) e =
      go (le_z q.time r) (le_z q.time l) refl refl (λ g. clip-waiting q s g)
    where
      here : le_z (max_z r p.time) l ≡ true
      here = omega (signed, max-is r p.time)

      go : (x y : Bool) → le_z q.time r ≡ x → le_z q.time l ≡ y
          → (q.time ≤ℤ l → up_to_time l (waiting r q qs) ≡ waiting r q (up_to_time l qs))
          → up_to_time l (cond x (waiting r q qs) (waited r p ∷ q ∷ qs)) ≡ waiting r p (cond y (q ∷ up_to_time l qs) [])
      go true true a c ih = rw a (ih (omega signed))
      go true false a c ih = absurd (omega signed)
      go false true a c ih = rw (here, c, a)
      go false false a c ih = rw (here, c)

  -- and from a late one.
  pub clip-first : {ps : List Point} → Rising ps → up_to_time l (when_ready r ps) ≡ when_ready r (up_to_time l ps)
  clip-first rising_none = refl
  clip-first (rising-more {p = p} {ps = ps} b s) = go (le_z p.time l) refl
    where
      late : l <ℤ p.time → {qs : List Point} → BelowAll p qs → up_to_time l (waiting r p qs) ≡ []
      late g below_none = let t : le_z (max_z r p.time) l ≡ false = omega (signed, max-is r p.time) in rw t
      late g (below_more {q = q} k bs) =
          let t : le_z (max_z r p.time) l ≡ false = omega (signed, max-is r p.time) in
          let u : le_z q.time r ≡ false = omega signed in
          rw (u, t)

      go : (y : Bool) → le_z p.time l ≡ y → up_to_time l (waiting r p ps) ≡ when_ready r (cond y (p ∷ up_to_time l ps) [])
      go true c = clip-waiting p s (omega signed)
      go false c = late (omega signed) b
