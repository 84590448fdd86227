-- Rising lists of points: each point is earlier and lighter than every later one. As a family of facts, and as the test
-- that decides it.
use Rattle.std.specs.Prelude.{◌<◌, T, ltb, ◌<ℤ◌}
use mathlib.Core.List.{List, [], ◌∷◌, ◌++◌, Memᴰ}
use Rattle.std.specs.Float.Ieee.Fits.{and_i, and_l, and_r}
use Rattle.std.specs.Int.Signed.{lt_z}
use Rattle.seconds.specs.Signed.{signed}
use Rattle.order.specs.Job.{Point}
use Rattle.profile.specs.Profile.{rises_to, rising}

-- The first point is earlier and lighter than the second.
pub record Below (p q : Point) : Type 0 where
  pub earlier : p.time <ℤ q.time
  pub lighter : p.weight < q.weight

-- Earlier and lighter than every point of the list.
pub data BelowAll (p : Point) : List Point → Type 0 where
  below_none : BelowAll p []
  below_more : {q : Point} {qs : List Point} → Below p q → BelowAll p qs → BelowAll p (q ∷ qs)

-- Each point is below all that come after it.
pub data Rising : List Point → Type 0 where
  rising_none : Rising []
  rising-more : {p : Point} {ps : List Point} → BelowAll p ps → Rising ps → Rising (p ∷ ps)

-- What is below a point is below what the point is below,
below-trans : {p q r : Point} → Below p q → Below q r → Below p r
below-trans h k = omega signed

-- and below a whole list that the point is below.
pub below-further : {p q : Point} {ps : List Point} → Below p q → BelowAll q ps → BelowAll p ps
below-further h below_none = below_none
below-further h (below_more k b) = below_more (below-trans h k) (below-further h b)

-- A point below a list is below each member of it.
pub below-member : {p q : Point} {ps : List Point} → BelowAll p ps → Memᴰ q ps → Below p q
below-member {p = p} {q = q} below_none x3 = elim x3 [ ]
below-member (below_more h b) (Memᴰ.head e) = rw e h
below-member (below_more h b) (Memᴰ.tail m) = below-member b m

-- One point rises.
pub rising-one : (p : Point) → Rising (p ∷ [])
rising-one p = rising-more below_none rising_none

-- ---- the parts of a rising list rise

below-front : {p : Point} (fs bs : List Point) → BelowAll p (fs ++ bs) → BelowAll p fs
below-front [] bs b = below_none
below-front (x ∷ fs) bs (below_more k b) = below_more k (below-front fs bs b)

pub rising-front : (fs bs : List Point) → Rising (fs ++ bs) → Rising fs
rising-front [] bs r = rising_none
rising-front (p ∷ fs) bs (rising-more b r) = rising-more (below-front fs bs b) (rising-front fs bs r)

pub rising-back : (fs bs : List Point) → Rising (fs ++ bs) → Rising bs
rising-back [] bs r = r
rising-back (p ∷ fs) bs (rising-more b r) = rising-back fs bs r

-- ---- the test

rises-below : (p : Point) (ps : List Point) → T (rises_to p ps) → Rising ps → BelowAll p ps
rises-below p [] t r = below_none
rises-below p (q ∷ qs) t (rising-more b r) =
    let s = and_l (lt_z p.time q.time) (ltb p.weight q.weight) t in
    let u = and_r (lt_z p.time q.time) (ltb p.weight q.weight) t in
    let h : Below p q = omega signed in
    below_more h (below-further h b)

-- A list that passes the test rises.
pub rising-holds : (ps : List Point) → T (rising ps) → Rising ps
rising-holds [] t = rising_none
rising-holds (p ∷ ps) t =
    let r = rising-holds ps (and_r (rises_to p ps) (rising ps) t) in
    rising-more (rises-below p ps (and_l (rises_to p ps) (rising ps) t) r) r

below-rises : {p : Point} {ps : List Point} → BelowAll p ps → T (rises_to p ps)
below-rises below_none = tt
below-rises {p} (below_more {q = q} h b) =
    and_i (lt_z p.time q.time) (ltb p.weight q.weight) (omega signed) (omega signed)

-- A list that rises passes the test.
pub rising-passes : {ps : List Point} → Rising ps → T (rising ps)
rising-passes rising_none = tt
rising-passes (rising-more {p = p} {ps = ps} b r) = and_i (rises_to p ps) (rising ps) (below-rises b) (rising-passes r)
