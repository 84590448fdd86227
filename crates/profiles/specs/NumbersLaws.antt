-- The laws of alternating numbers: a profile comes back from its numbers, and numbers from the profile they hold.
use Rattle.std.specs.Prelude.{ℕ, suc, ◌+◌, ◌*◌, ◌<◌, ◌≡◌, refl, Bool, true, false, cond, List, [], ◌∷◌, ◌↔◌, T, ℤ, pos, negsuc, length, drop}
use Rattle.std.proofs.Common.{sym, ap, ◌∙◌, true≢false, arith, drop-cons}
use Rattle.std.proofs.lemmas.Bool.{false≢true}
use Rattle.std.proofs.Math.Option.{Option, none, some, none-ne-some, some-injective}
use Rattle.std.specs.Float.Ieee.Bits.{is_true}
use Rattle.std.specs.Float.Ieee.Fits.{and_l, and_r}
use Rattle.seconds.specs.Signed.{true-T}
use Rattle.order.specs.Job.{Point}
use Rattle.profile.specs.Profile.{points_within, valid_profile}
use Rattle.profiles.specs.Numbers.{alternating, with_point, points_in, if_valid, profile_in, is_there, holds_profile}
use Rattle.profiles.specs.Places.{time_at, weight_at, points_of}

-- Two numbers a point.
pub alternating-length : (ps : List Point) → length (alternating ps) ≡ 2 * length ps
alternating-length [] = refl
alternating-length (p ∷ ps) = omega (arith, alternating-length ps)

-- From a point's place on its numbers come first.
pub next-two : (ns : List ℤ) (i : ℕ) → i + 1 < length ns
    → drop i ns ≡ time_at ns i ∷ weight_at ns i ∷ drop (i + 2) ns
next-two ns i h =
    let g : i < length ns = omega arith in
    let k : suc i < length ns = omega arith in
    let e : i + 1 ≡ suc i = omega arith in
    let f : i + 2 ≡ suc (suc i) = omega arith in
    rw (e, f) (drop-cons ns i (pos 0) g ∙ ap (λ (l : List ℤ). time_at ns i ∷ l) (drop-cons ns (suc i) (pos 0) k))

-- The numbers of points hold those points,
pub points-back : (ps : List Point) → points_in (alternating ps) ≡ some ps
points-back [] = refl
points-back (p ∷ ps) = ap (with_point p.time (pos p.weight)) (points-back ps)

-- and a profile's numbers hold that profile.
pub profile-back : (ps : List Point) → T (valid_profile ps) → profile_in (alternating ps) ≡ some ps
profile-back ps t = ap if_valid (points-back ps) ∙ rw (is_true (valid_profile ps) t)

-- Numbers that hold points are the numbers of those points.
pub points-numbers : (ns : List ℤ) (ps : List Point) → points_in ns ≡ some ps → alternating ps ≡ ns
points-numbers [] ps e = ap alternating (sym (some-injective [] ps e))
points-numbers (t ∷ []) ps e = cc
points-numbers (t ∷ w ∷ ns) ps e = go w (points_in ns) (points-numbers ns) e
  where
    go : (w : ℤ) (o : Option (List Point)) → ((qs : List Point) → o ≡ some qs → alternating qs ≡ ns)
        → with_point t w o ≡ some ps → alternating ps ≡ t ∷ w ∷ ns
    go (pos v) (some qs) ih f = let same = ih qs refl in cc
    go (pos v) none ih f = cc
    go (negsuc v) o ih f = cc

-- To hold a profile is to be its numbers.
pub record Holds (ns : List ℤ) (ps : List Point) : Type 0 where
  pub numbers : alternating ps ≡ ns
  pub valid : T (valid_profile ps)

-- The profile in some numbers is the one that they hold.
pub profile-holds : (ns : List ℤ) (ps : List Point) → profile_in ns ≡ some ps ↔ Holds ns ps
profile-holds ns ps = (go (points_in ns) refl, λ h. rw (← h.numbers) (profile-back ps h.valid))
  where
    kept : (qs : List Point) (b : Bool) → valid_profile qs ≡ b → points_in ns ≡ some qs
        → cond b (some qs) none ≡ some ps → Holds ns ps
    kept qs true v e f =
        let same : qs ≡ ps = some-injective qs ps f in
        record { numbers = points-numbers ns ps (e ∙ f); valid = true-T (ap valid_profile (sym same) ∙ v) }
    kept qs false v e f = absurd (none-ne-some ps f)

    go : (o : Option (List Point)) → points_in ns ≡ o → if_valid o ≡ some ps → Holds ns ps
    go none e f = absurd (none-ne-some ps f)
    go (some qs) e f = kept qs (valid_profile qs) refl e f

-- A valid profile's points lie within the ranges.
pub valid-within : (ps : List Point) → T (valid_profile ps) → T (points_within ps)
valid-within ps t = search (and_l, and_r)

-- ---- the points of any numbers, read without judging: code that has judged them goes by these

-- The numbers of points give those points.
points-of : (ps : List Point) → points_of (alternating ps) ≡ ps
points-of [] = refl
points-of (p ∷ ps) = ap (λ (qs : List Point). p ∷ qs) (points-of ps)

-- Where there is a profile, they are its points,
pub held : (ns : List ℤ) → holds_profile ns ≡ true → Holds ns (points_of ns)
held ns e = go (profile_in ns) refl e
  where
    go : (o : Option (List Point)) → profile_in ns ≡ o → is_there o ≡ true → Holds ns (points_of ns)
    go none f t = absurd (false≢true t)
    go (some ps) f t =
        let h = (profile-holds ns ps).0 f in
        let same : points_of ns ≡ ps = ap points_of (sym h.numbers) ∙ points-of ps in
        rw same h

-- and that profile is in the numbers;
pub profile-there : (ns : List ℤ) → holds_profile ns ≡ true → profile_in ns ≡ some (points_of ns)
profile-there ns e = (profile-holds ns (points_of ns)).1 (held ns e)

-- else there is none.
pub profile-not : (ns : List ℤ) → holds_profile ns ≡ false → profile_in ns ≡ none
profile-not ns e = go (profile_in ns) e
  where
    go : (o : Option (List Point)) → is_there o ≡ false → o ≡ none
    go none t = refl
    go (some ps) t = absurd (true≢false t)
