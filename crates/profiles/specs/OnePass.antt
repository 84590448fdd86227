-- Validity in one pass: both numbers of a point are above those of the point before it, so only the first and the last point
-- are held to the ranges.
use Rattle.std.specs.Prelude.{ℕ, ◌+◌, ◌%◌, ◌≤◌, ◌<◌, ◌≡◌, refl, Bool, true, false, ◌&&◌, List, [], ◌∷◌, ◌⊎◌, ◌≢◌, T, leb, ℤ, pos, negsuc, length, drop, ◌≤ℤ◌, ◌<ℤ◌}
use Rattle.std.proofs.Common.{ap, ◌∙◌, subst, ⊎_elim, arith, drop_of_length-le}
use Rattle.std.proofs.Math.Bool.{and-false}
use Rattle.std.proofs.Math.Option.{Option, none, some}
use Rattle.std.specs.Float.Ieee.Fits.{and_i, and_l, and_r}
use Rattle.std.specs.Int.Signed.{le_z, lt_z}
use Rattle.seconds.specs.Limits.{earliest, latest_free, most_weight, most_points}
use Rattle.seconds.specs.Signed.{signed, same_test}
use Rattle.order.specs.Job.{Point}
use Rattle.profile.specs.Profile.{rises_to, rising, points_within}
use Rattle.profiles.specs.Numbers.{most_numbers, alternating, with_point, points_in, profile_in, is_there, holds_profile}
use Rattle.profiles.specs.Places.{time_at, weight_at}
use Rattle.profiles.specs.NumbersLaws.{next-two, alternating-length, points-numbers, profile-holds}
use Rattle.profiles.specs.NumbersLaws.{valid-within}

-- ---- the pass

-- What is left to find after a point of this time and weight: points that rise, the last one within the ranges.
abbrev pub passes : ℤ → ℤ → List ℤ → Bool
passes t w [] = le_z t latest_free && le_z w (pos most_weight)
passes t w (x ∷ []) = false
passes t w (x ∷ y ∷ ns) = lt_z t x && (lt_z w y && passes x y ns)

-- Where the pass begins: at the second before the earliest, and at a weight below all.
abbrev pub before_all : ℤ
before_all = negsuc 100000

abbrev pub below_all : ℤ
below_all = negsuc 0

-- The judgement: few enough numbers, and they pass from there.
abbrev judged : List ℤ → Bool
judged ns = leb (length ns) most_numbers && passes before_all below_all ns

-- ---- it judges as the definition does

-- The first point comes after this time and above this weight.
abbrev starts_after : ℤ → ℤ → List Point → Bool
starts_after t w [] = true
starts_after t w (p ∷ ps) = lt_z t p.time && lt_z w (pos p.weight)

-- A point rises to the points that start after it.
rises-after : (p : Point) (ps : List Point) → rises_to p ps ≡ starts_after p.time (pos p.weight) ps
rises-after p [] = refl
rises-after p (q ∷ qs) = refl

-- A valid profile starts where the pass begins.
starts-valid : (ps : List Point) → T (points_within ps) → T (starts_after before_all below_all ps)
starts-valid [] i = tt
starts-valid (p ∷ ps) i =
    let soon : T (le_z earliest p.time) = search (and_l, and_r) in
    and_i (lt_z before_all p.time) (lt_z below_all (pos p.weight)) (omega signed) tt

-- The numbers of a valid profile pass.
passes-valid : (t w : ℤ) (ps : List Point) → T (starts_after t w ps) → T (rising ps) → T (points_within ps)
    → t ≤ℤ latest_free → w ≤ℤ pos most_weight → T (passes t w (alternating ps))
passes-valid t w [] s r i h k = and_i (le_z t latest_free) (le_z w (pos most_weight)) h.le k.le
passes-valid t w (p ∷ ps) s r i h k =
    let starts = subst T (rises-after p ps) (and_l (rises_to p ps) (rising ps) r) in
    let late : T (le_z p.time latest_free) = search (and_l, and_r) in
    let heavy : T (leb p.weight most_weight) = search (and_l, and_r) in
    let rises : T (rising ps) = search (and_l, and_r) in
    let within : T (points_within ps) = search (and_l, and_r) in
    let further = passes-valid p.time (pos p.weight) ps starts rises within (omega signed) (omega signed) in
    search (and_l, and_r, and_i)

-- Numbers that pass hold points that rise, start after the time and weight, and lie within the ranges.
record Passed (t w : ℤ) (ns : List ℤ) : Type 0 where
  points : List Point
  held : points_in ns ≡ some points
  starts : T (starts_after t w points)
  rises : T (rising points)
  within : T (points_within points)
  late : t ≤ℤ latest_free
  heavy : w ≤ℤ pos most_weight

-- So they do from where the pass begins, and after.
passed : (ns : List ℤ) (t w : ℤ) → before_all ≤ℤ t → below_all ≤ℤ w → T (passes t w ns) → Passed t w ns
passed [] t w early light s =
    let h = and_l (le_z t latest_free) (le_z w (pos most_weight)) s in
    let k = and_r (le_z t latest_free) (le_z w (pos most_weight)) s in
    record { points = []; held = refl; starts = tt; rises = tt; within = tt; late = omega signed; heavy = omega signed }
passed (x ∷ []) t w early light s = absurd s
passed (x ∷ negsuc v ∷ ns) t w early light s =
    let h : T (lt_z w (negsuc v)) = search (and_l, and_r) in
    absurd (omega signed)
passed (x ∷ pos v ∷ ns) t w early light s =
    let p : Point = record { time = x; weight = v } in
    let after : T (lt_z t x) = and_l (lt_z t x) (lt_z w (pos v) && passes x (pos v) ns) s in
    let above : T (lt_z w (pos v)) = search (and_l, and_r) in
    let further = passed ns x (pos v) (omega signed) (omega signed) (search (and_l, and_r)) in
    let late = further.late in
    let heavy = further.heavy in
    let rises-to : T (rises_to p further.points) = rw (rises-after p further.points) further.starts in
    let rises = further.rises in
    let within = further.within in
    let soon : T (le_z earliest x) = omega signed in
    let light : T (leb v most_weight) = omega signed in
    record {
      points = p ∷ further.points;
      held = ap (with_point x (pos v)) further.held;
      starts = and_i (lt_z t x) (lt_z w (pos v)) after above;
      rises = search and_i;
      within = search and_i;
      late = omega signed;
      heavy = omega signed;
    }

-- Numbers hold a valid profile exactly if they are judged so.
holds-judged : (ns : List ℤ) → holds_profile ns ≡ judged ns
holds-judged ns = same_test (holds_profile ns) (judged ns) (to (profile_in ns) refl, back)
  where
    to : (o : Option (List Point)) → profile_in ns ≡ o → T (is_there o) → T (judged ns)
    to none e t = absurd t
    to (some ps) e t =
        let h = (profile-holds ns ps).0 e in
        let v = h.valid in
        let few : T (leb (length ps) most_points) = search (and_l, and_r) in
        let within = valid-within ps v in
        let rises : T (rising ps) = search (and_l, and_r) in
        let size : T (leb (length (alternating ps)) most_numbers) = omega (signed, alternating-length ps) in
        let pass = passes-valid before_all below_all ps (starts-valid ps within) rises within (omega signed) (omega signed) in
        rw (← h.numbers) (search and_i)

    back : T (judged ns) → T (holds_profile ns)
    back t =
        let few : T (leb (length ns) most_numbers) = search (and_l, and_r) in
        let q = passed ns before_all below_all (omega signed) (omega signed) (search (and_l, and_r)) in
        let numbers = points-numbers ns q.points q.held in
        let size : T (leb (length q.points) most_points) = omega (signed, alternating-length q.points, ap length numbers) in
        let rises = q.rises in
        let within = q.within in
        let there = (profile-holds ns q.points).1 (record { numbers = numbers; valid = search and_i }) in
        rw there tt

-- ---- what the pass finds, place by place

-- Too many numbers hold no profile.
pub holds-long : (ns : List ℤ) → most_numbers < length ns → holds_profile ns ≡ false
holds-long ns h = let e : leb (length ns) most_numbers ≡ false = omega signed in holds-judged ns ∙ rw e

-- Nor does an odd number of them;
passes-odd : (ns : List ℤ) (t w : ℤ) → length ns % 2 ≢ 0 → passes t w ns ≡ false
passes-odd [] t w h = absurd (h refl)
passes-odd (x ∷ []) t w h = refl
passes-odd (x ∷ y ∷ ns) t w h =
    rw (passes-odd ns x y (omega arith)) (rw (and-false (lt_z w y)) (and-false (lt_z t x)))

pub holds-odd : (ns : List ℤ) → length ns % 2 ≢ 0 → holds_profile ns ≡ false
holds-odd ns h = holds-judged ns ∙ rw (passes-odd ns before_all below_all h) (and-false (leb (length ns) most_numbers))

-- others are judged by the pass.
pub holds-few : (ns : List ℤ) → length ns ≤ most_numbers → holds_profile ns ≡ passes before_all below_all ns
holds-few ns h = let e : leb (length ns) most_numbers ≡ true = omega signed in holds-judged ns ∙ rw e

module _ (ns : List ℤ) (i : ℕ) (more : i + 1 < length ns) (t w : ℤ) where
  -- A point that is later and heavier is passed,
  pub passes_on : t <ℤ time_at ns i → w <ℤ weight_at ns i
      → passes t w (drop i ns) ≡ passes (time_at ns i) (weight_at ns i) (drop (i + 2) ns)
  passes_on h k =
      let e : lt_z t (time_at ns i) ≡ true = omega signed in
      let f : lt_z w (weight_at ns i) ≡ true = omega signed in
      ap (passes t w) (next-two ns i more) ∙ rw (e, f)

  -- and any other ends the pass.
  pub passes-not : (time_at ns i ≤ℤ t) ⊎ (weight_at ns i ≤ℤ w) → passes t w (drop i ns) ≡ false
  passes-not h = ap (passes t w) (next-two ns i more) ∙ ⊎_elim early light h
    where
      early : time_at ns i ≤ℤ t → passes t w (time_at ns i ∷ weight_at ns i ∷ drop (i + 2) ns) ≡ false
      early g = let e : lt_z t (time_at ns i) ≡ false = omega signed in rw e

      light : weight_at ns i ≤ℤ w → passes t w (time_at ns i ∷ weight_at ns i ∷ drop (i + 2) ns) ≡ false
      light g = let e : lt_z w (weight_at ns i) ≡ false = omega signed in rw e (and-false (lt_z t (time_at ns i)))

-- At the end the last point is held to the ranges.
pub passes-end : (ns : List ℤ) (i : ℕ) → length ns ≤ i → (t w : ℤ)
    → passes t w (drop i ns) ≡ (le_z t latest_free && le_z w (pos most_weight))
passes-end ns i h t w = ap (passes t w) (drop_of_length-le ns h)
