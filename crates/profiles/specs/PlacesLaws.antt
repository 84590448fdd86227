-- The laws of places in the numbers of a profile: where it begins, before its end and at its end.
use Rattle.std.specs.Prelude.{ℕ, ◌+◌, ◌≤◌, ◌<◌, ◌≡◌, true, List, [], ◌∷◌, T, leb, ℤ, pos, nat_abs, length, drop, ◌≤ℤ◌}
use Rattle.std.proofs.Common.{ap, subst, arith, length-drop, drop_of_length-le}
use Rattle.std.specs.Float.Ieee.Fits.{and_l, and_r}
use Rattle.seconds.specs.Limits.{most_weight}
use Rattle.seconds.specs.Signed.{signed}
use Rattle.profile.specs.Profile.{points_within}
use Rattle.profiles.specs.Numbers.{alternating, holds_profile}
use Rattle.profiles.specs.Places.{time_at, weight_at, points_of, AtPoint, NextPoint}
use Rattle.profiles.specs.NumbersLaws.{alternating-length, next-two, valid-within, held}

-- The numbers of a profile begin so.
pub at-start : (ns : List ℤ) → holds_profile ns ≡ true → AtPoint ns 0
at-start ns e =
    let h = held ns e in
    record { inside = omega arith; numbers = h.numbers; within = valid-within (points_of ns) h.valid }

-- The second of such numbers is a weight, and the others are such numbers.
alternating-next : (x y : ℤ) (ns : List ℤ) → alternating (points_of (x ∷ y ∷ ns)) ≡ x ∷ y ∷ ns
    → (pos (nat_abs y) ≡ y) × (alternating (points_of ns) ≡ ns)
alternating-next x y ns e = (cc, cc)

-- Before the end a point begins.
pub next-point : (ns : List ℤ) (i : ℕ) → AtPoint ns i → i < length ns → NextPoint ns i
next-point ns i a h =
    let count = alternating-length (points_of (drop i ns)) in
    let more : i + 1 < length ns = omega (arith, ap length a.numbers, length-drop i ns) in
    let x : ℤ = time_at ns i in
    let y : ℤ = weight_at ns i in
    let after : List ℤ = drop (i + 2) ns in
    let e : drop i ns ≡ x ∷ y ∷ after = next-two ns i more in
    let numbers = alternating-next x y after (subst (λ (l : List ℤ). alternating (points_of l) ≡ l) e a.numbers) in
    let within = subst (λ (l : List ℤ). T (points_within (points_of l))) e a.within in
    let light : T (leb (nat_abs y) most_weight) = search (and_l, and_r) in
    record {
      more = more;
      points = ap points_of e;
      weight = numbers.0;
      light = subst (λ (z : ℤ). z ≤ℤ pos most_weight) numbers.0 (omega signed);
      further = record { inside = omega arith; numbers = numbers.1; within = search (and_l, and_r) };
    }

-- At the end none does.
pub no-point : (ns : List ℤ) (i : ℕ) → length ns ≤ i → points_of (drop i ns) ≡ []
no-point ns i h = ap points_of (drop_of_length-le ns h)
