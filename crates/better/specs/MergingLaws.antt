-- The laws of merging two profiles place by place: which point is next, and what a turn does to what holds in the loop.
use Rattle.std.specs.Prelude.{ℕ, ◌+◌, ◌≤◌, ◌<◌, ◌≡◌, true, false, ◌&&◌, ◌||◌, List, [], ◌∷◌, ◌⊎◌, ℤ, pos, nat_abs, length, drop, set, ◌≤ℤ◌, ◌<ℤ◌}
use Rattle.std.proofs.Common.{ap, ◌∙◌, true≢false, ⊎_elim, arith}
use Rattle.std.proofs.lemmas.Bool.{false≢true}
use Rattle.std.proofs.Math.Decide.{dec_lt}
use Rattle.std.specs.Int.Signed.{le_z, lt_z}
use Rattle.seconds.specs.Signed.{one-zero, signed}
use Rattle.order.specs.Job.{Point}
use Rattle.profile.specs.Profile.{better_of}
use Rattle.profile.proofs.Closure.{valid-holds}
use Rattle.profiles.specs.Numbers.{most_numbers, alternating, holds_profile}
use Rattle.profiles.specs.Places.{time_at, weight_at, points_of, AtPoint, NextPoint}
use Rattle.profiles.specs.NumbersLaws.{alternating-length, held}
use Rattle.profiles.specs.OnePass.{below_all}
use Rattle.profiles.specs.PlacesLaws.{at-start, next-point, no-point}
use Rattle.profiles.specs.Writing.{writing-none, writing-two, writing-all}
use Rattle.better.specs.InTurn.{in_turn, first_goes, turn-first, turn-second}
use Rattle.better.specs.Heavier.{heavier, merge-better}
use Rattle.better.specs.Merging.{first_goes_at, left_in_turn, Taken, Joinable, Merged, to_write, left_to_write, Merging}

-- ---- whose point is next

-- It is not where the first profile is at its end;
pub first_ended : (p : List ℤ) (i : ℕ) (q : List ℤ) (j : ℕ) → length p ≤ i → first_goes_at p i q j ≡ false
first_ended p i q j h = ap (λ (ps : List Point). first_goes ps (points_of (drop j q))) (no-point p i h)

-- it is where only the second is;
pub second_ended : {p : List ℤ} {i : ℕ} → NextPoint p i → (q : List ℤ) (j : ℕ) → length q ≤ j → first_goes_at p i q j ≡ true
second_ended n q j h = rw (n.points, no-point q j h)

-- else the times and the weights say it.
pub both_left : {p q : List ℤ} {i j : ℕ} → NextPoint p i → NextPoint q j
    → first_goes_at p i q j
    ≡ (lt_z (time_at p i) (time_at q j) || (le_z (time_at p i) (time_at q j) && le_z (weight_at q j) (weight_at p i)))
both_left n m = rw (n.points, m.points, ← n.weight, ← m.weight)

-- If it is, the first profile has a point left,
pub first-left : (p : List ℤ) (i : ℕ) (q : List ℤ) (j : ℕ) → first_goes_at p i q j ≡ true → i < length p
first-left p i q j e = go (dec_lt i (length p))
  where
    go : Dec (i < length p) → i < length p
    go (yes h) = h
    go (no h) = absurd (false≢true (rw (no-point p i (omega arith)) at e))

-- and if not, the second has, provided that any is left.
pub second-left : (p : List ℤ) (i : ℕ) (q : List ℤ) (j : ℕ) → AtPoint p i → (i < length p) ⊎ (j < length q)
    → first_goes_at p i q j ≡ false → j < length q
second-left p i q j a s e = ⊎_elim (λ h. go h (dec_lt j (length q))) (λ h. h) s
  where
    go : i < length p → Dec (j < length q) → j < length q
    go h (yes k) = k
    go h (no k) = absurd (true≢false (rw ((next-point p i a h).points, no-point q j (omega arith)) at e))

-- ---- a turn

-- The point is the first profile's,
pub taken-first : {p q : List ℤ} {i j : ℕ} → AtPoint p i → AtPoint q j → first_goes_at p i q j ≡ true
    → Taken p i q j (time_at p i) (weight_at p i) (i + 2) j
taken-first {p} {q} {i} {j} a b e =
    let n = next-point p i a (first-left p i q j e) in
    let turn = turn-first _ (points_of (drop (i + 2) p)) (points_of (drop j q)) (rw n.points at e) in
    record {
      next = ap (λ (ps : List Point). in_turn ps (points_of (drop j q))) n.points ∙ turn;
      whole = n.weight;
      light = n.light;
      first = n.further;
      second = b;
      forth = omega arith;
      less = omega arith;
    }

-- or the second's.
pub taken-second : {p q : List ℤ} {i j : ℕ} → AtPoint p i → AtPoint q j → (i < length p) ⊎ (j < length q)
    → first_goes_at p i q j ≡ false → Taken p i q j (time_at q j) (weight_at q j) i (j + 2)
taken-second {p} {q} {i} {j} a b s e =
    let n = next-point q j b (second-left p i q j a s e) in
    let turn = turn-second (points_of (drop i p)) _ (points_of (drop (j + 2) q)) (rw n.points at e) in
    record {
      next = ap (in_turn (points_of (drop i p))) n.points ∙ turn;
      whole = n.weight;
      light = n.light;
      first = a;
      second = n.further;
      forth = omega arith;
      less = omega arith;
    }

-- ---- merging

-- So it is at the start,
pub merging_start : (p q was : List ℤ) → Joinable p q was → Merging p q was 0 0 0 below_all was
merging_start p q was h = record {
  first = at-start p h.first;
  second = at-start q h.second;
  least = omega signed;
  most = omega signed;
  few = omega arith;
  writing = writing-none (to_write p q) was;
}

module _ {p q was : List ℤ} {i j n k l : ℕ} {last time weight : ℤ} {out : List ℤ}
    (m : Merging p q was i j n last out) (t : Taken p i q j time weight k l) where
  -- after a turn whose point is no heavier than the last one kept, and is passed by,
  pub merging-past : weight ≤ℤ last → Merging p q was k l n last out
  merging-past h =
      let whole = t.whole in
      let e : lt_z last (pos (nat_abs weight)) ≡ false = omega signed in
      let left : left_to_write last p i q j ≡ left_to_write last p k q l =
      ap (λ (ps : List Point). alternating (heavier last ps)) t.next ∙ rw e in
      record {
        first = t.first;
        second = t.second;
        least = m.least;
        most = m.most;
        few = m.few;
        writing = rw left at m.writing;
      }

  -- (for a heavier one there is room, since one point at most is kept for each weight)
  pub merging-room : most_numbers ≤ length was → last <ℤ weight → n + 1 < length out
  merging-room r h =
      let light = t.light in
      let few = m.few in
      omega (signed, m.writing.size, one-zero last, one-zero weight)

  -- and after a turn whose point is heavier, and is kept.
  pub merging-kept : most_numbers ≤ length was → last <ℤ weight
      → Merging p q was k l (n + 2) weight (set (set out n time) (n + 1) weight)
  merging-kept r h =
      let whole = t.whole in
      let e : lt_z last (pos (nat_abs weight)) ≡ true = omega signed in
      let left : left_to_write last p i q j ≡ time ∷ weight ∷ left_to_write weight p k q l =
      ap (λ (ps : List Point). alternating (heavier last ps)) t.next ∙ rw (e, whole) in
      let least = m.least in
      let few = m.few in
      record {
        first = t.first;
        second = t.second;
        least = omega signed;
        most = t.light;
        few = omega (signed, one-zero last, one-zero weight);
        writing = writing-two time weight (merging-room r h) (rw left at m.writing);
      }

-- Two profiles merged are the better of both.
to_write_lem : (p q : List ℤ) → holds_profile p ≡ true → holds_profile q ≡ true
    → to_write p q ≡ alternating (better_of (points_of p) (points_of q))
to_write_lem p q e f =
    let r = (valid-holds (points_of p) (held p e).valid).rises in
    let s = (valid-holds (points_of q) (held q f).valid).rises in
    ap alternating (merge-better r s)

-- With no point left all is written.
pub merging-end : {p q was : List ℤ} {i j n : ℕ} {last : ℤ} {out : List ℤ} → Joinable p q was → Merging p q was i j n last out
    → length p ≤ i → length q ≤ j → Merged p q was n out
merging-end {p} {q} {i = i} {j} {n} {last} {out} g m h k =
    let most = m.most in
    let few = m.few in
    let inside : n ≤ length out = omega (signed, m.writing.size, g.room, one-zero last) in
    let none_left : left_in_turn p i q j ≡ [] = rw (no-point p i h, no-point q j k) in
    let done = writing-all inside (rw (to_write_lem p q g.first g.second, none_left) at m.writing) in
    record { count = done.0 ∙ alternating-length (better_of (points_of p) (points_of q)); written = done.1 }
