-- The tie rule said over places: of two choices, the one with the smaller pick at the last place where they differ
-- comes first.
use Prim.Native.Nat.{Ordering}
use Prim.Native.Nat.{ℕ, zero, suc, ◌≤◌, ◌<◌, compare}
use Rattle.std.specs.Prelude.{◌≡◌, ◌↔◌, [], ◌∷◌, length, get_or}
use Rattle.std.proofs.Common.{ap, ⊎_elim, arith, ext_get_or}
use Rattle.order.specs.Choice.{Choice}
use Rattle.plan.specs.Plan.{by_last_place}
use Rattle.plan.proofs.Comparing.{or_then-lt, compare-lt, by_last_place-total}

-- The pick at a place.
abbrev pub pick_at : Choice → ℕ → ℕ
pick_at c k = get_or c k 0

-- At every place after k two choices have the same pick.
abbrev pub SameAfter : ℕ → Choice → Choice → Type 0
SameAfter k c d = (i : ℕ) → k < i → i < length c → pick_at c i ≡ pick_at d i

-- At the last place where two choices differ, the first has the smaller pick.
pub record SmallerAtLast (c d : Choice) : Type 0 where
  pub place : ℕ
  pub within : place < length c
  pub smaller : pick_at c place < pick_at d place
  pub after : SameAfter place c d

-- ---- from the comparison to the place

-- A pick in front moves the place on by one.
further : (x y : ℕ) (c d : Choice) → SmallerAtLast c d → SmallerAtLast (x ∷ c) (y ∷ d)
further x y c d s =
    record {
      place = suc s.place;
      within = omega arith;
      smaller = s.smaller;
      after = rest;
    }
  where
    rest : SameAfter (suc s.place) (x ∷ c) (y ∷ d)
    rest zero h k = absurd (omega arith)
    rest (suc j) h k = s.after j (omega arith) (omega arith)

-- With equal picks behind it, the front is the place.
at_front : (x y : ℕ) (c d : Choice) → c ≡ d → x < y → SmallerAtLast (x ∷ c) (y ∷ d)
at_front x y c d e h =
    record {
      place = 0;
      within = omega arith;
      smaller = h;
      after = rest;
    }
  where
    rest : SameAfter 0 (x ∷ c) (y ∷ d)
    rest zero h k = absurd (omega arith)
    rest (suc j) h k = ap (λ l. pick_at l j) e

-- So what comes first by the tie rule has the smaller pick at the last place;
place_of : (c d : Choice) → length c ≡ length d → by_last_place c d ≡ Ordering.lt → SmallerAtLast c d
place_of [] [] n e = let z : ◌≡◌ {A = ℕ} 0 1 = cc in absurd (omega arith)
place_of [] (y ∷ d) n e = absurd (omega arith)
place_of (x ∷ c) [] n e = absurd (omega arith)
place_of (x ∷ c) (y ∷ d) n e =
    ⊎_elim (λ h. further x y c d (place_of c d (omega arith) h))
    (λ h. at_front x y c d ((by_last_place-total.equal c d).0 h.0) ((compare-lt x y).0 h.1))
    (or_then-lt (by_last_place c d) (compare x y) e)

-- ---- from the place to the comparison

-- what has the smaller pick at a place, and the same picks after it, comes first.
by_place_lem : (c d : Choice) → length c ≡ length d → (k : ℕ) → k < length c → pick_at c k < pick_at d k → SameAfter k c d
    → by_last_place c d ≡ Ordering.lt
by_place_lem [] d n k w s f = absurd (omega arith)
by_place_lem (x ∷ c) [] n k w s f = absurd (omega arith)
by_place_lem (x ∷ c) (y ∷ d) n zero w s f =
    let e : c ≡ d = ext_get_or 0 c d (omega arith) (λ i h. f (suc i) (omega arith) (omega arith)) in
    cc ((by_last_place-total.equal c d).1 e, (compare-lt x y).1 s)
by_place_lem (x ∷ c) (y ∷ d) n (suc k) w s f =
    cc (by_place_lem c d (omega arith) k (omega arith) s (λ i h j. f (suc i) (omega arith) (omega arith)))

-- Of two choices of the same jobs one comes first by the tie rule exactly when it has the smaller pick at the last
-- place where they differ.
pub tie-rule : (c d : Choice) → length c ≡ length d → (by_last_place c d ≡ Ordering.lt) ↔ SmallerAtLast c d
tie-rule c d n = (place_of c d n, λ s. by_place_lem c d n s.place s.within s.smaller s.after)

-- ---- left out and kept

-- At the last place where two choices differ, the first leaves the job out and the second keeps it.
pub record LeftOutAtLast (c d : Choice) : Type 0 where
  pub place : ℕ
  pub within : place < length c
  pub left_out : pick_at c place ≡ 0
  pub kept : 0 < pick_at d place
  pub after : SameAfter place c d

-- The choice that leaves that job out comes first.
pub left-out-first : (c d : Choice) → length c ≡ length d → LeftOutAtLast c d → by_last_place c d ≡ Ordering.lt
left-out-first c d n l = by_place_lem c d n l.place l.within (omega arith) l.after

-- Where the other's picks are at most 1, a smaller pick is left out against kept, so it comes first only so.
pub left-out-of : {c d : Choice} (s : SmallerAtLast c d) → pick_at d s.place ≤ 1 → LeftOutAtLast c d
left-out-of s one = record { place = s.place; within = s.within; left_out = omega arith; kept = omega arith; after = s.after }
