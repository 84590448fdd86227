-- A list of points written as alternating numbers, point by point from the front.
use Rattle.std.specs.Prelude.{ℕ, suc, ◌+◌, ◌-◌, ◌*◌, ◌≤◌, ◌<◌, ◌≡◌, List, ◌∷◌, ℤ, pos, length, set}
use Rattle.std.proofs.Common.{arith}
use Rattle.profiles.specs.Numbers.{alternating, written_over}
use Rattle.profiles.specs.Writing.{Writing, writing-none, writing-two, writing-all}
use Rattle.codes.specs.Code.{point_of, at0, list_at}

-- The numbers of a list at a place.
abbrev pub numbers_at : List ℤ → ℕ → ℕ → List ℤ
numbers_at work place count = alternating (list_at work place count)

-- With k points of a list written over `was`, the others are still to be written.
pub record Listing (work : List ℤ) (place count k : ℕ) (out was : List ℤ) : Type 0 where
  pub few : k ≤ count
  pub writing : Writing (numbers_at work place count) (numbers_at work (place + k) (count - k)) (2 * k) out was

-- The points from a place on are the one there and those behind it.
next-point : (work : List ℤ) (place count k : ℕ) → k < count
    → list_at work (place + k) (count - k) ≡ point_of (at0 work (place + k)) ∷ list_at work (place + (k + 1)) (count - (k + 1))
next-point work place count k h =
    let n : count - k ≡ suc (count - (k + 1)) = omega arith in
    let i : suc (place + k) ≡ place + (k + 1) = omega arith in
    rw (n, i)

-- At the start nothing is written.
pub listing_none : (work : List ℤ) (place count : ℕ) (was : List ℤ) → Listing work place count 0 was was
listing_none work place count was =
    let i : place + 0 ≡ place = omega arith in
    let n : count - 0 ≡ count = omega arith in
    record { few = omega arith; writing = rw (i, n) (writing-none (numbers_at work place count) was) }

-- The time and the weight of one point more.
pub listing-more : {work : List ℤ} {place count k : ℕ} {out was : List ℤ} → Listing work place count k out was → k < count
    → 2 * count ≤ length was → (x y : ℤ) → x ≡ (point_of (at0 work (place + k))).time
    → y ≡ pos (point_of (at0 work (place + k))).weight
    → Listing work place count (k + 1) (set (set out (2 * k) x) (2 * k + 1) y) was
listing-more {work} {place} {count} {k} {out} {was} l h room x y d e =
    let i : 2 * (k + 1) ≡ 2 * k + 2 = omega arith in
    let p = point_of (at0 work (place + k)) in
    let w = rw (next-point work place count k h) at l.writing in
    let two = writing-two p.time (pos p.weight) (omega (arith, l.writing.size)) w in
    record { few = omega arith; writing = rw (d, e, i) two }

-- With no point left the list stands in front of what was there.
pub listing-all : {work : List ℤ} {place count k : ℕ} {out was : List ℤ} → Listing work place count k out was → count ≤ k
    → 2 * count ≤ length was → out ≡ written_over (alternating (list_at work place count)) was
listing-all {work} {place} {count} {k} l h room =
    let n : count - k ≡ 0 = omega arith in
    let w = rw n at l.writing in
    (writing-all (omega (arith, l.few, l.writing.size)) w).1
