-- The points of cells written one by one.
use Rattle.std.specs.Prelude.{ℕ, zero, suc, ◌+◌, ◌-◌, ◌≤◌, ◌<◌, ◌≡◌, refl, Bool, true, false, cond, List, [], ◌∷◌, ◌++◌, ℤ, pos, length, set}
use Rattle.std.proofs.Common.{sym, ap, ◌∙◌, arith, length-set, length-append, get_or-set_same, get_or-set_other}
use Rattle.codes.specs.Code.{at0, point_of}
use Rattle.codes.specs.Held.{Held, held_none, held_more}
use Rattle.codes.specs.HeldLaws.{held_stays, held-append}
use Rattle.cells.specs.Laying.{is_point}
use Rattle.gathering.specs.Points.{point_at, points_to, CanGather, Gathered}

-- More cells have no fewer points,
points-grow : (row : List ℤ) (x m : ℕ) → length (points_to row x) ≤ length (points_to row (x + m))
points-grow row x zero = let e : x + 0 ≡ x = omega arith in rw e (omega arith)
points-grow row x (suc m) =
    let e : x + suc m ≡ suc (x + m) = omega arith in
    rw e (omega (arith, points-grow row x m, length-append (points_to row (x + m)) (point_at row (x + m))))

-- and where the last cell is a point, there are fewer before it.
points-left : (row : List ℤ) {x end : ℕ} → x < end → ((y : ℕ) → suc y ≡ end → is_point (at0 row y) (at0 row end) ≡ true)
    → length (points_to row x) < length (points_to row end)
points-left row {x} {end} h last =
    let s : suc (end - 1) ≡ end = omega arith in
    let t : is_point (at0 row (end - 1)) (at0 row (suc (end - 1))) ≡ true = rw s (last (end - 1) s) in
    let to : x + (end - 1 - x) ≡ end - 1 = omega arith in
    let one : points_to row (suc (end - 1)) ≡ points_to row (end - 1) ++ (point_of (at0 row (end - 1)) ∷ []) =
    ap (λ (c : Bool). points_to row (end - 1) ++ cond c (point_of (at0 row (end - 1)) ∷ []) []) t in
    omega (
      arith,
      ap length (ap (points_to row) (sym s) ∙ one),
      length-append (points_to row (end - 1)) (point_of (at0 row (end - 1)) ∷ []),
      rw to at (points-grow row x (end - 1 - x)),
    )

-- ---- the loop

pub gather_none : (row was : List ℤ) → Gathered row 0 was 0 was
gather_none row was = record { size = refl; held = held_none; counted = refl }

module _ {row : List ℤ} {end x : ℕ} {was : List ℤ} {n : ℕ} {work : List ℤ} (c : CanGather row end was) (g : Gathered row x was n work)
    (more : x < end)
  where
    -- There is a place to write.
    pub gather-room : n < length work
    gather-room = omega (arith, points-left row more c.last, g.counted, g.size, c.room)

    -- One cell more.
    module _ (y : ℕ) (y-is : y ≡ suc x) (a b : ℤ) (a-is : a ≡ at0 row x) (b-is : b ≡ at0 row y) where
      other : (k : ℕ) → (k ≡ n → ⊥) → at0 (set work n a) k ≡ at0 work k
      other k = get_or-set_other work n k a (pos 0)

      test-is : is_point a b ≡ is_point (at0 row x) (at0 row (suc x))
      test-is = rw (a-is, b-is, y-is) refl

      still : Held (set work n a) 0 (points_to row x)
      still = held_stays n (λ k h. other k (omega arith)) (omega (arith, g.counted)) g.held

      new : (t : Bool) → is_point (at0 row x) (at0 row (suc x)) ≡ t → Held (set work n a) n (cond t (point_of (at0 row x) ∷ []) [])
      new true e =
          let s = c.coded x more e in
          held_more s.within (get_or-set_same work n a (pos 0) gather-room ∙ a-is ∙ s.is) held_none
      new false e = held_none

      one : (t : Bool) → length (cond t (point_of (at0 row x) ∷ []) []) ≡ cond t 1 0
      one true = refl
      one false = refl

      pub gather-more : (m : ℕ) (after : List ℤ) → m ≡ n + cond (is_point a b) 1 0 → after ≡ set work n a → Gathered row y was m after
      gather-more m after m-is is =
          rw (is, y-is) (record {
            size = length-set work n a ∙ g.size;
            held = held-append n still (omega (arith, g.counted)) (new (is_point (at0 row x) (at0 row (suc x))) refl);
            counted =
                omega (
                  arith,
                  m-is ∙ ap (λ (t : Bool). n + cond t 1 0) test-is,
                  g.counted,
                  one (is_point (at0 row x) (at0 row (suc x))),
                  length-append (points_to row x) (point_at row x),
                );
          })
