-- The points of the cells of a rising list are the list.
use Rattle.std.specs.Prelude.{ℕ, zero, suc, ◌+◌, ◌-◌, ◌≤◌, ◌<◌, ◌≡◌, refl, Bool, true, false, cond, List, [], ◌∷◌, ◌++◌, leb, ltb, ℤ, length, ◌<ℤ◌}
use Rattle.std.proofs.Common.{sym, ap, ◌∙◌, true≢false, append-nil, arith, length-append}
use mathlib.Core.List.Memᴰ.{head}
use mathlib.Core.List.Memᴰ.{tail}
use Rattle.seconds.specs.Signed.{signed, min_z, min-is}
use Rattle.order.specs.Job.{Point}
use Rattle.profile.proofs.Rising.{BelowAll, below_none, below_more, Rising, rising_none, rising-more}
use Rattle.profile.proofs.Closure.{PointWithin}
use Rattle.codes.specs.Code.{at0, code, code_of, point_of, past_all}
use Rattle.codes.specs.CodeLaws.{since-few, point-back}
use Rattle.cells.specs.Cells.{cell_of, reach, Cells}
use Rattle.cells.specs.CellLaws.{Within, cell-range, cell-past}
use Rattle.cells.specs.RisingCells.{cell-above, first_cell, later-cell}
use Rattle.cells.specs.Laying.{is_point, rises_to}
use Rattle.gathering.specs.Points.{point_at, points_to, Number, CanGather}

-- The points lighter than a weight, of a list that rises.
abbrev lighter : ℕ → List Point → List Point
lighter x [] = []
lighter x (p ∷ ps) = cond (ltb p.weight x) (p ∷ lighter x ps) []

-- What a cell is: the last before a heavier point begins is a point, and the others are not less than the next.
data Next (ps : List Point) (x : ℕ) : Type 0 where
  next-point : (p : Point) → PointWithin p → cell_of ps x ≡ code p → is_point (cell_of ps x) (cell_of ps (suc x)) ≡ true
      → lighter (suc x) ps ≡ lighter x ps ++ (p ∷ []) → Next ps x
  next-none : is_point (cell_of ps x) (cell_of ps (suc x)) ≡ false → lighter (suc x) ps ≡ lighter x ps → Next ps x

-- No point of a list above a point is lighter than what is next to it.
lighter-none : {p : Point} {ps : List Point} → BelowAll p ps → (x : ℕ) → x ≤ suc p.weight → lighter x ps ≡ []
lighter-none below_none x h = refl
lighter-none (below_more {q = q} l m) x h = let t : ltb q.weight x ≡ false = omega (signed, l.lighter) in rw t

next-cell : {ps : List Point} → Rising ps → Within ps → (x : ℕ) → x < 319 → Next ps x
next-cell rising_none h x few = next-none (omega signed) refl
next-cell (rising-more {p = p} {ps = ps} b r) h x few =
    go (λ (u : Unit {0}). next-cell r (λ q n. h q (tail n)) x few) (leb (suc x) p.weight) (leb x p.weight) refl refl
  where
    s : PointWithin p
    s = h p (head refl)

    first : {y : ℕ} → y ≤ p.weight → cell_of (p ∷ ps) y ≡ code_of p.time y
    first = first_cell s (λ q n. h q (tail n)) b

    later : {y : ℕ} → p.weight < y → cell_of (p ∷ ps) y ≡ cell_of ps y
    later = later-cell s (λ q n. h q (tail n)) b

    more : Next ps x → p.weight < x → Next (p ∷ ps) x
    more (next-point q w e t l) k =
        let a : ltb p.weight x ≡ true = omega signed in
        let c : ltb p.weight (suc x) ≡ true = omega signed in
        next-point q w (later k ∙ e) (rw (later k, later {y = suc x} (omega arith)) t) (rw (a, c) (ap (λ (z : List Point). p ∷ z) l))
    more (next-none t l) k =
        let a : ltb p.weight x ≡ true = omega signed in
        let c : ltb p.weight (suc x) ≡ true = omega signed in
        next-none (rw (later k, later {y = suc x} (omega arith)) t) (rw (a, c) (ap (λ (z : List Point). p ∷ z) l))

    go : (Unit {0} → Next ps x) → (c d : Bool) → leb (suc x) p.weight ≡ c → leb x p.weight ≡ d → Next (p ∷ ps) x
    go i true true f g =
        let a : ltb p.weight x ≡ false = omega signed in
        let e : ltb p.weight (suc x) ≡ false = omega signed in
        let t : is_point (code_of p.time x) (code_of p.time (suc x)) ≡ false = omega (signed, s.weight) in
        next-none (rw (first {y = x} (omega signed), first {y = suc x} (omega signed)) t) (rw (a, e) refl)
    go i true false f g = absurd (omega signed)
    go i false true f g =
        let same : x ≡ p.weight = omega signed in
        let a : ltb p.weight x ≡ false = omega signed in
        let e : ltb p.weight (suc x) ≡ true = omega signed in
        let above = cell-above s (λ q n. h q (tail n)) b x (suc x) (omega (arith, s.weight)) (omega arith) in
        let t : is_point (code_of p.time x) (cell_of ps (suc x)) ≡ true = omega signed in
        next-point p s (first {y = x} (omega signed) ∙ ap (code_of p.time) same)
        (rw (first {y = x} (omega signed), later {y = suc x} (omega signed)) t)
        (rw (a, e) (ap (λ (z : List Point). p ∷ z) (lighter-none b (suc x) (omega arith))))
    go i false false f g = more (i tt) (omega signed)

-- All points are lighter than the reach, and none is lighter than 0.
lighter-all : (ps : List Point) (x : ℕ) → reach ps ≤ x → lighter x ps ≡ ps
lighter-all [] x h = refl
lighter-all (p ∷ ps) x h =
    let t : ltb p.weight x ≡ true = omega (signed, h) in
    rw t (ap (λ (z : List Point). p ∷ z) (lighter-all ps x (omega (arith, h))))

lighter-zero : (ps : List Point) → lighter 0 ps ≡ []
lighter-zero [] = refl
lighter-zero (p ∷ ps) = let t : ltb p.weight 0 ≡ false = omega signed in rw t

-- ---- a row that has the cells of a rising list

module _ {row : List ℤ} {ps : List Point} (c : Cells row ps) (r : Rising ps) (h : Within ps) (few : reach ps ≤ 301) where
  at-cell : (x : ℕ) → x < 319 → Next ps x
  at-cell = next-cell r h

  test-is : (x : ℕ) → x < 319 → is_point (at0 row x) (at0 row (suc x)) ≡ is_point (cell_of ps x) (cell_of ps (suc x))
  test-is x k = rw (c.cell x (omega arith), c.cell (suc x) (omega arith)) refl

  one_more : (x : ℕ) → x < 319 → Next ps x → lighter (suc x) ps ≡ lighter x ps ++ point_at row x
  one_more x k (next-point p s e t l) =
      let u : is_point (at0 row x) (at0 row (suc x)) ≡ true = test-is x k ∙ t in
      let q : point_of (at0 row x) ≡ p = ap point_of (c.cell x (omega arith) ∙ e) ∙ point-back s in
      rw (u, q) l
  one_more x k (next-none t l) =
      let u : is_point (at0 row x) (at0 row (suc x)) ≡ false = test-is x k ∙ t in
      rw u (l ∙ sym (append-nil (lighter x ps)))

  points-lighter : (x : ℕ) → x ≤ 319 → points_to row x ≡ lighter x ps
  points-lighter zero k = sym (lighter-zero ps)
  points-lighter (suc x) k =
      ap (λ (qs : List Point). qs ++ point_at row x) (points-lighter x (omega arith))
      ∙ sym (one_more x (omega arith) (at-cell x (omega arith)))

  -- Its points are the list,
  pub points-are : points_to row (reach ps) ≡ ps
  points-are = points-lighter (reach ps) (omega (arith, few)) ∙ lighter-all ps (reach ps) (omega arith)

  -- The last cell is a point,
  last-point : (x : ℕ) → suc x ≡ reach ps → is_point (at0 row x) (at0 row (reach ps)) ≡ true
  last-point x k =
      let past : at0 row (reach ps) ≡ past_all = c.cell (reach ps) (omega (arith, few)) ∙ cell-past ps (reach ps) (omega arith) in
      let inside = in_cell ps h x (omega arith) in
      let d = c.cell x (omega (arith, few)) in
      omega signed
    where
      in_cell : (qs : List Point) → Within qs → (y : ℕ) → y < reach qs → cell_of qs y <ℤ past_all
      in_cell [] w y l = absurd (omega arith)
      in_cell (q ∷ qs) w y l = go (leb y q.weight) refl (λ m. in_cell qs (λ z n. w z (tail n)) y m)
        where
          go : (b : Bool) → leb y q.weight ≡ b → (y < reach qs → cell_of qs y <ℤ past_all)
              → min_z (cond b (code_of q.time y) past_all) (cell_of qs y) <ℤ past_all
          go true f i = omega (signed, since-few (w q (head refl)).time, min-is (code_of q.time y) (cell_of qs y))
          go false f i =
              let m = i (omega (signed, l)) in
              omega (signed, min-is past_all (cell_of qs y))

  -- so they are as many as cells are greater than the one before, and one,
  pub points-counted : 1 ≤ reach ps → length ps ≡ rises_to (at0 row) (reach ps) + 1
  points-counted some =
      let y : suc (reach ps - 1) ≡ reach ps = omega arith in
      let t : is_point (at0 row (reach ps - 1)) (at0 row (suc (reach ps - 1))) ≡ true = rw y (last-point (reach ps - 1) y) in
      let one : points_to row (suc (reach ps - 1)) ≡ points_to row (reach ps - 1) ++ (point_of (at0 row (reach ps - 1)) ∷ []) =
      ap (λ (b : Bool). points_to row (reach ps - 1) ++ cond b (point_of (at0 row (reach ps - 1)) ∷ []) []) t in
      omega (
        arith,
        ap length (sym points-are ∙ ap (points_to row) (sym y) ∙ one),
        length-append (points_to row (reach ps - 1)) (point_of (at0 row (reach ps - 1)) ∷ []),
        rises-points (reach ps - 1) (omega (arith, few)) ∙ ap (rises_to (at0 row)) y,
      )
    where
      -- The cells before one that are points are as many as those up to it that are greater than the one before.
      rises-points : (x : ℕ) → x ≤ 319 → length (points_to row x) ≡ rises_to (at0 row) (suc x)
      rises-points zero k =
          let first = c.cell 0 (omega arith) in
          let most = (cell-range ps h 0).high in
          let t : is_point past_all (at0 row 0) ≡ false = omega signed in
          rw t (omega arith)
      rises-points (suc x) k =
          let next : length (point_at row x) ≡ cond (is_point (at0 row x) (at0 row (suc x))) 1 0 = go (is_point (at0 row x) (at0 row (suc x))) in
          omega (
            arith,
            length-append (points_to row x) (point_at row x),
            rises-points x (omega arith),
            next,
          )
        where
          go : (b : Bool) → length (cond b (point_of (at0 row x) ∷ []) []) ≡ cond b 1 0
          go true = refl
          go false = refl

  -- and they can be written where there is room for it.
  pub can-gather : (end : ℕ) → end ≡ reach ps → (work : List ℤ) → length ps ≤ length work → CanGather row end work
  can-gather end e work room = record {
    size = omega (arith, c.size, few);
    coded = λ x k t. coded x (omega (arith, few)) t (at-cell x (omega (arith, few)));
    last = λ x k. rw e (last-point x (k ∙ e));
    room = rw (e, points-are) room;
  }
    where
      coded : (x : ℕ) → x < 319 → is_point (at0 row x) (at0 row (suc x)) ≡ true → Next ps x → Number (at0 row x)
      coded x k t (next-point p s d u l) =
          let is : at0 row x ≡ code p = c.cell x (omega arith) ∙ d in
          let q : point_of (at0 row x) ≡ p = ap point_of is ∙ point-back s in
          record { within = rw q s; is = is ∙ sym (ap code q) }
      coded x k t (next-none u l) = absurd (true≢false (sym t ∙ test-is x k ∙ u))
