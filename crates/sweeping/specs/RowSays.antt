-- The cells of a profile, as the numbers of a stretch, say it: the last cell by a time is the profile's last point by it. And what
-- a stretch says tells how many cells are reached by a time.
use Rattle.std.specs.Prelude.{ℕ, zero, suc, ◌+◌, ◌-◌, ◌≤◌, ◌<◌, ◌≡◌, refl, Bool, true, false, cond, ◌⊎◌, ℤ, length, ◌<ℤ◌}
use Rattle.std.proofs.Common.{sym, ap, ap₂, ◌∙◌, inl, inr, ⊎_elim, arith, length-append}
use mathlib.Core.List.Memᴰ.{head}
use mathlib.Core.List.Memᴰ.{tail}
use mathlib.Core.List.{List, [], ◌∷◌, ◌++◌, Memᴰ as In}
use Rattle.std.proofs.Math.Option.{Option, none, some, some-injective, none-ne-some}
use Rattle.std.specs.Int.Signed.{le_z}
use Rattle.seconds.specs.Ranges.{InFree}
use Rattle.seconds.specs.Signed.{signed}
use Rattle.order.specs.Job.{Point}
use Rattle.order.proofs.Moves.{point-path}
use Rattle.profile.specs.Profile.{or_else, lookup, last_point}
use Rattle.profile.proofs.Rising.{BelowAll, below_none, below_more, below-member, Rising, rising_none, rising-more}
use Rattle.points.specs.Steps.{up_to_time}
use Rattle.points.proofs.Pushing.{up_to-rises}
use Rattle.codes.specs.Code.{at0, code_of, limit_of, lightness, list_at, point_of}
use Rattle.codes.specs.Held.{Held, held_none, held_more, After}
use Rattle.codes.specs.HeldLaws.{held-read, held-append, list_length}
use Rattle.reading.specs.Reading.{Says}
use Rattle.reading.specs.ReadingLaws.{lookup-over, lookup-after}
use Rattle.cells.specs.Cells.{cell_of, reach}
use Rattle.cells.specs.CellLaws.{Within}
use Rattle.cells.specs.RisingCells.{first_cell, later-cell}

-- ---- the points of cells

-- So many cells of one time, from a weight on, as points.
abbrev run : ℤ → ℕ → ℕ → List Point
run t x zero = []
run t x (suc m) = record { time = t; weight = x } ∷ run t (suc x) m

-- All cells of a profile from a weight on.
abbrev cell_points : List Point → ℕ → List Point
cell_points [] x = []
cell_points (p ∷ ps) x = run p.time x (suc p.weight - x) ++ cell_points ps (suc p.weight)

run_length : (t : ℤ) (x m : ℕ) → length (run t x m) ≡ m
run_length t x zero = refl
run_length t x (suc m) = ap suc (run_length t (suc x) m)

-- A joined list is asked behind first.
append-lookup : (fs bs : List Point) (u : ℤ) → lookup (fs ++ bs) u ≡ or_else (lookup bs u) (lookup fs u)
append-lookup [] bs u = or-none (lookup bs u)
  where
    or-none : (o : Option Point) → o ≡ or_else o none
    or-none none = refl
    or-none (some p) = refl
append-lookup (a ∷ fs) bs u =
    ap (λ (o : Option Point). or_else o (cond (le_z a.time u) (some a) none)) (append-lookup fs bs u)
    ∙ assoc (lookup bs u) (lookup fs u) (cond (le_z a.time u) (some a) none)
  where
    assoc : (x y z : Option Point) → or_else (or_else x y) z ≡ or_else x (or_else y z)
    assoc none y z = refl
    assoc (some p) y z = refl

-- Of cells of one time the last is found.
run-lookup : (t : ℤ) (x m : ℕ) (u : ℤ)
    → lookup (run t x (suc m)) u ≡ cond (le_z t u) (some (record { time = t; weight = x + m })) none
run-lookup t x zero u =
    let e : x ≡ x + 0 = omega arith in
    ap (λ (w : ℕ). cond (le_z t u) (some (record { time = t; weight = w })) none) e
run-lookup t x (suc m) u =
    let e : suc x + m ≡ x + suc m = omega arith in
    ap (λ (o : Option Point). or_else o (cond (le_z t u) (some (record { time = t; weight = x })) none)) (run-lookup t (suc x) m u)
    ∙ go (le_z t u) ∙ ap (λ (w : ℕ). cond (le_z t u) (some (record { time = t; weight = w })) none) e
  where
    go : (b : Bool)
        → or_else (cond b (some (record { time = t; weight = suc x + m })) none) (cond b (some (record { time = t; weight = x })) none)
        ≡ cond {A = Option Point} b (some (record { time = t; weight = suc x + m })) none
    go true = refl
    go false = refl

-- So of all cells the profile's own point.
cells-lookup : {ps : List Point} → Rising ps → (x : ℕ) → ((p : Point) → In p ps → x ≤ p.weight) → (u : ℤ)
    → lookup (cell_points ps x) u ≡ lookup ps u
cells-lookup rising_none x h u = refl
cells-lookup (rising-more {p = p} {ps = ps} b r) x h u =
    let low = h p (head refl) in
    let m : suc p.weight - x ≡ suc (p.weight - x) = omega arith in
    let w : x + (p.weight - x) ≡ p.weight = omega arith in
    let same : record { time = p.time; weight = x + (p.weight - x) } ≡ p = point-path refl w in
    append-lookup (run p.time x (suc p.weight - x)) (cell_points ps (suc p.weight)) u
    ∙ ap₂ or_else (cells-lookup r (suc p.weight) (λ q n. (below-member b n).lighter) u)
    (ap (λ (k : ℕ). lookup (run p.time x k) u) m ∙ run-lookup p.time x (p.weight - x) u
    ∙ ap (λ (q : Point). cond (le_z p.time u) (some q) none) same)

-- ---- as numbers of a stretch

-- A rising list reaches past a point that is below it, if it has one.
above-reach : {p : Point} {ps : List Point} → BelowAll p ps → (reach ps ≡ 0) ⊎ (suc p.weight ≤ reach ps)
above-reach below_none = inl refl
above-reach (below_more l b) = inr (omega (arith, l.lighter))

cells-length : {ps : List Point} → Rising ps → (x : ℕ) → ((p : Point) → In p ps → x ≤ p.weight) → length (cell_points ps x) ≡ reach ps - x
cells-length rising_none x h = omega arith
cells-length (rising-more {p = p} {ps = ps} b r) x h =
    let sum : length (cell_points (p ∷ ps) x) ≡ (suc p.weight - x) + (reach ps - suc p.weight) =
    omega (
      arith,
      length-append (run p.time x (suc p.weight - x)) (cell_points ps (suc p.weight)),
      run_length p.time x (suc p.weight - x),
      cells-length r (suc p.weight) (λ q n. (below-member b n).lighter),
    ) in
    ⊎_elim (λ e. omega (arith, sum, h p (head refl))) (λ l. omega (arith, sum, h p (head refl))) (above-reach b)

module _ (l : List ℤ) (i : ℕ) where
  run-held : {t : ℤ} → InFree t → (x m : ℕ) → x + m ≤ 301 → ((y : ℕ) → x ≤ y → y < x + m → at0 l (i + y) ≡ code_of t y)
      → Held l (i + x) (run t x m)
  run-held f x zero few h = held_none
  run-held {t} f x (suc m) few h =
      let e : i + suc x ≡ suc (i + x) = omega arith in
      held_more {p = record { time = t; weight = x }} (record { time = f; weight = omega arith }) (h x (omega arith) (omega arith))
      (rw e at (run-held f (suc x) m (omega arith) (λ y a b. h y (omega arith) (omega arith))))

  cells-held : {ps : List Point} → Rising ps → Within ps → (x : ℕ) → ((p : Point) → In p ps → x ≤ p.weight)
      → ((y : ℕ) → x ≤ y → y < reach ps → at0 l (i + y) ≡ cell_of ps y) → Held l (i + x) (cell_points ps x)
  cells-held rising_none w x h c = held_none
  cells-held (rising-more {p = p} {ps = ps} b r) w x h c =
      let low = h p (head refl) in
      let light = (w p (head refl)).weight in
      held-append (i + suc p.weight)
      (run-held (w p (head refl)).time x (suc p.weight - x) (omega arith)
      (λ y a d. c y a (omega arith) ∙ first_cell (w p (head refl)) (λ q n. w q (tail n)) b (omega arith)))
      (omega (arith, run_length p.time x (suc p.weight - x)))
      (cells-held r (λ q n. w q (tail n)) (suc p.weight) (λ q n. (below-member b n).lighter)
      (λ y a d. c y (omega arith) (omega arith) ∙ later-cell (w p (head refl)) (λ q n. w q (tail n)) b a))

  -- The cells say the profile.
  pub cells_say : {ps : List Point} → Rising ps → Within ps → ((x : ℕ) → x < reach ps → at0 l (i + x) ≡ cell_of ps x)
      → Says l i (reach ps) ps
  cells_say {ps} r w c =
      let i0 : i + 0 ≡ i = omega arith in
      let held : Held l i (cell_points ps 0) = rw i0 at (cells-held r w 0 (λ p n. omega arith) (λ y a b. c y b)) in
      let few : length (cell_points ps 0) ≡ reach ps = omega (arith, cells-length r 0 (λ p n. omega arith)) in
      let is : list_at l i (reach ps) ≡ cell_points ps 0 = rw few at (held-read held) in
      record {
        held = rw is held;
        says = λ t. ap (λ (qs : List Point). lookup qs t) is ∙ cells-lookup r 0 (λ p n. omega arith) t;
      }

-- ---- how many cells are reached by a time

-- The last point by a time is the last of those up to it.
up_to-lookup : (t : ℤ) {ps : List Point} → Rising ps → lookup ps t ≡ last_point (up_to_time t ps)
up_to-lookup t rising_none = refl
up_to-lookup t (rising-more {p = p} {ps = ps} b r) = go (le_z p.time t) refl (up_to-lookup t r)
  where
    none-later : t <ℤ p.time → {qs : List Point} → BelowAll p qs → up_to_time t qs ≡ []
    none-later l below_none = refl
    none-later l (below_more {q = q} k c) = let e : le_z q.time t ≡ false = omega (signed, k.earlier) in rw e

    go : (c : Bool) → le_z p.time t ≡ c → lookup ps t ≡ last_point (up_to_time t ps)
        → or_else (lookup ps t) (cond c (some p) none) ≡ last_point (cond c (p ∷ up_to_time t ps) [])
    go true e i = ap (λ (o : Option Point). or_else o (some p)) i
    go false e i = ap (λ (o : Option Point). or_else o none) (i ∙ ap last_point (none-later (omega signed) b))

-- A rising list reaches to its last point.
last-reach : {ps : List Point} → Rising ps → (q : Point) → last_point ps ≡ some q → reach ps ≡ suc q.weight
last-reach rising_none q e = absurd (none-ne-some q e)
last-reach (rising-more {p = p} {ps = []} b r) q e =
    omega (arith, ap (λ (s : Point). s.weight) (some-injective p q e))
last-reach (rising-more {p = p} {ps = s ∷ ps} (below_more l b) r) q e =
    omega (arith, l.lighter, last-reach r q (first (last_point (s ∷ ps)) (last_some s ps) e))
  where
    last_some : (s : Point) (ps : List Point) → (x : Point) × (last_point (s ∷ ps) ≡ some x)
    last_some s ps = go (last_point ps)
      where
        go : (o : Option Point) → (x : Point) × (or_else o (some s) ≡ some x)
        go none = (s, refl)
        go (some x) = (x, refl)

    first : (o : Option Point) → (x : Point) × (o ≡ some x) → or_else o (some p) ≡ some q → o ≡ some q
    first none (x, d) f = absurd (none-ne-some x d)
    first (some y) (x, d) f = f

module _ {work : List ℤ} {place count : ℕ} {ps : List Point} (r : Rising ps) (s : Says work place count ps) {t : ℤ} (f : InFree t)
    {e : ℕ} (a : After work place (place + count) (limit_of t) e)
  where
    found_at : After work place (place + length (list_at work place count)) (limit_of t) e
    found_at = let m : place + count ≡ place + length (list_at work place count) = omega (arith, list_length work place count) in rw m at a

    -- None, where no number is up to the time's limit,
    pub none-reached : e ≡ place → reach (up_to_time t ps) ≡ 0
    none-reached z =
        let none-there : lookup (list_at work place count) t ≡ none =
        lookup-over f s.held (λ k x y. a.over k (omega arith) (omega (arith, list_length work place count))) in
        empty (up_to_time t ps) (sym (up_to-lookup t r) ∙ sym (s.says t) ∙ none-there)
      where
        empty : (qs : List Point) → last_point qs ≡ none → reach qs ≡ 0
        empty [] d = refl
        empty (q ∷ qs) d = go (last_point qs) d
          where
            go : (o : Option Point) → or_else o (some q) ≡ none → reach (q ∷ qs) ≡ 0
            go none d = absurd (none-ne-some q (sym d))
            go (some x) d = absurd (none-ne-some x (sym d))

    -- else as many as the last such number tells.
    pub some-reached : place < e → reach (up_to_time t ps) ≡ 512 - lightness (at0 work (e - 1))
    some-reached l =
        let there : last_point (up_to_time t ps) ≡ some (point_of (at0 work (e - 1))) =
        sym (up_to-lookup t r) ∙ sym (s.says t) ∙ lookup-after f e s.held found_at l in
        omega (arith, last-reach (up_to-rises t r) (point_of (at0 work (e - 1))) there)
