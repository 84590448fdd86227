-- What is read off a row that says some points: their profile, by one pass and point by point, how many points it has,
-- and the heaviest point.
use Rattle.std.specs.Prelude.{ℕ, zero, suc, ◌+◌, ◌≤◌, ◌<◌, ◌≡◌, refl, Bool, true, false, cond, ◌⊎◌, ◌↔◌, ℤ, length, take, ◌≤ℤ◌, ◌<ℤ◌}
use Rattle.std.proofs.Common.{sym, ap, ap₂, ◌∙◌, true≢false, inl, inr, ⊎_elim, eq-or-lt_of_le, le_of_suc-le-suc, arith}
use mathlib.Core.List.Memᴰ
use mathlib.Core.List.Memᴰ.{head as here}
use mathlib.Core.List.Memᴰ.{tail as there}
use mathlib.Core.List.{List, [], ◌∷◌, Memᴰ as In}
use mathlib.Core.List.Memᴰ.{cases_cons}
use mathlib.Core.List.Memᴰ.{not-nil}
use Rattle.std.proofs.Math.Option.{Option, none, some, map, some-injective, map-eq-some_iff}
use Rattle.std.specs.Int.Signed.{lt_z}
use Rattle.seconds.specs.Signed.{signed, not-le}
use Rattle.order.specs.Job.{Job, Point}
use Rattle.order.specs.Choice.{cons_if}
use Rattle.order.proofs.Moves.{point-path}
use Rattle.order.specs.Given.{Covers, Given, there as given-there, Same}
use Rattle.order.proofs.GivenLaws.{given_by, given-own, giver, covers-trans, ⊑-by}
use Rattle.profile.specs.Profile.{or_else, profile_of, extend, start_point, profile_after, points_up_to, point_total}
use Rattle.profile.proofs.Rising.{Below, below_more, Rising, rising_none, rising-more, rising-one, below-further, below-member}
use Rattle.profile.proofs.Points.{profile_of-rises, profile_of-same, profile_of-member, profile_of-cong, profile_of-only, covers-both}
use Rattle.rows.specs.Row.{Row, point, earliest_of, start_row, row_after, By, Cell, Says, NonePast, reach}
use Rattle.rows.specs.Row.{point_at, cells_below, cells, heaviest_below, sooner, soonest, with_cell, read_below, read_off}
use Rattle.rows.specs.Row.{points_below, points_in, points_by_rows}
use Rattle.rows.proofs.RowLaws.{nothing-there, rows-say}
use Rattle.rows.proofs.Reach.{says-none-past, reach-none-past}

-- ---- the cells as points

-- What stands in front, if it is there, and the rest.
if-cases : (o : Option Point) (l : List Point) (q : Point) → In q (cons_if o l) → (o ≡ some q) ⊎ In q l
if-cases none l q m = inr m
if-cases (some p) l q m = ⊎_elim (λ e. inl (ap some (sym e))) inr (cases_cons m)

if-front : (o : Option Point) (l : List Point) (q : Point) → o ≡ some q → In q (cons_if o l)
if-front none l q e = nothing-there e
if-front (some p) l q e = here (sym (some-injective p q e))

if-rest : (o : Option Point) (l : List Point) (q : Point) → In q l → In q (cons_if o l)
if-rest none l q m = m
if-rest (some p) l q m = there m

-- The point at a weight is the cell there.
point-at-is : (row : Row) (n : ℕ) (q : Point) → point_at row n ≡ some q → Cell row q × (q.weight ≡ n)
point-at-is row n q e =
    let c = (map-eq-some_iff {B = Point} (λ (t : ℤ). point t n) (row n)).0 e in
    rw (← c.2) (c.1, refl)

at-point : (row : Row) (n : ℕ) (q : Point) → Cell row q → q.weight ≡ n → point_at row n ≡ some q
at-point row n q c e = rw (← e) (rw c refl)

-- The cells below a weight, as points, are the cells there.
pub cell_in : (row : Row) (n : ℕ) (q : Point) → In q (cells_below row n) ↔ (Cell row q × (q.weight < n))
cell_in row n q = (to n, λ c. back n c.0 c.1)
  where
    to : (n : ℕ) → In q (cells_below row n) → Cell row q × (q.weight < n)
    to zero m = absurd (not-nil m)
    to (suc n) m =
        ⊎_elim (λ e. let c = point-at-is row n q e in (c.0, omega arith)) (λ k. let c = to n k in (c.0, omega arith))
        (if-cases (point_at row n) (cells_below row n) q m)

    back : (n : ℕ) → Cell row q → q.weight < n → In q (cells_below row n)
    back zero c h = absurd (omega arith)
    back (suc n) c h =
        ⊎_elim (λ e. if-front (point_at row n) (cells_below row n) q (at-point row n q c e))
        (λ k. if-rest (point_at row n) (cells_below row n) q (back n c k))
        (eq-or-lt_of_le (le_of_suc-le-suc h))

-- If a row says some points and has no cell past the top, its cells give what the points give.
pub cells_same : {row : Row} {ps : List Point} (top : ℕ) → Says row ps → NonePast top row → Same (cells row top) ps
cells_same {row} {ps} top s n = record { to = ⊑-by from; back = ⊑-by onto }
  where
    from : (q : Point) → In q (cells row top) → Given q ps
    from q m = given-own (s.listed q ((cell_in row (suc top) q).0 m).0)

    onto : (q : Point) → In q ps → Given q (cells row top)
    onto q m =
        let c = s.earliest q m in
        let p : Point = point c.time q.weight in
        let light : q.weight ≤ top = (says-none-past s).0 n q m in
        given_by ((cell_in row (suc top) p).1 (c.is, omega arith)) (record { soon = c.soon; heavy = omega arith })

-- ---- one pass from the heaviest weight down

-- What was read stays read, and no less is given.
read_kept : (row : Row) (n : ℕ) (best : Option ℤ) (read : List Point) (q : Point) → Given q read
    → Given q (read_below row n best read)
read_kept row zero best read q g = g
read_kept row (suc n) best read q g =
    read_kept row n (soonest (row n) best) (with_cell row n best read) q (go (sooner (row n) best))
  where
    with-if : (o : Option Point) → Given q (cons_if o read)
    with-if none = g
    with-if (some p) = given-there g

    go : (b : Bool) → Given q (cond b (cons_if (point_at row n) read) read)
    go true = with-if (point_at row n)
    go false = g

-- All that is read is a cell, or was read before.
read-from : (row : Row) (n : ℕ) (best : Option ℤ) (read : List Point) (q : Point) → In q (read_below row n best read)
    → In q read ⊎ (Cell row q × (q.weight < n))
read-from row zero best read q m = inl m
read-from row (suc n) best read q m =
    ⊎_elim (go (sooner (row n) best)) (λ c. inr (c.0, omega arith))
    (read-from row n (soonest (row n) best) (with_cell row n best read) q m)
  where
    go : (b : Bool) → In q (cond b (cons_if (point_at row n) read) read) → In q read ⊎ (Cell row q × (q.weight < suc n))
    go true k =
        ⊎_elim (λ e. let c = point-at-is row n q e in inr (c.0, omega arith)) inl (if-cases (point_at row n) read q k)
    go false k = inl k

-- What is read so far rises from weight n on, and its first point has the soonest time.
data Held (n : ℕ) : Option ℤ → List Point → Type 0 where
  held_none : Held n none []
  held_more : {p : Point} {ps : List Point} → n ≤ p.weight → Rising (p ∷ ps) → Held n (some p.time) (p ∷ ps)

held-rises : {n : ℕ} {best : Option ℤ} {read : List Point} → Held n best read → Rising read
held-rises held_none = rising_none
held-rises (held_more h r) = r

held-lower : {n : ℕ} {best : Option ℤ} {read : List Point} → Held (suc n) best read → Held n best read
held-lower held_none = held_none
held-lower (held_more {p = p} h r) = held_more {p = p} (omega arith) r

-- A point in front of a rising list.
rising-front : {p q : Point} {ps : List Point} → Below p q → Rising (q ∷ ps) → Rising (p ∷ q ∷ ps)
rising-front h (rising-more b r) = rising-more (below_more h (below-further h b)) (rising-more b r)

-- One cell more.
held_next : (row : Row) (n : ℕ) {best : Option ℤ} {read : List Point} → Held (suc n) best read
    → Held n (soonest (row n) best) (with_cell row n best read)
held_next row n {best} {read} held = go (row n) held
  where
    front : {p : Point} {ps : List Point} (t : ℤ) → suc n ≤ p.weight → Rising (p ∷ ps) → (b : Bool) → lt_z t p.time ≡ b
        → Held n (cond b (some t) (some p.time)) (cond b (point t n ∷ p ∷ ps) (p ∷ ps))
    front {p} t h r true e =
        let below : Below (point t n) p = record { earlier = omega signed; lighter = h } in
        held_more {p = point t n} (omega arith) (rising-front below r)
    front {p} t h r false e = held_more {p = p} (omega arith) r

    go : {best : Option ℤ} {read : List Point} (cell : Option ℤ) → Held (suc n) best read
        → Held n (soonest cell best)
        (cond (sooner cell best) (cons_if (map (λ (t : ℤ). point t n) cell) read) read)
    go none h = held-lower h
    go (some t) held_none = held_more {p = point t n} (omega arith) (rising-one (point t n))
    go (some t) (held_more {p = p} h r) = front t h r (lt_z t p.time) refl

-- A cell just read is given: it is a point itself, or the first point read covers it.
given-next : (row : Row) (n : ℕ) {best : Option ℤ} {read : List Point} (q : Point) → Held (suc n) best read → Cell row q
    → q.weight ≡ n → Given q (with_cell row n best read)
given-next row n {best} {read} q held c e = go (sooner (row n) best) refl
  where
    covered : {best : Option ℤ} {read : List Point} → Held (suc n) best read → sooner (some q.time) best ≡ false → Given q read
    covered held_none f = absurd (true≢false f)
    covered (held_more {p = p} h r) f = given_by {p = p} (here refl) (omega signed)

    go : (b : Bool) → sooner (row n) best ≡ b → Given q (cond b (cons_if (point_at row n) read) read)
    go true f = given-own (if-front (point_at row n) read q (at-point row n q c e))
    go false f = covered held (ap (λ (cell : Option ℤ). sooner cell best) (sym c ∙ ap row e) ∙ f)

-- Every cell below the weight is given.
read-given : (row : Row) (n : ℕ) {best : Option ℤ} {read : List Point} (q : Point) → Held n best read → Cell row q
    → q.weight < n → Given q (read_below row n best read)
read-given row zero q held c h = absurd (omega arith)
read-given row (suc n) {best} {read} q held c h =
    ⊎_elim (λ e. read_kept row n (soonest (row n) best) (with_cell row n best read) q (given-next row n q held c e))
    (λ k. read-given row n q (held_next row n held) c k)
    (eq-or-lt_of_le (le_of_suc-le-suc h))

-- What is read rises.
read-rises : (row : Row) (n : ℕ) {best : Option ℤ} {read : List Point} → Held n best read → Rising (read_below row n best read)
read-rises row zero held = held-rises held
read-rises row (suc n) held = read-rises row n (held_next row n held)

-- The one pass gives the profile of the cells.
pub read-off-is : (row : Row) (top : ℕ) → read_off row top ≡ profile_of (cells row top)
read-off-is row top = profile_of-only (read-rises row (suc top) held_none) (record { to = ⊑-by from; back = ⊑-by onto })
  where
    from : (q : Point) → In q (read_off row top) → Given q (cells row top)
    from q m =
        ⊎_elim (λ k. absurd (not-nil k)) (λ c. given-own ((cell_in row (suc top) q).1 c)) (read-from row (suc top) none [] q m)

    onto : (q : Point) → In q (cells row top) → Given q (read_off row top)
    onto q m = let c = (cell_in row (suc top) q).0 m in read-given row (suc top) q held_none c.0 c.1

-- ---- the profile by rows

-- The one pass over a row that says some points gives their profile.
pub read-profile : {row : Row} {ps : List Point} (top : ℕ) → Says row ps → NonePast top row → read_off row top ≡ profile_of ps
read-profile {row} top s n = read-off-is row top ∙ profile_of-cong (cells_same top s n)

-- So extending gives what the one pass reads off the row after the jobs.
pub extend-by-rows : (ps : List Point) (js : List Job) (top : ℕ) → NonePast top (row_after js (earliest_of ps))
    → extend ps js ≡ read_off (row_after js (earliest_of ps)) top
extend-by-rows ps js top n = sym (read-profile top (rows-say js ps) n)

-- The count of the pass is the length of what it reads.
pub points-below-is : (row : Row) (n : ℕ) (best : Option ℤ) (read : List Point)
    → length (read_below row n best read) ≡ points_below row n best + length read
points-below-is row zero best read = omega arith
points-below-is row (suc n) best read =
    let e = points-below-is row n (soonest (row n) best) (with_cell row n best read) in
    omega (arith, e, go (row n))
  where
    one : (p : Point) (b : Bool) → length (cond b (p ∷ read) read) ≡ cond b 1 0 + length read
    one p true = omega arith
    one p false = omega arith

    go : (cell : Option ℤ)
        → length (cond (sooner cell best) (cons_if (map (λ (t : ℤ). point t n) cell) read) read)
        ≡ cond (sooner cell best) 1 0 + length read
    go none = omega arith
    go (some t) = one (point t n) (sooner (some t) best)

-- The same of the whole pass.
pub points-in-read : (row : Row) (top : ℕ) → points_in row top ≡ length (read_off row top)
points-in-read row top = omega (arith, points-below-is row (suc top) none [])

-- So over a row that says some points it counts the points of their profile.
pub points-in-is : {row : Row} {ps : List Point} (top : ℕ) → Says row ps → NonePast top row
    → points_in row top ≡ length (profile_of ps)
points-in-is {row} top s n = points-in-read row top ∙ ap length (read-profile top s n)

-- The profile of an order has as many points as one pass over the row after its jobs counts.
pub profile-points : (t : ℤ) (js : List Job) (top : ℕ) → NonePast top (row_after js (start_row t))
    → length (profile_after t js) ≡ points_in (row_after js (start_row t)) top
profile-points t js top n = sym (points-in-is top (rows-say js (start_point t ∷ [])) n)

-- So the points after each job are counted row by row, up to tops past which the rows have no cell.
pub points-by-rows : (top : ℕ → ℕ) (k : ℕ) (t : ℤ) (js : List Job)
    → ((i : ℕ) → i ≤ k → NonePast (top i) (row_after (take i js) (start_row t))) → points_up_to k t js ≡ points_by_rows top k t js
points-by-rows top zero t js n = refl
points-by-rows top (suc k) t js n =
    ap₂ ◌+◌ (points-by-rows top k t js (λ i h. n i (omega arith)))
    (profile-points t (take (suc k) js) (top (suc k)) (n (suc k) (omega arith)))

-- The point total, up to the weight that each prefix reaches.
pub point-total-by-rows : (t : ℤ) (js : List Job) → point_total t js ≡ points_by_rows (λ k. reach (take k js)) (length js) t js
point-total-by-rows t js =
    points-by-rows (λ k. reach (take k js)) (length js) t js (λ i h. reach-none-past t (take i js))

-- ---- which cells are points of the profile

-- A point of a rising list covers no other.
rising-apart : {ps : List Point} {p q : Point} → Rising ps → In p ps → In q ps → Covers p q → p ≡ q
rising-apart {p = p} {q = q} rising_none x7 _ c = elim x7 [ ]
rising-apart (rising-more b r) (here d) (here e) c = d ∙ sym e
rising-apart (rising-more b r) (here d) (there m) c =
    let h = below-member b m in absurd (omega (signed, ap (λ (x : Point). x.weight) d))
rising-apart (rising-more b r) (there m) (here e) c =
    let h = below-member b m in absurd (omega (signed, ap (λ (x : Point). x.time) e))
rising-apart (rising-more b r) (there m) (there k) c = rising-apart r m k c

-- No other point of a list covers a point of its profile.
pub profile-uncovered : (ps : List Point) (p q : Point) → In p (profile_of ps) → In q ps → Covers q p → q ≡ p
profile-uncovered ps p q m k c =
    let g = giver ((profile_of-same ps).back q (given-own k)) in
    let e = rising-apart (profile_of-rises ps) g.1 m (covers-trans g.2 c) in
    covers-both c (rw e at g.2)

-- A point stands in the profile exactly when it is a cell and every heavier cell is later.
pub profile-point : {row : Row} {ps : List Point} → Says row ps → (q : Point)
    → In q (profile_of ps) ↔ (Cell row q × ((r : Point) → Cell row r → q.weight < r.weight → q.time <ℤ r.time))
profile-point {row} {ps} s q = (λ m. (own m, later m), λ c. back c.0 c.1)
  where
    own : In q (profile_of ps) → Cell row q
    own m =
        let c = s.earliest q (profile_of-member ps m) in
        let p : Point = point c.time q.weight in
        let same : p ≡ q = profile-uncovered ps q p m (s.listed p c.is) (record { soon = c.soon; heavy = omega arith }) in
        c.is ∙ ap (λ (x : Point). some x.time) same

    later : In q (profile_of ps) → (r : Point) → Cell row r → q.weight < r.weight → q.time <ℤ r.time
    later m r c h = not-le no-sooner
      where
        no-sooner : ¬ (r.time ≤ℤ q.time)
        no-sooner l =
            let same : r ≡ q = profile-uncovered ps q r m (s.listed r c) (record { soon = l; heavy = omega arith }) in
            omega (arith, ap (λ (x : Point). x.weight) same)

    back : Cell row q → ((r : Point) → Cell row r → q.weight < r.weight → q.time <ℤ r.time) → In q (profile_of ps)
    back c f =
        let g = giver ((profile_of-same ps).back q (given-own (s.listed q c))) in
        let d = g.2 in
        Memᴰ.cast (sym (same g.0 d (s.earliest g.0 (profile_of-member ps g.1)))) g.1
      where
        same : (r : Point) → Covers r q → By (row r.weight) r.time → r ≡ q
        same r d k = ⊎_elim equal (λ h. absurd (heavier h)) (eq-or-lt_of_le d.heavy)
          where
            heavier : q.weight < r.weight → ⊥
            heavier h = let l = f (point k.time r.weight) k.is h in omega (signed, k.soon, d.soon)

            equal : q.weight ≡ r.weight → r ≡ q
            equal e =
                let l : q.time ≡ k.time = some-injective _ _ (sym c ∙ (ap row e ∙ k.is)) in
                point-path (omega (signed, k.soon, d.soon)) (sym e)

-- ---- the heaviest cell

-- Either there is no cell below a weight, or q is one and none there is heavier.
pub data Heaviest (row : Row) (n : ℕ) : Option Point → Type 0 where
  no_cell : ((r : Point) → Cell row r → ¬ (r.weight < n)) → Heaviest row n none
  the-cell : {q : Point} → Cell row q → ((r : Point) → Cell row r → r.weight < n → r.weight ≤ q.weight)
      → Heaviest row n (some q)

heavier-next : (row : Row) (n : ℕ) {o : Option Point} → Heaviest row n o → Heaviest row (suc n) (or_else (point_at row n) o)
heavier-next row n {o} held = go (row n) refl held
  where
    lower : row n ≡ none → (r : Point) → Cell row r → r.weight < suc n → r.weight < n
    lower d r c h =
        ⊎_elim (λ e. nothing-there (sym d ∙ (ap row (sym e) ∙ c))) (λ k. k) (eq-or-lt_of_le (le_of_suc-le-suc h))

    go : {o : Option Point} (cell : Option ℤ) → row n ≡ cell → Heaviest row n o
        → Heaviest row (suc n) (or_else (map (λ (t : ℤ). point t n) cell) o)
    go none d (no_cell f) = no_cell (λ r c h. f r c (lower d r c h))
    go none d (the-cell c f) = the-cell c (λ r k h. f r k (lower d r k h))
    go (some t) d held = the-cell {q = point t n} d (λ r c h. omega arith)

-- The heaviest cell below a weight is that.
pub heaviest-is : (row : Row) (n : ℕ) → Heaviest row n (heaviest_below row n)
heaviest-is row zero = no_cell (λ r c h. omega arith)
heaviest-is row (suc n) = heavier-next row n (heaviest-is row n)
