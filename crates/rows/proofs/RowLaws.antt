-- Laws of rows: what a row says is one thing, the row of a list of points says it, and if a row says some outcomes, the
-- next row says those with one job more. So the row after some jobs says all their outcomes.
use Rattle.std.specs.Prelude.{ℕ, ◌+◌, ◌-◌, ◌≡◌, refl, Bool, true, false, ◌⊎◌, leb, eqb, ℤ, ◌≤ℤ◌}
use Rattle.std.proofs.Common.{sym, ap, ◌∙◌, inl, inr, ⊎_elim}
use mathlib.Core.List.{List, [], ◌∷◌, ◌++◌, reverse, reverse_aux, reverse-cons}
use mathlib.Core.List.Memᴰ.{head as here}
use mathlib.Core.List.Memᴰ.{tail as there}
use mathlib.Core.List.{Memᴰ as In}
use mathlib.Core.List.Memᴰ.{cases_cons}
use mathlib.Core.List.Memᴰ.{not-nil}
use Rattle.std.proofs.Math.Option.{Option, none, some, none-ne-some, some-injective}
use Rattle.std.specs.Int.Signed.{le_z, ≤ℤ_refl}
use Rattle.seconds.specs.Signed.{min_z, min-is, signed}
use Rattle.order.specs.Job.{Job, Point, allowed, bus_free, gain_of, picks}
use Rattle.order.specs.Choice.{outcomes}
use Rattle.order.proofs.Moves.{Moved, moved, moves, point-path, allowed-earlier, bus_free-mono, pick-listed}
use Rattle.order.proofs.Outcomes.{outcomes-none, outcomes-then, then-outcomes, more-outcome-of, more-outcome-in}
use Rattle.rows.specs.Row.{Row, point, earlier, cell_of, earliest_of, after_pick, cell_by, earliest_by, next_row, row_after}
use Rattle.rows.specs.Row.{row_back, By, Cell, Says}

-- ---- cells

-- Nothing is both there and not there.
pub nothing-there {ℓ ℓ'} : {A : Type ℓ} {X : Type ℓ'} {a : A} → ◌≡◌ {A = Option A} none (some a) → X
nothing-there {a = a} e = absurd (none-ne-some a e)

-- A cell that is there is met by its own time.
pub by-self : {cell : Option ℤ} {t : ℤ} → cell ≡ some t → By cell t
by-self {t = t} e = record { time = t; is = e; soon = ≤ℤ_refl t }

-- What comes by a time comes by a later one.
pub by-later : {cell : Option ℤ} {t u : ℤ} → By cell t → t ≤ℤ u → By cell u
by-later h k = record { time = h.time; is = h.is; soon = omega (signed, h.soon) }

-- The earlier of two is one of them.
pub earlier-is : (a b : Option ℤ) (u : ℤ) → earlier a b ≡ some u → (a ≡ some u) ⊎ (b ≡ some u)
earlier-is none b u e = inr e
earlier-is (some a) none u e = inl e
earlier-is (some a) (some b) u e = go (le_z a b) refl
  where
    go : (t : Bool) → le_z a b ≡ t → (some a ≡ some u) ⊎ (some b ≡ some u)
    go true d = inl (rw d at e)
    go false d = inr (rw d at e)

-- It comes by any time by which one of them comes.
pub by_left : (a b : Option ℤ) (u : ℤ) → By a u → By (earlier a b) u
by_left none b u h = nothing-there h.is
by_left (some a) none u h = h
by_left (some a) (some b) u h =
    let e : a ≡ h.time = some-injective a h.time h.is in
    record { time = min_z a b; is = refl; soon = omega (signed, min-is a b) }

pub by_right : (a b : Option ℤ) (u : ℤ) → By b u → By (earlier a b) u
by_right none b u h = h
by_right (some a) none u h = nothing-there h.is
by_right (some a) (some b) u h =
    let e : b ≡ h.time = some-injective b h.time h.is in
    record { time = min_z a b; is = refl; soon = omega (signed, min-is a b) }

-- ---- what a row says

-- A row that says a list says any list of the same points.
pub says-along : {row : Row} {ps qs : List Point} → ((r : Point) → In r ps → In r qs) → ((r : Point) → In r qs → In r ps)
    → Says row ps → Says row qs
says-along to back s = record { listed = λ q c. to q (s.listed q c); earliest = λ q m. s.earliest q (back q m) }

-- A point's own cell is its time, at its own weight only.
cell-of-is : (p q : Point) → Cell (cell_of p) q → q ≡ p
cell-of-is p q e = go (eqb p.weight q.weight) refl
  where
    go : (b : Bool) → eqb p.weight q.weight ≡ b → q ≡ p
    go true d = point-path (cc) (omega signed)
    go false d = nothing-there (rw d at e)

cell-of-self : (p q : Point) → q ≡ p → By (cell_of p q.weight) q.time
cell-of-self p q e =
    let same : p.weight ≡ q.weight = ap (λ (r : Point). r.weight) (sym e) in
    let d : eqb p.weight q.weight ≡ true = omega signed in
    record { time = p.time; is = rw d; soon = omega (signed, ap (λ (r : Point). r.time) e) }

-- The row of a list of points says it.
pub earliest-says : (ps : List Point) → Says (earliest_of ps) ps
earliest-says [] = record { listed = λ q c. nothing-there c; earliest = λ q m. absurd (not-nil m) }
earliest-says (p ∷ ps) =
    let s = earliest-says ps in
    record {
      listed = λ q c.
          ⊎_elim (λ d. here (cell-of-is p q d)) (λ d. there (s.listed q d))
          (earlier-is (cell_of p q.weight) (earliest_of ps q.weight) q.time c);
      earliest = λ q m.
          ⊎_elim (λ d. by_left (cell_of p q.weight) (earliest_of ps q.weight) q.time (cell-of-self p q d))
          (λ n. by_right (cell_of p q.weight) (earliest_of ps q.weight) q.time (s.earliest q n))
          (cases_cons m);
    }

-- ---- from row to row

-- What a pick makes of a cell that is there.
after-pick-is : (j : Job) (x : ℕ) (cell : Option ℤ) (u : ℤ) → after_pick j x cell ≡ some u
    → (t : ℤ) × (cell ≡ some t) × (allowed j x t ≡ true) × (u ≡ bus_free j x t)
after-pick-is j x none u e = nothing-there e
after-pick-is j x (some t) u e = go (allowed j x t) refl
  where
    go : (b : Bool) → allowed j x t ≡ b → (s : ℤ) × (some t ≡ some s) × (allowed j x s ≡ true) × (u ≡ bus_free j x s)
    go true a = (t, refl, a, sym (some-injective (bus_free j x t) u (rw a at e)))
    go false a = nothing-there (rw a at e)

after-pick-by : (j : Job) (x : ℕ) (cell : Option ℤ) (t : ℤ) → By cell t → allowed j x t ≡ true
    → By (after_pick j x cell) (bus_free j x t)
after-pick-by j x none t h a = nothing-there h.is
after-pick-by j x (some s) t h a =
    let e : s ≡ h.time = some-injective s h.time h.is in
    let soon : s ≤ℤ t = omega signed in
    let may = allowed-earlier j x soon a in
    record { time = bus_free j x s; is = rw may; soon = bus_free-mono j x soon }

-- A pick's cell at the weight of a cell and the pick's together is that cell after the pick;
pub cell-by-light : (j : Job) (x : ℕ) (row : Row) (v w : ℕ) → v + gain_of j x ≡ w → cell_by j x row w ≡ after_pick j x (row v)
cell-by-light j x row v w e =
    let light : leb (gain_of j x) w ≡ true = omega signed in
    let back : w - gain_of j x ≡ v = omega signed in
    rw (light, back)

-- So the pick moves a cell of the row there.
cell-by-is : (j : Job) (x : ℕ) (row : Row) (r : Point) → Cell (cell_by j x row) r → (p : Point) × Cell row p × Moved j x p r
cell-by-is j x row r e = go (leb (gain_of j x) r.weight) refl
  where
    go : (b : Bool) → leb (gain_of j x) r.weight ≡ b → (p : Point) × Cell row p × Moved j x p r
    go true d =
        let v = r.weight - gain_of j x in
        let sum : v + gain_of j x ≡ r.weight = omega signed in
        let c = after-pick-is j x (row v) r.time (sym (cell-by-light j x row v r.weight sum) ∙ e) in
        (point c.0 v, c.1, record { may = c.2; free = c.3; sum = sym sum })
    go false d = nothing-there (rw d at e)

-- Where a pick moves a point that the row meets in time, its cell is in time.
cell-by : (j : Job) (x : ℕ) (row : Row) (p r : Point) → By (row p.weight) p.time → Moved j x p r
    → By (cell_by j x row r.weight) r.time
cell-by j x row p r h m =
    rw (cell-by-light j x row p.weight r.weight (sym m.sum), m.free)
    (after-pick-by j x (row p.weight) p.time h m.may)

-- The earliest over some picks is by one of them, and by any time by which one of them is.
earliest-by-is : (j : Job) (xs : List ℕ) (row : Row) (r : Point) → Cell (earliest_by j xs row) r
    → (x : ℕ) × Cell (cell_by j x row) r
earliest-by-is j [] row r e = nothing-there e
earliest-by-is j (x ∷ xs) row r e =
    ⊎_elim (λ d. (x, d)) (λ d. earliest-by-is j xs row r d)
    (earlier-is (cell_by j x row r.weight) (earliest_by j xs row r.weight) r.time e)

earliest-by : (j : Job) (x : ℕ) (xs : List ℕ) (row : Row) (w : ℕ) (u : ℤ) → In x xs → By (cell_by j x row w) u
    → By (earliest_by j xs row w) u
earliest-by j x [] row w u m h = absurd (not-nil m)
earliest-by j x (y ∷ xs) row w u m h =
    ⊎_elim
    (λ d. by_left (cell_by j y row w) (earliest_by j xs row w) u (rw d at h))
    (λ n. by_right (cell_by j y row w) (earliest_by j xs row w) u (earliest-by j x xs row w u n h))
    (cases_cons m)

-- A cell of the next row: some pick moves a cell of the row there.
pub step_from_lem : (j : Job) (row : Row) (r : Point) → Cell (next_row j row) r → (x : ℕ) × (p : Point) × Cell row p × Moved j x p r
step_from_lem j row r e =
    let c = earliest-by-is j (picks j) row r e in
    let d = cell-by-is j c.0 row r c.1 in
    (c.0, d.0, d.1, d.2)

-- One job more: if a row says the outcomes of some jobs, the next row says those with the job.
pub next-says : (js : List Job) (j : Job) (ps : List Point) {row : Row}
    → Says row (outcomes js ps) → Says (next_row j row) (outcomes (js ++ (j ∷ [])) ps)
next-says js j ps {row} s = record { listed = from; earliest = to }
  where
    from : (r : Point) → Cell (next_row j row) r → In r (outcomes (js ++ (j ∷ [])) ps)
    from r e =
        let c = step_from_lem j row r e in
        more-outcome-in js j ps c.0 (s.listed c.1 c.2) (moves j c.0 c.1 c.3)

    to : (r : Point) → In r (outcomes (js ++ (j ∷ [])) ps) → By (next_row j row r.weight) r.time
    to r m =
        let o = more-outcome-of js j ps m in
        let step = moved j o.pick o.from o.gives in
        earliest-by j o.pick (picks j) row r.weight r.time
        (pick-listed j o.pick o.from.time step.may)
        (cell-by j o.pick row o.from r (s.earliest o.from o.listed) step)

-- One job after any points.
pub next-says-moved : (j : Job) (ps : List Point) {row : Row} → Says row ps → Says (next_row j row) (outcomes (j ∷ []) ps)
next-says-moved j ps s = next-says [] j ps (rw outcomes-none s)

-- The row after some jobs says their outcomes.
pub after-says : (js : List Job) (ps : List Point) {row : Row} → Says row ps → Says (row_after js row) (outcomes js ps)
after-says [] ps s = rw outcomes-none s
after-says (j ∷ js) ps s =
    says-along (λ r. then-outcomes (j ∷ []) js ps) (λ r. outcomes-then (j ∷ []) js ps)
    (after-says js (outcomes (j ∷ []) ps) (next-says-moved j ps s))

-- From any points.
pub rows-say : (js : List Job) (ps : List Point) → Says (row_after js (earliest_of ps)) (outcomes js ps)
rows-say js ps = after-says js ps (earliest-says ps)

-- The rows of jobs told from the last to the first.
back-onto : (js before : List Job) (row : Row) → row_back (reverse_aux js before) row ≡ row_after js (row_back before row)
back-onto [] before row = refl
back-onto (j ∷ js) before row = back-onto js (j ∷ before) row

pub back_is : (js : List Job) (row : Row) → row_back (reverse js) row ≡ row_after js row
back_is js row = back-onto js [] row

-- They say the outcomes of the jobs in sequence.
pub back-says : (before : List Job) (ps : List Point) {row : Row} → Says row ps
    → Says (row_back before row) (outcomes (reverse before) ps)
back-says [] ps s = rw outcomes-none s
back-says (j ∷ before) ps s = rw reverse-cons (next-says (reverse before) j ps (back-says before ps s))
