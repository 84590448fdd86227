-- How far the rows reach: past the weight of all points, and past all that the jobs' picks can add, a row has no cell.
use Rattle.std.specs.Prelude.{ℕ, ◌+◌, ◌-◌, ◌≤◌, ◌<◌, ◌≡◌, refl, Bool, true, false, cond, ◌↔◌, leb, ℤ}
use Rattle.std.proofs.Common.{sym, ap, ◌∙◌, ⊎_elim, arith}
use mathlib.Core.List.Memᴰ.{head as here}
use mathlib.Core.List.Memᴰ.{tail as there}
use mathlib.Core.List.{List, [], ◌∷◌, Memᴰ as In}
use mathlib.Core.List.Memᴰ
use mathlib.Core.List.Memᴰ.{cases_cons}
use mathlib.Core.List.Memᴰ.{not-nil}
use Rattle.std.proofs.Math.Option.{Option, none, some}
use Rattle.order.specs.Job.{Job, Point, gain_of, picks}
use Rattle.profile.specs.Profile.{start_point}
use Rattle.rows.specs.Row.{Row, point, start_row, cell_by, earliest_by, next_row, row_after}
use Rattle.rows.specs.Row.{Says, NonePast, most_of, reach}
use Rattle.rows.proofs.RowLaws.{nothing-there, earliest-says}

-- ---- the first row

-- A row that says some points has no cell past their greatest weight, and only then.
pub says-none-past : {top : ℕ} {row : Row} {ps : List Point} → Says row ps
    → NonePast top row ↔ ((q : Point) → In q ps → q.weight ≤ top)
says-none-past {top} {row} {ps} s = (to, λ light. record { past = λ w h. back light w h (row w) refl })
  where
    to : NonePast top row → (q : Point) → In q ps → q.weight ≤ top
    to n q m =
        let c : ¬ (top < q.weight) = λ h. nothing-there (sym (n.past q.weight h) ∙ (s.earliest q m).is) in
        omega arith

    back : ((q : Point) → In q ps → q.weight ≤ top) → (w : ℕ) → top < w → (cell : Option ℤ) → row w ≡ cell → row w ≡ none
    back light w h none e = e
    back light w h (some t) e =
        let l : w ≤ top = light (point t w) (s.listed (point t w) e) in
        absurd (omega arith)

-- A row with no cell past a weight has none past a greater one.
pub none-past-more : {top more : ℕ} {row : Row} → top ≤ more → NonePast top row → NonePast more row
none-past-more h n = record { past = λ w k. n.past w (omega arith) }

-- Before the first job only weight 0 has a cell.
pub start-none-past : (t : ℤ) → NonePast 0 (start_row t)
start-none-past t =
    (says-none-past (earliest-says (start_point t ∷ []))).1
    (λ q m. omega (arith, ap (λ (p : Point). p.weight) (Memᴰ.eq_of_singleton m)))

-- ---- from row to row

-- No cell of the next row is past the old top and the most that a pick adds.
pub next-none-past : (j : Job) {top most : ℕ} {row : Row} → ((x : ℕ) → In x (picks j) → gain_of j x ≤ most)
    → NonePast top row → NonePast (top + most) (next_row j row)
next-none-past j {top} {most} {row} light n = record { past = λ w h. none-by (picks j) light w h }
  where
    none_of : (x : ℕ) → gain_of j x ≤ most → (w : ℕ) → top + most < w → cell_by j x row w ≡ none
    none_of x g w h = rw (n.past (w - gain_of j x) (omega arith)) (both (leb (gain_of j x) w))
      where
        both : (b : Bool) → cond {A = Option ℤ} b none none ≡ none
        both true = refl
        both false = refl

    none-by : (xs : List ℕ) → ((x : ℕ) → In x xs → gain_of j x ≤ most) → (w : ℕ) → top + most < w → earliest_by j xs row w ≡ none
    none-by [] light w h = refl
    none-by (x ∷ xs) light w h =
        rw (none_of x (light x (here refl)) w h) (none-by xs (λ y m. light y (there m)) w h)

-- No pick adds more than the most.
pub most-of : (j : Job) (xs : List ℕ) (x : ℕ) → In x xs → gain_of j x ≤ most_of j xs
most-of j [] x m = absurd (not-nil m)
most-of j (y ∷ xs) x m =
    ⊎_elim (λ e. omega (arith, ap (gain_of j) e)) (λ n. omega (arith, most-of j xs x n)) (cases_cons m)

-- After some jobs no cell is past what they reach.
pub after-none-past : (js : List Job) {top : ℕ} {row : Row} → NonePast top row → NonePast (top + reach js) (row_after js row)
after-none-past [] {top} n = none-past-more (omega arith) n
after-none-past (j ∷ js) {top} n =
    none-past-more (omega arith) (after-none-past js (next-none-past j (most-of j (picks j)) n))

-- Of an order's rows none has a cell past what its jobs reach.
pub reach-none-past : (t : ℤ) (js : List Job) → NonePast (reach js) (row_after js (start_row t))
reach-none-past t js = none-past-more (omega arith) (after-none-past js (start-none-past t))
