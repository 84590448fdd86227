-- Weight rows: for each exact weight, the earliest time at which the bus can be free with that weight kept; rows from
-- job to job, and what is read off a row. Definitions only.
use Rattle.std.specs.Prelude.{ℕ, zero, suc, ◌+◌, ◌-◌, ◌<◌, max, ◌≡◌, Bool, true, false, cond, leb, eqb, ℤ, ◌≤ℤ◌, take}
use mathlib.Core.List.{List, [], ◌∷◌, Memᴰ}
use Rattle.std.proofs.Math.Option.{Option, none, some, map}
use Rattle.std.specs.Int.Signed.{lt_z}
use Rattle.seconds.specs.Ranges.{min_z}
use Rattle.order.specs.Job.{Job, Point, allowed, bus_free, gain_of, picks}
use Rattle.order.specs.Choice.{cons_if}
use Rattle.profile.specs.Profile.{or_else, start_point}

-- A point by its time and weight.
abbrev pub point : ℤ → ℕ → Point
point t w = record { time = t; weight = w }

-- A cell is the earliest bus-free time at its weight, or nothing where that weight cannot be kept.
abbrev pub Row : Type 0
Row = ℕ → Option ℤ

-- The earlier of two cells; nothing is later than all.
abbrev pub earlier : Option ℤ → Option ℤ → Option ℤ
earlier none b = b
earlier (some a) none = some a
earlier (some a) (some b) = some (min_z a b)

-- The row of one point, of a list of points, and of an order before its first job.
abbrev pub cell_of : Point → Row
cell_of p w = cond (eqb p.weight w) (some p.time) none

abbrev pub earliest_of : List Point → Row
earliest_of [] w = none
earliest_of (p ∷ ps) w = earlier (cell_of p w) (earliest_of ps w)

abbrev pub start_row : ℤ → Row
start_row t = earliest_of (start_point t ∷ [])

-- ---- from job to job

-- A cell after a pick of a job.
abbrev pub after_pick : Job → ℕ → Option ℤ → Option ℤ
after_pick j x none = none
after_pick j x (some t) = cond (allowed j x t) (some (bus_free j x t)) none

-- What a pick gives at a weight: the cell that lacks the pick's weight, after the pick.
abbrev pub cell_by : Job → ℕ → Row → Row
cell_by j x row w =
    let cell = after_pick j x (row (w - gain_of j x)) in
    cond (leb (gain_of j x) w) cell none

-- The earliest over some picks, and over all picks of the job.
abbrev pub earliest_by : Job → List ℕ → Row → Row
earliest_by j [] row w = none
earliest_by j (x ∷ xs) row w = earlier (cell_by j x row w) (earliest_by j xs row w)

abbrev pub next_row : Job → Row → Row
next_row j row = earliest_by j (picks j) row

-- The row after jobs in their sequence, and after jobs told from the last to the first.
abbrev pub row_after : List Job → Row → Row
row_after [] row = row
row_after (j ∷ js) row = row_after js (next_row j row)

abbrev pub row_back : List Job → Row → Row
row_back [] row = row
row_back (j ∷ before) row = next_row j (row_back before row)

-- ---- what a row says

-- A cell is there, and no later than u.
pub record By (cell : Option ℤ) (u : ℤ) : Type 0 where
  pub time : ℤ
  pub is : cell ≡ some time
  pub soon : time ≤ℤ u

-- A point that is a cell of the row.
abbrev pub Cell : Row → Point → Type 0
Cell row q = row q.weight ≡ some q.time

-- A row says a list of points: each cell is one of them, and at the weight of each of them there is a cell, no later.
pub record Says (row : Row) (ps : List Point) : Type 0 where
  pub listed : (q : Point) → Cell row q → Memᴰ q ps
  pub earliest : (q : Point) → Memᴰ q ps → By (row q.weight) q.time

-- A row has no cell past a weight.
pub record NonePast (top : ℕ) (row : Row) : Type 0 where
  pub past : (w : ℕ) → top < w → row w ≡ none

-- The most that one pick of a job adds, and that the picks of some jobs add: no cell lies past it.
abbrev pub most_of : Job → List ℕ → ℕ
most_of j [] = 0
most_of j (x ∷ xs) = max (gain_of j x) (most_of j xs)

abbrev pub reach : List Job → ℕ
reach [] = 0
reach (j ∷ js) = most_of j (picks j) + reach js

-- ---- reading a row, from the heaviest weight down

-- The point of a cell.
abbrev pub point_at : Row → ℕ → Option Point
point_at row w = map (λ (t : ℤ). point t w) (row w)

-- The cells below a weight as points, and those up to a weight.
abbrev pub cells_below : Row → ℕ → List Point
cells_below row zero = []
cells_below row (suc n) = cons_if (point_at row n) (cells_below row n)

abbrev pub cells : Row → ℕ → List Point
cells row top = cells_below row (suc top)

-- The heaviest of them.
abbrev pub heaviest_below : Row → ℕ → Option Point
heaviest_below row zero = none
heaviest_below row (suc n) = let further = heaviest_below row n in or_else (point_at row n) further

abbrev pub heaviest : Row → ℕ → Option Point
heaviest row top = heaviest_below row (suc top)

-- A cell is before the soonest of those already read; and the soonest with that cell read too.
abbrev pub sooner : Option ℤ → Option ℤ → Bool
sooner none best = false
sooner (some t) none = true
sooner (some t) (some b) = lt_z t b

abbrev pub soonest : Option ℤ → Option ℤ → Option ℤ
soonest cell best = cond (sooner cell best) cell best

-- The profile below a weight, before the points already read: a cell is a point if it is before every heavier cell.
abbrev pub with_cell : Row → ℕ → Option ℤ → List Point → List Point
with_cell row n best read = cond (sooner (row n) best) (cons_if (point_at row n) read) read

abbrev pub read_below : Row → ℕ → Option ℤ → List Point → List Point
read_below row zero best read = read
read_below row (suc n) best read = read_below row n (soonest (row n) best) (with_cell row n best read)

abbrev pub read_off : Row → ℕ → List Point
read_off row top = read_below row (suc top) none []

-- How many points that are.
abbrev pub points_below : Row → ℕ → Option ℤ → ℕ
points_below row zero best = 0
points_below row (suc n) best = cond (sooner (row n) best) 1 0 + points_below row n (soonest (row n) best)

abbrev pub points_in : Row → ℕ → ℕ
points_in row top = points_below row (suc top) none

-- The points after each of the first k jobs, each row read up to its own top weight.
abbrev pub points_by_rows : (ℕ → ℕ) → ℕ → ℤ → List Job → ℕ
points_by_rows top zero t js = 0
points_by_rows top (suc k) t js =
    points_by_rows top k t js + points_in (row_after (take (suc k) js) (start_row t)) (top (suc k))
