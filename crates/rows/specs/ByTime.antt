-- The heaviest cell of a row that is there by a time, as a search of the row answers it. Definitions only.
use Rattle.std.specs.Prelude.{ℕ, zero, suc, Bool, false, cond, ℤ}
use Rattle.std.proofs.Math.Option.{Option, none, some, map}
use Rattle.std.specs.Int.Signed.{le_z}
use Rattle.order.specs.Job.{Point}
use Rattle.rows.specs.Row.{Row, point_at}

-- A cell is there, and no later than a time.
abbrev pub is_by : Option ℤ → ℤ → Bool
is_by none u = false
is_by (some t) u = le_z t u

-- The heaviest such cell below a weight, as a point,
abbrev pub heaviest_by : Row → ℤ → ℕ → Option Point
heaviest_by row u zero = none
heaviest_by row u (suc n) =
    let further = heaviest_by row u n in
    cond (is_by (row n) u) (point_at row n) further

-- and its weight.
abbrev pub weight_by : Row → ℤ → ℕ → Option ℕ
weight_by row u n = map (λ (p : Point). p.weight) (heaviest_by row u n)
