-- Lookup from the front: what stands before the first point that is later than a time. Definitions only.
use Rattle.std.specs.Prelude.{ℕ, zero, suc, cond, List, [], ◌∷◌, ℤ, pos, get_or}
use Rattle.std.proofs.Math.Option.{Option, none, some}
use Rattle.std.specs.Int.Signed.{le_z}
use Rattle.order.specs.Job.{Point}

-- How many numbers stand before the first point that is later than t.
abbrev pub count_by : ℤ → List ℤ → ℕ
count_by t [] = 0
count_by t (x ∷ []) = 0
count_by t (x ∷ y ∷ ns) = cond (le_z x t) (suc (suc (count_by t ns))) 0

-- The number before a place, if there is one.
abbrev pub number_before : List ℤ → ℕ → Option ℤ
number_before ns zero = none
number_before ns (suc k) = some (get_or ns k (pos 0))

-- The number of a point's weight.
abbrev pub weight_number : Option Point → Option ℤ
weight_number none = none
weight_number (some p) = some (pos p.weight)
