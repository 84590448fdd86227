-- The lent work area: its length, which is that of a weight row before the first job and after each job, and what it is to be
-- cleared. Definitions only.
use Rattle.std.specs.Prelude.{ℕ, ◌+◌, ◌*◌, List, ◌++◌, ℤ, pos, drop, replicate}
use Rattle.seconds.specs.Limits.{most_weight, most_jobs}

-- A row has a number for each weight.
abbrev pub row_size : ℕ
row_size = most_weight + 1

abbrev pub area : ℕ
area = (most_jobs + 1) * row_size

-- The first numbers cleared, and of a work area its own length.
unfoldable pub cleared_to : ℕ → List ℤ → List ℤ
cleared_to n l = replicate n (pos 0) ++ drop n l

unfoldable pub cleared : List ℤ → List ℤ
cleared l = cleared_to area l
