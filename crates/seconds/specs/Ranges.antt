-- Times compared: the later and the earlier of two, whether two numbers are the same, and the ranges that times lie in, each with the
-- test that decides it. Definitions only.
use Rattle.std.specs.Prelude.{Bool, cond, ◌&&◌, ℤ, ◌≤ℤ◌}
use Rattle.std.specs.Int.Signed.{le_z}
use Rattle.seconds.specs.Limits.{earliest, latest, latest_free}

-- The later of two times.
abbrev pub max_z : ℤ → ℤ → ℤ
max_z x y = cond (le_z x y) y x

-- The earlier of two times.
abbrev pub min_z : ℤ → ℤ → ℤ
min_z x y = cond (le_z x y) x y

-- Whether two numbers are the same.
abbrev pub same : ℤ → ℤ → Bool
same x y = le_z x y && le_z y x

-- z lies from the least number to the greatest.
pub record Between (least greatest z : ℤ) : Type 0 where
  pub low : least ≤ℤ z
  pub high : z ≤ℤ greatest

-- The test of it.
abbrev pub is_between : ℤ → ℤ → ℤ → Bool
is_between least greatest z = le_z least z && le_z z greatest

-- A ready time, a deadline or an order's own bus-free time.
abbrev pub InTime : ℤ → Type 0
InTime z = Between earliest latest z

-- The test of it.
abbrev pub is_time : ℤ → Bool
is_time z = is_between earliest latest z

-- A bus-free time that a job within its deadline leaves.
abbrev pub InFree : ℤ → Type 0
InFree z = Between earliest latest_free z

-- The test of it.
abbrev pub is_free : ℤ → Bool
is_free z = is_between earliest latest_free z
