-- What writing the numbers of unpacking asks for, and gives. Definitions only.
use Rattle.std.specs.Prelude.{ℕ, ◌*◌, ◌≤◌, ◌<◌, List, ◌++◌, ℤ, length, drop}
use Rattle.packed.specs.Places.{flat}
use Rattle.fields.specs.Asked.{RecordIn}
use Rattle.packed.specs.Packed.{job_fields}

-- So many jobs stand in the bytes, and there is room for their numbers.
pub record Unpackable (bytes : List ℕ) (count : ℕ) (numbers : List ℤ) : Type 0 where
  pub few : count ≤ 48
  pub there : (k : ℕ) → k < count → RecordIn bytes k
  pub room : 7 * count ≤ length numbers

-- The numbers of the first k jobs, written over others.
unfoldable pub first_jobs : List ℕ → ℕ → List ℤ → List ℤ
first_jobs bytes k numbers = flat (job_fields bytes) k ++ drop (7 * k) numbers
