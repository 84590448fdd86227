-- What it is to hold the jobs of an order, in bytes and in numbers. Definitions only.
use Rattle.std.specs.Prelude.{ℕ, ◌*◌, ◌/◌, ◌≤◌, ◌<◌, ◌≡◌, List, ℤ, length}
use Rattle.packed.specs.Packed.{kind_of, count_of}
use Rattle.fields.specs.Asked.{RecordIn}

-- The records of so many jobs of a kind stand in bytes, as their header says, at most 48.
pub record RecordsStand (bytes : List ℕ) (count kind : ℕ) : Type 0 where
  pub few : count ≤ 48
  pub counted : count ≡ count_of bytes
  pub kinded : kind ≡ kind_of bytes
  pub there : (k : ℕ) → k < count → RecordIn bytes k

-- The numbers are those of jobs, at most 48.
pub record AllGiven (zs : List ℤ) : Type 0 where
  pub few : length zs / 7 ≤ 48
  pub whole : length zs ≡ 7 * (length zs / 7)
