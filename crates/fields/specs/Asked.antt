-- What the functions on records ask and promise of bytes, and the two parts of a record. Definitions only.
use Rattle.std.specs.Prelude.{ℕ, ◌+◌, ◌*◌, ◌^◌, ◌≤◌, ◌<◌, ◌≡◌, true, false, List, [], ◌∷◌, ℤ, length, take, drop}
use Rattle.seconds.specs.Limits.{most_jobs}
use Rattle.seconds.specs.Ranges.{InTime}
use Rattle.packed.specs.Layout.{number_of, header_bytes, record_bytes}
use Rattle.packed.specs.Packed.{kind_of, has_pack}
use Rattle.packed.specs.Refusals.{fields_within}
use Rattle.fields.specs.Fields.{fields_of}
use Rattle.fields.specs.declared.Job.{Job}

-- The numbers of a record's front, and of its back.
abbrev pub front_of : Job → List ℤ
front_of j = j.number ∷ j.pack ∷ j.critical ∷ j.weight ∷ j.ready ∷ []

abbrev pub back_of : Job → List ℤ
back_of j = j.length ∷ j.deadline ∷ []

-- So many bytes, at most eight, stand at a place of bytes.
pub record WordIn (bytes : List ℕ) (at count : ℕ) : Type 0 where
  pub short : count ≤ 8
  pub room : at + count ≤ length bytes

-- Their number, of eight bits for each.
pub record WordIs (bytes : List ℕ) (at count word : ℕ) : Type 0 where
  pub is : word ≡ number_of (take count (drop at bytes))
  pub small : word < 2 ^ (8 * count)

-- A number of so many bytes, at most eight, has room at a place of bytes.
pub record WordRoom (bytes : List ℕ) (at count word : ℕ) : Type 0 where
  pub room : WordIn bytes at count
  pub small : word < 2 ^ (8 * count)

-- A record's first byte, and six bits.
pub record HeadBits (first behind : ℕ) : Type 0 where
  pub byte : first < 256
  pub few : behind < 64

-- The record of a place stands in the bytes of an order, of a kind that is known.
pub record RecordIn (bytes : List ℕ) (place : ℕ) : Type 0 where
  pub header : header_bytes ≤ length bytes
  pub known : kind_of bytes ≤ 1
  pub room : header_bytes + record_bytes (kind_of bytes) * place + record_bytes (kind_of bytes) ≤ length bytes

-- The same, and this is the kind.
pub record RecordBy (bytes : List ℕ) (kind place : ℕ) : Type 0 where
  pub there : RecordIn bytes place
  pub kinded : kind ≡ kind_of bytes

-- A number and a pack that the first bits of a record can hold.
pub record HeadFits (number pack kind : ℕ) : Type 0 where
  pub few : number < 64
  pub small : pack < 256
  pub without : kind ≡ 0 → pack ≡ 0

-- A job within its limits, of a kind that has its pack.
pub record JobFor (job : Job) (kind : ℕ) : Type 0 where
  pub within : fields_within (fields_of job) ≡ true
  pub kinded : kind ≡ 0 → has_pack (fields_of job) ≡ false

-- It has room at a place of bytes.
pub record JobRoom (bytes : List ℕ) (at kind : ℕ) (job : Job) : Type 0 where
  pub room : at + record_bytes kind ≤ length bytes
  pub fits : JobFor job kind

-- A header within its limits has room at the front of bytes.
pub record HeaderRoom (bytes : List ℕ) (kind count : ℕ) (t0 : ℤ) : Type 0 where
  pub room : header_bytes ≤ length bytes
  pub known : kind ≤ 1
  pub few : count ≤ most_jobs
  pub timely : InTime t0
