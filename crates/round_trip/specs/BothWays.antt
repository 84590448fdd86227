-- Packing and unpacking one after the other, as R22 says it: both ways without loss, over any outcomes (arguments
-- in sequence, answer, parameters at exit) that the generated contracts of the calls allow. Definitions only.
use Rattle.std.specs.Prelude.{ℕ, ◌*◌, ◌≤◌, ◌≡◌, List, ◌++◌, ℤ, length, take, drop, Ok}
use contract.Lifetimes.{Lfts}
use denote.Triple.Clauses.{AtExit}
use denote.Triple.Entry.{Args}
use Rattle.packed.proofs.LayoutLaws.{AreBytes}
use Rattle.packed.specs.Packed.{job_count}
use Rattle.unpack.specs.Answer.{Answer, Jobs, jobs_unpacked, t0_unpacked}
use Rattle.unpack.specs.contracts.unpack as unpack
use Rattle.unpack.proofs.unpack.Reads as unpack-reads
use Rattle.pack.specs.Answer.{Packed, bytes_written}
use Rattle.pack.specs.contracts.pack as pack
use Rattle.pack.proofs.pack.Reads as pack-reads

-- ---- the calls

-- A call that unpacks some bytes; it is also lent numbers to write to.
pub record Unpacking (bytes : List ℕ) : Type 0 where
  pub κs : Lfts 2
  pub args : Args unpack.signature κs
  pub answer : Answer
  pub exit : AtExit unpack.ended κs
  pub allowed : unpack-reads.Post κs args answer exit
  pub given : args.0.now ≡ bytes

module _ {bytes : List ℕ} (u : Unpacking bytes) where
  -- The jobs and the bus-free time that it tells,
  abbrev pub jobs_told : ℕ
  jobs_told = jobs_unpacked u.answer

  abbrev pub time_told : ℤ
  time_told = t0_unpacked u.answer

  -- if it is accepted.
  abbrev pub Unpacks : Type 0
  Unpacks = u.answer ≡ Jobs jobs_told time_told

  -- The numbers lent to write to, and those numbers at exit.
  abbrev pub numbers_lent : List ℤ
  numbers_lent = u.args.1.0.now

  abbrev pub numbers_left : List ℤ
  numbers_left = u.exit.1.0.now

  -- The numbers that it wrote, seven for each job.
  abbrev pub unpacked : List ℤ
  unpacked = take (7 * jobs_told) numbers_left

-- A call that packs a bus-free time and some numbers; it is also lent bytes to write to.
pub record Packing (t0 : ℤ) (numbers : List ℤ) : Type 0 where
  pub κs : Lfts 2
  pub args : Args pack.signature κs
  pub answer : Packed
  pub exit : AtExit pack.ended κs
  pub allowed : pack-reads.Post κs args answer exit
  pub time : args.0 ≡ t0
  pub given : args.1.0.now ≡ numbers

module _ {t0 : ℤ} {numbers : List ℤ} (p : Packing t0 numbers) where
  -- It is accepted.
  abbrev pub Packs : Type 0
  Packs = p.answer ≡ Ok (bytes_written p.answer)

  -- The bytes lent to write to, and those bytes at exit.
  abbrev pub bytes_lent : List ℕ
  bytes_lent = p.args.1.1.0.now

  abbrev pub bytes_left : List ℕ
  bytes_left = p.exit.1.1.0.now

  -- The bytes that it wrote.
  abbrev pub packed : List ℕ
  packed = take (bytes_written p.answer) bytes_left

-- ---- both ways

-- Packing what unpacking gave, with room for the bytes: it is accepted and writes the same bytes, the rest of the room stays.
pub record SameBytes (bytes : List ℕ) {t0 : ℤ} {numbers : List ℤ} (p : Packing t0 numbers) : Type 0 where
  pub answers : p.answer ≡ Ok (length bytes)
  pub writes : packed p ≡ bytes
  pub leaves : bytes_left p ≡ bytes ++ drop (length bytes) (bytes_lent p)

abbrev pub UnpackedThenPacked : Type 0
UnpackedThenPacked =
    (bytes : List ℕ) → AreBytes bytes → (u : Unpacking bytes) → Unpacks u
    → (p : Packing (time_told u) (unpacked u)) → length bytes ≤ length (bytes_lent p) → SameBytes bytes p

-- Unpacking what packing wrote, with room for the numbers: it is accepted, tells the same bus-free time and writes the same numbers,
-- the rest of the room stays.
pub record SameNumbers (t0 : ℤ) (numbers : List ℤ) {bytes : List ℕ} (u : Unpacking bytes) : Type 0 where
  pub answers : u.answer ≡ Jobs (job_count numbers) t0
  pub writes : unpacked u ≡ numbers
  pub leaves : numbers_left u ≡ numbers ++ drop (length numbers) (numbers_lent u)

abbrev pub PackedThenUnpacked : Type 0
PackedThenUnpacked =
    (t0 : ℤ) (numbers : List ℤ) (p : Packing t0 numbers) → Packs p
    → (u : Unpacking (packed p)) → length numbers ≤ length (numbers_lent u) → SameNumbers t0 numbers u

-- ---- one form

-- Two packed orders that unpacking accepts, and tells the same bus-free time and numbers of, are the same bytes, of the same kind.
abbrev pub OneForm : Type 0
OneForm =
    (first second : List ℕ) → AreBytes first → AreBytes second → (u : Unpacking first) (v : Unpacking second) → Unpacks u → Unpacks v
    → time_told u ≡ time_told v → unpacked u ≡ unpacked v → first ≡ second
