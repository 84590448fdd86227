-- What the functions ask, and what they give. Definitions only.
use Rattle.std.specs.Prelude.{ℕ, suc, ◌+◌, ◌*◌, ◌/◌, ◌%◌, ◌^◌, ◌≤◌, ◌<◌, ◌≡◌, true, cond, List, ◌++◌, eqb, ℤ, pos, length, take, drop, get_or}
use Rattle.std.specs.Int.Signed.{lt_z}
use Rattle.seconds.specs.Limits.{most_jobs, left_out}
use Rattle.seconds.specs.Ranges.{InTime}
use Rattle.seconds.specs.Twos.{bits_to, to_bits}
use Rattle.packed.specs.Layout.{number_of, bytes_of}
use Rattle.packed_plan.specs.Plan.{plan_bytes, pad_bits}
use Rattle.packed_plan.proofs.Writing.{place_of}

-- ---- one start read

-- The start at a place stands in the bytes.
pub record StartThere (bytes : List ℕ) (k : ℕ) : Type 0 where
  pub few : k < most_jobs
  pub room : plan_bytes (suc k) ≤ length bytes

-- It is read from its three bytes, above the padding.
abbrev pub start_from : List ℕ → ℕ → ℤ
start_from bytes k = bits_to 18 (number_of (take 3 (drop (place_of k) bytes)) / 2 ^ pad_bits (suc k) % 2 ^ 18)

-- ---- one start written

-- What stands in the byte in which it begins.
abbrev pub begun_at : List ℕ → ℕ → ℕ → ℕ
begun_at bytes at k = cond (eqb (k % 4) 0) 0 (get_or bytes at 0)

-- Its three bytes as one number, with what stands in the first.
abbrev pub three_with : List ℕ → ℕ → ℤ → ℕ
three_with bytes k start = begun_at bytes (place_of k) k * 65536 + to_bits 18 start * 2 ^ pad_bits (suc k)

-- The bytes with them.
abbrev pub start_put : List ℕ → ℕ → ℤ → List ℕ
start_put bytes k start =
    take (place_of k) bytes ++ bytes_of 3 (three_with bytes k start) ++ drop (place_of k + 3) bytes

-- There is room for it behind those before it.
pub record StartRoom (bytes : List ℕ) (k : ℕ) (start : ℤ) : Type 0 where
  pub few : k < most_jobs
  pub room : plan_bytes (suc k) ≤ length bytes
  pub timely : InTime start
  pub fits : three_with bytes k start < 2 ^ 24

-- The same where the job is kept.
pub record KeptRoom (bytes : List ℕ) (k : ℕ) (start : ℤ) : Type 0 where
  pub if_kept : lt_z start left_out ≡ true → StartRoom bytes k start

-- ---- a plan written

-- There is room for a mask and the starts of the jobs kept.
pub record PlanRoom (bytes : List ℕ) (mask : ℕ) (kept : List ℤ) : Type 0 where
  pub few : length kept ≤ most_jobs
  pub room : plan_bytes (length kept) ≤ length bytes
  pub small : mask < 2 ^ 48
  pub timely : (i : ℕ) → i < length kept → InTime (get_or kept i (pos 0))
