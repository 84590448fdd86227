-- What the loop of packing says on the way: the bytes of the jobs before a place are written behind the header, the rest is
-- as it was.
use Prim.Native.Nat.{ℕ, ◌+◌, ◌*◌, ◌≤◌}
use Rattle.std.specs.Prelude.{◌≡◌, ℤ}
use Rattle.std.proofs.Math.Path.{ap}
use Rattle.std.proofs.Common.{◌∙◌, mul-one, length-append, length-drop, take-append-drop, length-take-le}
use mathlib.Core.List.{List, ◌++◌, append_assoc, append-nil}
use Rattle.std.proofs.Math.Nat.{mul-add}
use native.Mathlib.Omega.{arith}
use Rattle.std.proofs.Math.ListN.{length, take, drop}
use Rattle.std.proofs.Math.Seq.{take_at, drop-append-add, drop-drop}
use Rattle.packed.specs.Layout.{encode, bytes_of, job_layout, record_bytes}
use Rattle.packed.specs.Places.{flat}
use Rattle.packed.specs.PlacesLaws.{flat-zero, flat-more, length-flat, fill_on}
use Rattle.packed.specs.Packed.{job_count, fields_at, packed_header, packed_job, pack_in}
use Rattle.packed.proofs.PackedLaws.{length-packed_header, length-packed_job, packed-is, length-packed}
use Rattle.pack.specs.Writing.{first_records}

module _ (kind : ℕ) (numbers : List ℤ) (was : List ℕ) where
  abbrev size : ℕ
  size = record_bytes kind

  -- At first nothing is written.
  pub none_written : first_records kind numbers 0 was ≡ was
  unfolding first_records
  none_written =
      let none : 4 + size * 0 ≡ 4 = omega arith in
      rw (flat-zero (packed_job kind numbers), none) (simp append-nil (take-append-drop 4 was))

  -- In the end the bytes of all jobs are, here behind the header of the order.
  pub all-written : (t0 : ℤ)
      → first_records kind numbers (job_count numbers) (packed_header kind (job_count numbers) t0 ++ drop 4 was)
      ≡ pack_in kind t0 numbers ++ drop (length (pack_in kind t0 numbers)) was
  unfolding first_records
  all-written t0 =
      let n : ℕ = job_count numbers in
      let header : List ℕ = packed_header kind n t0 in
      let four : length header ≡ 4 = length-packed_header kind n t0 in
      let behind : drop (4 + size * n) (header ++ drop 4 was) ≡ drop (4 + size * n) was =
      rw four at (drop-append-add header (drop 4 was) (size * n) ∙ drop-drop (size * n) 4 was) in
      rw (length-packed kind t0 numbers, packed-is kind t0 numbers, take_at header (drop 4 was) 4 four, behind)

  -- The header and the first k jobs.
  front_length : (k : ℕ) → 4 ≤ length was → length (take 4 was ++ flat (packed_job kind numbers) k) ≡ 4 + size * k
  front_length k h =
      rw (length-append, length-take-le 4 was h, length-flat size (packed_job kind numbers) (length-packed_job kind numbers) k)

  -- The bytes stay as many.
  pub written-length : (k : ℕ) → 4 + size * k ≤ length was → length (first_records kind numbers k was) ≡ length was
  unfolding first_records
  written-length k h = rw (length-append, front_length k (omega arith), length-drop) (omega arith)

  -- One job more, by its numbers.
  pub one_more : (k : ℕ) (seven : List ℤ) → 4 ≤ length was → seven ≡ fields_at numbers k
      → take (4 + size * k) (first_records kind numbers k was) ++ bytes_of size (encode (job_layout kind) seven)
      ++ drop (4 + size * k + size) (first_records kind numbers k was) ≡ first_records kind numbers (k + 1) was
  unfolding first_records packed_job
  one_more k seven h r =
      let more : size * (k + 1) ≡ size * k + size = mul-add size k 1 ∙ ap (λ n. size * k + n) (mul-one size) in
      let e : 4 + size * (k + 1) ≡ 4 + size * k + size = omega (arith, more) in
      let done : List ℕ = take 4 was ++ flat (packed_job kind numbers) k in
      let job-bytes : List ℕ = bytes_of size (encode (job_layout kind) seven) in
      fill_on done was job-bytes (4 + size * k) size (front_length k h)
      ∙ rw (e, flat-more (packed_job kind numbers) k, r, ← append_assoc)
