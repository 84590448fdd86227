-- The answer of packing and the lent bytes after the call, for every input, and its numbers for each case (R22, R26).
-- Definitions only.
use Rattle.std.specs.Prelude.{ℕ, List, ◌++◌, ℤ, length, drop, Result, Ok, Err}
use Rattle.packed.specs.declared.Refusal.{Refusal}
use Rattle.packed.specs.Judge.{Verdict, fine, refused, judge}
use Rattle.packed.specs.Packed.{pack_order}
use Rattle.packed.specs.Refusals.{pack_checks}

-- What packing answers: a refusal, or how many bytes were written.
abbrev pub Packed : Type 0
Packed = Result ℕ Refusal

-- The answer for a verdict on a bus-free time and numbers.
abbrev pub packed_by : ℤ → List ℤ → Verdict → Packed
packed_by t0 numbers fine = Ok (length (pack_order t0 numbers))
packed_by t0 numbers (refused r) = Err r

-- The lent bytes after the call: with no refusal the packed order stands in front, and the rest stays.
abbrev pub bytes_by : ℤ → List ℤ → List ℕ → Verdict → List ℕ
bytes_by t0 numbers bytes fine = pack_order t0 numbers ++ drop (length (pack_order t0 numbers)) bytes
bytes_by t0 numbers bytes (refused r) = bytes

-- Both, of any numbers: the answer with room for so many bytes,
abbrev pub pack_of : ℤ → List ℤ → ℕ → Packed
pack_of t0 numbers room = packed_by t0 numbers (judge (pack_checks t0 numbers room))

-- and the bytes that were lent.
abbrev pub bytes_after : ℤ → List ℤ → List ℕ → List ℕ
bytes_after t0 numbers bytes = bytes_by t0 numbers bytes (judge (pack_checks t0 numbers (length bytes)))

-- The bytes written, 0 where it refuses.
abbrev pub bytes_written : Packed → ℕ
bytes_written (Err r) = 0
bytes_written (Ok n) = n
