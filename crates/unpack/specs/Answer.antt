-- The answer of unpacking and the lent numbers after the call, for every input, and its numbers for each case (R22, R26).
-- Definitions only.
use Rattle.std.specs.Prelude.{ℕ, List, ◌++◌, ℤ, pos, length, drop, Result, Ok, Err}
use Rattle.packed.specs.declared.Refusal.{Refusal}
use Rattle.packed.specs.Judge.{Verdict, fine, refused, judge}
use Rattle.packed.specs.Packed.{count_of, t0_of, numbers_of}
use Rattle.packed.specs.Refusals.{unpack_checks}
use Rattle.unpack.specs.declared.Unpacked.{Unpacked}

-- What unpacking answers: a refusal, or so many jobs and a bus-free time.
abbrev pub Answer : Type 0
Answer = Result Unpacked Refusal

abbrev pub Jobs : ℕ → ℤ → Answer
Jobs n t0 = Ok (record { jobs = n; t0 = t0 })

-- The answer for a verdict on the bytes.
abbrev pub unpacked_by : List ℕ → Verdict → Answer
unpacked_by bytes fine = Jobs (count_of bytes) (t0_of bytes)
unpacked_by bytes (refused r) = Err r

-- The lent numbers after the call: with no refusal those of the jobs stand in front, and the rest stays.
abbrev pub numbers_by : List ℕ → List ℤ → Verdict → List ℤ
numbers_by bytes numbers fine = numbers_of bytes ++ drop (length (numbers_of bytes)) numbers
numbers_by bytes numbers (refused r) = numbers

-- Both, of any bytes: the answer with room for so many numbers,
abbrev pub unpack_of : List ℕ → ℕ → Answer
unpack_of bytes room = unpacked_by bytes (judge (unpack_checks bytes room))

-- and the numbers that were lent.
abbrev pub numbers_after : List ℕ → List ℤ → List ℤ
numbers_after bytes numbers = numbers_by bytes numbers (judge (unpack_checks bytes (length numbers)))

-- How many jobs it tells, 0 where it refuses,
abbrev pub jobs_unpacked : Answer → ℕ
jobs_unpacked (Err r) = 0
jobs_unpacked (Ok u) = u.jobs

-- and the bus-free time.
abbrev pub t0_unpacked : Answer → ℤ
t0_unpacked (Err r) = pos 0
t0_unpacked (Ok u) = u.t0
