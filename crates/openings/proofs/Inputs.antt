-- What the question and the choice are handed, under either tie rule, and what they have at exit. Definitions only.
use Prim.Native.Nat.{ℕ}
use mathlib.Core.List.{List}
use Rattle.std.specs.Borrow.{Bor, MutBor}
use lib.IntN.{ℤ}

-- Two openings, a time and the work area.
abbrev pub Given : Type 0
Given = Bor (List ℕ) × (Bor (List ℕ) × (ℤ × (MutBor (List ℤ) × Unit {0})))

abbrev pub work_in : Given → List ℤ
work_in a = a.1.1.1.0.now

-- The same with the openings exchanged.
abbrev pub turned : Given → Given
turned a = (a.1.0, (a.0, a.1.1))
