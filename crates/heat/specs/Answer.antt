-- The answer of the heat-up call, for every byte, and its numbers for each case (R20). Definitions only.
use Rattle.std.specs.Prelude.{ℕ, Result, Ok, Err}
use Rattle.std.proofs.Math.Option.{Option, none, some}
use Rattle.refusals.specs.Numbers.{number_of}
use Rattle.refusals.specs.declared.Reason.{Reason}
use Rattle.refusals.specs.declared.Reason.TheVariants.{CellTooCold}
use Rattle.heat.specs.Heat.{heat_up}

abbrev pub heating : Option ℕ → Result ℕ Reason
heating none = Err CellTooCold
heating (some l) = Ok l

abbrev pub heating_of : ℕ → Result ℕ Reason
heating_of b = heating (heat_up b)

-- The refusal number and the length that stand for each case.
abbrev pub refusal_of : Result ℕ Reason → ℕ
refusal_of (Ok l) = 0
refusal_of (Err r) = number_of r

abbrev pub length_of : Result ℕ Reason → ℕ
length_of (Ok l) = l
length_of (Err r) = 0
