-- The numbers of the reasons to refuse (R24) and the figures of a job's fields (R36), both ways. Definitions only.
use Rattle.std.specs.Prelude.{ℕ, [], ◌∷◌, Option, Some, None, Result, Ok, Err, get_or}
use Rattle.refusals.specs.declared.Reason.{Reason}
use Rattle.refusals.specs.declared.Reason.TheVariants.{OrderTooShort, UnknownKind, TooManyJobs, WrongLength, BusFreeOutOfRange}
use Rattle.refusals.specs.declared.Reason.TheVariants.{JobOutOfRange, NumberRepeated, ProfileNotValid, TooMuchWeight}
use Rattle.refusals.specs.declared.Reason.TheVariants.{BufferTooShort, NoFeasibleChoice, CellTooCold, NotOfHalves}
use Rattle.refusals.specs.declared.Reason.TheVariants.{PlanWrongLength, PlanStrayBits, RepeatingNotValid, FrameTooLong}
use Rattle.refusals.specs.declared.Reason.TheVariants.{NoSheet, EveryPackZero}
use Rattle.refusals.specs.declared.Field.{Field}
use Rattle.refusals.specs.declared.Field.TheVariants.{Number, Pack, Critical, Weight, Ready, Length, Deadline}

-- A reason's number,
abbrev pub number_of : Reason → ℕ
number_of OrderTooShort = 1
number_of UnknownKind = 2
number_of TooManyJobs = 3
number_of WrongLength = 4
number_of BusFreeOutOfRange = 5
number_of JobOutOfRange = 6
number_of NumberRepeated = 7
number_of ProfileNotValid = 8
number_of TooMuchWeight = 9
number_of BufferTooShort = 10
number_of NoFeasibleChoice = 11
number_of CellTooCold = 12
number_of NotOfHalves = 13
number_of PlanWrongLength = 14
number_of PlanStrayBits = 15
number_of RepeatingNotValid = 16
number_of FrameTooLong = 17
number_of NoSheet = 18
number_of EveryPackZero = 19

-- and the reason of a number from 1 to 19.
abbrev pub reason_of : ℕ → Reason
reason_of n =
    get_or (OrderTooShort ∷ OrderTooShort ∷ UnknownKind ∷ TooManyJobs ∷ WrongLength ∷ BusFreeOutOfRange ∷ JobOutOfRange
    ∷ NumberRepeated ∷ ProfileNotValid ∷ TooMuchWeight ∷ BufferTooShort ∷ NoFeasibleChoice ∷ CellTooCold ∷ NotOfHalves
    ∷ PlanWrongLength ∷ PlanStrayBits ∷ RepeatingNotValid ∷ FrameTooLong ∷ NoSheet ∷ EveryPackZero ∷ []) n OrderTooShort

-- The number of what a call answers: 0 where it does not refuse.
abbrev pub code_of : {A : Type 0} → Result A Reason → ℕ
code_of (Ok a) = 0
code_of (Err r) = number_of r

-- A field's figure,
abbrev pub figure_of : Field → ℕ
figure_of Number = 1
figure_of Pack = 2
figure_of Critical = 3
figure_of Weight = 4
figure_of Ready = 5
figure_of Length = 6
figure_of Deadline = 7

-- 0 where there is none,
abbrev pub figure_or_none : Option Field → ℕ
figure_or_none None = 0
figure_or_none (Some f) = figure_of f

-- and the field of a figure from 1 to 7; 0 is none.
abbrev pub field_of : ℕ → Option Field
field_of n =
    get_or (None ∷ Some Number ∷ Some Pack ∷ Some Critical ∷ Some Weight ∷ Some Ready ∷ Some Length ∷ Some Deadline ∷ []) n None
