-- Each reason and each field is told back by its number, and each number by its name.
use Rattle.std.specs.Prelude.{ℕ, zero, suc, ◌≤◌, ◌≡◌, refl, Option, Some, None}
use Rattle.std.proofs.Common.{arith}
use Rattle.refusals.specs.declared.Reason.{Reason}
use Rattle.refusals.specs.declared.Reason.TheVariants.{OrderTooShort, UnknownKind, TooManyJobs, WrongLength, BusFreeOutOfRange}
use Rattle.refusals.specs.declared.Reason.TheVariants.{JobOutOfRange, NumberRepeated, ProfileNotValid, TooMuchWeight}
use Rattle.refusals.specs.declared.Reason.TheVariants.{BufferTooShort, NoFeasibleChoice, CellTooCold, NotOfHalves}
use Rattle.refusals.specs.declared.Reason.TheVariants.{PlanWrongLength, PlanStrayBits, RepeatingNotValid, FrameTooLong}
use Rattle.refusals.specs.declared.Reason.TheVariants.{NoSheet, EveryPackZero}
use Rattle.refusals.specs.declared.Field.{Field}
use Rattle.refusals.specs.declared.Field.TheVariants.{Number, Pack, Critical, Weight, Ready, Length, Deadline}
use Rattle.refusals.specs.Numbers.{number_of, reason_of, figure_of, figure_or_none, field_of}

-- A reason by its number,
pub told-back : (r : Reason) → reason_of (number_of r) ≡ r
told-back OrderTooShort = refl
told-back UnknownKind = refl
told-back TooManyJobs = refl
told-back WrongLength = refl
told-back BusFreeOutOfRange = refl
told-back JobOutOfRange = refl
told-back NumberRepeated = refl
told-back ProfileNotValid = refl
told-back TooMuchWeight = refl
told-back BufferTooShort = refl
told-back NoFeasibleChoice = refl
told-back CellTooCold = refl
told-back NotOfHalves = refl
told-back PlanWrongLength = refl
told-back PlanStrayBits = refl
told-back RepeatingNotValid = refl
told-back FrameTooLong = refl
told-back NoSheet = refl
told-back EveryPackZero = refl

-- which lies from 1 to 19;
pub number-low : (r : Reason) → 1 ≤ number_of r
number-low OrderTooShort = omega arith
number-low UnknownKind = omega arith
number-low TooManyJobs = omega arith
number-low WrongLength = omega arith
number-low BusFreeOutOfRange = omega arith
number-low JobOutOfRange = omega arith
number-low NumberRepeated = omega arith
number-low ProfileNotValid = omega arith
number-low TooMuchWeight = omega arith
number-low BufferTooShort = omega arith
number-low NoFeasibleChoice = omega arith
number-low CellTooCold = omega arith
number-low NotOfHalves = omega arith
number-low PlanWrongLength = omega arith
number-low PlanStrayBits = omega arith
number-low RepeatingNotValid = omega arith
number-low FrameTooLong = omega arith
number-low NoSheet = omega arith
number-low EveryPackZero = omega arith

pub number-high : (r : Reason) → number_of r ≤ 19
number-high OrderTooShort = omega arith
number-high UnknownKind = omega arith
number-high TooManyJobs = omega arith
number-high WrongLength = omega arith
number-high BusFreeOutOfRange = omega arith
number-high JobOutOfRange = omega arith
number-high NumberRepeated = omega arith
number-high ProfileNotValid = omega arith
number-high TooMuchWeight = omega arith
number-high BufferTooShort = omega arith
number-high NoFeasibleChoice = omega arith
number-high CellTooCold = omega arith
number-high NotOfHalves = omega arith
number-high PlanWrongLength = omega arith
number-high PlanStrayBits = omega arith
number-high RepeatingNotValid = omega arith
number-high FrameTooLong = omega arith
number-high NoSheet = omega arith
number-high EveryPackZero = omega arith

-- a field by its figure, which is not 0,
pub figure-low : (f : Field) → 1 ≤ figure_of f
figure-low Number = omega arith
figure-low Pack = omega arith
figure-low Critical = omega arith
figure-low Weight = omega arith
figure-low Ready = omega arith
figure-low Length = omega arith
figure-low Deadline = omega arith

pub field-told-back : (f : Option Field) → field_of (figure_or_none f) ≡ f
field-told-back None = refl
field-told-back (Some Number) = refl
field-told-back (Some Pack) = refl
field-told-back (Some Critical) = refl
field-told-back (Some Weight) = refl
field-told-back (Some Ready) = refl
field-told-back (Some Length) = refl
field-told-back (Some Deadline) = refl

-- and a figure up to 7 by its field.
pub figure-told-back : (n : ℕ) → n ≤ 7 → figure_or_none (field_of n) ≡ n
figure-told-back zero h = refl
figure-told-back (suc zero) h = refl
figure-told-back (suc (suc zero)) h = refl
figure-told-back (suc (suc (suc zero))) h = refl
figure-told-back (suc (suc (suc (suc zero)))) h = refl
figure-told-back (suc (suc (suc (suc (suc zero))))) h = refl
figure-told-back (suc (suc (suc (suc (suc (suc zero)))))) h = refl
figure-told-back (suc (suc (suc (suc (suc (suc (suc zero))))))) h = refl
figure-told-back (suc (suc (suc (suc (suc (suc (suc (suc n)))))))) h = absurd (omega (arith, h))
