-- The answer of a lookup, for every input, and its numbers for each case (R15). Definitions only.
use Rattle.std.specs.Prelude.{ℕ, List, ℤ, Result, Ok, Err, Option as Perhaps, Some, None}
use Rattle.std.proofs.Math.Option.{Option, none, some}
use Rattle.refusals.specs.Numbers.{number_of}
use Rattle.refusals.specs.declared.Reason.{Reason}
use Rattle.refusals.specs.declared.Reason.TheVariants.{ProfileNotValid}
use Rattle.order.specs.Job.{Point}
use Rattle.profile.specs.Profile.{lookup}
use Rattle.profiles.specs.Numbers.{profile_in}

-- A weight found, or none by the time; or why there is no lookup.
abbrev pub Finding : Type 0
Finding = Result (Perhaps ℕ) Reason

-- The last point by the time, as found with its weight, or not found.
abbrev pub finding_of : Option Point → Finding
finding_of none = Ok None
finding_of (some p) = Ok (Some p.weight)

-- In a profile, if there is one.
abbrev pub finding_in : Option (List Point) → ℤ → Finding
finding_in none t = Err ProfileNotValid
finding_in (some ps) t = finding_of (lookup ps t)

-- In any numbers.
abbrev pub lookup_of : List ℤ → ℤ → Finding
lookup_of ns t = finding_in (profile_in ns) t

-- The refusal number that stands for each case,
abbrev pub lookup_refusal : Finding → ℕ
lookup_refusal (Err r) = number_of r
lookup_refusal (Ok found) = 0

-- found (1 or 0),
abbrev pub found_of : Finding → ℕ
found_of (Err r) = 0
found_of (Ok (Some w)) = 1
found_of (Ok None) = 0

-- and the weight.
abbrev pub weight_found : Finding → ℕ
weight_found (Err r) = 0
weight_found (Ok (Some w)) = w
weight_found (Ok None) = 0
