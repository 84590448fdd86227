-- The answer of better-of and the lent numbers after the call, for every input, and its numbers for each case (R14, R26).
-- Definitions only.
use Rattle.std.specs.Prelude.{ℕ, cond, List, ltb, ℤ, length, Result, Ok, Err}
use Rattle.std.proofs.Math.Option.{Option, none, some}
use Rattle.refusals.specs.Numbers.{number_of}
use Rattle.refusals.specs.declared.Reason.{Reason}
use Rattle.refusals.specs.declared.Reason.TheVariants.{ProfileNotValid, BufferTooShort}
use Rattle.order.specs.Job.{Point}
use Rattle.profile.specs.Profile.{better_of}
use Rattle.profiles.specs.Numbers.{most_numbers, alternating, profile_in, written_over}

-- The points written, or why none are.
abbrev pub Joined : Type 0
Joined = Result ℕ Reason

-- The better of two profiles; none unless both are there.
abbrev pub better_in : Option (List Point) → Option (List Point) → Option (List Point)
better_in none q = none
better_in (some ps) none = none
better_in (some ps) (some qs) = some (better_of ps qs)

-- The answer for it, with so much room.
abbrev pub joined_in : Option (List Point) → ℕ → Joined
joined_in none room = Err ProfileNotValid
joined_in (some ps) room = cond (ltb room most_numbers) (Err BufferTooShort) (Ok (length ps))

-- The lent numbers after the call.
abbrev pub out_in : Option (List Point) → List ℤ → List ℤ
out_in none out = out
out_in (some ps) out = cond (ltb (length out) most_numbers) out (written_over (alternating ps) out)

-- Both, of any numbers: the profiles are judged first, then the room.
abbrev pub joined_of : List ℤ → List ℤ → List ℤ → Joined
joined_of p q out = joined_in (better_in (profile_in p) (profile_in q)) (length out)

abbrev pub out_after : List ℤ → List ℤ → List ℤ → List ℤ
out_after p q out = out_in (better_in (profile_in p) (profile_in q)) out

-- The refusal number that stands for each case,
abbrev pub join_refusal : Joined → ℕ
join_refusal (Err r) = number_of r
join_refusal (Ok n) = 0

-- and the points written.
abbrev pub points_written : Joined → ℕ
points_written (Err r) = 0
points_written (Ok n) = n
