-- Which of two openings wins at a time, by a tie rule. Definitions only.
use Rattle.std.specs.Prelude.{ℕ, Bool, true, cond, List, ltb, ℤ, Result, Ok, Err}
use Rattle.std.proofs.Math.Option.{Option, none, some}
use Rattle.std.specs.Int.Signed.{le_z}
use Rattle.order.specs.Job.{Point}
use Rattle.profile.specs.Profile.{lookup, order_profile}
use Rattle.packed.specs.Judge.{plainly}
use Rattle.packed.specs.declared.Refusal.{Refusal}
use Rattle.packed.specs.Packed.{order_of}
use Rattle.ties.specs.declared.Winner.{Winner}
use Rattle.ties.specs.declared.Winner.TheVariants.{First, Second}
use Rattle.ties.specs.declared.Tie as declared
use Rattle.ties.specs.declared.Tie.TheVariants as tie

-- Which of two openings wins, or the refusal.
abbrev pub Chosen : Type 0
Chosen = Result Winner Refusal

-- The point of an opening at a time: the last of its profile by then; nothing if it has no point by then.
abbrev pub opening_point : List ℕ → ℤ → Option Point
opening_point bytes t = lookup (order_profile (order_of bytes)) t

-- A tie rule says whether the first wins where both have the same weight, by the bus-free times at which each reaches it.
abbrev pub TieRule : Type 0
TieRule = ℤ → ℤ → Bool

-- Sooner: unless the second reaches it earlier. First: always.
abbrev pub sooner : TieRule
sooner one other = le_z one other

abbrev pub to_first : TieRule
to_first one other = true

-- The winner by the point of each. With no point an opening loses to one that has one; 11 where neither has one. The heavier
-- wins; of the same weight, the first wins if the tie rule says so.
abbrev pub by_points : TieRule → Option Point → Option Point → Chosen
by_points rule none none = Err (plainly 11)
by_points rule (some p) none = Ok First
by_points rule none (some q) = Ok Second
by_points rule (some p) (some q) =
    let even = cond (rule p.time q.time) First Second in
    Ok (cond (ltb q.weight p.weight) First (cond (ltb p.weight q.weight) Second even))

-- The winner of two openings at a time.
abbrev pub winner_by : TieRule → List ℕ → List ℕ → ℤ → Chosen
winner_by rule first second t = by_points rule (opening_point first t) (opening_point second t)

-- The tie rule that the calls ask for.
abbrev pub rule_of : declared.Tie → TieRule
rule_of tie.Sooner = sooner
rule_of tie.First = to_first
