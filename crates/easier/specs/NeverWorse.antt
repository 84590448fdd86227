-- R51 over the calls: what planning, extending and lookup answer on an easier order is no worse, whatever outcomes their generated
-- contracts allow. Definitions only.
use Rattle.std.specs.Prelude.{ℕ, ◌≤◌, ◌≡◌, List, [], ◌∷◌, ℤ, pos, ◌≤ℤ◌, Ok, Err, Some, None}
use Rattle.std.proofs.Math.Option.{Option, none, some}
use contract.Lifetimes.{Lfts}
use denote.Triple.Clauses.{AtExit}
use denote.Triple.Entry.{Args}
use Rattle.profile.specs.NoWorse.{AtLeast}
use Rattle.packed.specs.Judge.{no_refusal}
use Rattle.packed.specs.Packed.{t0_of}
use Rattle.profiles.specs.Answer.{Finding, lookup_of}
use Rattle.profiles.specs.contracts.lookup as lookup
use Rattle.profiles.proofs.lookup.Reads as lookup-reads
use Rattle.planner.specs.Calls.{PlanNumbers, plan_numbers}
use Rattle.planner.proofs.Planning.{Planning}
use Rattle.joining.specs.Calls.{Extending, Accepted, extended}
use Rattle.easier.specs.EasierBytes.{EasierBytes}

-- ---- lookups

-- The weight that an answer of lookup tells, if it tells one.
abbrev pub weight_told : Finding → Option ℕ
weight_told (Err r) = none
weight_told (Ok (Some w)) = some w
weight_told (Ok None) = none

-- Of two lists of numbers, what lookup answers on the new one is at every time at least what it answers on the old.
abbrev pub NumbersNoWorse : List ℤ → List ℤ → Type 0
NumbersNoWorse new old = (t : ℤ) → AtLeast (weight_told (lookup_of new t)) (weight_told (lookup_of old t))

-- A call of lookup on some numbers at a time.
pub record LookingUp (ns : List ℤ) (t : ℤ) : Type 0 where
  pub κs : Lfts 1
  pub args : Args lookup.signature κs
  pub answer : Finding
  pub exit : AtExit lookup.ended κs
  pub allowed : lookup-reads.Post κs args answer exit
  pub profile : args.0.now ≡ ns
  pub time : args.1.0 ≡ t

-- Every two calls of lookup, on the new numbers and on the old, at one time.
abbrev pub LookupsNoWorse : List ℤ → List ℤ → Type 0
LookupsNoWorse new old =
    (t : ℤ) (one : LookingUp new t) (other : LookingUp old t) → AtLeast (weight_told one.answer) (weight_told other.answer)

-- ---- plans

-- An answer of planning is no worse than another: it has a plan where the other has one, which keeps no less weight, loses no more,
-- and where it keeps as much leaves the bus free no later.
pub record AnswerNoWorse (new old : PlanNumbers) : Type 0 where
  pub feasible : old.refusal ≡ no_refusal → new.refusal ≡ no_refusal
  pub keeps : old.kept_weight ≤ new.kept_weight
  pub loses : old.refusal ≡ no_refusal → new.lost_weight ≤ old.lost_weight
  pub sooner : old.refusal ≡ no_refusal → new.kept_weight ≡ old.kept_weight → new.finish ≤ℤ old.finish

-- ---- the rule

-- The profile of an order is the one point (t0, 0) extended by it.
abbrev pub start_of : List ℕ → List ℤ
start_of bytes = t0_of bytes ∷ pos 0 ∷ []

-- Two profiles that two calls of extending have written, by lookup.
pub record ProfileNoWorse {P Q : List ℤ} {new old : List ℕ} (one : Extending P new) (other : Extending Q old) : Type 0 where
  pub numbers : NumbersNoWorse (extended one) (extended other)
  pub lookups : LookupsNoWorse (extended one) (extended other)

pub record NeverWorse (new old : List ℕ) : Type 0 where
  pub plan : (one : Planning new) (other : Planning old) → AnswerNoWorse (plan_numbers one.answer) (plan_numbers other.answer)
  pub profile : (one : Extending (start_of new) new) (other : Extending (start_of old) old)
      → Accepted one × Accepted other × ProfileNoWorse one other
  pub tail : {P Q : List ℤ} (one : Extending P new) (other : Extending Q old) → Accepted one → Accepted other
      → NumbersNoWorse P Q → ProfileNoWorse one other

abbrev pub EasierNeverWorse : Type 0
EasierNeverWorse = (new old : List ℕ) → EasierBytes new old → NeverWorse new old
