-- What the contract of writing says of every outcome that it allows: what its refusal names, 6 exactly when a job is out of range,
-- 11 exactly when no choice is feasible, bytes for every accepted order that has a plan, given room, that a refusal writes nothing, and
-- that what is written is the order's plan, as many bytes as are told, and reads back as its mask and its starts.
use Prim.Native.Nat.{ℕ, ◌≤◌}
use mathlib.Core.Path.{◌≡◌}
use mathlib.Core.Logic.{◌↔◌}
use mathlib.Core.Option.{some}
use lib.ListN.{length}
use contract.Lifetimes.{Lfts}
use denote.Triple.Clauses.{AtExit}
use denote.Triple.Entry.{Args}
use Rattle.std.proofs.Common.{Ok, Err}
use Rattle.plan.specs.Plan.{Answer, plan_answer}
use Rattle.packed_plan.specs.Plan.{plan_bytes}
use Rattle.area.specs.Area.{area}
use Rattle.packed.specs.declared.Refusal.{Refusal}
use Rattle.packed.specs.Judge.{in_field, fine, judge, refusal_of}
use Rattle.packed.specs.Packed.{numbers_of, order_of}
use Rattle.packed.specs.Refusals.{header_checks, order_checks}
use Rattle.packed.proofs.RefusalPlaces.{BadField, RefusalIs}
use Rattle.plan_writer.specs.Answers.{write-refusal, write-six, NoneFeasible, write-eleven}
use Rattle.plan_writer.specs.Answers.{plan-gets-bytes, refused-nothing, PlanWritten, plan-written}
use Rattle.plan_writer.specs.Calls.{plan_room, Written}
use Rattle.plan_writer.specs.contracts.write_plan as write-plan
use Rattle.plan_writer.proofs.write_plan.Reads as reads

module _ (κs : Lfts 3) (a : Args write-plan.signature κs) (r : Written) (x : AtExit write-plan.ended κs) (h : reads.Post κs a r x)
  where
    pub outcome-refusal : RefusalIs (numbers_of a.0.now) (refusal_of r)
    outcome-refusal = rw h.answer (write-refusal a.0.now a.1.0.now a.1.1.0.now)

    pub outcome-six : (p f : ℕ) → refusal_of r ≡ in_field 6 p f
        ↔ ((judge (header_checks a.0.now) ≡ fine) × BadField (numbers_of a.0.now) p f)
    outcome-six p f = rw h.answer (write-six a.0.now a.1.0.now a.1.1.0.now p f)

    pub outcome-eleven : (refusal_of r).number ≡ 11 ↔ NoneFeasible a.0.now a.1.0.now a.1.1.0.now
    outcome-eleven = write-eleven a.0.now a.1.0.now a.1.1.0.now h

    pub outcome-gets-bytes : judge (order_checks a.0.now) ≡ fine → plan_room ≤ length a.1.0.now
        → area ≤ length a.1.1.0.now → (b : Answer) → plan_answer (order_of a.0.now) ≡ some b → r ≡ Ok (plan_bytes b.kept)
    outcome-gets-bytes = plan-gets-bytes a.0.now a.1.0.now a.1.1.0.now h

    pub outcome-nothing : (s : Refusal) → r ≡ Err s → x.1.0.now ≡ a.1.0.now
    outcome-nothing = refused-nothing a.0.now a.1.0.now a.1.1.0.now h

    pub outcome-written : (n : ℕ) → r ≡ Ok n → PlanWritten a.0.now a.1.0.now n x.1.0.now
    outcome-written = plan-written a.0.now a.1.0.now a.1.1.0.now h
