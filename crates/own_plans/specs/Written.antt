-- Over the calls: whatever an outcome of the writer that its contract allows has written, every outcome of Legal and of Best on it
-- says yes. Each call stands with any arguments, its answer, and its parameters at exit.
use Rattle.std.specs.Prelude.{ℕ, ◌≤◌, ◌≡◌, refl, true, List, ℤ, length, take, Ok}
use Rattle.std.proofs.Common.{◌∙◌}
use contract.Lifetimes.{Lfts}
use denote.Triple.Clauses.{AtExit}
use denote.Triple.Entry.{Args}
use Rattle.packed.specs.Judge.{fine, judge}
use Rattle.packed.specs.JudgeLaws.{stages-fine}
use Rattle.packed.specs.Refusals.{room_checks}
use Rattle.packed.proofs.RefusalLaws.{room-fine}
use Rattle.area.specs.Area.{area}
use Rattle.checking.specs.Calls.{Checked, legal_checks}
use Rattle.checking.specs.contracts.legal as legal
use Rattle.checking.proofs.legal.Reads as legal-reads
use Rattle.best_plan.specs.Calls.{best_checks}
use Rattle.best_plan.specs.contracts.best as best
use Rattle.best_plan.proofs.best.Reads as best-reads
use Rattle.plan_writer.specs.Calls.{bytes_for}
use Rattle.plan_writer.specs.OwnPlans.{OwnPlan, own-plan}
use Rattle.plan_writer.specs.Answers.{PlanWritten, plan-written}
use Rattle.plan_writer.specs.contracts.write_plan as write
use Rattle.plan_writer.proofs.write_plan.Reads as write-reads
use Rattle.own_plans.specs.Own.{own-accepted, own-legal, own-best}

-- Given the work area, the checks of Best are passed with those of Legal.
best-passed : (order plan : List ℕ) (work : List ℤ) → judge (legal_checks order plan) ≡ fine → area ≤ length work
    → judge (best_checks order plan work) ≡ fine
unfolding best_checks
best-passed order plan work e room =
    (stages-fine (legal_checks order plan) (room_checks area (length work))).1 (e, (room-fine area (length work)).1 room)

-- A call of the writer that answers with a number of bytes.
module _ (κs : Lfts 3) (a : Args write.signature κs) (k : ℕ) (x : AtExit write.ended κs) (h : write-reads.Post κs a (Ok k) x) where
  abbrev order : List ℕ
  order = a.0.now

  -- The bytes written.
  abbrev pub written : List ℕ
  written = take k x.1.0.now

  -- They are the packed plan that planning answers, and read back as its mask and its starts.
  pub wrote-own : PlanWritten order a.1.0.now k x.1.0.now
  wrote-own = plan-written order a.1.0.now a.1.1.0.now h k refl

  own : OwnPlan order wrote-own.answer
  own = own-plan order wrote-own.accepted wrote-own.answer wrote-own.is

  -- Legal says yes of them,
  pub written-legal : (κs' : Lfts 2) (b : Args legal.signature κs') (r : Checked) (y : AtExit legal.ended κs')
      → legal-reads.Post κs' b r y → b.0.now ≡ order → b.1.0.now ≡ written → r ≡ Ok true
  written-legal κs' b r y said same sent =
      said ∙ rw (same, sent ∙ wrote-own.front, own-accepted wrote-own.accepted own, own-legal wrote-own.accepted own)

  -- and so does Best, given the work area.
  pub written-best : (κs' : Lfts 3) (b : Args best.signature κs') (r : Checked) (y : AtExit best.ended κs')
      → best-reads.Post κs' b r y → b.0.now ≡ order → b.1.0.now ≡ written → area ≤ length b.1.1.0.now → r ≡ Ok true
  written-best κs' b r y said same sent room =
      let accepted = own-accepted wrote-own.accepted own in
      let passed = best-passed order (bytes_for wrote-own.answer) b.1.1.0.now accepted room in
      said.answer ∙ rw (same, sent ∙ wrote-own.front, passed, own-best wrote-own.accepted own)
