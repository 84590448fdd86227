-- A call of planning on some bytes, with any outcome that its generated contract allows, that passes the checks: the order fits the
-- limits, and there is room. Definitions only.
use Prim.Native.Nat.{ℕ, ◌≤◌}
use mathlib.Core.Path.{◌≡◌}
use mathlib.Core.List.{List}
use contract.Lifetimes.{Lfts}
use denote.Triple.Clauses.{AtExit}
use denote.Triple.Entry.{Args}
use lib.ListN.{length}
use Rattle.packed.specs.Judge.{fine, judge}
use Rattle.packed.specs.Packed.{count_of}
use Rattle.packed.specs.Refusals.{order_checks}
use Rattle.area.specs.Area.{area}
use Rattle.planner.specs.Calls.{Planned}
use Rattle.planner.specs.contracts.plan as plan
use Rattle.planner.proofs.plan.Reads as plan-reads

pub record Planning (bytes : List ℕ) : Type 0 where
  pub lifetimes : Lfts 3
  pub args : Args plan.signature lifetimes
  pub answer : Planned
  pub exit : AtExit plan.ended lifetimes
  pub allowed : plan-reads.Post lifetimes args answer exit
  pub given : args.0.now ≡ bytes
  pub fits : judge (order_checks bytes) ≡ fine
  pub places : count_of bytes ≤ length args.1.0.now
  pub room : area ≤ length args.1.1.0.now
