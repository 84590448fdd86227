-- R44 over the calls: each answers the same on an accepted order and on that order with its packs set to 0, and leaves the same
-- in what it is lent. A call stands with any outcomes that its generated contract allows. Definitions only.
use Rattle.std.specs.Prelude.{ℕ, ◌≡◌, List, ℤ}
use Rattle.packed.specs.Judge.{fine, judge}
use Rattle.packed.specs.Refusals.{order_checks}
use Rattle.checking.specs.Calls.{Checked}
use Rattle.checking.proofs.legal.Reads as legal
use Rattle.extending.specs.Calls.{Extended}
use Rattle.extending.proofs.extend.Reads as extend
use Rattle.planner.specs.Calls.{Planned}
use Rattle.planner.proofs.plan.Reads as plan
use Rattle.best_plan.proofs.best.Reads as best
use Rattle.halves.specs.Calls.{HalvesPlanned}
use Rattle.halves.proofs.plan_halves.Reads as plan-halves
use Rattle.plan_writer.specs.Calls.{Written}
use Rattle.plan_writer.proofs.write_plan.Reads as write-plan
use Rattle.packs_aside.specs.PacksAside.{order_aside}

-- ---- outcomes

-- An outcome that a call's contract allows: lifetimes, arguments in sequence, answer, and parameters at exit.
pub record Outcome {K R : Type 0} {A X : K → Type 0} (allows : (κs : K) → A κs → R → X κs → Type 0) : Type 0 where
  pub κs : K
  pub args : A κs
  pub answer : R
  pub exit : X κs
  pub allowed : allows κs args answer exit

-- How a call is read: of an outcome, the bytes of the order, all that was given beside it, and all that is seen of it.
pub record Call (O G S : Type 0) : Type 0 where
  pub order : O → List ℕ
  pub beside : O → G
  pub seen : O → S

-- A call does not read packs: of two outcomes, one on an accepted order and one on that order with its packs set to 0, both given
-- the same beside it, the same is seen.
abbrev pub Unread : {O G S : Type 0} → Call O G S → Type 0
Unread {O} c =
    (p q : O) → judge (order_checks (c.order p)) ≡ fine → c.order q ≡ order_aside (c.order p) → c.beside q ≡ c.beside p
    → c.seen q ≡ c.seen p

-- ---- the calls

-- Planning, lent starts and the work area: its answer, and both at exit.
abbrev pub planning : Call (Outcome plan.Post) (List ℤ × List ℤ) (Planned × List ℤ × List ℤ)
planning =
    record {
      order = λ p. p.args.0.now;
      beside = λ p. (p.args.1.0.now, p.args.1.1.0.now);
      seen = λ p. (p.answer, p.exit.1.0.now, p.exit.1.1.0.now);
    }

-- Planning halves, lent the same.
abbrev pub planning_halves : Call (Outcome plan-halves.Post) (List ℤ × List ℤ) (HalvesPlanned × List ℤ × List ℤ)
planning_halves =
    record {
      order = λ p. p.args.0.now;
      beside = λ p. (p.args.1.0.now, p.args.1.1.0.now);
      seen = λ p. (p.answer, p.exit.1.0.now, p.exit.1.1.0.now);
    }

-- Extending, given a profile, lent numbers and the work area: its answer, and both at exit.
abbrev pub extending : Call (Outcome extend.Post) (List ℤ × List ℤ × List ℤ) (Extended × List ℤ × List ℤ)
extending =
    record {
      order = λ p. p.args.1.0.now;
      beside = λ p. (p.args.0.now, p.args.1.1.0.now, p.args.1.1.1.0.now);
      seen = λ p. (p.answer, p.exit.1.1.0.now, p.exit.1.1.1.0.now);
    }

-- Writing the plan, lent bytes and the work area: its answer, and both at exit.
abbrev pub writing : Call (Outcome write-plan.Post) (List ℕ × List ℤ) (Written × List ℕ × List ℤ)
writing =
    record {
      order = λ p. p.args.0.now;
      beside = λ p. (p.args.1.0.now, p.args.1.1.0.now);
      seen = λ p. (p.answer, p.exit.1.0.now, p.exit.1.1.0.now);
    }

-- Legal, given a plan: its answer.
abbrev pub judging_legal : Call (Outcome legal.Post) (List ℕ) Checked
judging_legal = record { order = λ p. p.args.0.now; beside = λ p. p.args.1.0.now; seen = λ p. p.answer }

-- Best, given a plan, lent the work area: its answer, and that at exit.
abbrev pub judging_best : Call (Outcome best.Post) (List ℕ × List ℤ) (Checked × List ℤ)
judging_best =
    record {
      order = λ p. p.args.0.now;
      beside = λ p. (p.args.1.0.now, p.args.1.1.0.now);
      seen = λ p. (p.answer, p.exit.1.1.0.now);
    }

-- None of them reads packs.
pub record PacksUnread : Type 0 where
  pub plan : Unread planning
  pub halves : Unread planning_halves
  pub extend : Unread extending
  pub write : Unread writing
  pub legal : Unread judging_legal
  pub best : Unread judging_best
