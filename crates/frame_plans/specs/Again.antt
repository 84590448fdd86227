-- Tomorrow's frame is today's again, over the definitions and over the calls: whatever an outcome of framing that its contract allows
-- has written, planning accepts it, and every outcome of planning on the order of two frames, or of more, keeps as many times the
-- weight as there are frames, and is refused with 11 exactly where planning one frame is.
use Rattle.std.specs.Prelude.{ℕ, suc, ◌*◌, ◌≤◌, ◌≡◌, refl, false, ◌↔◌, List, ℤ, pos, length, take, Ok}
use Rattle.std.proofs.Common.{sym, ap, ◌∙◌}
use Rattle.std.proofs.Math.Option.{none, map, map-eq-none_iff}
use contract.Lifetimes.{Lfts}
use denote.Triple.Clauses.{AtExit}
use denote.Triple.Entry.{Args}
use Rattle.order.specs.Job.{Job, Order}
use Rattle.order.specs.Choice.{Choice, feasible}
use Rattle.plan.specs.Frames.{best_kept, two_frames, frames}
use Rattle.plan.proofs.FramesLaws.{frames-best, two-frames-best, two-frames-none}
use Rattle.packed.specs.Judge.{fine, judge}
use Rattle.packed.specs.Packed.{count_of, jobs_of, order_of}
use Rattle.packed.specs.Refusals.{order_checks}
use Rattle.area.specs.Area.{area}
use Rattle.frames.specs.Frames.{frame_of, frame_numbers, making_checks}
use Rattle.frames.proofs.FrameLaws.{making-fine, inside-frame}
use Rattle.planner.specs.Calls.{Planned, plan_verdict, planned_of, plan_numbers}
use Rattle.planner.specs.Answers.{plan-passed}
use Rattle.planner.specs.contracts.plan as plan
use Rattle.planner.proofs.plan.Reads as plan-reads
use Rattle.framing.specs.AnswerSays.{FrameWritten, frame_order}
use Rattle.framing.specs.declared.FrameOrder.{FrameOrder}
use Rattle.framing.specs.contracts.frame as frame
use Rattle.framing.proofs.frame.Reads as frame-reads
use Rattle.framing.proofs.Outcomes.{outcome-written}
use Rattle.frame_plans.specs.Planned.{plan_kept, kept-best, none-eleven}

-- ---- over the definitions

-- Jobs that may repeat, whose frame makes an order: two frames keep twice the weight of one, and none is feasible where none is.
module _ (zs : List ℤ) (made : judge (making_checks zs) ≡ fine) where
  abbrev jobs : List Job
  jobs = jobs_of (frame_numbers zs)

  pub twice : best_kept (pos 0) (two_frames (frame_of zs) jobs) ≡ map (λ w. 2 * w) (best_kept (pos 0) jobs)
  twice = two-frames-best (frame_of zs) jobs (inside-frame (making-fine zs made))

  pub twice-none : ((c : Choice) → feasible (two_frames (frame_of zs) jobs) c (pos 0) ≡ false)
      ↔ ((c : Choice) → feasible jobs c (pos 0) ≡ false)
  twice-none = two-frames-none (frame_of zs) jobs (inside-frame (making-fine zs made))

-- ---- over the calls

-- The order of k frames and one more, of the order of one: the same jobs again, renumbered and a frame later.
abbrev pub again : ℕ → ℕ → Order → Order
again k F o = record { t0 = o.t0; jobs = frames k F o.jobs }

-- An outcome of planning some bytes that passes the checks: the order fits the limits, and there is room.
pub record Planning (bytes : List ℕ) : Type 1 where
  pub lifetimes : Lfts 3
  pub args : Args plan.signature lifetimes
  pub answer : Planned
  pub exit : AtExit plan.ended lifetimes
  pub allowed : plan-reads.Post lifetimes args answer exit
  pub given : args.0.now ≡ bytes
  pub fits : judge (order_checks bytes) ≡ fine
  pub places : count_of bytes ≤ length args.1.0.now
  pub room : area ≤ length args.1.1.0.now

-- What it keeps is the best there is.
module _ {bytes : List ℕ} (p : Planning bytes) where
  passed : plan_verdict bytes p.args.1.0.now p.args.1.1.0.now ≡ fine
  passed = (plan-passed bytes p.args.1.0.now p.args.1.1.0.now).1 (p.fits, p.places, p.room)

  says : p.answer ≡ planned_of bytes p.args.1.0.now p.args.1.1.0.now
  says = p.allowed.answer ∙ ap (λ (b : List ℕ). planned_of b p.args.1.0.now p.args.1.1.0.now) p.given

  pub planning-best : plan_kept p.answer ≡ best_kept (order_of bytes).t0 (order_of bytes).jobs
  planning-best = ap plan_kept says ∙ kept-best bytes p.args.1.0.now p.args.1.1.0.now passed

  pub planning-none : (plan_numbers p.answer).refusal.number ≡ 11 ↔ (plan_kept p.answer ≡ none)
  planning-none = rw says (none-eleven bytes p.args.1.0.now p.args.1.1.0.now passed)

-- A call of framing that answers with bytes.
module _ (κs : Lfts 2) (a : Args frame.signature κs) (made : FrameOrder) (x : AtExit frame.ended κs)
    (h : frame-reads.Post κs a (Ok made) x) where
  -- The bytes written.
  abbrev pub written : List ℕ
  written = take made.bytes x.1.0.now

  wrote : FrameWritten a.0.now x.1.0.now made
  wrote = outcome-written κs a (Ok made) x h made refl

  -- Planning accepts them,
  pub frame-accepted : judge (order_checks written) ≡ fine
  frame-accepted = wrote.accepted

  -- and of any bytes that say k frames and one more, it keeps so many times the weight,
  module _ (k : ℕ) (bytes : List ℕ) (say : order_of bytes ≡ again k made.frame (order_of written))
      (one : Planning written) (more : Planning bytes) where
    pub frames-kept : plan_kept more.answer ≡ map (λ w. suc k * w) (plan_kept one.answer)
    frames-kept =
        let jobs : List Job = (frame_order a.0.now).jobs in
        let single : plan_kept one.answer ≡ best_kept (pos 0) jobs =
        planning-best one ∙ ap (λ (o : Order). best_kept o.t0 o.jobs) wrote.says in
        let several : order_of bytes ≡ again k made.frame (frame_order a.0.now) = say ∙ ap (again k made.frame) wrote.says in
        planning-best more ∙ ap (λ (o : Order). best_kept o.t0 o.jobs) several
        ∙ frames-best made.frame jobs wrote.inside k
        ∙ ap (map (λ w. suc k * w)) (sym single)

    -- and is refused with 11 exactly where one frame is.
    pub frames-eleven : (plan_numbers more.answer).refusal.number ≡ 11 ↔ ((plan_numbers one.answer).refusal.number ≡ 11)
    frames-eleven =
        let mapped = map-eq-none_iff (λ (w : ℕ). suc k * w) (plan_kept one.answer) in (
          λ e. (planning-none one).1 (mapped.0 (sym frames-kept ∙ (planning-none more).0 e)),
          λ e. (planning-none more).1 (frames-kept ∙ mapped.1 ((planning-none one).0 e)),
        )
