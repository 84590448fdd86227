-- The contract of each exported call determines the numbers of its answer and every lent buffer at exit, for every input.
use Prim.Native.Nat.{ℕ}
use mathlib.Core.List.{List}
use contract.Lifetimes.{Lfts}
use lib.IntN.{ℤ}
use lib.ListN.{length}
use Rattle.seconds.specs.Determined.{Determines, determined, two, three}
use Rattle.heat.specs.Answer.{heating_of}
use Rattle.unpack.specs.Answer.{unpack_of, numbers_after}
use Rattle.pack.specs.Answer.{pack_of, bytes_after}
use Rattle.framing.specs.Answer.{framed_of, order_after}
use Rattle.reader.specs.Reading.{open_of, step_of}
use Rattle.profiles.specs.Answer.{lookup_of}
use Rattle.point_records.specs.Records.{flattened}
use Rattle.better.specs.Answer.{joined_of, out_after as joined_after}
use Rattle.extending.specs.Calls.{extended_of, out_after, extend_work_after}
use Rattle.planner.specs.Calls.{planned_of, starts_after, plan_work_after}
use Rattle.halves.specs.Calls.{halves_of, halves_starts_after, halves_work_after}
use Rattle.plan_writer.specs.Calls.{written_of, out_after as plan_after, write_work_after}
use Rattle.checking.specs.Calls.{legal_of}
use Rattle.best_plan.specs.Calls.{best_of, best_work_after}
use Rattle.ties.specs.Winning.{sooner, to_first}
use Rattle.choosing.specs.Choosing.{work_after}
use Rattle.openings.specs.Answer.{answer_of}
use Rattle.packed_answers.specs.Numbers.{heat_numbers, unpack_numbers, pack_numbers, framed_numbers, open_numbers, step_numbers}
use Rattle.plan_answers.specs.Numbers.{lookup_numbers, better_numbers, extend_numbers, plan_figures}
use Rattle.plan_answers.specs.Numbers.{halves_figures}
use Rattle.opening_answers.specs.Numbers.{question_numbers, choose_numbers}
use Rattle.verdict_answers.specs.Numbers.{verdict_numbers}
use Rattle.packed_answers.specs.declared.UnpackAnswer.{UnpackAnswer}
use Rattle.packed_answers.specs.declared.PackAnswer.{PackAnswer}
use Rattle.packed_answers.specs.declared.FrameAnswer.{FrameAnswer}
use Rattle.plan_answers.specs.declared.BetterAnswer.{BetterAnswer}
use Rattle.plan_answers.specs.declared.ExtendAnswer.{ExtendAnswer}
use Rattle.plan_answers.specs.declared.PlanAnswer.{PlanAnswer}
use Rattle.plan_answers.specs.declared.HalvesAnswer.{HalvesAnswer}
use Rattle.opening_answers.specs.declared.QuestionAnswer.{QuestionAnswer}
use Rattle.opening_answers.specs.declared.ChooseAnswer.{ChooseAnswer}
use Rattle.verdict_answers.specs.declared.VerdictAnswer.{VerdictAnswer}
use Rattle.leafanchor.proofs.ByHand.{RecordsPost}
use Rattle.leafanchor.proofs.leafanchor_heat_up.Reads as heat-up
use Rattle.leafanchor.proofs.leafanchor_unpack.Reads as unpack
use Rattle.leafanchor.proofs.leafanchor_pack.Reads as pack
use Rattle.leafanchor.proofs.leafanchor_frame.Reads as frame
use Rattle.leafanchor.proofs.leafanchor_open.Reads as opens
use Rattle.leafanchor.proofs.leafanchor_step.Reads as step
use Rattle.leafanchor.proofs.leafanchor_lookup.Reads as lookup
use Rattle.leafanchor.proofs.leafanchor_better_of.Reads as better-of
use Rattle.leafanchor.proofs.leafanchor_extend.Reads as extend
use Rattle.leafanchor.proofs.leafanchor_plan.Reads as plan
use Rattle.leafanchor.proofs.leafanchor_plan_halves.Reads as halves
use Rattle.leafanchor.proofs.leafanchor_write_plan.Reads as write-plan
use Rattle.leafanchor.proofs.leafanchor_legal.Reads as legal
use Rattle.leafanchor.proofs.leafanchor_best.Reads as best
use Rattle.leafanchor.proofs.leafanchor_question.Reads as question
use Rattle.leafanchor.proofs.leafanchor_question_first.Reads as question-first
use Rattle.leafanchor.proofs.leafanchor_choose.Reads as choose
use Rattle.leafanchor.proofs.leafanchor_choose_first.Reads as choose-first

-- ---- calls that write nothing

pub heat-up-determined : (κs : Lfts 0) → Determines (heat-up.Post κs) (λ r x. r)
heat-up-determined κs = determined (heat-up.Post κs) (λ r x. r) (λ a. heat_numbers (heating_of a.0)) (λ a r x h. h)

pub open-determined : (κs : Lfts 1) → Determines (opens.Post κs) (λ r x. r)
open-determined κs = determined (opens.Post κs) (λ r x. r) (λ a. open_numbers (open_of a.0.now)) (λ a r x h. h)

pub step-determined : (κs : Lfts 1) → Determines (step.Post κs) (λ r x. r)
step-determined κs =
    determined (step.Post κs) (λ r x. r) (λ a. step_numbers (step_of a.0.now a.1.0)) (λ a r x h. h)

pub lookup-determined : (κs : Lfts 1) → Determines (lookup.Post κs) (λ r x. r)
lookup-determined κs =
    determined (lookup.Post κs) (λ r x. r) (λ a. lookup_numbers (lookup_of a.0.now a.1.0)) (λ a r x h. h)

pub lookup-records-determined : (κs : Lfts 1) → Determines (RecordsPost κs) (λ r x. r)
lookup-records-determined κs =
    determined (RecordsPost κs) (λ r x. r) (λ a. lookup_numbers (lookup_of (flattened a.0.now) a.1.0)) (λ a r x h. h)

-- ---- packed orders

pub unpack-determined : (κs : Lfts 2) → Determines {Z = UnpackAnswer × List ℤ} (unpack.Post κs) (λ r x. (r, x.1.0.now))
unpack-determined κs =
    determined (unpack.Post κs) (λ r x. (r, x.1.0.now))
    (λ a. (unpack_numbers (unpack_of a.0.now (length a.1.0.now)), numbers_after a.0.now a.1.0.now))
    (λ a r x h. two h.0 h.1)

pub pack-determined : (κs : Lfts 2) → Determines {Z = PackAnswer × List ℕ} (pack.Post κs) (λ r x. (r, x.1.1.0.now))
pack-determined κs =
    determined (pack.Post κs) (λ r x. (r, x.1.1.0.now))
    (λ a. (
      pack_numbers (pack_of a.0 a.1.0.now (length a.1.1.0.now)),
      bytes_after a.0 a.1.0.now a.1.1.0.now,
    ))
    (λ a r x h. two h.0 h.1)

pub frame-determined : (κs : Lfts 2) → Determines {Z = FrameAnswer × List ℕ} (frame.Post κs) (λ r x. (r, x.1.0.now))
frame-determined κs =
    determined (frame.Post κs) (λ r x. (r, x.1.0.now))
    (λ a. (framed_numbers (framed_of a.0.now (length a.1.0.now)), order_after a.0.now a.1.0.now))
    (λ a r x h. two h.0 h.1)

-- ---- profiles and plans

pub better-of-determined : (κs : Lfts 3)
    → Determines {Z = BetterAnswer × List ℤ} (better-of.Post κs) (λ r x. (r, x.1.1.0.now))
better-of-determined κs =
    determined (better-of.Post κs) (λ r x. (r, x.1.1.0.now))
    (λ a. (
      better_numbers (joined_of a.0.now a.1.0.now a.1.1.0.now),
      joined_after a.0.now a.1.0.now a.1.1.0.now,
    ))
    (λ a r x h. two h.0 h.1)

pub extend-determined : (κs : Lfts 4)
    → Determines {Z = ExtendAnswer × List ℤ × List ℤ} (extend.Post κs) (λ r x. (r, x.1.1.0.now, x.1.1.1.0.now))
extend-determined κs =
    determined (extend.Post κs) (λ r x. (r, x.1.1.0.now, x.1.1.1.0.now))
    (λ a. (
      extend_numbers (extended_of a.0.now a.1.0.now a.1.1.0.now a.1.1.1.0.now),
      out_after a.0.now a.1.0.now a.1.1.0.now a.1.1.1.0.now,
      extend_work_after a.0.now a.1.0.now a.1.1.0.now a.1.1.1.0.now,
    ))
    (λ a r x h. three h.0 h.1.0 h.1.1)

pub plan-determined : (κs : Lfts 3)
    → Determines {Z = PlanAnswer × List ℤ × List ℤ} (plan.Post κs) (λ r x. (r, x.1.0.now, x.1.1.0.now))
plan-determined κs =
    determined (plan.Post κs) (λ r x. (r, x.1.0.now, x.1.1.0.now))
    (λ a. (
      plan_figures (planned_of a.0.now a.1.0.now a.1.1.0.now),
      starts_after a.0.now a.1.0.now a.1.1.0.now,
      plan_work_after a.0.now a.1.0.now a.1.1.0.now,
    ))
    (λ a r x h. three h.0 h.1.0 h.1.1)

pub plan-halves-determined : (κs : Lfts 3)
    → Determines {Z = HalvesAnswer × List ℤ × List ℤ} (halves.Post κs) (λ r x. (r, x.1.0.now, x.1.1.0.now))
plan-halves-determined κs =
    determined (halves.Post κs) (λ r x. (r, x.1.0.now, x.1.1.0.now))
    (λ a. (
      halves_figures (halves_of a.0.now a.1.0.now a.1.1.0.now),
      halves_starts_after a.0.now a.1.0.now a.1.1.0.now,
      halves_work_after a.0.now a.1.0.now a.1.1.0.now,
    ))
    (λ a r x h. three h.0 h.1.0 h.1.1)

-- ---- plans in bytes

pub write-plan-determined : (κs : Lfts 3)
    → Determines {Z = PackAnswer × List ℕ × List ℤ} (write-plan.Post κs) (λ r x. (r, x.1.0.now, x.1.1.0.now))
write-plan-determined κs =
    determined (write-plan.Post κs) (λ r x. (r, x.1.0.now, x.1.1.0.now))
    (λ a. (
      pack_numbers (written_of a.0.now a.1.0.now a.1.1.0.now),
      plan_after a.0.now a.1.0.now a.1.1.0.now,
      write_work_after a.0.now a.1.0.now a.1.1.0.now,
    ))
    (λ a r x h. three h.0 h.1.0 h.1.1)

pub legal-determined : (κs : Lfts 2) → Determines (legal.Post κs) (λ r x. r)
legal-determined κs =
    determined (legal.Post κs) (λ r x. r) (λ a. verdict_numbers (legal_of a.0.now a.1.0.now)) (λ a r x h. h)

pub best-determined : (κs : Lfts 3)
    → Determines {Z = VerdictAnswer × List ℤ} (best.Post κs) (λ r x. (r, x.1.1.0.now))
best-determined κs =
    determined (best.Post κs) (λ r x. (r, x.1.1.0.now))
    (λ a. (
      verdict_numbers (best_of a.0.now a.1.0.now a.1.1.0.now),
      best_work_after a.0.now a.1.0.now a.1.1.0.now,
    ))
    (λ a r x h. two h.0 h.1)

-- ---- openings

pub question-determined : (κs : Lfts 3)
    → Determines {Z = QuestionAnswer × List ℤ} (question.Post κs) (λ r x. (r, x.1.1.1.0.now))
question-determined κs =
    determined (question.Post κs) (λ r x. (r, x.1.1.1.0.now))
    (λ a. (
      question_numbers (answer_of sooner a.0.now a.1.0.now a.1.1.0 a.1.1.1.0.now),
      work_after sooner a.0.now a.1.0.now a.1.1.0 a.1.1.1.0.now,
    ))
    (λ a r x h. two h.0 h.1)

pub question-first-determined : (κs : Lfts 3)
    → Determines {Z = QuestionAnswer × List ℤ} (question-first.Post κs) (λ r x. (r, x.1.1.1.0.now))
question-first-determined κs =
    determined (question-first.Post κs) (λ r x. (r, x.1.1.1.0.now))
    (λ a. (
      question_numbers (answer_of to_first a.0.now a.1.0.now a.1.1.0 a.1.1.1.0.now),
      work_after to_first a.0.now a.1.0.now a.1.1.0 a.1.1.1.0.now,
    ))
    (λ a r x h. two h.0 h.1)

pub choose-determined : (κs : Lfts 3)
    → Determines {Z = ChooseAnswer × List ℤ} (choose.Post κs) (λ r x. (r, x.1.1.1.0.now))
choose-determined κs =
    determined (choose.Post κs) (λ r x. (r, x.1.1.1.0.now))
    (λ a. (
      choose_numbers (answer_of sooner a.0.now a.1.0.now a.1.1.0 a.1.1.1.0.now)
          (length a.0.now) (length a.1.0.now),
      work_after sooner a.0.now a.1.0.now a.1.1.0 a.1.1.1.0.now,
    ))
    (λ a r x h. two h.0 h.1)

pub choose-first-determined : (κs : Lfts 3)
    → Determines {Z = ChooseAnswer × List ℤ} (choose-first.Post κs) (λ r x. (r, x.1.1.1.0.now))
choose-first-determined κs =
    determined (choose-first.Post κs) (λ r x. (r, x.1.1.1.0.now))
    (λ a. (
      choose_numbers (answer_of to_first a.0.now a.1.0.now a.1.1.0 a.1.1.1.0.now)
          (length a.0.now) (length a.1.0.now),
      work_after to_first a.0.now a.1.0.now a.1.1.0 a.1.1.1.0.now,
    ))
    (λ a r x h. two h.0 h.1)
