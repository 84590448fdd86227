-- The numbers that each exported call can give, in every outcome that its contract allows, whatever it is given: at most 12, and on packed
-- orders 19. Only the call that plans halves gives 13 too, only the two that check plans give 14 and 15, only framing gives 16 and 17, and
-- only the four on sheets (`Sheets`) give 18.
use Prim.Native.Nat.{ℕ, ◌≤◌}
use mathlib.Core.Path.{◌≡◌, refl}
use mathlib.Core.Bool.{Bool, ◌||◌}
use mathlib.Core.List.{List}
use mathlib.Core.Option.{Option, none, some}
use native.Mathlib.Omega.{arith}
use contract.Lifetimes.{Lfts}
use lib.Dec.{T, leb, ltb, eqb}
use lib.IntN.{ℤ}
use lib.ListN.{length}
use borrow.Author.Tests.{leb-false}
use borrow.Table.Steps.{cases}
use Rattle.packed.specs.declared.Refusal.{Refusal}
use Rattle.packed.specs.Judge.{refusal_of as answer_refusal, Check, Verdict, fine, refused, judge}
use Rattle.packed.specs.Packed.{count_of, order_of}
use Rattle.packed.specs.JudgeLaws.{every_number, number-passes}
use Rattle.packed.specs.Refusals.{header_checks, list_checks, job_checks, weight_checks, halves_checks, unpack_checks, pack_checks}
use Rattle.plan.specs.Plan.{Answer, plan_answer}
use Rattle.heat.specs.Heat.{heat_up}
use Rattle.heat.specs.Answer.{refusal_of as heat_refusal, heating}
use Rattle.unpack.specs.Answer.{unpacked_by, unpack_of}
use Rattle.pack.specs.Answer.{packed_by, pack_of}
use Rattle.reader.specs.Reading.{opened_by, open_of, open_refusal, step_checks, stepped_by, step_of, read_refusal}
use Rattle.order.specs.Job.{Point}
use Rattle.profile.specs.Profile.{lookup as last_by}
use Rattle.profiles.specs.Numbers.{most_numbers, profile_in}
use Rattle.profiles.specs.Answer.{finding_of, finding_in, lookup_refusal}
use Rattle.better.specs.Answer.{better_in, joined_in, join_refusal}
use Rattle.packed.specs.Judge.{refusal_of as extend_refusal}
use Rattle.extending.specs.Calls.{extend_judged, extend_checks, extension, extended_by, extended_of}
use Rattle.planner.specs.Calls.{plan_checks, planned_by, planned_of, plan_numbers}
use Rattle.halves.specs.Calls.{plan_halves_checks, with_seconds, lost_seconds, halves_of, halves_numbers}
use Rattle.plan_writer.specs.Calls.{write_checks, written_by, written_of}
use Rattle.packed_plan.specs.Plan.{sent_checks}
use Rattle.checking.specs.Calls.{legal_checks, legal_in}
use Rattle.checking.specs.Answers.{checked-passes}
use Rattle.best_plan.specs.Calls.{best_checks, best_in}
use Rattle.frames.specs.Frames.{given_checks, made_checks}
use Rattle.framing.specs.AnswerSays.{frame-passes}
use Rattle.ties.specs.Winning.{opening_point, TieRule, sooner, to_first, winner_by}
use Rattle.choosing.specs.Choosing.{choosing_checks, chosen_by}
use Rattle.choosing.proofs.AnswerSays.{won-by, at-most-eleven}
use Rattle.openings.specs.Answer.{with_kind, answer_of}
use Rattle.openings.specs.AnswerLaws.{refusal-told}
use Rattle.point_records.specs.Records.{flattened}
use Rattle.packed_answers.specs.declared.HeatAnswer.{HeatAnswer}
use Rattle.packed_answers.specs.declared.UnpackAnswer.{UnpackAnswer}
use Rattle.packed_answers.specs.declared.PackAnswer.{PackAnswer}
use Rattle.packed_answers.specs.declared.FrameAnswer.{FrameAnswer}
use Rattle.packed_answers.specs.declared.OpenAnswer.{OpenAnswer}
use Rattle.packed_answers.specs.declared.StepAnswer.{StepAnswer}
use Rattle.plan_answers.specs.declared.LookupAnswer.{LookupAnswer}
use Rattle.plan_answers.specs.declared.BetterAnswer.{BetterAnswer}
use Rattle.plan_answers.specs.declared.ExtendAnswer.{ExtendAnswer}
use Rattle.plan_answers.specs.declared.PlanAnswer.{PlanAnswer}
use Rattle.plan_answers.specs.declared.HalvesAnswer.{HalvesAnswer}
use Rattle.opening_answers.specs.declared.QuestionAnswer.{QuestionAnswer}
use Rattle.opening_answers.specs.declared.ChooseAnswer.{ChooseAnswer}
use Rattle.verdict_answers.specs.declared.VerdictAnswer.{VerdictAnswer}
use Rattle.leafanchor.proofs.ByHand.{RecordsPost}
use Rattle.leafanchor.proofs.leafanchor_heat_up.Reads as heat-up
use Rattle.leafanchor.proofs.leafanchor_unpack.Reads as unpack
use Rattle.leafanchor.proofs.leafanchor_pack.Reads as pack
use Rattle.leafanchor.proofs.leafanchor_frame.Reads as frame
use Rattle.leafanchor.proofs.leafanchor_open.Reads as opens
use Rattle.leafanchor.proofs.leafanchor_step.Reads as step
use Rattle.leafanchor.proofs.leafanchor_lookup.Reads as lookup
use Rattle.leafanchor.proofs.leafanchor_better_of.Reads as better-of
use Rattle.leafanchor.proofs.leafanchor_extend.Reads as extend
use Rattle.leafanchor.proofs.leafanchor_plan.Reads as plan
use Rattle.leafanchor.proofs.leafanchor_plan_halves.Reads as halves
use Rattle.leafanchor.proofs.leafanchor_write_plan.Reads as write-plan
use Rattle.leafanchor.proofs.leafanchor_legal.Reads as legal
use Rattle.leafanchor.proofs.leafanchor_best.Reads as best
use Rattle.leafanchor.proofs.leafanchor_question.Reads as question
use Rattle.leafanchor.proofs.leafanchor_question_first.Reads as question-first
use Rattle.leafanchor.proofs.leafanchor_choose.Reads as choose
use Rattle.leafanchor.proofs.leafanchor_choose_first.Reads as choose-first

-- ---- by a verdict

-- At most 12; and on packed orders 19 too.
abbrev low : ℕ → Bool
low n = leb n 12

abbrev of_orders : ℕ → Bool
of_orders n = low n || eqb n 19

-- Where every check has such a number, and what is told past them, so has the answer.
by-verdict : (test : ℕ → Bool) (cs : List Check) → T (every_number test cs) → (number : Verdict → ℕ) → T (test (number fine))
    → ((r : Refusal) → number (refused r) ≡ r.number) → T (test (number (judge cs)))
by-verdict test cs all number past told = go (judge cs) refl
  where
    go : (v : Verdict) → judge cs ≡ v → T (test (number v))
    go fine e = past
    go (refused r) e = rw (told r) (number-passes test cs all e)

-- ---- each answer

heat-low : (o : Option ℕ) → T (low (heat_refusal (heating o)))
heat-low none = tt
heat-low (some l) = tt

found-low : (o : Option Point) → T (low (lookup_refusal (finding_of o)))
found-low none = tt
found-low (some p) = tt

lookup-low : (o : Option (List Point)) (t : ℤ) → T (low (lookup_refusal (finding_in o t)))
lookup-low none t = tt
lookup-low (some ps) t = found-low (last_by ps t)

better-low : (o : Option (List Point)) (room : ℕ) → T (low (join_refusal (joined_in o room)))
better-low none room = tt
better-low (some ps) room = cases (ltb room most_numbers) (λ e. rw e tt) (λ e. rw e tt)

unpack-low : (bytes : List ℕ) (room : ℕ) → T (of_orders (answer_refusal (unpack_of bytes room)).number)
unfolding header_checks job_checks weight_checks
unpack-low bytes room =
    by-verdict of_orders (unpack_checks bytes room) tt (λ v. (answer_refusal (unpacked_by bytes v)).number) tt (λ r. refl)

pack-low : (t0 : ℤ) (zs : List ℤ) (room : ℕ) → T (low (answer_refusal (pack_of t0 zs room)).number)
unfolding list_checks job_checks weight_checks
pack-low t0 zs room = by-verdict low (pack_checks t0 zs room) tt (λ v. (answer_refusal (packed_by t0 zs v)).number) tt (λ r. refl)

open-low : (bytes : List ℕ) → T (of_orders (open_refusal (open_of bytes)))
unfolding header_checks
open-low bytes = by-verdict of_orders (header_checks bytes) tt (λ v. open_refusal (opened_by (count_of bytes) v)) tt (λ r. refl)

step-low : (bytes : List ℕ) (place : ℕ) → T (of_orders (read_refusal (step_of bytes place).answer).number)
unfolding header_checks
step-low bytes place =
    by-verdict of_orders (step_checks bytes place) tt (λ v. (read_refusal (stepped_by bytes place v).answer).number)
    (cases (ltb place (count_of bytes)) (λ e. rw e tt) (λ e. rw e tt)) (λ r. refl)

extend-low : (ns : List ℤ) (bytes : List ℕ) (out work : List ℤ) → T (of_orders (extend_refusal (extended_of ns bytes out work)).number)
unfolding extend_checks extend_judged header_checks job_checks weight_checks
extend-low ns bytes out work =
    by-verdict of_orders (extend_checks ns bytes out work) tt (λ v. (extend_refusal (extended_by v (extension ns bytes))).number) tt
    (λ r. refl)

made-low : (a : Option Answer) → T (of_orders (plan_numbers (planned_by fine a)).refusal.number)
made-low none = tt
made-low (some a) = tt

plan-low : (bytes : List ℕ) (starts work : List ℤ) → T (of_orders (plan_numbers (planned_of bytes starts work)).refusal.number)
unfolding plan_checks header_checks job_checks weight_checks
plan-low bytes starts work =
    by-verdict of_orders (plan_checks bytes starts work) tt (λ v. (plan_numbers (planned_by v (plan_answer (order_of bytes)))).refusal.number)
    (made-low (plan_answer (order_of bytes))) (λ r. refl)

written_low : (a : Option Answer) → T (of_orders (answer_refusal (written_by fine a)).number)
written_low none = tt
written_low (some a) = tt

write_low : (order out : List ℕ) (work : List ℤ) → T (of_orders (answer_refusal (written_of order out work)).number)
unfolding write_checks header_checks job_checks weight_checks
write_low order out work =
    by-verdict of_orders (write_checks order out work) tt (λ v. (answer_refusal (written_by v (plan_answer (order_of order)))).number)
    (written_low (plan_answer (order_of order))) (λ r. refl)

-- At most 11 is at most 12.
at_most : {n : ℕ} → n ≤ 11 → T (of_orders n)
at_most {n} h = cases (low n) (λ e. rw e tt) (λ e. absurd (omega (arith, leb-false n 12 e)))

choose-low : (rule : TieRule) (first second : List ℕ) (t : ℤ) (work : List ℤ)
    → T (of_orders (answer_refusal (answer_of rule first second t work)).number)
unfolding choosing_checks header_checks job_checks weight_checks
choose-low rule first second t work =
    by-verdict of_orders (choosing_checks first second work) tt
    (λ v. (answer_refusal (with_kind first second (chosen_by v (winner_by rule first second t)))).number)
    (rw (refusal-told first second (winner_by rule first second t))
    (at_most (at-most-eleven (won-by rule (opening_point first t) (opening_point second t))))) (λ r. refl)

-- ---- every outcome of each call

-- No outcome that a contract allows has another number.
abbrev pub Gives : {A R X : Type 0} → (ℕ → Bool) → (A → R → X → Type 0) → (R → ℕ) → Type 0
Gives {A} {R} {X} test allows number = (a : A) (r : R) (x : X) → allows a r x → T (test (number r))

pub record SharedGiven : Type 0 where
  pub heats : (κs : Lfts 0) → Gives low (heat-up.Post κs) (λ (r : HeatAnswer). r.refusal)
  pub unpacks : (κs : Lfts 2) → Gives of_orders (unpack.Post κs) (λ (r : UnpackAnswer). r.refusal)
  pub packs : (κs : Lfts 2) → Gives low (pack.Post κs) (λ (r : PackAnswer). r.refusal)
  pub opens : (κs : Lfts 1) → Gives of_orders (opens.Post κs) (λ (r : OpenAnswer). r.refusal)
  pub steps : (κs : Lfts 1) → Gives of_orders (step.Post κs) (λ (r : StepAnswer). r.refusal)
  pub looks-up : (κs : Lfts 1) → Gives low (lookup.Post κs) (λ (r : LookupAnswer). r.refusal)
  pub looks-up-records : (κs : Lfts 1) → Gives low (RecordsPost κs) (λ (r : LookupAnswer). r.refusal)
  pub joins : (κs : Lfts 3) → Gives low (better-of.Post κs) (λ (r : BetterAnswer). r.refusal)
  pub extends : (κs : Lfts 4) → Gives of_orders (extend.Post κs) (λ (r : ExtendAnswer). r.refusal)
  pub plans : (κs : Lfts 3) → Gives of_orders (plan.Post κs) (λ (r : PlanAnswer). r.refusal)
  pub writes-plans : (κs : Lfts 3) → Gives of_orders (write-plan.Post κs) (λ (r : PackAnswer). r.refusal)
  pub asks : (κs : Lfts 3) → Gives of_orders (question.Post κs) (λ (r : QuestionAnswer). r.refusal)
  pub asks-first : (κs : Lfts 3) → Gives of_orders (question-first.Post κs) (λ (r : QuestionAnswer). r.refusal)
  pub chooses : (κs : Lfts 3) → Gives of_orders (choose.Post κs) (λ (r : ChooseAnswer). r.refusal)
  pub chooses-first : (κs : Lfts 3) → Gives of_orders (choose-first.Post κs) (λ (r : ChooseAnswer). r.refusal)

pub shared-given : SharedGiven
shared-given =
    record {
      heats = λ κs a r x h. rw h (heat-low (heat_up a.0));
      unpacks = λ κs a r x h. rw h.0 (unpack-low a.0.now (length a.1.0.now));
      packs = λ κs a r x h. rw h.0 (pack-low a.0 a.1.0.now (length a.1.1.0.now));
      opens = λ κs a r x h. rw h (open-low a.0.now);
      steps = λ κs a r x h. rw h (step-low a.0.now a.1.0);
      looks-up = λ κs a r x h. rw h (lookup-low (profile_in a.0.now) a.1.0);
      looks-up-records = λ κs a r x h. rw h (lookup-low (profile_in (flattened a.0.now)) a.1.0);
      joins = λ κs a r x h. rw h.0 (better-low (better_in (profile_in a.0.now) (profile_in a.1.0.now)) (length a.1.1.0.now));
      extends = λ κs a r x h.
          rw h.0 (extend-low a.0.now a.1.0.now a.1.1.0.now a.1.1.1.0.now);
      plans = λ κs a r x h. rw h.0 (plan-low a.0.now a.1.0.now a.1.1.0.now);
      writes-plans = λ κs a r x h. rw h.0 (write_low a.0.now a.1.0.now a.1.1.0.now);
      asks = λ κs a r x h. rw h.0 (choose-low sooner a.0.now a.1.0.now a.1.1.0 a.1.1.1.0.now);
      asks-first = λ κs a r x h. rw h.0 (choose-low to_first a.0.now a.1.0.now a.1.1.0 a.1.1.1.0.now);
      chooses = λ κs a r x h. rw h.0 (choose-low sooner a.0.now a.1.0.now a.1.1.0 a.1.1.1.0.now);
      chooses-first = λ κs a r x h. rw h.0 (choose-low to_first a.0.now a.1.0.now a.1.1.0 a.1.1.1.0.now);
    }

-- ---- the four others

-- Beside those they give their own one or two.
abbrev own : ℕ → ℕ → ℕ → Bool
own a b n = of_orders n || (eqb n a || eqb n b)

halves-own : (bytes : List ℕ) (starts work : List ℤ) → T (own 13 13 (halves_numbers (halves_of bytes starts work)).plan.refusal.number)
unfolding plan_halves_checks header_checks job_checks weight_checks halves_checks
halves-own bytes starts work = go (judge (plan_halves_checks bytes starts work)) refl (plan_answer (order_of bytes))
  where
    go : (v : Verdict) → judge (plan_halves_checks bytes starts work) ≡ v → (a : Option Answer)
        → T (own 13 13 (halves_numbers (with_seconds (lost_seconds (order_of bytes)) (planned_by v a))).plan.refusal.number)
    go (refused r) e a = number-passes (own 13 13) (plan_halves_checks bytes starts work) tt e
    go fine e none = tt
    go fine e (some a) = tt

pub record OwnGiven : Type 0 where
  pub halves-13 : (κs : Lfts 3) → Gives (own 13 13) (halves.Post κs) (λ (r : HalvesAnswer). r.refusal)
  pub legal-14-15 : (κs : Lfts 2) → Gives (own 14 15) (legal.Post κs) (λ (r : VerdictAnswer). r.refusal)
  pub best-14-15 : (κs : Lfts 3) → Gives (own 14 15) (best.Post κs) (λ (r : VerdictAnswer). r.refusal)
  pub frame-16-17 : (κs : Lfts 2) → Gives (λ n. low n || (eqb n 16 || eqb n 17)) (frame.Post κs) (λ (r : FrameAnswer). r.refusal)

pub own-given : OwnGiven
unfolding best_checks legal_checks sent_checks header_checks job_checks weight_checks given_checks made_checks
own-given =
    record {
      halves-13 = λ κs a r x h. rw h.0 (halves-own a.0.now a.1.0.now a.1.1.0.now);
      legal-14-15 = λ κs a r x h. rw h
          (checked-passes (legal_checks a.0.now a.1.0.now) (legal_in a.0.now a.1.0.now) (own 14 15) tt tt);
      best-14-15 = λ κs a r x h. rw h.0
          (checked-passes (best_checks a.0.now a.1.0.now a.1.1.0.now) (best_in a.0.now a.1.0.now) (own 14 15) tt tt);
      frame-16-17 = λ κs a r x h. rw h.0 (frame-passes a.0.now (length a.1.0.now) (λ n. low n || (eqb n 16 || eqb n 17)) tt tt);
    }
