-- 19 is given by the exported calls exactly when 1 to 5 do not apply to a packed order, its kind is 1 and no pack differs from 0, in every
-- outcome that their contracts allow. No other call gives it (`NumbersGiven`).
use Prim.Native.Nat.{ℕ}
use mathlib.Core.Path.{◌≡◌, refl, ap}
use mathlib.Core.Logic.{◌↔◌, ◌≢◌, ◌⊎◌}
use mathlib.Core.List.{List, [], ◌∷◌, ◌++◌, append_assoc}
use mathlib.Core.Option.{Option, none, some}
use native.Mathlib.Omega.{arith}
use contract.Lifetimes.{Lfts}
use lib.Dec.{ltb}
use lib.IntN.{ℤ}
use lib.ListN.{length}
use borrow.Table.Steps.{cases}
use Rattle.packed.specs.declared.Refusal.{Refusal}
use Rattle.packed.specs.Judge.{Check, fine, judge, refusal_of as answer_refusal}
use Rattle.packed.specs.Packed.{count_of, numbers_of, order_of}
use Rattle.packed.specs.Refusals.{job_checks, weight_checks, halves_checks, room_checks, order_checks}
use Rattle.packed.proofs.Packless.{Packless, NineteenIs, nineteen-behind, nineteen-told, nineteen-either, nineteen-header, nineteen-order}
use Rattle.plan.specs.Plan.{Answer, plan_answer}
use Rattle.unpack.specs.Answer.{unpacked_by}
use Rattle.reader.specs.Reading.{opened_by, open_refusal, place_check, step_checks, stepped_by, read_refusal}
use Rattle.profiles.specs.Numbers.{most_numbers}
use Rattle.area.specs.Area.{area}
use Rattle.packed.specs.Judge.{refusal_of as extend_refusal}
use Rattle.extending.specs.Calls.{profile_checks, extend_judged, extend_checks, extension, extended_by}
use Rattle.planner.specs.Calls.{plan_checks, planned_by, plan_numbers}
use Rattle.halves.specs.Calls.{plan_halves_checks, with_seconds, lost_seconds, halves_numbers}
use Rattle.plan_writer.specs.Calls.{plan_room, write_checks, written_by}
use Rattle.packed_plan.specs.Plan.{sent_checks}
use Rattle.checking.specs.Calls.{legal_checks, legal_in, checked_by, checked_numbers}
use Rattle.best_plan.specs.Calls.{best_checks, best_in}
use Rattle.ties.specs.Winning.{opening_point, TieRule, sooner, to_first, winner_by}
use Rattle.choosing.specs.Choosing.{choosing_checks, chosen_by}
use Rattle.choosing.proofs.AnswerSays.{won-by, at-most-eleven}
use Rattle.openings.specs.Answer.{with_kind}
use Rattle.openings.specs.AnswerLaws.{refusal-told}
use Rattle.packed_answers.specs.declared.UnpackAnswer.{UnpackAnswer}
use Rattle.packed_answers.specs.declared.PackAnswer.{PackAnswer}
use Rattle.packed_answers.specs.declared.OpenAnswer.{OpenAnswer}
use Rattle.packed_answers.specs.declared.StepAnswer.{StepAnswer}
use Rattle.plan_answers.specs.declared.ExtendAnswer.{ExtendAnswer}
use Rattle.plan_answers.specs.declared.PlanAnswer.{PlanAnswer}
use Rattle.plan_answers.specs.declared.HalvesAnswer.{HalvesAnswer}
use Rattle.opening_answers.specs.declared.QuestionAnswer.{QuestionAnswer}
use Rattle.opening_answers.specs.declared.ChooseAnswer.{ChooseAnswer}
use Rattle.verdict_answers.specs.declared.VerdictAnswer.{VerdictAnswer}
use Rattle.leafanchor.proofs.leafanchor_unpack.Reads as unpack
use Rattle.leafanchor.proofs.leafanchor_open.Reads as opens
use Rattle.leafanchor.proofs.leafanchor_step.Reads as step
use Rattle.leafanchor.proofs.leafanchor_extend.Reads as extend
use Rattle.leafanchor.proofs.leafanchor_plan.Reads as plan
use Rattle.leafanchor.proofs.leafanchor_plan_halves.Reads as halves
use Rattle.leafanchor.proofs.leafanchor_write_plan.Reads as write-plan
use Rattle.leafanchor.proofs.leafanchor_legal.Reads as legal
use Rattle.leafanchor.proofs.leafanchor_best.Reads as best
use Rattle.leafanchor.proofs.leafanchor_question.Reads as question
use Rattle.leafanchor.proofs.leafanchor_question_first.Reads as question-first
use Rattle.leafanchor.proofs.leafanchor_choose.Reads as choose
use Rattle.leafanchor.proofs.leafanchor_choose_first.Reads as choose-first

-- ---- the claim

-- In every outcome that a contract allows, the number is 19 exactly when the packed order that is given is such a one;
abbrev Exactly : {A R X : Type 0} → (A → R → X → Type 0) → (R → ℕ) → (A → List ℕ) → Type 0
Exactly {A} {R} {X} allows number order = (a : A) (r : R) (x : X) → allows a r x → number r ≡ 19 ↔ Packless (order a)

-- of two openings, when the first is, or the second where the first is accepted.
abbrev EitherOpening : List ℕ → List ℕ → Type 0
EitherOpening first second = Packless first ⊎ ((judge (order_checks first) ≡ fine) × Packless second)

abbrev Either : {A R X : Type 0} → (A → R → X → Type 0) → (R → ℕ) → (A → List ℕ) → (A → List ℕ) → Type 0
Either {A} {R} {X} allows number first second =
    (a : A) (r : R) (x : X) → allows a r x → number r ≡ 19 ↔ EitherOpening (first a) (second a)

pub record NineteenGiven : Type 0 where
  pub unpacks : (κs : Lfts 2) → Exactly (unpack.Post κs) (λ (r : UnpackAnswer). r.refusal) (λ a. a.0.now)
  pub opens : (κs : Lfts 1) → Exactly (opens.Post κs) (λ (r : OpenAnswer). r.refusal) (λ a. a.0.now)
  pub steps : (κs : Lfts 1) → Exactly (step.Post κs) (λ (r : StepAnswer). r.refusal) (λ a. a.0.now)
  pub extends : (κs : Lfts 4) → Exactly (extend.Post κs) (λ (r : ExtendAnswer). r.refusal) (λ a. a.1.0.now)
  pub plans : (κs : Lfts 3) → Exactly (plan.Post κs) (λ (r : PlanAnswer). r.refusal) (λ a. a.0.now)
  pub plans-halves : (κs : Lfts 3) → Exactly (halves.Post κs) (λ (r : HalvesAnswer). r.refusal) (λ a. a.0.now)
  pub writes-plans : (κs : Lfts 3) → Exactly (write-plan.Post κs) (λ (r : PackAnswer). r.refusal) (λ a. a.0.now)
  pub judges-legal : (κs : Lfts 2) → Exactly (legal.Post κs) (λ (r : VerdictAnswer). r.refusal) (λ a. a.0.now)
  pub judges-best : (κs : Lfts 3) → Exactly (best.Post κs) (λ (r : VerdictAnswer). r.refusal) (λ a. a.0.now)
  pub asks : (κs : Lfts 3) → Either (question.Post κs) (λ (r : QuestionAnswer). r.refusal) (λ a. a.0.now) (λ a. a.1.0.now)
  pub asks-first : (κs : Lfts 3)
      → Either (question-first.Post κs) (λ (r : QuestionAnswer). r.refusal) (λ a. a.0.now) (λ a. a.1.0.now)
  pub chooses : (κs : Lfts 3) → Either (choose.Post κs) (λ (r : ChooseAnswer). r.refusal) (λ a. a.0.now) (λ a. a.1.0.now)
  pub chooses-first : (κs : Lfts 3)
      → Either (choose-first.Post κs) (λ (r : ChooseAnswer). r.refusal) (λ a. a.0.now) (λ a. a.1.0.now)

-- ---- each answer, by its checks

module _ (bytes : List ℕ) where
  step-checks : (place : ℕ) → NineteenIs bytes (step_checks bytes place)
  step-checks place = nineteen-behind (place_check bytes place ∷ []) tt (nineteen-header bytes)

  extend-checks : (ns out work : List ℤ) → NineteenIs bytes (extend_checks ns bytes out work)
  unfolding extend_judged extend_checks job_checks weight_checks
  extend-checks ns out work =
      nineteen-behind (room_checks area (length work)) tt
      (nineteen-behind (room_checks most_numbers (length out)) tt
      (nineteen-behind (weight_checks _ (numbers_of bytes)) tt
      (nineteen-behind (profile_checks ns) tt
      (nineteen-behind (job_checks (numbers_of bytes)) tt (nineteen-header bytes)))))

  rooms : {cs : List Check} (need room more space : ℕ) → NineteenIs bytes cs
      → NineteenIs bytes (cs ++ room_checks need room ++ room_checks more space)
  rooms need room more space is = nineteen-behind (room_checks more space) tt (nineteen-behind (room_checks need room) tt is)

  plan-checks : (starts work : List ℤ) → NineteenIs bytes (plan_checks bytes starts work)
  unfolding plan_checks
  plan-checks starts work = rooms (count_of bytes) (length starts) area (length work) (nineteen-order bytes)

  halves-checks : (starts work : List ℤ) → NineteenIs bytes (plan_halves_checks bytes starts work)
  unfolding plan_halves_checks halves_checks
  halves-checks starts work =
      rooms (count_of bytes) (length starts) area (length work)
      (nineteen-behind (halves_checks (numbers_of bytes)) tt (nineteen-order bytes))

  write-checks : (out : List ℕ) (work : List ℤ) → NineteenIs bytes (write_checks bytes out work)
  unfolding write_checks
  write-checks out work = rooms plan_room (length out) area (length work) (nineteen-order bytes)

  legal-checks : (sent : List ℕ) → NineteenIs bytes (legal_checks bytes sent)
  unfolding legal_checks sent_checks
  legal-checks sent = nineteen-behind (sent_checks (count_of bytes) sent) tt (nineteen-order bytes)

  best-checks : (sent : List ℕ) (work : List ℤ) → NineteenIs bytes (best_checks bytes sent work)
  unfolding best_checks
  best-checks sent work = nineteen-behind (room_checks area (length work)) tt (legal-checks sent)

-- A choice between two openings.
choose-nineteen : (rule : TieRule) (first second : List ℕ) (t : ℤ) (work : List ℤ)
    → (answer_refusal (with_kind first second (chosen_by (judge (choosing_checks first second work)) (winner_by rule first second t)))).number ≡ 19
    ↔ EitherOpening first second
unfolding choosing_checks
choose-nineteen rule first second t work =
    rw (append_assoc (order_checks first) (order_checks second) (room_checks area (length work)))
    (nineteen-either (nineteen-order first) (nineteen-behind (room_checks area (length work)) tt (nineteen-order second))
    (λ v. (answer_refusal (with_kind first second (chosen_by v (winner_by rule first second t)))).number)
    (λ e.
    let told = ap (λ (s : Refusal). s.number) (refusal-told first second (winner_by rule first second t)) in
    absurd (omega (arith, told, at-most-eleven (won-by rule (opening_point first t) (opening_point second t)))))
    (λ r. refl))

-- ---- every outcome of each call

-- Past the checks no call gives it: there a plan may be refused with 11, and a step gives a job or the end.
planned-not : (a : Option Answer) → (plan_numbers (planned_by fine a)).refusal.number ≢ 19
planned-not none e = absurd (omega arith)
planned-not (some a) e = absurd (omega arith)

halved-not : (seconds : ℕ) (a : Option Answer) → (halves_numbers (with_seconds seconds (planned_by fine a))).plan.refusal.number ≢ 19
halved-not seconds none e = absurd (omega arith)
halved-not seconds (some a) e = absurd (omega arith)

written-not : (a : Option Answer) → (answer_refusal (written_by fine a)).number ≢ 19
written-not none e = absurd (omega arith)
written-not (some a) e = absurd (omega arith)

stepped-not : (bytes : List ℕ) (place : ℕ) → (read_refusal (stepped_by bytes place fine).answer).number ≢ 19
stepped-not bytes place e = cases (ltb place (count_of bytes))
    (λ t. let z : 0 ≡ 19 = rw t at e in absurd (omega arith)) (λ t. let z : 0 ≡ 19 = rw t at e in absurd (omega arith))

pub nineteen-given : NineteenGiven
nineteen-given =
    record {
      unpacks = λ κs a r x h. rw h.0
          (nineteen-told (nineteen-behind (room_checks _ (length a.1.0.now)) tt (nineteen-order a.0.now))
          (λ v. (answer_refusal (unpacked_by a.0.now v)).number) (λ e. absurd (omega arith)) (λ s. refl));
      opens = λ κs a r x h. rw h
          (nineteen-told (nineteen-header a.0.now) (λ v. open_refusal (opened_by (count_of a.0.now) v)) (λ e. absurd (omega arith))
          (λ s. refl));
      steps = λ κs a r x h. rw h
          (nineteen-told (step-checks a.0.now a.1.0) (λ v. (read_refusal (stepped_by a.0.now a.1.0 v).answer).number)
          (stepped-not a.0.now a.1.0) (λ s. refl));
      extends = λ κs a r x h. rw h.0
          (nineteen-told (extend-checks a.1.0.now a.0.now a.1.1.0.now a.1.1.1.0.now)
          (λ v. (extend_refusal (extended_by v (extension a.0.now a.1.0.now))).number) (λ e. absurd (omega arith)) (λ s. refl));
      plans = λ κs a r x h. rw h.0
          (nineteen-told (plan-checks a.0.now a.1.0.now a.1.1.0.now)
          (λ v. (plan_numbers (planned_by v (plan_answer (order_of a.0.now)))).refusal.number)
          (planned-not (plan_answer (order_of a.0.now))) (λ s. refl));
      plans-halves = λ κs a r x h. rw h.0
          (nineteen-told (halves-checks a.0.now a.1.0.now a.1.1.0.now)
          (λ v. (halves_numbers (with_seconds (lost_seconds (order_of a.0.now)) (planned_by v (plan_answer (order_of a.0.now))))).plan.refusal.number)
          (halved-not (lost_seconds (order_of a.0.now)) (plan_answer (order_of a.0.now))) (λ s. refl));
      writes-plans = λ κs a r x h. rw h.0
          (nineteen-told (write-checks a.0.now a.1.0.now a.1.1.0.now)
          (λ v. (answer_refusal (written_by v (plan_answer (order_of a.0.now)))).number)
          (written-not (plan_answer (order_of a.0.now))) (λ s. refl));
      judges-legal = λ κs a r x h. rw h
          (nineteen-told (legal-checks a.0.now a.1.0.now)
          (λ v. (checked_numbers (checked_by v (legal_in a.0.now a.1.0.now))).refusal.number) (λ e. absurd (omega arith)) (λ s. refl));
      judges-best = λ κs a r x h. rw h.0
          (nineteen-told (best-checks a.0.now a.1.0.now a.1.1.0.now)
          (λ v. (checked_numbers (checked_by v (best_in a.0.now a.1.0.now))).refusal.number) (λ e. absurd (omega arith)) (λ s. refl));
      asks = λ κs a r x h. rw h.0 (choose-nineteen sooner a.0.now a.1.0.now a.1.1.0 a.1.1.1.0.now);
      asks-first = λ κs a r x h. rw h.0 (choose-nineteen to_first a.0.now a.1.0.now a.1.1.0 a.1.1.1.0.now);
      chooses = λ κs a r x h. rw h.0 (choose-nineteen sooner a.0.now a.1.0.now a.1.1.0 a.1.1.1.0.now);
      chooses-first = λ κs a r x h. rw h.0 (choose-nineteen to_first a.0.now a.1.0.now a.1.1.0 a.1.1.1.0.now);
    }
