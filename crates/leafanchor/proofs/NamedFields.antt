-- What the field says in every outcome that the contract of an exported call allows, for each call that has one (R36): the
-- answer is 6 with a place and a field exactly when the checks before 6 are passed, the first job out of range is there, and that
-- is its first field that is; and no other number comes with a field.
use Prim.Native.Nat.{ℕ}
use mathlib.Core.Path.{◌≡◌, refl, sym, subst}
use mathlib.Core.Logic.{◌↔◌, ◌≢◌, ◌⊎◌}
use mathlib.Core.List.{List}
use contract.Lifetimes.{Lfts}
use lib.IntN.{ℤ}
use lib.ListN.{length}
use Rattle.packed.specs.declared.Refusal.{Refusal}
use Rattle.packed.specs.Judge.{in_field, fine, judge, refusal_of}
use Rattle.packed.specs.Packed.{numbers_of}
use Rattle.packed.specs.Refusals.{header_checks, list_checks, order_checks}
use Rattle.packed.proofs.RefusalPlaces.{BadField, no_field}
use Rattle.unpack.specs.AnswerSays as unpacking
use Rattle.pack.specs.AnswerSays as packing
use Rattle.reader.proofs.ReadingLaws.{BadHere, step-six, step-field-0}
use Rattle.extending.proofs.Answers.{extend-refusal, extend-six}
use Rattle.planner.specs.Answers.{plan-refusal, plan-six}
use Rattle.halves.specs.Calls.{HalvesCall}
use Rattle.halves.proofs.Answers.{halves-refusal, halves-six}
use Rattle.plan_writer.specs.Answers.{write-refusal, write-six}
use Rattle.checking.specs.Answers.{legal-refusal, legal-six}
use Rattle.best_plan.specs.Answers.{best-refusal, best-six}
use Rattle.ties.specs.Winning.{TieRule, sooner, to_first}
use Rattle.choosing.specs.Choosing.{chosen_of, work_after, Asked}
use Rattle.choosing.proofs.WinnerLaws.{BadIn, asked-six, asked-names}
use Rattle.openings.specs.Answer.{answer_of}
use Rattle.openings.specs.AnswerLaws.{refusal-told}
use Rattle.packed_answers.specs.declared.UnpackAnswer.{UnpackAnswer}
use Rattle.packed_answers.specs.declared.PackAnswer.{PackAnswer}
use Rattle.packed_answers.specs.declared.StepAnswer.{StepAnswer}
use Rattle.plan_answers.specs.declared.ExtendAnswer.{ExtendAnswer}
use Rattle.plan_answers.specs.declared.PlanAnswer.{PlanAnswer}
use Rattle.plan_answers.specs.declared.HalvesAnswer.{HalvesAnswer}
use Rattle.opening_answers.specs.declared.QuestionAnswer.{QuestionAnswer}
use Rattle.opening_answers.specs.declared.ChooseAnswer.{ChooseAnswer}
use Rattle.verdict_answers.specs.declared.VerdictAnswer.{VerdictAnswer}
use Rattle.leafanchor.proofs.leafanchor_unpack.Reads as unpack
use Rattle.leafanchor.proofs.leafanchor_pack.Reads as pack
use Rattle.leafanchor.proofs.leafanchor_step.Reads as step
use Rattle.leafanchor.proofs.leafanchor_extend.Reads as extend
use Rattle.leafanchor.proofs.leafanchor_plan.Reads as plan
use Rattle.leafanchor.proofs.leafanchor_plan_halves.Reads as plan-halves
use Rattle.leafanchor.proofs.leafanchor_write_plan.Reads as write-plan
use Rattle.leafanchor.proofs.leafanchor_legal.Reads as legal
use Rattle.leafanchor.proofs.leafanchor_best.Reads as best
use Rattle.leafanchor.proofs.leafanchor_question.Reads as question
use Rattle.leafanchor.proofs.leafanchor_question_first.Reads as question-first
use Rattle.leafanchor.proofs.leafanchor_choose.Reads as choose
use Rattle.leafanchor.proofs.leafanchor_choose_first.Reads as choose-first

-- ---- what is said of an answer's figures

-- A refusal is 6 with a place and a field exactly when Bad says so of both, and with another number it has no field.
pub record Names (r : Refusal) (Bad : ℕ → ℕ → Type 0) : Type 0 where
  pub six : (p f : ℕ) → r ≡ in_field 6 p f ↔ Bad p f
  pub other : r.number ≢ 6 → r.field ≡ 0

-- The same of a refusal without a place.
pub record NamesField (r : Refusal) (Bad : ℕ → Type 0) : Type 0 where
  pub six : (f : ℕ) → r ≡ in_field 6 0 f ↔ Bad f
  pub other : r.number ≢ 6 → r.field ≡ 0

-- A job of an order in bytes, or of numbers, is out of range past the checks before 6.
abbrev pub InBytes : List ℕ → ℕ → ℕ → Type 0
InBytes bytes p f = (judge (header_checks bytes) ≡ fine) × BadField (numbers_of bytes) p f

abbrev pub InNumbers : ℤ → List ℤ → ℕ → ℕ → Type 0
InNumbers t0 zs p f = (judge (list_checks t0 zs) ≡ fine) × BadField zs p f

-- The job at the place of the reader is.
abbrev pub AtPlace : List ℕ → ℕ → ℕ → ℕ → Type 0
AtPlace bytes place p f = (p ≡ place) × BadHere bytes place f

-- A job of either opening is.
abbrev pub InOpenings : List ℕ → List ℕ → ℕ → Type 0
InOpenings first second f = BadIn first f ⊎ ((judge (order_checks first) ≡ fine) × BadIn second f)

-- ---- every outcome of each call

-- Every outcome that a contract allows tells such a refusal.
abbrev Told : {A R X : Type 0} → (A → R → X → Type 0) → (A → R → Type 0) → Type 0
Told {A} {R} {X} allows says = (a : A) (r : R) (x : X) → allows a r x → says a r

pub record FieldsNamed : Type 0 where
  pub unpacks : (κs : Lfts 2) → Told (unpack.Post κs)
      (λ a (r : UnpackAnswer). Names (in_field r.refusal r.place r.field) (InBytes a.0.now))
  pub packs : (κs : Lfts 2) → Told (pack.Post κs)
      (λ a (r : PackAnswer). Names (in_field r.refusal r.place r.field) (InNumbers a.0 a.1.0.now))
  pub steps : (κs : Lfts 1) → Told (step.Post κs)
      (λ a (r : StepAnswer). Names (in_field r.refusal r.place r.field) (AtPlace a.0.now a.1.0))
  pub extends : (κs : Lfts 4) → Told (extend.Post κs)
      (λ a (r : ExtendAnswer). Names (in_field r.refusal r.place r.field) (InBytes a.1.0.now))
  pub plans : (κs : Lfts 3) → Told (plan.Post κs)
      (λ a (r : PlanAnswer). Names (in_field r.refusal r.place r.field) (InBytes a.0.now))
  pub plans-halves : (κs : Lfts 3) → Told (plan-halves.Post κs)
      (λ a (r : HalvesAnswer). Names (in_field r.refusal r.place r.field) (InBytes a.0.now))
  pub writes-plans : (κs : Lfts 3) → Told (write-plan.Post κs)
      (λ a (r : PackAnswer). Names (in_field r.refusal r.place r.field) (InBytes a.0.now))
  pub judges-legal : (κs : Lfts 2) → Told (legal.Post κs)
      (λ a (r : VerdictAnswer). Names (in_field r.refusal r.place r.field) (InBytes a.0.now))
  pub judges-best : (κs : Lfts 3) → Told (best.Post κs)
      (λ a (r : VerdictAnswer). Names (in_field r.refusal r.place r.field) (InBytes a.0.now))
  pub asks : (κs : Lfts 3) → Told (question.Post κs)
      (λ a (r : QuestionAnswer). NamesField (in_field r.refusal 0 r.field) (InOpenings a.0.now a.1.0.now))
  pub asks-first : (κs : Lfts 3) → Told (question-first.Post κs)
      (λ a (r : QuestionAnswer). NamesField (in_field r.refusal 0 r.field) (InOpenings a.0.now a.1.0.now))
  pub chooses : (κs : Lfts 3) → Told (choose.Post κs)
      (λ a (r : ChooseAnswer). NamesField (in_field r.refusal 0 r.field) (InOpenings a.0.now a.1.0.now))
  pub chooses-first : (κs : Lfts 3) → Told (choose-first.Post κs)
      (λ a (r : ChooseAnswer). NamesField (in_field r.refusal 0 r.field) (InOpenings a.0.now a.1.0.now))

-- The choice between two openings, by the answer of the question.
choice-names : (rule : TieRule) (first second : List ℕ) (t : ℤ) (work : List ℤ) → let r = refusal_of (answer_of rule first second t work) in
    NamesField (in_field r.number 0 r.field) (InOpenings first second)
choice-names rule first second t work =
    let won = chosen_of rule first second t work in
    let asked : Asked rule first second t work won (work_after rule first second t work) = record { answer = refl; area = refl } in
    let r = refusal_of won in
    let named = asked-names rule first second t work asked in
    let whole : r ≡ in_field r.number 0 r.field = λ i. in_field r.number (named.1 i) r.field in
    let names = subst (λ (s : Refusal). NamesField s (InOpenings first second)) whole
    (record { six = asked-six rule first second t work asked; other = named.0 }) in
    subst (λ (s : Refusal). NamesField (in_field s.number 0 s.field) (InOpenings first second)) (sym (refusal-told first second won)) names

pub fields-named : FieldsNamed
fields-named =
    record {
      unpacks = λ κs a r x h. rw h.0
          (record {
            six = unpacking.six-is a.0.now (length a.1.0.now);
            other = no_field (unpacking.refusal_is a.0.now (length a.1.0.now));
          });
      packs = λ κs a r x h. rw h.0
          (record {
            six = packing.six-is a.0 a.1.0.now (length a.1.1.0.now);
            other = no_field (packing.refusal_is a.0 a.1.0.now (length a.1.1.0.now));
          });
      steps = λ κs a r x h. rw h
          (record { six = step-six a.0.now a.1.0; other = step-field-0 a.0.now a.1.0 });
      extends = λ κs a r x h. rw h.0
          (record {
            six = extend-six a.0.now a.1.0.now a.1.1.0.now a.1.1.1.0.now;
            other = no_field (extend-refusal a.0.now a.1.0.now a.1.1.0.now a.1.1.1.0.now);
          });
      plans = λ κs a r x h. rw h.0
          (record {
            six = plan-six a.0.now a.1.0.now a.1.1.0.now;
            other = no_field (plan-refusal a.0.now a.1.0.now a.1.1.0.now);
          });
      plans-halves = λ κs a r x h.
          let call : HalvesCall a.0.now a.1.0.now a.1.1.0.now _ _ _ = record { answer = refl; written = refl; area = refl } in
          rw h.0
          (record {
            six = halves-six a.0.now a.1.0.now a.1.1.0.now call;
            other = no_field (halves-refusal a.0.now a.1.0.now a.1.1.0.now call);
          });
      writes-plans = λ κs a r x h. rw h.0
          (record {
            six = write-six a.0.now a.1.0.now a.1.1.0.now;
            other = no_field (write-refusal a.0.now a.1.0.now a.1.1.0.now);
          });
      judges-legal = λ κs a r x h. rw h
          (record { six = legal-six a.0.now a.1.0.now; other = no_field (legal-refusal a.0.now a.1.0.now) });
      judges-best = λ κs a r x h. rw h.0
          (record {
            six = best-six a.0.now a.1.0.now a.1.1.0.now;
            other = no_field (best-refusal a.0.now a.1.0.now a.1.1.0.now);
          });
      asks = λ κs a r x h. rw h.0 (choice-names sooner a.0.now a.1.0.now a.1.1.0 a.1.1.1.0.now);
      asks-first = λ κs a r x h. rw h.0 (choice-names to_first a.0.now a.1.0.now a.1.1.0 a.1.1.1.0.now);
      chooses = λ κs a r x h. rw h.0 (choice-names sooner a.0.now a.1.0.now a.1.1.0 a.1.1.1.0.now);
      chooses-first = λ κs a r x h. rw h.0 (choice-names to_first a.0.now a.1.0.now a.1.1.0 a.1.1.1.0.now);
    }
