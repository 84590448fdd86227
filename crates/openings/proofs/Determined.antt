-- The contracts of the question and of the choice, under either tie rule, determine what they return and the lent work area, for
-- every input; and the part handed back is the one that the question's answer names.
use Prim.Native.Nat.{ℕ}
use mathlib.Core.Path.{◌≡◌}
use mathlib.Core.List.{List}
use contract.Lifetimes.{Lfts}
use denote.Ref.{Bor}
use lib.IntN.{ℤ}
use Rattle.seconds.specs.Determined.{Determines, determined, two}
use Rattle.ties.specs.Winning.{Chosen, TieRule, sooner, to_first}
use Rattle.choosing.specs.Choosing.{chosen_of, work_after, part_of, place_of}
use Rattle.choosing.proofs.ChoosingLaws.{question-choice}
use Rattle.openings.specs.Answer.{Answer, chosen_in, answer_of}
use Rattle.openings.specs.AnswerLaws.{questioned-is}
use Rattle.openings.proofs.Inputs.{Given, work_in}
use Rattle.openings.proofs.question.Reads as question
use Rattle.openings.proofs.question_first.Reads as question-first
use Rattle.openings.proofs.choose.Reads as choose
use Rattle.openings.proofs.choose_first.Reads as choose-first

-- The answer, the winner and the work area that the definitions say.
abbrev told_of : TieRule → Given → Answer
told_of rule a = answer_of rule a.0.now a.1.0.now a.1.1.0 (work_in a)

abbrev won_of : TieRule → Given → Chosen
won_of rule a = chosen_of rule a.0.now a.1.0.now a.1.1.0 (work_in a)

abbrev area_of : TieRule → Given → List ℤ
area_of rule a = work_after rule a.0.now a.1.0.now a.1.1.0 (work_in a)

-- The part of a winner: its bytes and its place in memory.
abbrev part_by : Chosen → Given → List ℕ × (ℕ × ℕ)
part_by c a = (part_of c a.0.now a.1.0.now, place_of c a.0.ref_ptr a.1.0.ref_ptr)

-- The question: its answer, and the work area.
pub question-determined : (κs : Lfts 3) → Determines {Z = Answer × List ℤ} (question.Post κs) (λ r x. (r, work_in x))
question-determined κs =
    determined (question.Post κs) (λ r x. (r, work_in x)) (λ a. (told_of sooner a, area_of sooner a))
    (λ a r x h. two h.answer h.area)

pub question-first-determined : (κs : Lfts 3)
    → Determines {Z = Answer × List ℤ} (question-first.Post κs) (λ r x. (r, work_in x))
question-first-determined κs =
    determined (question-first.Post κs) (λ r x. (r, work_in x)) (λ a. (told_of to_first a, area_of to_first a))
    (λ a r x h. two h.answer h.area)

-- The choice: the bytes of the part, its place in memory, and the work area.
pub choose-determined : (κs : Lfts 2)
    → Determines {Z = (List ℕ × (ℕ × ℕ)) × List ℤ} (choose.Post κs) (λ r x. ((r.now, r.ref_ptr), work_in x))
choose-determined κs =
    determined (choose.Post κs) (λ r x. ((r.now, r.ref_ptr), work_in x)) (λ a. (part_by (won_of sooner a) a, area_of sooner a))
    (λ a r x h. two (two h.bytes h.place) h.area)

pub choose-first-determined : (κs : Lfts 2)
    → Determines {Z = (List ℕ × (ℕ × ℕ)) × List ℤ} (choose-first.Post κs) (λ r x. ((r.now, r.ref_ptr), work_in x))
choose-first-determined κs =
    determined (choose-first.Post κs) (λ r x. ((r.now, r.ref_ptr), work_in x))
    (λ a. (part_by (won_of to_first a) a, area_of to_first a)) (λ a r x h. two (two h.bytes h.place) h.area)

-- On the same inputs the part is the one that the question's answer names, and the work area is left the same.
pub choose-as-asked : (κs : Lfts 3) (μs : Lfts 2) (a x y : Given) (q : Answer) (r : Bor (List ℕ))
    → question.Post κs a q x → choose.Post μs a r y
    → (r.now ≡ (part_by (chosen_in q) a).0) × (r.ref_ptr ≡ (part_by (chosen_in q) a).1) × (work_in y ≡ work_in x)
choose-as-asked κs μs a x y q r h k = question-choice (questioned-is.0 h).0 k

pub choose-first-as-asked : (κs : Lfts 3) (μs : Lfts 2) (a x y : Given) (q : Answer) (r : Bor (List ℕ))
    → question-first.Post κs a q x → choose-first.Post μs a r y
    → (r.now ≡ (part_by (chosen_in q) a).0) × (r.ref_ptr ≡ (part_by (chosen_in q) a).1) × (work_in y ≡ work_in x)
choose-first-as-asked κs μs a x y q r h k = question-choice (questioned-is.0 h).0 k
