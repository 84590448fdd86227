-- What the contracts of the question say of every outcome that they allow, by either tie rule: 11 exactly when neither opening has a
-- point by the time, with the work area cleared; 6 exactly when a job is out of range, with its field; no place; when the answers by
-- the two rules differ; that the sooner rule is fair; and how many bytes a record of the choice's part has, by the kind told.
use Prim.Native.Nat.{ℕ, ◌*◌}
use mathlib.Core.Path.{◌≡◌, sym, ap, ◌∙◌}
use mathlib.Core.List.{List}
use Rattle.std.specs.Prelude.{Ok}
use mathlib.Core.Logic.{◌↔◌, ◌≢◌, ◌⊎◌}
use contract.Lifetimes.{Lfts}
use denote.Ref.{Bor}
use lib.IntN.{ℤ}
use lib.ListN.{length, drop}
use Rattle.packed.specs.Layout.{header_bytes, record_bytes}
use Rattle.packed.specs.Packed.{count_of, kind_of}
use Rattle.packed.specs.Judge.{in_field, fine, judge, refusal_of}
use Rattle.packed.specs.Refusals.{order_checks}
use Rattle.area.specs.Area.{cleared}
use Rattle.ties.specs.Winning.{Chosen, TieRule, sooner, to_first}
use Rattle.choosing.specs.Choosing.{choosing_verdict, Asked, part_of, Handed, kind_won}
use Rattle.choosing.proofs.ChoosingLaws.{both-accepted, question-choice}
use Rattle.choosing.proofs.WinnerLaws.{NeitherInTime, asked-eleven, eleven-clears, BadIn, asked-six, asked-names, records-length}
use Rattle.choosing.proofs.TieLaws.{SecondSooner, AtOnce, exchanged, asked-differ, asked-fair}
use Rattle.choosing.specs.Comparing.{CanCompare}
use Rattle.ties.specs.declared.Winner.{Winner}
use Rattle.ties.specs.declared.Winner.TheVariants.{First, Second}
use Rattle.openings.specs.Answer.{Answer, chosen_in, kind_told, Questioned}
use Rattle.openings.specs.AnswerLaws.{questioned-is}
use Rattle.openings.proofs.Inputs.{Given, work_in, turned}
use Rattle.openings.proofs.question.Reads as question
use Rattle.openings.proofs.question_first.Reads as question-first
use Rattle.openings.proofs.choose.Reads as choose
use Rattle.openings.proofs.choose_first.Reads as choose-first

-- What is said of an outcome.
pub record Says (a : Given) (r : Chosen) (x : Given) : Type 0 where
  pub eleven : (refusal_of r).number ≡ 11 ↔ NeitherInTime a.0.now a.1.0.now a.1.1.0 (work_in a)
  pub clears : (refusal_of r).number ≡ 11 → work_in x ≡ cleared (work_in a)
  pub six : (f : ℕ) → refusal_of r ≡ in_field 6 0 f
      ↔ (BadIn a.0.now f ⊎ ((judge (order_checks a.0.now) ≡ fine) × BadIn a.1.0.now f))
  pub names : ((refusal_of r).number ≢ 6 → (refusal_of r).field ≡ 0) × ((refusal_of r).place ≡ 0)

says : (rule : TieRule) (a : Given) (r : Chosen) (x : Given)
    → Asked rule a.0.now a.1.0.now a.1.1.0 (work_in a) r (work_in x) → Says a r x
says rule a r x h =
    record {
      eleven = asked-eleven rule a.0.now a.1.0.now a.1.1.0 (work_in a) h;
      clears = eleven-clears rule a.0.now a.1.0.now a.1.1.0 (work_in a) h;
      six = asked-six rule a.0.now a.1.0.now a.1.1.0 (work_in a) h;
      names = asked-names rule a.0.now a.1.0.now a.1.1.0 (work_in a) h;
    }

module _ (κs : Lfts 3) (a : Given) (r : Answer) (x : Given) where
  pub question-says : question.Post κs a r x → Says a (chosen_in r) x
  question-says h = says sooner a (chosen_in r) x (questioned-is.0 h).0

  pub question-first-says : question-first.Post κs a r x → Says a (chosen_in r) x
  question-first-says h = says to_first a (chosen_in r) x (questioned-is.0 h).0

-- On the same inputs the two differ exactly when they pass the checks and the second reaches the same weight earlier.
pub questions-differ : (κs μs : Lfts 3) (a x y : Given) (r s : Answer) → question.Post κs a r x → question-first.Post μs a s y
    → chosen_in r ≢ chosen_in s ↔ ((choosing_verdict a.0.now a.1.0.now (work_in a) ≡ fine) × SecondSooner a.0.now a.1.0.now a.1.1.0)
questions-differ κs μs a x y r s h k = asked-differ (questioned-is.0 h).0 (questioned-is.0 k).0

-- Past the checks the answer with the openings exchanged is the other winner, but where both reach the same weight at once.
pub question-fair : (κs μs : Lfts 3) (a x y : Given) (r s : Answer) → question.Post κs a r x → question.Post μs (turned a) s y
    → choosing_verdict a.0.now a.1.0.now (work_in a) ≡ fine
    → chosen_in s ≡ exchanged (chosen_in r) ↔ ¬ AtOnce a.0.now a.1.0.now a.1.1.0
question-fair κs μs a x y r s h k passed = asked-fair passed (questioned-is.0 h).0 (questioned-is.0 k).0

-- ---- the kind

-- The kind told is that of the winner, and says how many bytes of the part each of its jobs has.
pub record KindTold (r : Answer) (winner part : List ℕ) : Type 0 where
  pub kind : kind_told r ≡ kind_of winner
  pub records : length part ≡ record_bytes (kind_told r) * count_of winner

kind-told : {r : Answer} {winner part : List ℕ} → kind_told r ≡ kind_of winner → part ≡ drop header_bytes winner
    → judge (order_checks winner) ≡ fine → KindTold r winner part
kind-told {r} {winner} kind bytes passed =
    let size = ap (λ (k : ℕ). record_bytes k * count_of winner) (sym kind) in
    record { kind = kind; records = ap length bytes ∙ records-length winner passed ∙ size }

-- On the same inputs the question tells it of the part that the choice hands back.
abbrev Tells : Given → Answer → Bor (List ℕ) → Type 0
Tells a q r = (chosen_in q ≡ Ok First → KindTold q a.0.now r.now) × (chosen_in q ≡ Ok Second → KindTold q a.1.0.now r.now)

tells : (rule : TieRule) (a : Given) (q : Answer) (r : Bor (List ℕ)) {left end : List ℤ}
    → Questioned rule a.0.now a.1.0.now a.1.1.0 (work_in a) q left
    → Handed rule a.0 a.1.0 a.1.1.0 (work_in a) r end → Tells a q r
tells rule a q r h k =
    let told = questioned-is.0 h in
    let bytes = (question-choice told.0 k).0 in
    let kind_by : Chosen → ℕ = λ won. kind_won won a.0.now a.1.0.now in
    let part_by : Chosen → List ℕ = λ won. part_of won a.0.now a.1.0.now in
    let both : (w : Winner) → chosen_in q ≡ Ok w → CanCompare a.0.now a.1.0.now =
    λ w e. both-accepted rule a.0 a.1.0 a.1.1.0 (work_in a) told.0 e in (
      λ e. kind-told (told.1 ∙ ap kind_by e) (bytes ∙ ap part_by e) (both First e).one,
      λ e. kind-told (told.1 ∙ ap kind_by e) (bytes ∙ ap part_by e) (both Second e).other,
    )

module _ (κs : Lfts 3) (μs : Lfts 2) (a x y : Given) (q : Answer) (r : Bor (List ℕ)) where
  pub kind-of-part : question.Post κs a q x → choose.Post μs a r y → Tells a q r
  kind-of-part h k = tells sooner a q r h k

  pub kind-of-part-first : question-first.Post κs a q x → choose-first.Post μs a r y → Tells a q r
  kind-of-part-first h k = tells to_first a q r h k
