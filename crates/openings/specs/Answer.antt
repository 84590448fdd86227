-- The question on two openings by a tie rule: its answer and the work area at exit, for every input. Definitions only.
use Rattle.std.specs.Prelude.{ℕ, ◌≡◌, List, ℤ, Result, Ok, Err}
use Rattle.packed.specs.declared.Refusal.{Refusal}
use Rattle.ties.specs.Winning.{Chosen, TieRule}
use Rattle.choosing.specs.Choosing.{chosen_of, work_after, kind_won}
use Rattle.openings.specs.declared.Won.{Won}

-- The answer: what it says of who wins, and of the kind of the winner's records; 0 if refused.
abbrev pub Answer : Type 0
Answer = Result Won Refusal

abbrev pub chosen_in : Answer → Chosen
chosen_in (Err r) = Err r
chosen_in (Ok w) = Ok w.winner

abbrev pub kind_told : Answer → ℕ
kind_told (Err r) = 0
kind_told (Ok w) = w.kind

-- Which of them wins, with the kind of the winner's records (R18); or the refusal.
abbrev pub with_kind : List ℕ → List ℕ → Chosen → Answer
with_kind first second (Err r) = Err r
with_kind first second (Ok w) = Ok (record { winner = w; kind = kind_won (Ok w) first second })

abbrev pub answer_of : TieRule → List ℕ → List ℕ → ℤ → List ℤ → Answer
answer_of rule first second t work = with_kind first second (chosen_of rule first second t work)

-- The question on any bytes, at any time, with any work area.
pub record Questioned (rule : TieRule) (first second : List ℕ) (t : ℤ) (work : List ℤ) (r : Answer) (work' : List ℤ) : Type 0 where
  pub answer : r ≡ answer_of rule first second t work
  pub area : work' ≡ work_after rule first second t work
