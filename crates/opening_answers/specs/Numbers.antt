-- For each answer on openings the struct that says it: the refusal's number and field, the winner, where its records stand, and their
-- kind. In a refused answer all but those of the refusal are 0 (R26). Definitions only.
use Rattle.std.specs.Prelude.{ℕ, ◌-◌, Ok, Err}
use Rattle.packed.specs.Layout.{header_bytes}
use Rattle.packed.specs.Judge.{refusal_of}
use Rattle.ties.specs.Winning.{Chosen}
use Rattle.ties.specs.declared.Winner.TheVariants.{First, Second}
use Rattle.choosing.specs.Choosing.{winner_of}
use Rattle.openings.specs.Answer.{Answer, chosen_in, kind_told}
use Rattle.opening_answers.specs.declared.QuestionAnswer.{QuestionAnswer}
use Rattle.opening_answers.specs.declared.ChooseAnswer.{ChooseAnswer}

abbrev pub question_numbers : Answer → QuestionAnswer
question_numbers a =
    let r = refusal_of a in
    record { refusal = r.number; field = r.field; winner = winner_of (chosen_in a); kind = kind_told a }

-- Where the winner's records begin in its bytes, and how many bytes they are; 0 if refused.
abbrev pub offset_of : Chosen → ℕ
offset_of (Err r) = 0
offset_of (Ok w) = header_bytes

abbrev pub length_chosen : Chosen → ℕ → ℕ → ℕ
length_chosen (Err r) first second = 0
length_chosen (Ok First) first second = first - header_bytes
length_chosen (Ok Second) first second = second - header_bytes

-- The choice between two openings of so many bytes.
abbrev pub choose_numbers : Answer → ℕ → ℕ → ChooseAnswer
choose_numbers a first second =
    let r = refusal_of a in
    let c = chosen_in a in
    record {
      refusal = r.number;
      field = r.field;
      winner = winner_of c;
      offset = offset_of c;
      length = length_chosen c first second;
      kind = kind_told a;
    }
