-- For each answer of a call on sheets the struct that says it. Definitions only.
use Rattle.std.specs.Prelude.{ℕ, Bool, not, eqb, Result, Ok, Err, ⊤}
use Rattle.refusals.specs.declared.Reason.{Reason}
use Rattle.refusals.specs.Numbers.{number_of, code_of}
use Rattle.sheet_answers.specs.declared.SheetAnswer.{SheetAnswer}
use Rattle.sheet_answers.specs.declared.SheetTextAnswer.{SheetTextAnswer}

abbrev pub numbered : ℕ → SheetAnswer
numbered refusal = record { refusal = refusal }

abbrev pub sheet_numbers : Result ⊤ Reason → SheetAnswer
sheet_numbers done = numbered (code_of done)

abbrev pub text_numbers : Result ℕ Reason → SheetTextAnswer
text_numbers (Ok n) = record { refusal = 0; bytes = n }
text_numbers (Err r) = record { refusal = number_of r; bytes = 0 }

-- What a caller says of a sheet: 0 is whole, any other number cut.
abbrev pub says_cut : ℕ → Bool
says_cut cut = not (eqb cut 0)
