-- For each answer of checking the struct that says it: the refusal's numbers, and 1 for yes. Definitions only.
use Rattle.checking.specs.Calls.{Checked, checked_numbers}
use Rattle.verdict_answers.specs.declared.VerdictAnswer.{VerdictAnswer}

abbrev pub verdict_numbers : Checked → VerdictAnswer
verdict_numbers c =
    let n = checked_numbers c in
    record { refusal = n.refusal.number; place = n.refusal.place; field = n.refusal.field; yes = n.yes }
