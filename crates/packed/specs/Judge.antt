-- Judging. A check says whether it applies, and which refusal it then is: a number, a place and a field, as one value. Checks are
-- judged in the sequence of their list, and the first that applies gives the verdict; every call's refusals are such a list.
-- Definitions only.
use Rattle.std.specs.Prelude.{ℕ, Bool, cond, List, [], ◌∷◌, ltb, ⊤, Result, Ok, Err}
use Rattle.packed.specs.declared.Refusal.{Refusal}

-- ---- refusals

-- One that names a field of the job at a place, one that names a place, and one that names neither.
abbrev pub in_field : ℕ → ℕ → ℕ → Refusal
in_field n p f = record { number = n; place = p; field = f }

abbrev pub at_place : ℕ → ℕ → Refusal
at_place n p = in_field n p 0

abbrev pub plainly : ℕ → Refusal
plainly n = at_place n 0

-- What stands for no refusal in an answer's numbers.
abbrev pub no_refusal : Refusal
no_refusal = plainly 0

-- A refusal without its place.
abbrev pub without_place : Refusal → Refusal
without_place r = in_field r.number 0 r.field

-- ---- checks

pub record Check : Type 0 where
  pub applies : Bool
  pub says : Refusal

-- Not refused; or refused, with what the check says.
abbrev pub Verdict : Type 0
Verdict = Result ⊤ Refusal

pattern abbrev pub fine : Verdict
fine = Ok tt

pattern abbrev pub refused : Refusal → Verdict
refused r = Err r

-- The verdict of some checks: the first that applies, which in a list of rising numbers is the lowest.
abbrev pub judge : List Check → Verdict
judge [] = fine
judge (c ∷ cs) =
    let later = judge cs in
    cond c.applies (refused c.says) later

-- The refusal of a call's answer, as it stands in the answer's numbers.
abbrev pub refusal_of : {T : Type 0} → Result T Refusal → Refusal
refusal_of (Ok x) = no_refusal
refusal_of (Err r) = r

-- A verdict, or the next one where it is fine.
abbrev pub or_else : Verdict → Verdict → Verdict
or_else (Ok u) v = v
or_else (Err r) v = Err r

-- A check that names no place; one that applies where a search stopped before its end, at that place; and one that names a field
-- of the job there too.
abbrev pub check : ℕ → Bool → Check
check n b = record { applies = b; says = plainly n }

abbrev pub check_at : ℕ → ℕ → ℕ → Check
check_at n at end = record { applies = ltb at end; says = at_place n at }

abbrev pub check_field : ℕ → ℕ → ℕ → ℕ → Check
check_field n at end field = record { applies = ltb at end; says = in_field n at field }
