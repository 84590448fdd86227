-- The text of a sheet, 28 lines, and the call that writes it (R47). Definitions only.
use Rattle.std.specs.Prelude.{ℕ, ◌+◌, ◌-◌, ◌≡◌, Bool, cond, ◌&&◌, List, [], ◌∷◌, ◌++◌, leb, eqb, length, drop, Result, Ok, Err, is_ok, ⊤}
use Rattle.text.specs.Decimal.{minus, digits, words}
use Rattle.fractions.specs.declared.Fraction.{Fraction}
use Rattle.fractions.specs.Fractions.{lowest_of}
use Rattle.sheet.specs.Sheet.{Sheet, figure_count, refused_by, feasible, offered, kept, sheet_in, is_sheet}
use Rattle.refusals.specs.declared.Reason.{Reason}
use Rattle.refusals.specs.declared.Reason.TheVariants.{BufferTooShort, NoSheet}

-- ---- the lines

-- A number a line: the 24 figures that are sums.
abbrev pub lines : List ℕ → List ℕ
lines [] = []
lines (n ∷ ns) = words (digits n ∷ []) ++ lines ns

-- A minus sign alone, where there is nothing to tell.
abbrev pub none_line : List ℕ
none_line = words ((minus ∷ []) ∷ [])

-- The greatest point total and the place of the first order that has it.
unfoldable pub top_line : ℕ → ℕ → List ℕ
top_line top place = cond (eqb top 0) none_line (words (digits (top - 1) ∷ digits place ∷ []))

-- A fraction in lowest terms, with a slash between its numbers.
abbrev pub slash : ℕ
slash = 47

abbrev pub fraction_word : Fraction → List ℕ
fraction_word f = digits f.upper ++ (slash ∷ digits f.lower)

unfoldable pub fraction_line : ℕ → ℕ → List ℕ
fraction_line a b = cond (eqb b 0) none_line (words (fraction_word (lowest_of a b) ∷ []))

-- The last line: cut or whole.
abbrev pub cut_word : List ℕ
cut_word = 99 ∷ 117 ∷ 116 ∷ []

abbrev pub whole_word : List ℕ
whole_word = 119 ∷ 104 ∷ 111 ∷ 108 ∷ 101 ∷ []

unfoldable pub last_line : Bool → List ℕ
last_line cut = words (cond cut cut_word whole_word ∷ [])

-- The sums; the greatest total; scheduling ability, feasible over feasible and refused with 11; loss, lost over offered; cut or whole.
unfoldable pub sheet_text : Sheet → Bool → List ℕ
sheet_text s cut =
    lines s.sums
    ++ (top_line s.top s.place
    ++ (fraction_line (feasible s) (feasible s + refused_by 11 s)
    ++ (fraction_line (offered s - kept s) (offered s) ++ last_line cut)))

-- ---- the call

-- The room that is wanted for a text, in bytes: enough for that of any sheet.
abbrev pub sheet_room : ℕ
sheet_room = 336

-- Whether it is told: refused with less room than for a sheet's numbers or for a text (10), and where the numbers are no sheet's (18).
unfoldable pub tell_refusal : List ℕ → List ℕ → Result ⊤ Reason
tell_refusal figures out =
    cond (leb figure_count (length figures) && leb sheet_room (length out))
    (cond (is_sheet (sheet_in figures)) (Ok tt) (Err NoSheet))
    (Err BufferTooShort)

-- What is written: the text, or nothing where the call is refused.
unfoldable pub told_text : List ℕ → Bool → List ℕ → List ℕ
told_text figures cut out = cond (is_ok (tell_refusal figures out)) (sheet_text (sheet_in figures) cut) []

-- It stands at the front of the buffer, and what lies behind it is as it was.
unfoldable pub text_after : List ℕ → Bool → List ℕ → List ℕ
text_after figures cut out = told_text figures cut out ++ drop (length (told_text figures cut out)) out

-- The answer: how many bytes were written, or the refusal.
abbrev pub with_bytes : ℕ → Result ⊤ Reason → Result ℕ Reason
with_bytes bytes (Ok done) = Ok bytes
with_bytes bytes (Err r) = Err r

abbrev pub told_of : List ℕ → Bool → List ℕ → Result ℕ Reason
told_of figures cut out = with_bytes (length (told_text figures cut out)) (tell_refusal figures out)

-- A call: its answer, how many bytes were written or the refusal, and the buffer at exit.
pub record TellCall (figures : List ℕ) (cut : Bool) (out : List ℕ) (r : Result ℕ Reason) (out' : List ℕ) : Type 0 where
  pub answer : r ≡ told_of figures cut out
  pub text : out' ≡ text_after figures cut out
