-- What the lines of a text tell: there are 28, a fraction's numbers are in lowest terms, and a minus sign stands alone where there is
-- nothing to tell and nowhere else.
use Rattle.std.specs.Prelude.{ℕ, suc, ◌+◌, ◌-◌, ◌≤◌, ◌≡◌, refl, Bool, true, false, cond, List, [], ◌∷◌, ◌++◌, ltb, eqb, length}
use Rattle.std.proofs.Common.{sym, ap, ◌∙◌, append_assoc, arith, length-append, ltb-true, ltb-false, ne_eqb}
use mathlib.Core.List.Memᴰ
use borrow.Table.Steps.{cases}
use Rattle.text.specs.Decimal.{newline, space, digits, words}
use Rattle.text.specs.Value.{IsFigure, AllFigures}
use Rattle.text.specs.Figures.{digits-figures, digits-some}
use Rattle.fractions.specs.declared.Fraction.{Fraction}
use Rattle.fractions.specs.Fractions.{lowest_of, Lowest}
use Rattle.fractions.specs.FractionsLaws.{lowest-only}
use Rattle.sheet.specs.Sheet.{Sheet, sum_count, refused_by, feasible, offered, kept}
use Rattle.sheet_text.specs.SheetText.{lines, none_line, top_line, slash, fraction_word, fraction_line, last_line, sheet_text}
use Rattle.sheet_text.specs.WritingLaws.{top-some, fraction-some}

-- ---- how many lines

-- The ends of lines among some bytes.
abbrev pub newlines : List ℕ → ℕ
newlines [] = 0
newlines (b ∷ bs) = cond (eqb b newline) (suc (newlines bs)) (newlines bs)

both : (xs ys : List ℕ) → newlines (xs ++ ys) ≡ newlines xs + newlines ys
both [] ys = omega arith
both (x ∷ xs) ys = cases (eqb x newline)
    (λ e. rw (e, both xs ys) (omega arith))
    (λ e. rw (e, both xs ys))

-- Figures have none,
figures-none : (bs : List ℕ) → AllFigures bs → newlines bs ≡ 0
figures-none [] all = refl
figures-none (b ∷ bs) all =
    let f : IsFigure b = all b (Memᴰ.head refl) in
    rw (ne_eqb b newline (λ e. omega arith)) (figures-none bs (λ x m. all x (Memᴰ.tail m)))

-- so a number and a byte behind it have one if that byte is one.
behind : (n : ℕ) (bs : List ℕ) → newlines (digits n ++ bs) ≡ newlines bs
behind n bs = omega (arith, both (digits n) bs, figures-none (digits n) (digits-figures n))

lines-many : (ns : List ℕ) → newlines (lines ns) ≡ length ns
lines-many [] = refl
lines-many (n ∷ ns) =
    let one : newlines (digits n ++ (newline ∷ [])) ≡ 1 = behind n (newline ∷ []) in
    omega (arith, both (digits n ++ (newline ∷ [])) (lines ns), lines-many ns)

two-numbers : (n m gap : ℕ) → eqb gap newline ≡ false → newlines (digits n ++ (gap ∷ (digits m ++ (newline ∷ [])))) ≡ 1
two-numbers n m gap e = behind n (gap ∷ (digits m ++ (newline ∷ []))) ∙ rw e (behind m (newline ∷ []))

top_one : (top place : ℕ) → newlines (top_line top place) ≡ 1
unfolding top_line
top_one top place = cases (eqb top 0) (λ e. rw e) (λ e. rw e (two-numbers (top - 1) place space refl))

fraction-one : (a b : ℕ) → newlines (fraction_line a b) ≡ 1
unfolding fraction_line
fraction-one a b = cases (eqb b 0)
    (λ e. rw e)
    (λ e. rw (e, append_assoc) (two-numbers (lowest_of a b).upper (lowest_of a b).lower slash refl))

last_one : (cut : Bool) → newlines (last_line cut) ≡ 1
unfolding last_line
last_one true = refl
last_one false = refl

pub text-lines : (s : Sheet) (cut : Bool) → length s.sums ≡ sum_count → newlines (sheet_text s cut) ≡ 28
unfolding sheet_text
text-lines s cut long =
    let ability = fraction_line (feasible s) (feasible s + refused_by 11 s) in
    let loss = fraction_line (offered s - kept s) (offered s) in
    let a = both (lines s.sums) (top_line s.top s.place ++ (ability ++ (loss ++ last_line cut))) in
    let b = both (top_line s.top s.place) (ability ++ (loss ++ last_line cut)) in
    let c = both ability (loss ++ last_line cut) in
    let d = both loss (last_line cut) in
    omega (
      arith,
      a,
      b,
      c,
      d,
      lines-many s.sums,
      top_one s.top s.place,
      fraction-one (feasible s) (feasible s + refused_by 11 s),
      fraction-one (offered s - kept s) (offered s),
      last_one cut,
    )

-- ---- what a line tells

-- The fraction is told in lowest terms.
pub fraction-lowest : (a b : ℕ) → 1 ≤ b → (f : Fraction) → Lowest a b f → fraction_line a b ≡ words (fraction_word f ∷ [])
unfolding fraction_line
fraction-lowest a b some f is =
    rw (ne_eqb b 0 (λ e. omega arith)) (ap (λ g. words (fraction_word g ∷ [])) (sym (lowest-only a b some f is)))

-- Two numbers with a byte between them are no minus sign alone.
longer : (n m gap : ℕ) → (digits n ++ (gap ∷ [])) ++ (digits m ++ (newline ∷ [])) ≡ none_line → ⊥
longer n m gap e = omega (
  arith,
  ap length e,
  length-append (digits n ++ (gap ∷ [])) (digits m ++ (newline ∷ [])),
  length-append (digits n) (gap ∷ []),
  length-append (digits m) (newline ∷ []),
  digits-some n,
  digits-some m,
)

-- The minus sign alone says that the lower number is 0,
pub fraction-none-only : (a b : ℕ) → fraction_line a b ≡ none_line → b ≡ 0
fraction-none-only a b e = cases (ltb 0 b)
    (λ t. absurd (longer (lowest_of a b).upper (lowest_of a b).lower slash
    (sym (fraction-some a b (lowest_of a b) refl (ltb-true 0 b t)) ∙ e)))
    (λ t. omega (arith, ltb-false 0 b t))

-- and that there is no feasible order.
pub top-none-only : (top place : ℕ) → top_line top place ≡ none_line → top ≡ 0
top-none-only top place e = cases (ltb 0 top)
    (λ t. absurd (longer (top - 1) place space (sym (top-some top place (ltb-true 0 top t)) ∙ e)))
    (λ t. omega (arith, ltb-false 0 top t))
