-- The text as the code puts it together: the sums line by line, each other line by its test, and the whole by the numbers that hold
-- the sheet. What the numbers of a sheet do not exceed.
use Rattle.std.specs.Prelude.{ℕ, ◌+◌, ◌-◌, ◌≤◌, ◌<◌, ◌≡◌, Bool, true, List, [], ◌∷◌, ◌++◌, length, take, get_or}
use Rattle.std.proofs.Common.{append_assoc, add-one, arith, take-suc, get_or-take, eq-eqb, ne_eqb}
use Rattle.text.specs.Decimal.{newline, space, digits}
use Rattle.fractions.specs.declared.Fraction.{Fraction}
use Rattle.fractions.specs.Fractions.{lowest_of}
use Rattle.sheet.specs.Sheet.{sum_count, figure_count, sheet_in, is_sheet}
use Rattle.sheet.specs.Joining.{Small}
use Rattle.sheet.specs.FitsLaws.{sheet-says, fitting-small}
use Rattle.sheet_text.specs.SheetText.{lines, none_line, top_line, slash, fraction_line, last_line, sheet_text}

-- ---- the sums

-- One number more.
lines_more : (ns : List ℕ) (n : ℕ) → lines (ns ++ (n ∷ [])) ≡ lines ns ++ (digits n ++ (newline ∷ []))
lines_more [] n = simp append_assoc
lines_more (m ∷ ns) n = rw (lines_more ns n) (simp append_assoc)

pub sums-more : (figures : List ℕ) (i : ℕ) → i < length figures
    → lines (take (i + 1) figures) ≡ lines (take i figures) ++ (digits (get_or figures i 0) ++ (newline ∷ []))
sums-more figures i h =
    rw (add-one, take-suc figures i 0 h) (lines_more (take i figures) (get_or figures i 0))

-- ---- the lines that may have nothing to tell

pub top-none : (top place : ℕ) → top ≡ 0 → top_line top place ≡ none_line
unfolding top_line
top-none top place e = rw (eq-eqb top 0 e)

pub top-some : (top place : ℕ) → 1 ≤ top
    → top_line top place ≡ (digits (top - 1) ++ (space ∷ [])) ++ (digits place ++ (newline ∷ []))
unfolding top_line
top-some top place h = rw (ne_eqb top 0 (λ e. omega arith)) (simp append_assoc)

pub fraction-none : (a b : ℕ) → b ≡ 0 → fraction_line a b ≡ none_line
unfolding fraction_line
fraction-none a b e = rw (eq-eqb b 0 e)

pub fraction-some : (a b : ℕ) (f : Fraction) → f ≡ lowest_of a b → 1 ≤ b
    → fraction_line a b ≡ (digits f.upper ++ (slash ∷ [])) ++ (digits f.lower ++ (newline ∷ []))
unfolding fraction_line
fraction-some a b f is h = rw (is, ne_eqb b 0 (λ e. omega arith)) (simp append_assoc)

-- ---- the whole

pub text_of : (figures : List ℕ) (cut : Bool) → let at : ℕ → ℕ = λ k. get_or figures k 0 in
    sheet_text (sheet_in figures) cut
    ≡ (((lines (take sum_count figures) ++ top_line (at 24) (at 25)) ++ fraction_line (at 20) (at 20 + at 11))
    ++ fraction_line (at 21 - at 22) (at 21))
    ++ last_line cut
unfolding sheet_text
text_of figures cut =
    rw (
      get_or-take 24 figures 11 0 (omega arith),
      get_or-take 24 figures 20 0 (omega arith),
      get_or-take 24 figures 21 0 (omega arith),
      get_or-take 24 figures 22 0 (omega arith),
    )
    (simp append_assoc)

-- ---- what a sheet's numbers do not exceed

module _ (figures : List ℕ) (numbers : figure_count ≤ length figures) (sheet : is_sheet (sheet_in figures) ≡ true) where
  -- They are small,
  pub all_small : Small figures
  all_small =
      let says = sheet-says (sheet_in figures) sheet in
      fitting-small figures numbers says.1 (omega (arith, says.0))

  -- and no more is kept than was offered.
  pub kept-offered : get_or figures 22 0 ≤ get_or figures 21 0
  kept-offered =
      omega (
        arith,
        (sheet-says (sheet_in figures) sheet).1.most-kept,
        get_or-take 24 figures 21 0 (omega arith),
        get_or-take 24 figures 22 0 (omega arith),
      )
