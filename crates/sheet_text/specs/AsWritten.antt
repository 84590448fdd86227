-- Two texts, as computed facts: of a sheet of seven orders, and of the sheet of no order.
use Rattle.std.specs.Prelude.{ℕ, ◌≡◌, refl, true, false, List, [], ◌∷◌}
use Rattle.multiples.specs.Multiples.{gcd_in, gcd}
use Rattle.text.specs.Decimal.{digits_in, digits}
use Rattle.fractions.specs.Fractions.{lowest_of}
use Rattle.sheet.specs.Sheet.{Sheet, no_sheet}
use Rattle.sheet_text.specs.SheetText.{top_line, fraction_line, last_line, sheet_text}

-- Seven orders: one refused with 4, two with 11, four feasible, which keep 150 of a weight of 200 and 13 jobs. The greatest point
-- total is 14, that of the third order.
abbrev pub seven_orders : Sheet
seven_orders = record {
  sums =
      7 ∷ 0 ∷ 0 ∷ 0 ∷ 1 ∷ 0 ∷ 0 ∷ 0 ∷ 0 ∷ 0 ∷ 0 ∷ 2 ∷ 0 ∷ 0 ∷ 0 ∷ 0 ∷ 0 ∷ 0 ∷ 0 ∷ 0 ∷ 4 ∷ 200 ∷ 150 ∷ 13 ∷ [];
  top = 15;
  place = 2;
}

-- Its text: 7, 0, 0, 0, 1, 0 six times, 2, 0 eight times, 4, 200, 150, 13, then 14 2, 2/3, 1/4 and whole.
abbrev pub seven_text : List ℕ
seven_text =
    55 ∷ 10 ∷ 48 ∷ 10 ∷ 48 ∷ 10 ∷ 48 ∷ 10 ∷ 49 ∷ 10 ∷ 48 ∷ 10 ∷ 48 ∷ 10 ∷ 48 ∷ 10 ∷ 48 ∷ 10 ∷ 48 ∷ 10 ∷ 48 ∷ 10
    ∷ 50 ∷ 10 ∷ 48 ∷ 10 ∷ 48 ∷ 10 ∷ 48 ∷ 10 ∷ 48 ∷ 10 ∷ 48 ∷ 10 ∷ 48 ∷ 10 ∷ 48 ∷ 10 ∷ 48 ∷ 10 ∷ 52 ∷ 10
    ∷ 50 ∷ 48 ∷ 48 ∷ 10 ∷ 49 ∷ 53 ∷ 48 ∷ 10 ∷ 49 ∷ 51 ∷ 10 ∷ 49 ∷ 52 ∷ 32 ∷ 50 ∷ 10 ∷ 50 ∷ 47 ∷ 51 ∷ 10
    ∷ 49 ∷ 47 ∷ 52 ∷ 10 ∷ 119 ∷ 104 ∷ 111 ∷ 108 ∷ 101 ∷ 10 ∷ []

-- So it is.
pub seven-told : sheet_text seven_orders false ≡ seven_text
unfolding gcd_in gcd digits_in digits lowest_of top_line fraction_line last_line sheet_text
seven-told = refl

-- Of no order, cut: 0 in 24 lines, three times a minus sign alone, and cut.
abbrev pub no_text : List ℕ
no_text =
    48 ∷ 10 ∷ 48 ∷ 10 ∷ 48 ∷ 10 ∷ 48 ∷ 10 ∷ 48 ∷ 10 ∷ 48 ∷ 10 ∷ 48 ∷ 10 ∷ 48 ∷ 10 ∷ 48 ∷ 10 ∷ 48 ∷ 10 ∷ 48 ∷ 10
    ∷ 48 ∷ 10 ∷ 48 ∷ 10 ∷ 48 ∷ 10 ∷ 48 ∷ 10 ∷ 48 ∷ 10 ∷ 48 ∷ 10 ∷ 48 ∷ 10 ∷ 48 ∷ 10 ∷ 48 ∷ 10 ∷ 48 ∷ 10 ∷ 48 ∷ 10
    ∷ 48 ∷ 10 ∷ 48 ∷ 10 ∷ 45 ∷ 10 ∷ 45 ∷ 10 ∷ 45 ∷ 10 ∷ 99 ∷ 117 ∷ 116 ∷ 10 ∷ []

pub none_told : sheet_text no_sheet true ≡ no_text
unfolding digits_in digits no_sheet top_line fraction_line last_line sheet_text
none_told = refl
