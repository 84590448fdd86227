-- Splitting a stream at an entry's edge: its parts are those of both pieces, and its sheet is their sheets joined.
use Rattle.std.specs.Prelude.{ℕ, zero, suc, ◌≤◌, ◌≡◌, refl, true, false, cond, List, [], ◌∷◌, ◌++◌, map, ltb, length, take, drop}
use Rattle.std.proofs.Common.{sym, ◌∙◌, arith, length-drop, length-append, ltb-false, le-ltb}
use Rattle.std.proofs.Math.Path.{ap}
use Rattle.std.proofs.lemmas.List.{map-append, take-append-le, drop-append-le}
use borrow.Table.Steps.{cases}
use Rattle.sheet.specs.Sheet.{join, sheet_of}
use Rattle.sheet.specs.SheetLaws.{sheet-append}
use Rattle.sheet.specs.Answered.{answered, week_of}
use Rattle.streams.specs.Entries.{said, Parts, before, parts_by, parts_of, entries_of, is_cut, stream_sheet}

-- A bound that is enough gives the parts.
parts-enough : (n m : ℕ) (s : List ℕ) → length s ≤ n → length s ≤ m → parts_by n s ≡ parts_by m s
unfolding parts_by
parts-enough zero zero s h g = refl
parts-enough zero (suc m) [] h g = refl
parts-enough zero (suc m) (b ∷ s) h g = absurd (omega arith)
parts-enough (suc n) zero [] h g = refl
parts-enough (suc n) zero (b ∷ s) h g = absurd (omega arith)
parts-enough (suc n) (suc m) [] h g = refl
parts-enough (suc n) (suc m) (b ∷ []) h g = refl
parts-enough (suc n) (suc m) (b ∷ l ∷ s) h g =
    let fewer = length-drop (said b l) s in
    ap (λ (p : Parts). cond (ltb (length s) (said b l)) (record { whole = []; rest = b ∷ l ∷ s }) (before (take (said b l) s) p))
    (parts-enough n m (drop (said b l) s) (omega (arith, fewer)) (omega (arith, fewer)))

-- The first entry, and the parts behind it.
parts_next : (b l : ℕ) (s : List ℕ) → said b l ≤ length s
    → parts_of (b ∷ l ∷ s) ≡ before (take (said b l) s) (parts_of (drop (said b l) s))
unfolding parts_of parts_by
parts_next b l s h =
    let fewer = length-drop (said b l) s in
    rw (le-ltb (length s) (said b l) h)
    (ap (before (take (said b l) s))
    (parts-enough (suc (length s)) (length (drop (said b l) s)) (drop (said b l) s) (omega (arith, fewer)) (omega arith)))

parts_none : (b l : ℕ) (s : List ℕ) → ltb (length s) (said b l) ≡ true → (parts_of (b ∷ l ∷ s)).rest ≡ b ∷ l ∷ s
unfolding parts_of parts_by
parts_none b l s t = rw t refl

-- Parts behind whole entries.
abbrev behind : List (List ℕ) → Parts → Parts
behind es p = record { whole = es ++ p.whole; rest = p.rest }

split_by : (n : ℕ) (x y : List ℕ) → length x ≤ n → length (parts_of x).rest ≤ 0
    → parts_of (x ++ y) ≡ behind (entries_of x) (parts_of y)
unfolding parts_of parts_by
split_by zero [] y h g = refl
split_by zero (b ∷ x) y h g = absurd (omega arith)
split_by (suc n) [] y h g = refl
split_by (suc n) (b ∷ []) y h g = absurd (omega arith)
split_by (suc n) (b ∷ l ∷ s) y h g = cases (ltb (length s) (said b l))
    (λ t. absurd (omega (arith, ap length (parts_none b l s t))))
    (λ t. let fits : said b l ≤ length s = ltb-false (length s) (said b l) t in
    let size = said b l in
    let first = parts_next b l s fits in
    parts_next b l (s ++ y) (omega (arith, length-append s y))
    ∙ ap (λ e. before e (parts_of (drop size (s ++ y)))) (take-append-le size s y fits)
    ∙ ap (λ r. before (take size s) (parts_of r)) (drop-append-le size s y fits)
    ∙ ap (before (take size s))
    (split_by n (drop size s) y (omega (arith, length-drop size s)) (omega (arith, ap (λ (p : Parts). length p.rest) first)))
    ∙ ap (λ (p : Parts). behind p.whole (parts_of y)) (sym first))

module _ (x y : List ℕ) (whole : is_cut x ≡ false) where
  split : parts_of (x ++ y) ≡ behind (entries_of x) (parts_of y)
  split = split_by (length x) x y (omega arith) (ltb-false 0 (length (parts_of x).rest) whole)

  pub split-entries : entries_of (x ++ y) ≡ entries_of x ++ entries_of y
  split-entries = ap (λ (p : Parts). p.whole) split

  pub split_rest : (parts_of (x ++ y)).rest ≡ (parts_of y).rest
  split_rest = ap (λ (p : Parts). p.rest) split

  pub split-cut : is_cut (x ++ y) ≡ is_cut y
  split-cut = ap (λ r. ltb 0 (length r)) split_rest

  pub split-sheet : stream_sheet (x ++ y) ≡ join (stream_sheet x) (stream_sheet y)
  unfolding week_of
  split-sheet =
      ap week_of split-entries
      ∙ ap sheet_of (map-append answered (entries_of x) (entries_of y))
      ∙ sheet-append (map answered (entries_of x)) (map answered (entries_of y))
