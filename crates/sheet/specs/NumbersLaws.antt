-- Sheets as numbers: what is written over some numbers is read back, and the loop that adds sums in place.
use Rattle.std.specs.Prelude.{sum, ℕ, zero, suc, ◌+◌, ◌-◌, ◌≤◌, ◌<◌, ◌≡◌, refl, Bool, true, false, ◌&&◌, leb, ltb, eqb, length, get_or, set, take, drop}
use Rattle.std.proofs.Common.{sym, ap, ◌∙◌, arith, length-append, take_at, drop_at, drop-cons, get_or-drop, take-take, length-take-le}
use mathlib.Core.List.{List, [], ◌∷◌, ◌++◌, append_assoc}
use Rattle.std.proofs.lemmas.List.{get_or_at, set_at}
use Rattle.std.proofs.lemmas.List.Sums.{sum_by-cons}
use Rattle.std.proofs.Math.Seq.{get_or-take}
use Rattle.sheet.specs.Sheet.{Sheet, add_lists, top_of, place_of, join, sheet_in, sheet_over}
use Rattle.sheet.specs.Sheet.{most_orders, weights_fit, top_fits, fits, is_sheet, joins}
use Rattle.sheet.specs.Joining.{partly}
use Rattle.sheet.specs.SheetLaws.{lists_length}

-- ---- written and read back

-- The two figures that are no sums, behind those that are.
two-behind : (l : List ℕ) (a b : ℕ) (r : List ℕ) → length l ≡ 24
    → (get_or (l ++ (a ∷ b ∷ r)) 24 0 ≡ a) × (get_or (l ++ (a ∷ b ∷ r)) 25 0 ≡ b) × (drop 26 (l ++ (a ∷ b ∷ r)) ≡ r)
two-behind l a b r e =
    let apart : l ++ (a ∷ b ∷ r) ≡ (l ++ (a ∷ [])) ++ (b ∷ r) = sym (append_assoc l (a ∷ []) (b ∷ r)) in
    let further : l ++ (a ∷ b ∷ r) ≡ (l ++ (a ∷ b ∷ [])) ++ r = sym (append_assoc l (a ∷ b ∷ []) r) in (
      get_or_at l a (b ∷ r) 0 24 e,
      ap (λ (x : List ℕ). get_or x 25 0) apart ∙ get_or_at (l ++ (a ∷ [])) b r 0 25 (omega (arith, length-append l (a ∷ []))),
      ap (drop 26) further ∙ drop_at (l ++ (a ∷ b ∷ [])) r 26 (omega (arith, length-append l (a ∷ b ∷ []))),
    )

module _ (s : Sheet) (long : length s.sums ≡ 24) where
  over-flat : (l : List ℕ) → sheet_over s l ≡ s.sums ++ (s.top ∷ s.place ∷ drop 26 l)
  unfolding sheet_over
  over-flat l = append_assoc s.sums (s.top ∷ s.place ∷ []) (drop 26 l)

  -- Any numbers that begin with a sheet's say it.
  pub sheet-in-front : (r : List ℕ) → sheet_in (s.sums ++ (s.top ∷ s.place ∷ r)) ≡ s
  sheet-in-front r =
      let t = two-behind s.sums s.top s.place r long in
      rw (take_at s.sums (s.top ∷ s.place ∷ r) 24 long, t.0, t.1)

  pub sheet-in-over : (l : List ℕ) → sheet_in (sheet_over s l) ≡ s
  sheet-in-over l = ap sheet_in (over-flat l) ∙ sheet-in-front (drop 26 l)

  pub over-behind : (l : List ℕ) → drop 26 (sheet_over s l) ≡ drop 26 l
  over-behind l = ap (drop 26) (over-flat l) ∙ (two-behind s.sums s.top s.place (drop 26 l) long).2

-- Numbers with room for a sheet are that sheet's, and then others.
pub sheet-long : (l : List ℕ) → 26 ≤ length l → length (sheet_in l).sums ≡ 24
sheet-long l h = length-take-le 24 l (omega arith)

behind-sums : (l : List ℕ) → 26 ≤ length l → drop 24 l ≡ get_or l 24 0 ∷ get_or l 25 0 ∷ drop 26 l
behind-sums l h = drop-cons l 24 0 (omega arith) ∙ ap (λ (x : List ℕ). get_or l 24 0 ∷ x) (drop-cons l 25 0 (omega arith))

-- ---- sums added in place

pub partly_here : (i : ℕ) (xs ys : List ℕ) → get_or (partly i xs ys) i 0 ≡ get_or xs i 0
partly_here zero xs ys = refl
partly_here (suc i) [] ys = refl
partly_here (suc i) (x ∷ xs) [] = refl
partly_here (suc i) (x ∷ xs) (y ∷ ys) = partly_here i xs ys

partly-step : (i : ℕ) (xs ys : List ℕ) → i < length xs → i < length ys
    → set (partly i xs ys) i (get_or (partly i xs ys) i 0 + get_or ys i 0) ≡ partly (suc i) xs ys
partly-step i [] ys h g = absurd (omega arith)
partly-step i (x ∷ xs) [] h g = absurd (omega arith)
partly-step zero (x ∷ xs) (y ∷ ys) h g = refl
partly-step (suc i) (x ∷ xs) (y ∷ ys) h g = ap (λ l. (x + y) ∷ l) (partly-step i xs ys (omega arith) (omega arith))

-- One place more, as the code says it.
pub add_step : (i : ℕ) (to xs ys : List ℕ) → to ≡ partly i xs ys → i < length xs → i < length ys
    → set to i (get_or to i 0 + get_or ys i 0) ≡ partly (i + 1) xs ys
add_step i to xs ys e h g =
    let one : i + 1 ≡ suc i = omega arith in
    rw (e, one) (partly-step i xs ys h g)

partly-front : (n : ℕ) (xs ys : List ℕ) → n ≤ length xs → n ≤ length ys
    → partly n xs ys ≡ add_lists (take n xs) (take n ys) ++ drop n xs
partly-front zero xs ys h g = refl
partly-front (suc n) [] ys h g = absurd (omega arith)
partly-front (suc n) (x ∷ xs) [] h g = absurd (omega arith)
partly-front (suc n) (x ∷ xs) (y ∷ ys) h g = ap (λ l. (x + y) ∷ l) (partly-front n xs ys (omega arith) (omega arith))

-- One number more summed.
pub sum-cons : (x : ℕ) (l : List ℕ) → sum (x ∷ l) ≡ x + sum l
sum-cons x l = sum_by-cons (λ (n : ℕ). n) x l

sum-suc : (j : ℕ) (l : List ℕ) → sum (take (suc j) l) ≡ sum (take j l) + get_or l j 0
sum-suc zero [] = refl
sum-suc zero (x ∷ l) = refl
sum-suc (suc j) [] = refl
sum-suc (suc j) (x ∷ l) = omega (arith, sum-cons x (take (suc j) l), sum-cons x (take j l), sum-suc j l)

pub sum_step : (i : ℕ) (l : List ℕ) → 1 ≤ i → sum (take ((i + 1) - 1) (drop 1 l)) ≡ sum (take (i - 1) (drop 1 l)) + get_or l i 0
sum_step i l some =
    let one : (i + 1) - 1 ≡ suc (i - 1) = omega arith in
    let back : 1 + (i - 1) ≡ i = omega arith in
    rw one (sum-suc (i - 1) (drop 1 l) ∙ ap (λ x. sum (take (i - 1) (drop 1 l)) + x) (get_or-drop 1 l (i - 1) 0 ∙ ap (λ k. get_or l k 0) back))

-- The same sum in numbers and in their sheet.
judged-front : (l : List ℕ) → take 20 (drop 1 l) ≡ take 20 (drop 1 (take 24 l))
judged-front [] = refl
judged-front (x ∷ l) = sym (take-take 20 23 l (omega arith))

-- The test by its parts, as the code has them.
pub is-sheet-by : (l : List ℕ) (total : ℕ) (light placed : Bool) → total ≡ sum (take 20 (drop 1 l))
    → light ≡ weights_fit (get_or l 20 0) (get_or l 21 0) (get_or l 22 0) (get_or l 23 0)
    → placed ≡ top_fits (get_or l 0 0) (get_or l 20 0) (get_or l 24 0) (get_or l 25 0)
    → (leb (get_or l 0 0) most_orders && (eqb total (get_or l 0 0) && (light && placed))) ≡ is_sheet (sheet_in l)
unfolding is_sheet fits
is-sheet-by l total light placed e f g =
    let at : (k : ℕ) → k < 24 → get_or (take 24 l) k 0 ≡ get_or l k 0 = λ k h. get_or-take 24 l k 0 h in
    rw (
      e,
      f,
      g,
      judged-front l,
      at 0 (omega arith),
      at 20 (omega arith),
      at 21 (omega arith),
      at 22 (omega arith),
      at 23 (omega arith),
    )

pub joins-by : (to from : List ℕ) (a b : Bool) → a ≡ is_sheet (sheet_in to) → b ≡ is_sheet (sheet_in from)
    → (a && (b && leb (get_or to 0 0 + get_or from 0 0) most_orders)) ≡ joins (sheet_in to) (sheet_in from)
joins-by to from a b e f = rw (e, f, get_or-take 24 to 0 0 (omega arith), get_or-take 24 from 0 0 (omega arith))

-- ---- two sheets joined in place

set-two : (l : List ℕ) (t p : ℕ) (r : List ℕ) (a b : ℕ) → length l ≡ 24
    → set (set (l ++ (t ∷ p ∷ r)) 24 a) 25 b ≡ l ++ (a ∷ b ∷ r)
set-two l t p r a b e =
    ap (λ (x : List ℕ). set x 25 b) (set_at l t (p ∷ r) a 24 e ∙ sym (append_assoc l (a ∷ []) (p ∷ r)))
    ∙ set_at (l ++ (a ∷ [])) p r b 25 (omega (arith, length-append l (a ∷ [])))
    ∙ append_assoc l (a ∷ []) (b ∷ r)

module _ (to from : List ℕ) (room : 26 ≤ length to) (room' : 26 ≤ length from) (added : List ℕ) (is : added ≡ partly 24 to from) where
  abbrev both : List ℕ
  both = add_lists (take 24 to) (take 24 from)

  long : length both ≡ 24
  long =
      lists_length (take 24 to) (take 24 from) (sheet-long to room ∙ sym (sheet-long from room')) ∙ sheet-long from room'

  added_is : added ≡ both ++ (get_or to 24 0 ∷ get_or to 25 0 ∷ drop 26 to)
  added_is =
      is ∙ partly-front 24 to from (omega arith) (omega arith) ∙ ap (λ (l : List ℕ). both ++ l) (behind-sums to room)

  -- The sheet that comes out, by its two figures that are no sums.
  joined_by : (t p : ℕ) → t ≡ top_of (get_or to 24 0) (get_or from 24 0)
      → p ≡ place_of (get_or to 0 0) (get_or to 24 0) (get_or from 24 0) (get_or to 25 0) (get_or from 25 0)
      → both ++ (t ∷ p ∷ drop 26 to) ≡ sheet_over (join (sheet_in to) (sheet_in from)) to
  unfolding join sheet_over
  joined_by t p e f = rw (e, f, ← get_or-take 24 to 0 0 (omega arith)) (sym (append_assoc both _ (drop 26 to)))

  -- Where the first one's total is as great it stays,
  pub joined-stays : ltb (get_or to 24 0) (get_or from 24 0) ≡ false → added ≡ sheet_over (join (sheet_in to) (sheet_in from)) to
  joined-stays e = added_is ∙ joined_by (get_or to 24 0) (get_or to 25 0) (rw e) (rw e)

  -- else the second one's comes, and its place is moved on.
  pub joined-moves : ltb (get_or to 24 0) (get_or from 24 0) ≡ true
      → set (set added 24 (get_or from 24 0)) 25 (get_or to 0 0 + get_or from 25 0) ≡ sheet_over (join (sheet_in to) (sheet_in from)) to
  joined-moves e =
      ap (λ (l : List ℕ). set (set l 24 (get_or from 24 0)) 25 (get_or to 0 0 + get_or from 25 0)) added_is
      ∙ set-two both (get_or to 24 0) (get_or to 25 0) (drop 26 to) (get_or from 24 0) (get_or to 0 0 + get_or from 25 0) long
      ∙ joined_by (get_or from 24 0) (get_or to 0 0 + get_or from 25 0) (rw e) (rw e)
