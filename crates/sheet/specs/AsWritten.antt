-- Sheets as the rules write them, by computation: of no order, of one that is refused, of two that tie; joined, and what is no sheet.
use Rattle.std.specs.Prelude.{ℕ, ◌≡◌, refl, true, false, List, [], ◌∷◌, ◌++◌, pos, replicate}
use Rattle.packed.specs.Judge.{plainly}
use Rattle.planner.specs.Calls.{Planned, Refused, Made}
use Rattle.sheet.specs.Sheet.{no_sheet, one_order, join, sheet_of, numbers_of, sheet_in, sheet_over, fits, is_sheet, join_refusal, joined_after}

-- A plan that keeps so many jobs, so much weight and loses so much, with so many points.
abbrev planned : ℕ → ℕ → ℕ → ℕ → Planned
planned jobs weight lost points =
    Made (record { mask = 0; kept = jobs; kept_weight = weight; lost_weight = lost; finish = pos 0; points = points })

-- An order that is too short, a plan, an infeasible order, and two plans of which the first has the greatest total.
abbrev week : List Planned
week = Refused (plainly 1) ∷ planned 4 35 15 14 ∷ Refused (plainly 11) ∷ planned 3 20 0 20 ∷ planned 2 50 10 20 ∷ []

abbrev week_numbers : List ℕ
week_numbers = 5 ∷ 1 ∷ (replicate 9 0 ++ (1 ∷ (replicate 8 0 ++ (3 ∷ 130 ∷ 105 ∷ 9 ∷ 21 ∷ 3 ∷ []))))

pub week-figures : numbers_of (sheet_of week) ≡ week_numbers
unfolding no_sheet one_order join sheet_of
week-figures = refl

-- Joined to itself, the first greatest total stays; behind a sheet with less it is moved on.
pub joined-twice : joined_after week_numbers week_numbers
    ≡ 10 ∷ 2 ∷ (replicate 9 0 ++ (2 ∷ (replicate 8 0 ++ (6 ∷ 260 ∷ 210 ∷ 18 ∷ 21 ∷ 3 ∷ []))))
unfolding join sheet_over fits is_sheet join_refusal joined_after
joined-twice = refl

pub moved_on_lem : numbers_of (join (sheet_of (planned 1 5 0 2 ∷ [])) (sheet_of week))
    ≡ 6 ∷ 1 ∷ (replicate 9 0 ++ (1 ∷ (replicate 8 0 ++ (4 ∷ 135 ∷ 110 ∷ 10 ∷ 21 ∷ 4 ∷ []))))
unfolding no_sheet one_order join sheet_of
moved_on_lem = refl

-- No sheet: an order that is neither refused nor feasible; more kept than offered; a total without a feasible order; a place that is
-- no order's.
pub is_one : is_sheet (sheet_in week_numbers) ≡ true
unfolding fits is_sheet
is_one = refl

pub unjudged : is_sheet (sheet_in (1 ∷ replicate 25 0)) ≡ false
unfolding fits is_sheet
unjudged = refl

pub overweight : is_sheet (sheet_in (1 ∷ (replicate 19 0 ++ (1 ∷ 300 ∷ 301 ∷ 1 ∷ 2 ∷ 0 ∷ [])))) ≡ false
unfolding fits is_sheet
overweight = refl

pub unfounded : is_sheet (sheet_in (1 ∷ 1 ∷ (replicate 22 0 ++ (1 ∷ 0 ∷ [])))) ≡ false
unfolding fits is_sheet
unfounded = refl

pub misplaced : is_sheet (sheet_in (1 ∷ (replicate 19 0 ++ (1 ∷ 300 ∷ 300 ∷ 1 ∷ 2 ∷ 1 ∷ [])))) ≡ false
unfolding fits is_sheet
misplaced = refl
