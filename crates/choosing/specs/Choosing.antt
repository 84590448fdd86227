-- Choosing between two openings by a tie rule: the checks, the answer, the part handed back and its kind, and the work area at exit,
-- for every input. Definitions only.
use Rattle.std.specs.Prelude.{ℕ, ◌+◌, ◌≡◌, List, [], ◌++◌, ℤ, length, drop, Ok, Err}
use Rattle.std.specs.Borrow.{Bor}
use Rattle.packed.specs.Layout.{header_bytes}
use Rattle.packed.specs.Packed.{kind_of}
use Rattle.packed.specs.Judge.{without_place, Check, Verdict, fine, refused, judge}
use Rattle.packed.specs.Refusals.{room_checks, order_checks}
use Rattle.area.specs.Area.{area, cleared}
use Rattle.ties.specs.Winning.{Chosen, TieRule, winner_by}
use Rattle.ties.specs.declared.Winner.TheVariants.{First, Second}

-- ---- the calls

-- The checks of the first order, then of the second, then room for the work area.
unfoldable pub choosing_checks : List ℕ → List ℕ → List ℤ → List Check
choosing_checks first second work = order_checks first ++ order_checks second ++ room_checks area (length work)

-- The verdict of these checks.
abbrev pub choosing_verdict : List ℕ → List ℕ → List ℤ → Verdict
choosing_verdict first second work = judge (choosing_checks first second work)

-- The answer by the verdict and by which of the two wins: a refusal has no place, since it would not say of which opening.
abbrev pub chosen_by : Verdict → Chosen → Chosen
chosen_by (refused r) won = Err (without_place r)
chosen_by fine won = won

-- The work area by both: a refusal by these checks leaves it as it was; past them the area is cleared, with 11 too.
abbrev pub work_by : Verdict → Chosen → List ℤ → List ℤ
work_by (refused r) won work = work
work_by fine (Err r) work = cleared work
work_by fine (Ok w) work = cleared work

-- The answer of the question, and the work area after either call.
abbrev pub chosen_of : TieRule → List ℕ → List ℕ → ℤ → List ℤ → Chosen
chosen_of rule first second t work = chosen_by (choosing_verdict first second work) (winner_by rule first second t)

abbrev pub work_after : TieRule → List ℕ → List ℕ → ℤ → List ℤ → List ℤ
work_after rule first second t work = work_by (choosing_verdict first second work) (winner_by rule first second t) work

-- The question by a tie rule on any bytes, at any time, with any work area.
pub record Asked (rule : TieRule) (first second : List ℕ) (t : ℤ) (work : List ℤ) (r : Chosen) (work' : List ℤ) : Type 0 where
  pub answer : r ≡ chosen_of rule first second t work
  pub area : work' ≡ work_after rule first second t work

-- ---- the part handed back

-- Its bytes: all but the header of the winner, none where refused.
abbrev pub part_of : Chosen → List ℕ → List ℕ → List ℕ
part_of (Err r) first second = []
part_of (Ok First) first second = drop header_bytes first
part_of (Ok Second) first second = drop header_bytes second

-- The place behind a header; a place is a block of memory and how far into it.
abbrev pub past_header : ℕ × ℕ → ℕ × ℕ
past_header place = (place.0, header_bytes + place.1)

-- Where it begins: behind the header of the winner, where the first begins if refused.
abbrev pub place_of : Chosen → ℕ × ℕ → ℕ × ℕ → ℕ × ℕ
place_of (Err r) first second = first
place_of (Ok First) first second = past_header first
place_of (Ok Second) first second = past_header second

-- The choice by a tie rule on any bytes, at any time, with any work area: which bytes it hands back, where they stand, and the
-- work area.
pub record Handed (rule : TieRule) (first second : Bor (List ℕ)) (t : ℤ) (work : List ℤ) (r : Bor (List ℕ)) (work' : List ℤ) : Type 0 where
  pub bytes : r.now ≡ part_of (chosen_of rule first.now second.now t work) first.now second.now
  pub place : r.ref_ptr ≡ place_of (chosen_of rule first.now second.now t work) first.ref_ptr second.ref_ptr
  pub area : work' ≡ work_after rule first.now second.now t work

-- ---- the numbers for each case (R18)

-- The winner; 0 if refused.
abbrev pub winner_of : Chosen → ℕ
winner_of (Err r) = 0
winner_of (Ok First) = 1
winner_of (Ok Second) = 2

-- The kind of the winner's records; 0 if refused.
abbrev pub kind_won : Chosen → List ℕ → List ℕ → ℕ
kind_won (Err r) first second = 0
kind_won (Ok First) first second = kind_of first
kind_won (Ok Second) first second = kind_of second
