-- Checking whether a packed plan is best for a packed order, as a call: its checks, its answer, and the work area at exit, for every
-- input. Definitions only.
use Rattle.std.specs.Prelude.{ℕ, ◌≡◌, Bool, List, ◌++◌, ℤ, length}
use Rattle.packed.specs.Judge.{Check, Verdict, judge}
use Rattle.packed.specs.Packed.{count_of, order_of}
use Rattle.packed.specs.Refusals.{room_checks}
use Rattle.packed_plan.specs.Plan.{kept_in, starts_in}
use Rattle.legal.specs.Legal.{is_best}
use Rattle.checking.specs.Calls.{Checked, legal_checks, checked_by}
use Rattle.area.specs.Area.{area}
use Rattle.filling.specs.After.{work_by}

-- The checks of Legal, then room for the work area.
unfoldable pub best_checks : List ℕ → List ℕ → List ℤ → List Check
best_checks order plan work = legal_checks order plan ++ room_checks area (length work)

-- The verdict of these checks.
abbrev pub best_verdict : List ℕ → List ℕ → List ℤ → Verdict
best_verdict order plan work = judge (best_checks order plan work)

-- The plan that bytes say is best for the order that bytes say.
abbrev pub best_in : List ℕ → List ℕ → Bool
best_in order plan = is_best (order_of order) (kept_in (count_of order) plan) (starts_in plan)

-- The answer on any bytes and work area, and the work area after it.
abbrev pub best_of : List ℕ → List ℕ → List ℤ → Checked
best_of order plan work = checked_by (best_verdict order plan work) (best_in order plan)

abbrev pub best_work_after : List ℕ → List ℕ → List ℤ → List ℤ
best_work_after order plan work = work_by (best_verdict order plan work) work

-- A call of Best.
pub record BestCall (order plan : List ℕ) (work : List ℤ) (r : Checked) (work' : List ℤ) : Type 0 where
  pub answer : r ≡ best_of order plan work
  pub area : work' ≡ best_work_after order plan work
