-- What adding an order in place asks and gives. Definitions only.
use Rattle.std.specs.Prelude.{ℕ, ◌+◌, ◌≤◌, ◌≡◌, Bool, true, List, ℤ, length, drop}
use Rattle.packed.specs.declared.Refusal.{Refusal}
use Rattle.area.specs.Area.{area, cleared}
use Rattle.planner.specs.declared.Figures.{Figures}
use Rattle.planner.specs.Calls.{Planned, Refused, Made}
use Rattle.sheet.specs.Sheet.{figure_count, most_orders, orders, sheet_in, sheet_over, fits}
use Rattle.sheet.specs.Answered.{with_order}

-- The figures fit together and have room for one order more, and there is a work area.
pub record CanAdd (figures : List ℕ) (work : List ℤ) : Type 0 where
  pub long : figure_count ≤ length figures
  pub fitting : fits (sheet_in figures) ≡ true
  pub few : orders (sheet_in figures) ≤ most_orders
  pub space : area ≤ length work

-- The order is counted; the work area is cleared where the answer says so, and what is behind it stays in any case.
pub record Added (figures bytes : List ℕ) (work : List ℤ) (r : Bool) (figures' : List ℕ) (work' : List ℤ) : Type 0 where
  pub counted : figures' ≡ sheet_over (with_order (sheet_in figures) bytes) figures
  pub fitting : fits (with_order (sheet_in figures) bytes) ≡ true
  pub more : orders (with_order (sheet_in figures) bytes) ≡ orders (sheet_in figures) + 1
  pub behind : drop area work' ≡ drop area work
  pub clean : r ≡ true → work' ≡ cleared work

-- The numbers of a refusal and of a plan that can be counted.
pub record Numbered (r : Refusal) : Type 0 where
  pub low : 1 ≤ r.number
  pub high : r.number ≤ 19

pub record Light (f : Figures) : Type 0 where
  pub weights : f.kept_weight + f.lost_weight ≤ 300
  pub points : f.points ≤ 14448

-- An answer of planning that can be counted.
abbrev pub Countable : Planned → Type 0
Countable (Refused r) = Numbered r
Countable (Made f) = Light f
