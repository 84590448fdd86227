-- One order more on a sheet as a call: the answer, and every lent buffer at exit, for every input (R46, R49). Definitions only.
use Rattle.std.specs.Prelude.{ℕ, ◌≡◌, Bool, cond, ◌&&◌, List, leb, ltb, ℤ, length, Result, Ok, Err, is_ok, ⊤}
use Rattle.refusals.specs.declared.Reason.{Reason}
use Rattle.refusals.specs.declared.Reason.TheVariants.{BufferTooShort, NoSheet}
use Rattle.area.specs.Area.{area, cleared}
use Rattle.sheet.specs.Sheet.{Sheet, figure_count, most_orders, orders, sheet_in, sheet_over, is_sheet}
use Rattle.sheet.specs.Answered.{with_order}

-- A sheet that has room for one order more.
abbrev pub takes_one : Sheet → Bool
takes_one s = is_sheet s && ltb (orders s) most_orders

-- Refused with less room than for a sheet or for the work area (10), and where the numbers are no sheet's or it is full (18).
unfoldable pub add_refusal : List ℕ → List ℤ → Result ⊤ Reason
add_refusal figures work =
    cond (leb figure_count (length figures) && leb area (length work))
    (cond (takes_one (sheet_in figures)) (Ok tt) (Err NoSheet))
    (Err BufferTooShort)

-- The sheet's numbers with the order, and the work area cleared; refused, both as they were.
unfoldable pub add_after : List ℕ → List ℕ → List ℤ → List ℕ
add_after figures bytes work =
    cond (is_ok (add_refusal figures work)) (sheet_over (with_order (sheet_in figures) bytes) figures) figures

unfoldable pub add_work_after : List ℕ → List ℤ → List ℤ
add_work_after figures work = cond (is_ok (add_refusal figures work)) (cleared work) work

pub record AddCall (figures bytes : List ℕ) (work : List ℤ) (r : Result ⊤ Reason) (figures' : List ℕ) (work' : List ℤ) : Type 0 where
  pub answer : r ≡ add_refusal figures work
  pub lent : figures' ≡ add_after figures bytes work
  pub area : work' ≡ add_work_after figures work
