-- Checking whether a packed plan is legal for a packed order, as a call: its checks and its answer, for every input.
-- Definitions only.
use Rattle.std.specs.Prelude.{ℕ, Bool, cond, List, ◌++◌, Result, Ok, Err}
use Rattle.packed.specs.declared.Refusal.{Refusal}
use Rattle.packed.specs.Judge.{no_refusal, Check, Verdict, fine, refused, judge}
use Rattle.packed.specs.Packed.{count_of, order_of}
use Rattle.packed.specs.Refusals.{order_checks}
use Rattle.packed_plan.specs.Plan.{kept_in, starts_in, sent_checks}
use Rattle.legal.specs.Legal.{is_legal}

-- 1 to 7 and 9 of the order, then 14 and 15 of the plan against its jobs.
unfoldable pub legal_checks : List ℕ → List ℕ → List Check
legal_checks order plan = order_checks order ++ sent_checks (count_of order) plan

-- The plan that bytes say is legal for the order that bytes say.
abbrev pub legal_in : List ℕ → List ℕ → Bool
legal_in order plan = is_legal (order_of order) (kept_in (count_of order) plan) (starts_in plan)

-- What checking answers: a refusal, or whether the plan is what was asked.
abbrev pub Checked : Type 0
Checked = Result Bool Refusal

-- The answer by the verdict of some checks and by whether the plan is what was asked.
abbrev pub checked_by : Verdict → Bool → Checked
checked_by (refused r) holds = Err r
checked_by fine holds = Ok holds

-- The answer on any bytes.
abbrev pub legal_of : List ℕ → List ℕ → Checked
legal_of order plan = checked_by (judge (legal_checks order plan)) (legal_in order plan)

-- ---- the numbers for each case; a refused answer says no

pub record CheckedNumbers : Type 0 where
  pub refusal : Refusal
  pub yes : ℕ

abbrev pub checked_numbers : Checked → CheckedNumbers
checked_numbers (Err r) = record { refusal = r; yes = 0 }
checked_numbers (Ok b) = record { refusal = no_refusal; yes = cond b 1 0 }
