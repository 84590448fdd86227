-- Planning as a call: the checks, the answer, and every lent buffer at exit, for every input. Definitions only.
use Rattle.std.specs.Prelude.{ℕ, ◌+◌, ◌*◌, ◌≡◌, List, ◌++◌, ℤ, pos, length, Result, Ok, Err}
use Rattle.std.proofs.Math.Option.{Option, none, some}
use Rattle.seconds.specs.Limits.{most_jobs}
use Rattle.plan.specs.Plan.{Answer, plan_answer}
use Rattle.packed.specs.declared.Refusal.{Refusal}
use Rattle.packed.specs.Layout.{header_bytes, record_bytes}
use Rattle.packed.specs.Judge.{plainly, no_refusal, Check, Verdict, fine, refused, judge}
use Rattle.packed.specs.Packed.{count_of, order_of}
use Rattle.packed.specs.Refusals.{room_checks, order_checks}
use Rattle.profiles.specs.Numbers.{written_over}
use Rattle.area.specs.Area.{area}
use Rattle.filling.specs.After.{work_by}
use Rattle.planner.specs.declared.Figures.{Figures}

-- 1 to 7 and 9 of the order, then room for a start of each job, then room for the work area.
unfoldable pub plan_checks : List ℕ → List ℤ → List ℤ → List Check
plan_checks bytes starts work =
    order_checks bytes ++ room_checks (count_of bytes) (length starts) ++ room_checks area (length work)

-- The verdict of these checks.
abbrev pub plan_verdict : List ℕ → List ℤ → List ℤ → Verdict
plan_verdict bytes starts work = judge (plan_checks bytes starts work)

-- The numbers of a plan, as the code hands them over.
abbrev pub figures_of : Answer → Figures
figures_of a =
    record {
      mask = a.mask;
      kept = a.kept;
      kept_weight = a.kept_weight;
      lost_weight = a.lost_weight;
      finish = a.finish;
      points = a.points;
    }

-- The bytes of an order of as many jobs as there may be, in kind 1.
unfoldable pub longest_order : ℕ
longest_order = header_bytes + record_bytes 1 * most_jobs

-- What planning answers: a refusal, or a plan.
abbrev pub Planned : Type 0
Planned = Result Figures Refusal

pattern abbrev pub Refused : Refusal → Planned
Refused r = Err r

pattern abbrev pub Made : Figures → Planned
Made f = Ok f

-- The answer by the verdict and the plan; with no feasible choice it is 11.
abbrev pub planned_by : Verdict → Option Answer → Planned
planned_by (refused r) plan = Err r
planned_by fine none = Err (plainly 11)
planned_by fine (some a) = Ok (figures_of a)

-- The starts at exit: written over the front where there is a plan.
abbrev pub starts_by : Verdict → Option Answer → List ℤ → List ℤ
starts_by (refused r) plan starts = starts
starts_by fine none starts = starts
starts_by fine (some a) starts = written_over a.starts starts

-- Both of any bytes, starts and work area,
abbrev pub planned_of : List ℕ → List ℤ → List ℤ → Planned
planned_of bytes starts work = planned_by (plan_verdict bytes starts work) (plan_answer (order_of bytes))

abbrev pub starts_after : List ℕ → List ℤ → List ℤ → List ℤ
starts_after bytes starts work = starts_by (plan_verdict bytes starts work) (plan_answer (order_of bytes)) starts

-- and the work area after planning.
abbrev pub plan_work_after : List ℕ → List ℤ → List ℤ → List ℤ
plan_work_after bytes starts work = work_by (plan_verdict bytes starts work) work

-- A call of planning: its answer, and both buffers at exit.
pub record PlanCall (bytes : List ℕ) (starts work : List ℤ) (r : Planned) (starts' work' : List ℤ) : Type 0 where
  pub answer : r ≡ planned_of bytes starts work
  pub written : starts' ≡ starts_after bytes starts work
  pub area : work' ≡ plan_work_after bytes starts work

-- ---- the numbers for each case (R8); all but those of the refusal are 0 in a refused answer (R26)

-- The answer of planning.
pub record PlanNumbers : Type 0 where
  pub refusal : Refusal
  pub mask : ℕ
  pub kept : ℕ
  pub kept_weight : ℕ
  pub lost_weight : ℕ
  pub finish : ℤ
  pub points : ℕ

abbrev pub plan_numbers : Planned → PlanNumbers
plan_numbers (Err r) =
    record { refusal = r; mask = 0; kept = 0; kept_weight = 0; lost_weight = 0; finish = pos 0; points = 0 }
plan_numbers (Ok f) =
    record {
      refusal = no_refusal;
      mask = f.mask;
      kept = f.kept;
      kept_weight = f.kept_weight;
      lost_weight = f.lost_weight;
      finish = f.finish;
      points = f.points;
    }
