-- Writing an order's own plan in packed bytes, as a call: its checks, its answer, and every lent buffer at exit, for every input.
-- Definitions only.
use Rattle.std.specs.Prelude.{ℕ, ◌/◌, ◌^◌, ◌≡◌, List, ◌++◌, ℤ, length, drop, Result, Ok, Err}
use Rattle.std.proofs.Math.Option.{Option, none, some}
use Rattle.seconds.specs.Limits.{most_jobs}
use Rattle.plan.specs.Plan.{Answer, plan_answer}
use Rattle.packed.specs.declared.Refusal.{Refusal}
use Rattle.packed.specs.Judge.{plainly, Check, Verdict, fine, refused, judge}
use Rattle.packed.specs.Packed.{order_of}
use Rattle.packed.specs.Refusals.{room_checks, order_checks}
use Rattle.packed_plan.specs.Plan.{plan_bytes, pack_plan, starts_kept}
use Rattle.area.specs.Area.{area}
use Rattle.filling.specs.After.{work_by}

-- The bytes of the longest plan, of 48 starts.
abbrev pub plan_room : ℕ
plan_room = plan_bytes most_jobs

-- 1 to 7 and 9 of the order, then room for the longest plan, then room for the work area.
unfoldable pub write_checks : List ℕ → List ℕ → List ℤ → List Check
write_checks order out work = order_checks order ++ room_checks plan_room (length out) ++ room_checks area (length work)

-- The verdict of these checks.
abbrev pub write_verdict : List ℕ → List ℕ → List ℤ → Verdict
write_verdict order out work = judge (write_checks order out work)

-- The bytes of a plan's answer: the 48 top bits of its mask, and the starts of the jobs that it keeps.
unfoldable pub bytes_for : Answer → List ℕ
bytes_for a = pack_plan (a.mask / 2 ^ 16) (starts_kept a.starts)

-- What writing answers, as packing does: a refusal, or how many bytes were written.
abbrev pub Written : Type 0
Written = Result ℕ Refusal

-- The answer by the verdict and the plan; with no feasible choice it is 11.
abbrev pub written_by : Verdict → Option Answer → Written
written_by (refused r) plan = Err r
written_by fine none = Err (plainly 11)
written_by fine (some a) = Ok (length (bytes_for a))

-- The bytes at exit: written over the front where there is a plan.
abbrev pub out_by : Verdict → Option Answer → List ℕ → List ℕ
out_by (refused r) plan out = out
out_by fine none out = out
out_by fine (some a) out = bytes_for a ++ drop (length (bytes_for a)) out

-- All three of any bytes and buffers.
abbrev pub written_of : List ℕ → List ℕ → List ℤ → Written
written_of order out work = written_by (write_verdict order out work) (plan_answer (order_of order))

abbrev pub out_after : List ℕ → List ℕ → List ℤ → List ℕ
out_after order out work = out_by (write_verdict order out work) (plan_answer (order_of order)) out

abbrev pub write_work_after : List ℕ → List ℕ → List ℤ → List ℤ
write_work_after order out work = work_by (write_verdict order out work) work

-- A call of the writer.
pub record WriteCall (order out : List ℕ) (work : List ℤ) (r : Written) (out' : List ℕ) (work' : List ℤ) : Type 0 where
  pub answer : r ≡ written_of order out work
  pub written : out' ≡ out_after order out work
  pub area : work' ≡ write_work_after order out work
