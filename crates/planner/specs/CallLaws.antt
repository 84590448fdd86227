-- Planning stage by stage, as the code goes through its checks: each refusal, and what is left when all are passed.
use Rattle.std.specs.Prelude.{ℕ, ◌≤◌, ◌<◌, ◌≡◌, List, ◌++◌, ℤ, length, drop, Err}
use Rattle.std.proofs.Common.{◌∙◌}
use Rattle.packed.specs.declared.Refusal.{Refusal}
use Rattle.packed.specs.Judge.{plainly, fine, refused, judge}
use Rattle.packed.specs.Packed.{count_of}
use Rattle.packed.specs.Refusals.{room_checks, order_checks}
use Rattle.area.specs.Area.{area, cleared}
use Rattle.area.specs.Clearing.{cleared-same}
use Rattle.judge.specs.Told.{stays, no_room, no-space, all-fine}
use Rattle.planner.specs.Calls.{Planned, plan_checks, plan_verdict, PlanCall}
use Rattle.planner.specs.Planning.{MadeIn}

module _ (bytes : List ℕ) (starts work : List ℤ) where
  -- A refusal changes no buffer.
  plan-refused : {r : Refusal} → plan_verdict bytes starts work ≡ refused r → PlanCall bytes starts work (Err r) starts work
  plan-refused e = record { answer = rw e; written = rw e; area = rw e }

  -- By the order's checks,
  pub plan-stopped : {r : Refusal} → judge (order_checks bytes) ≡ refused r → PlanCall bytes starts work (Err r) starts work
  unfolding plan_checks
  plan-stopped e =
      plan-refused
      (stays (order_checks bytes ++ room_checks (count_of bytes) (length starts)) (room_checks area (length work))
      (stays (order_checks bytes) (room_checks (count_of bytes) (length starts)) e))

  module _ (passed : judge (order_checks bytes) ≡ fine) where
    -- by the room for the starts,
    pub plan-no-room : length starts < count_of bytes → PlanCall bytes starts work (Err (plainly 10)) starts work
    unfolding plan_checks
    plan-no-room h = plan-refused (no_room (order_checks bytes) passed (count_of bytes) (length starts) area (length work) h)

    module _ (places : count_of bytes ≤ length starts) where
      -- or by the work area.
      pub plan-no-space : length work < area → PlanCall bytes starts work (Err (plainly 10)) starts work
      unfolding plan_checks
      plan-no-space h =
          plan-refused (no-space (order_checks bytes) passed (count_of bytes) (length starts) area (length work) places h)

      -- Past all of them it is planned, and the work area cleared.
      pub plan-done : {r : Planned} {written left : List ℤ} (filled : List ℤ) → area ≤ length work
          → MadeIn bytes starts r written → drop area filled ≡ drop area work → left ≡ cleared filled
          → PlanCall bytes starts work r written left
      unfolding plan_checks
      plan-done filled h made past c =
          let e = all-fine (order_checks bytes) passed (count_of bytes) (length starts) area (length work) places h in
          record {
            answer = rw e made.answer;
            written = rw e made.written;
            area = rw e (c ∙ cleared-same work filled past);
          }
