-- Writing stage by stage, as the code goes through its checks: each refusal, and the plan's bytes past all of them.
use Rattle.std.specs.Prelude.{ℕ, ◌/◌, ◌≤◌, ◌<◌, ◌≡◌, refl, ℤ, drop, Ok, Err}
use Rattle.std.proofs.Math.Path.{sym, ap₂}
use Rattle.std.proofs.Common.{ap, ◌∙◌, arith}
use mathlib.Core.List.{List, ◌++◌, append-nil}
use Rattle.std.proofs.Math.Option.{Option, none, some}
use Rattle.std.proofs.Math.ListN.{length}
use Rattle.plan.specs.Plan.{Answer, plan_answer}
use Rattle.packed.specs.declared.Refusal.{Refusal}
use Rattle.packed.specs.Judge.{plainly, Verdict, fine, refused, judge}
use Rattle.packed.specs.JudgeLaws.{stages-fine}
use Rattle.packed.specs.Packed.{count_of, order_of}
use Rattle.packed.specs.Refusals.{order_checks, room_checks}
use Rattle.packed.proofs.RefusalLaws.{room-fine}
use Rattle.packed.proofs.Accepted.{order-fine}
use Rattle.packed_plan.specs.Plan.{plan_bytes, pack_plan, starts_kept}
use Rattle.area.specs.Area.{area}
use Rattle.filling.specs.After.{work_by}
use Rattle.judge.specs.Told.{stays, told-next, no_room}
use Rattle.planner.specs.Calls.{Planned, plan_checks, plan_verdict, figures_of, planned_by, starts_by, PlanCall}
use Rattle.planner.specs.declared.Figures.{Figures}
use Rattle.plan_bytes.specs.Asks.{PlanRoom}
use Rattle.plan_writer.specs.Asks.{CanWrite}
use Rattle.plan_writer.specs.Calls.{plan_room, write_checks, write_verdict, bytes_for, written_by, out_by, WriteCall}
use Rattle.plan_writer.specs.Kept.{kept_append, none-behind}
use Rattle.plan_writer.specs.OwnPlans.{OwnPlan, own-plan, own-length}

module _ (order out : List ℕ) (work : List ℤ) where
  -- A refusal changes no buffer.
  write-refused : {r : Refusal} → write_verdict order out work ≡ refused r → WriteCall order out work (Err r) out work
  write-refused e = record { answer = rw e; written = rw e; area = rw e }

  -- By the order's checks,
  pub write-stopped : {r : Refusal} → judge (order_checks order) ≡ refused r → WriteCall order out work (Err r) out work
  unfolding write_checks
  write-stopped e =
      write-refused
      (stays (order_checks order ++ room_checks plan_room (length out)) (room_checks area (length work))
      (stays (order_checks order) (room_checks plan_room (length out)) e))

  -- or by the room for the longest plan.
  pub write-no-room : judge (order_checks order) ≡ fine → length out < plan_room
      → WriteCall order out work (Err (plainly 10)) out work
  unfolding write_checks
  write-no-room passed h = write-refused (no_room (order_checks order) passed plan_room (length out) area (length work) h)

  -- ---- past them, by the answer of planning over places that are left out

  module _ (starts : List ℤ) (can : CanWrite order out starts) where
    -- With room in a first buffer, the second decides.
    room-judged : (need room : ℕ) → need ≤ room
        → judge (order_checks order ++ room_checks need room ++ room_checks area (length work)) ≡ judge (room_checks area (length work))
    room-judged need room h =
        told-next (order_checks order ++ room_checks need room) (room_checks area (length work))
        ((stages-fine (order_checks order) (room_checks need room)).1 (can.passed, (room-fine need room).1 h))

    -- So the verdict is planning's.
    verdict-as-plan : write_verdict order out work ≡ plan_verdict order starts work
    unfolding write_checks plan_checks
    verdict-as-plan =
        let few : count_of order ≤ length starts = omega (arith, can.places.long, ((order-fine order).0 can.passed).header.few) in
        room-judged plan_room (length out) can.room ∙ sym (room-judged (count_of order) (length starts) few)

    module _ {p : Planned} {starts' work' : List ℤ} (call : PlanCall order starts work p starts' work') where
      area-is : work' ≡ work_by (write_verdict order out work) work
      area-is = call.area ∙ ap (λ (v : Verdict). work_by v work) (sym verdict-as-plan)

      -- Planning's refusal is handed on.
      pub write-handed-on : (r : Refusal) → p ≡ Err r → WriteCall order out work (Err r) out work'
      write-handed-on r e =
          go (write_verdict order out work) refl (plan_answer (order_of order)) refl
          (sym e ∙ call.answer ∙ ap (λ (v : Verdict). planned_by v (plan_answer (order_of order))) (sym verdict-as-plan))
        where
          go : (v : Verdict) → write_verdict order out work ≡ v → (o : Option Answer) → plan_answer (order_of order) ≡ o
              → Err r ≡ planned_by v o → WriteCall order out work (Err r) out work'
          go (refused s) d o is m =
              let same : r ≡ s = cc in
              record { answer = rw (d, same); written = rw d; area = area-is }
          go fine d none is m =
              let same : r ≡ plainly 11 = cc in
              record { answer = rw (d, is, same); written = rw (d, is); area = area-is }
          go fine d (some a) is m = let z : ◌≡◌ {A = ℕ} 0 1 = cc in absurd (omega arith)

      -- A plan that was made is the order's own.
      record Own (f : Figures) : Type 0 where
        answer : Answer
        is : plan_answer (order_of order) ≡ some answer
        passed : write_verdict order out work ≡ fine
        mask : f.mask ≡ answer.mask
        kept : starts_kept starts' ≡ starts_kept answer.starts

      own : (f : Figures) → p ≡ Ok f → Own f
      own f e = go (plan_verdict order starts work) refl (plan_answer (order_of order)) refl (sym e ∙ call.answer)
        where
          go : (v : Verdict) → plan_verdict order starts work ≡ v → (o : Option Answer) → plan_answer (order_of order) ≡ o
              → Ok f ≡ planned_by v o → Own f
          go (refused s) d o is m = let z : ◌≡◌ {A = ℕ} 0 1 = cc in absurd (omega arith)
          go fine d none is m = let z : ◌≡◌ {A = ℕ} 0 1 = cc in absurd (omega arith)
          go fine d (some a) is m =
              let same : f ≡ figures_of a = cc in
              let written : starts' ≡ a.starts ++ drop (length a.starts) starts =
              call.written ∙ ap₂ (λ (v : Verdict) (o : Option Answer). starts_by v o starts) d is in
              record {
                answer = a;
                is = is;
                passed = verdict-as-plan ∙ d;
                mask = ap (λ (g : Figures). g.mask) same;
                kept = ap starts_kept written ∙ kept_append a.starts (drop (length a.starts) starts)
                    ∙ ap (λ l. starts_kept a.starts ++ l) (none-behind (length a.starts) starts can.places.none)
                    ∙ append-nil (starts_kept a.starts);
              }

      module _ (f : Figures) (e : p ≡ Ok f) where
        made : Own f
        made = own f e

        plan-is : OwnPlan order made.answer
        plan-is = own-plan order can.passed made.answer made.is

        -- There is room for its mask and its starts,
        pub write-room : PlanRoom out (f.mask / 65536) (starts_kept starts')
        write-room =
            rw (made.mask, made.kept)
            (record {
              few = omega (arith, plan-is.many, plan-is.few);
              room = omega (arith, plan-is.many, plan-is.few, can.room);
              small = plan-is.small;
              timely = λ i h. plan-is.timely i;
            })

        -- and they are its bytes.
        bytes-are : pack_plan (f.mask / 65536) (starts_kept starts') ≡ bytes_for made.answer
        unfolding bytes_for
        bytes-are = ap₂ (λ (m : ℕ) (l : List ℤ). pack_plan (m / 65536) l) made.mask made.kept

        long : plan_bytes (length (starts_kept starts')) ≡ length (bytes_for made.answer)
        long = ap (λ (l : List ℤ). plan_bytes (length l)) made.kept ∙ ap plan_bytes plan-is.many ∙ sym (own-length plan-is)

        pub write_done : (n : ℕ) (out' : List ℕ) → n ≡ plan_bytes (length (starts_kept starts'))
            → out' ≡ pack_plan (f.mask / 65536) (starts_kept starts') ++ drop (plan_bytes (length (starts_kept starts'))) out
            → WriteCall order out work (Ok n) out' work'
        write_done n out' counts writes =
            record {
              answer = ap (λ (k : ℕ). Ok k) (counts ∙ long) ∙ sym (ap₂ written_by made.passed made.is);
              written = writes ∙ ap₂ (λ (b : List ℕ) (l : ℕ). b ++ drop l out) bytes-are long
                  ∙ sym (ap₂ (λ (v : Verdict) (o : Option Answer). out_by v o out) made.passed made.is);
              area = area-is;
            }
