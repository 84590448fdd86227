-- Planning halves stage by stage, as the code goes through its checks: each refusal, and planning's own answer past check 13.
use Rattle.std.specs.Prelude.{ℕ, ◌*◌, ◌<◌, ◌≡◌, List, ◌++◌, ℤ, length, Some, None, Ok, Err}
use Rattle.std.proofs.Math.Path.{refl, sym}
use Rattle.std.proofs.Common.{ap, ◌∙◌, arith, lt-ltb, le-ltb}
use Rattle.std.proofs.Math.Option.{Option, none, some, map}
use Rattle.seconds.specs.Limits.{seconds_per_weight}
use Rattle.order.specs.Job.{Job, Order}
use Rattle.order.specs.Choice.{lost_weight}
use Rattle.order.proofs.Runs.{ran}
use Rattle.order.specs.Halves.{seconds_lost}
use Rattle.order.proofs.HalvesLaws.{seconds-lost}
use Rattle.profile.specs.Profile.{start_point}
use Rattle.plan.specs.Plan.{Ended, plan, answer_of, plan_answer}
use Rattle.plan.proofs.PlanIs.{plan-is}
use Rattle.packed.specs.declared.Refusal.{Refusal}
use Rattle.packed.specs.Judge.{at_place, Check, Verdict as Judged, fine, refused, judge, or_else}
use Rattle.packed.specs.Places.{found_below}
use Rattle.packed.specs.PlacesLaws.{found-there, found-is, none-is}
use Rattle.packed.specs.JudgeLaws.{judge-append, stages-fine}
use Rattle.packed.specs.Packed.{count_of, t0_of, numbers_of, job_count, order_of, jobs_in}
use Rattle.packed.specs.Refusals.{first_offending, order_checks, halves_checks, room_checks}
use Rattle.packed.proofs.RefusalLaws.{halves-fine}
use Rattle.packed.proofs.Accepted.{order-fine}
use Rattle.fields.specs.Places.{jobs-whole}
use Rattle.area.specs.Area.{area}
use Rattle.filling.specs.After.{work_by}
use Rattle.judge.specs.Told.{stays, told-next}
use Rattle.planner.specs.Calls.{Planned, plan_checks, plan_verdict, figures_of, planned_by, starts_by, PlanCall}
use Rattle.planner.specs.Answers.{plan-fits}
use Rattle.halves.specs.Awaiting.{Light, seconds_added}
use Rattle.halves.specs.Calls.{plan_halves_checks, halves_verdict, lost_in, lost_seconds, with_seconds, plan_with, HalvesCall}

-- ---- check 13

-- By the place that was found.
pub offending-told : (zs : List ℤ) (place n : ℕ) → Some place ≡ found_below n (first_offending zs) → n ≡ job_count zs
    → refused (at_place 13 place) ≡ judge (halves_checks zs)
unfolding halves_checks
offending-told zs place n e c =
    let h : first_offending zs < n = found-is n (first_offending zs) e in
    let found : Some place ≡ Some (first_offending zs) = e ∙ sym (found-there n (first_offending zs) h) in
    let same : place ≡ first_offending zs = cc in
    let below : place < n = rw same h in
    rw (← same, ← c, lt-ltb place n below)

pub none_told : (zs : List ℤ) (n : ℕ) → None ≡ found_below n (first_offending zs) → n ≡ job_count zs → fine ≡ judge (halves_checks zs)
unfolding halves_checks
none_told zs n e c = rw (← c, le-ltb (first_offending zs) n (none-is n (first_offending zs) e))

-- ---- the seconds lost

-- Past check 13 the plan loses 60 seconds for each weight lost.
pub lost-sixty : (bytes : List ℕ) → judge (halves_checks (numbers_of bytes)) ≡ fine → (e : Ended)
    → plan (order_of bytes).t0 (order_of bytes).jobs ≡ some e
    → seconds_lost (order_of bytes).jobs e.choice ≡ seconds_per_weight * lost_weight (order_of bytes).jobs e.choice
unfolding order_of
lost-sixty bytes passed e is =
    let t = t0_of bytes in
    let halves = (halves-fine (numbers_of bytes)).0 passed in
    let ran-so = ran (jobs_in bytes) e.choice (start_point t) ((plan-is t (jobs_in bytes) e).0 is).feasible in
    seconds-lost (jobs_in bytes) e.choice t
    (λ k j s. record { whole = jobs-whole bytes k s; takes = (halves k j s).takes }) ran-so.can

-- ---- the call

module _ (bytes : List ℕ) (starts work : List ℤ) where
  abbrev judged : List Check
  judged = order_checks bytes ++ halves_checks (numbers_of bytes)

  -- A refusal changes no buffer.
  halves-refused : {r : Refusal} → halves_verdict bytes starts work ≡ refused r → HalvesCall bytes starts work (Err r) starts work
  halves-refused e = record { answer = rw e; written = rw e; area = rw e }

  -- By the checks of the order and by 13.
  pub halves-stopped : {r : Refusal} → judge judged ≡ refused r → HalvesCall bytes starts work (Err r) starts work
  unfolding plan_halves_checks
  halves-stopped e =
      halves-refused
      (stays (judged ++ room_checks (count_of bytes) (length starts)) (room_checks area (length work))
      (stays judged (room_checks (count_of bytes) (length starts)) e))

  -- The rooms are judged alike behind whatever is passed.
  rooms-judged : (cs : List Check) → judge cs ≡ fine
      → judge (cs ++ room_checks (count_of bytes) (length starts) ++ room_checks area (length work))
      ≡ or_else (judge (room_checks (count_of bytes) (length starts))) (judge (room_checks area (length work)))
  rooms-judged cs e =
      let places = room_checks (count_of bytes) (length starts) in
      judge-append (cs ++ places) (room_checks area (length work))
      ∙ ap (λ (v : Judged). or_else v (judge (room_checks area (length work)))) (told-next cs places e)

  module _ (order : judge (order_checks bytes) ≡ fine) (halves : judge (halves_checks (numbers_of bytes)) ≡ fine) where
    -- So past 13 the verdict is planning's.
    pub verdict-as-plan : halves_verdict bytes starts work ≡ plan_verdict bytes starts work
    unfolding plan_halves_checks plan_checks
    verdict-as-plan =
        rooms-judged judged ((stages-fine (order_checks bytes) (halves_checks (numbers_of bytes))).1 (order, halves))
        ∙ sym (rooms-judged (order_checks bytes) order)

    module _ {r : Planned} {starts' work' : List ℤ} (call : PlanCall bytes starts work r starts' work') where
      -- A plan's weights are those of the order,
      pub plan-light : Light r
      unfolding order_of
      plan-light = go r refl
        where
          go : (p : Planned) → r ≡ p → Light p
          go (Err s) e = tt
          go (Ok f) e =
              omega (arith, (plan-fits bytes starts work call f e).weights, ((order-fine bytes).0 order).light)

      -- and with the seconds added its answer is that of planning halves.
      pub halves-done : HalvesCall bytes starts work (seconds_added r) starts' work'
      halves-done =
          record {
            answer = ap seconds_added call.answer ∙ added (plan_verdict bytes starts work) (plan t js) refl
                ∙ ap (λ (v : Judged). with_seconds (lost_seconds o) (planned_by v (plan_answer o))) (sym verdict-as-plan);
            written = call.written ∙ ap (λ (v : Judged). starts_by v (plan_answer o) starts) (sym verdict-as-plan);
            area = call.area ∙ ap (λ (v : Judged). work_by v work) (sym verdict-as-plan);
          }
        where
          o : Order
          o = order_of bytes

          t : ℤ
          t = o.t0

          js : List Job
          js = o.jobs

          added : (v : Judged) (m : Option Ended) → plan t js ≡ m
              → seconds_added (planned_by v (map (answer_of t js) m))
              ≡ with_seconds (lost_in o m) (planned_by v (map (answer_of t js) m))
          added (refused s) m e = refl
          added fine none e = refl
          added fine (some e) is =
              ap (λ (s : ℕ). Ok (plan_with (figures_of (answer_of t js e)) s)) (sym (lost-sixty bytes halves e is))
