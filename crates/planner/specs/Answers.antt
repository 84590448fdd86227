-- What the answers of planning say (R8, R26): their numbers, what refusals name, when 6 and 11 are given, and how the figures of
-- a plan fit together and with the list of jobs kept.
use Rattle.std.specs.Prelude.{ℕ, ◌+◌, ◌≤◌, ◌≡◌, false, ◌↔◌, ◌≢◌, List, ◌++◌, ℤ, pos, length, Ok}
use Rattle.std.proofs.Math.Path.{refl, sym}
use Rattle.std.proofs.Common.{ap, ◌∙◌, arith}
use Rattle.std.proofs.Math.Logic.Iff
use Rattle.std.proofs.Math.Option.{Option, none, some, map-eq-none_iff, map-eq-some_iff}
use Rattle.std.specs.Int.Count.{ones}
use Rattle.seconds.specs.Limits.{most_jobs}
use Rattle.order.specs.Job.{Job, weight_of}
use Rattle.order.specs.Choice.{Choice, feasible, lost_weight, mask, number_kept}
use Rattle.order.proofs.Runs.{run_length}
use Rattle.profile.specs.Profile.{start_point, point_total}
use Rattle.plan.specs.Plan.{Ended, plan, Answer, answer_of, plan_answer}
use Rattle.plan.proofs.PlanIs.{plan-none, plan-is}
use Rattle.plan.proofs.Figures.{answer-figures}
use Rattle.packed.specs.declared.Refusal.{Refusal}
use Rattle.packed.specs.Judge.{in_field, plainly, no_refusal, Verdict, fine, refused, judge}
use Rattle.packed.specs.JudgeLaws.{judge-append, never, stages-fine}
use Rattle.packed.specs.Packed.{count_of, numbers_of, order_of}
use Rattle.packed.specs.Refusals.{header_checks, job_checks, weight_checks, room_checks, order_checks}
use Rattle.packed.proofs.RefusalLaws.{room-fine}
use Rattle.packed.proofs.Accepted.{order-fine, order-within}
use Rattle.packed.proofs.RefusalPlaces.{BadField, RefusalIs, nowhere, SixIs, six-order, answer-refusal, answer-says}
use Rattle.area.specs.Area.{area}
use Rattle.judge.specs.Told.{Named, named-rooms, named-order, six-rooms}
use Rattle.starting.specs.Picks.{jobs_kept}
use Rattle.starting.specs.PicksLaws.{kept-list}
use Rattle.planner.specs.Calls.{Planned, plan_checks, plan_verdict, figures_of, planned_by, planned_of, PlanCall}
use Rattle.planner.specs.Calls.{PlanNumbers, plan_numbers}
use Rattle.planner.specs.declared.Figures.{Figures}

-- ---- the answer in numbers

-- A refusal: all but its own numbers is 0.
abbrev pub refused_with : Refusal → PlanNumbers
refused_with r =
    record { refusal = r; mask = 0; kept = 0; kept_weight = 0; lost_weight = 0; finish = pos 0; points = 0 }

-- A plan of some jobs with the bus free at a time, by the choice that it makes and the point that it ends in.
abbrev pub planned_with : ℤ → List Job → Ended → PlanNumbers
planned_with t js e =
    record {
      refusal = no_refusal;
      mask = mask e.choice;
      kept = number_kept e.choice;
      kept_weight = e.end.weight;
      lost_weight = lost_weight js e.choice;
      finish = e.end.time;
      points = point_total t js;
    }

module _ (bytes : List ℕ) (starts work : List ℤ) where
  abbrev t0 : ℤ
  t0 = (order_of bytes).t0

  abbrev jobs : List Job
  jobs = (order_of bytes).jobs

  -- Refused by a check: what the first that applies says.
  pub refused_says : {r : Refusal} → plan_verdict bytes starts work ≡ refused r
      → plan_numbers (planned_of bytes starts work) ≡ refused_with r
  refused_says e = rw e

  -- Past the checks: 11 where there is no plan,
  pub no-plan-says : plan_verdict bytes starts work ≡ fine → plan t0 jobs ≡ none
      → plan_numbers (planned_of bytes starts work) ≡ refused_with (plainly 11)
  no-plan-says e is = rw (e, is)

  -- else the numbers of the plan.
  pub plan-says : (e : Ended) → plan_verdict bytes starts work ≡ fine → plan t0 jobs ≡ some e
      → plan_numbers (planned_of bytes starts work) ≡ planned_with t0 jobs e
  plan-says e passed is = rw (passed, is)

  -- The checks are passed exactly when the order is accepted and there is room for the starts and the work area.
  pub plan-passed : plan_verdict bytes starts work ≡ fine
      ↔ ((judge (order_checks bytes) ≡ fine) × (count_of bytes ≤ length starts) × (area ≤ length work))
  unfolding plan_checks
  plan-passed =
      let places = room_checks (count_of bytes) (length starts) in
      let all = stages-fine (order_checks bytes ++ places) (room_checks area (length work)) in
      let first = stages-fine (order_checks bytes) places in
      let room = room-fine (count_of bytes) (length starts) in
      let longest = room-fine area (length work) in (
        λ e. ((first.0 (all.0 e).0).0, room.0 (first.0 (all.0 e).0).1, longest.0 (all.0 e).1),
        λ h. all.1 (first.1 (h.0, room.1 h.1), longest.1 h.2),
      )

  -- With room for every order's starts and for the work area the verdict is the one on the order.
  pub plan-roomy : most_jobs ≤ length starts → area ≤ length work → plan_verdict bytes starts work ≡ judge (order_checks bytes)
  unfolding plan_checks
  plan-roomy places space = go (judge (order_checks bytes)) refl
    where
      go : (v : Verdict) → judge (order_checks bytes) ≡ v → plan_verdict bytes starts work ≡ judge (order_checks bytes)
      go fine e = plan-passed.1 (e, omega (arith, ((order-fine bytes).0 e).header.few), space) ∙ sym e
      go (refused r) e =
          rw (
            judge-append (order_checks bytes ++ room_checks (count_of bytes) (length starts)) (room_checks area (length work)),
            judge-append (order_checks bytes) (room_checks (count_of bytes) (length starts)),
            e,
          )

  -- None of them gives 11.
  pub plan-other : {r : Refusal} → plan_verdict bytes starts work ≡ refused r → r.number ≢ 11
  unfolding plan_checks header_checks job_checks weight_checks
  plan-other = never 11 (plan_checks bytes starts work) tt

  -- Nor 13.
  pub plan-no-thirteen : {r : Refusal} → plan_verdict bytes starts work ≡ refused r → r.number ≢ 13
  unfolding plan_checks header_checks job_checks weight_checks
  plan-no-thirteen = never 13 (plan_checks bytes starts work) tt

  -- They name a place with 6 and 7, and a field with 6;
  plan-named : Named (numbers_of bytes) (plan_checks bytes starts work)
  unfolding plan_checks
  plan-named =
      named-rooms (numbers_of bytes) (order_checks bytes) (count_of bytes) (length starts) area (length work) (named-order bytes)

  -- 6 is given with 1 to 5 passed and a job out of range.
  plan-checks-six : SixIs (numbers_of bytes) (header_checks bytes) (plan_checks bytes starts work)
  unfolding plan_checks
  plan-checks-six =
      six-rooms (numbers_of bytes) (header_checks bytes) (order_checks bytes) (count_of bytes) (length starts) area (length work)
      (six-order bytes)

  -- What is told by a verdict; past the checks it is 11 or nothing.
  abbrev pub told : Verdict → Refusal
  told v = (plan_numbers (planned_by v (plan_answer (order_of bytes)))).refusal

  pub passed-told : RefusalIs (numbers_of bytes) (told fine) × ((n : ℕ) → n ≢ 11 → n ≢ 0 → (told fine).number ≢ n)
  passed-told = go (plan_answer (order_of bytes))
    where
      go : (o : Option Answer) → let r = (plan_numbers (planned_by fine o)).refusal in
          RefusalIs (numbers_of bytes) r × ((n : ℕ) → n ≢ 11 → n ≢ 0 → r.number ≢ n)
      go none = (nowhere {n = 11} refl, λ n eleven zero e. eleven (sym e))
      go (some a) = (nowhere {n = 0} refl, λ n eleven zero e. zero (sym e))

  -- So the answer's refusal names what it should,
  pub plan-refusal : RefusalIs (numbers_of bytes) (told (plan_verdict bytes starts work))
  plan-refusal =
      answer-refusal (numbers_of bytes) told (λ r. refl) passed-told.0 (plan_verdict bytes starts work) plan-named

  -- and 6 is given with a place and a field exactly when 1 to 5 are passed, the first job out of range is there, and that is its
  -- first field that is.
  pub plan-six : (p f : ℕ) → told (plan_verdict bytes starts work) ≡ in_field 6 p f
      ↔ ((judge (header_checks bytes) ≡ fine) × BadField (numbers_of bytes) p f)
  plan-six p f =
      let other : (told fine).number ≢ 6 = passed-told.1 6 (λ e. omega arith) (λ e. omega arith) in
      Iff.trans
      (answer-says (numbers_of bytes) told (λ r. refl) passed-told.0 (in_field 6 p f) other (plan_verdict bytes starts work))
      (plan-checks-six p f)

-- ---- refusal 11

-- The order is accepted, there is room, and no choice of its jobs is feasible: none holds every critical job in its window.
pub record NoneFeasible (bytes : List ℕ) (starts work : List ℤ) : Type 0 where
  pub order : judge (order_checks bytes) ≡ fine
  pub places : count_of bytes ≤ length starts
  pub work-room : area ≤ length work
  pub none : (c : Choice) → feasible (order_of bytes).jobs c (order_of bytes).t0 ≡ false

module _ (bytes : List ℕ) (starts work : List ℤ) {r : Planned} {starts' work' : List ℤ}
    (call : PlanCall bytes starts work r starts' work') where
  -- Every outcome that the contract allows has refusal 11 exactly then.
  pub plan-eleven : (plan_numbers r).refusal.number ≡ 11 ↔ NoneFeasible bytes starts work
  plan-eleven =
      (λ e. there (plan_verdict bytes starts work) refl (plan_answer (order_of bytes)) refl (ap number (sym call.answer) ∙ e), back)
    where
      number : Planned → ℕ
      number a = (plan_numbers a).refusal.number

      -- No answer is no plan, which is no feasible choice.
      without : (plan_answer (order_of bytes) ≡ none) ↔ ((c : Choice) → feasible (order_of bytes).jobs c (order_of bytes).t0 ≡ false)
      without =
          let o = order_of bytes in
          let mapped = map-eq-none_iff (answer_of o.t0 o.jobs) (plan o.t0 o.jobs) in
          let is = plan-none o.t0 o.jobs in
          (λ e. is.0 (mapped.0 e), λ h. mapped.1 (is.1 h))

      there : (v : Verdict) → plan_verdict bytes starts work ≡ v → (o : Option Answer) → plan_answer (order_of bytes) ≡ o
          → (plan_numbers (planned_by v o)).refusal.number ≡ 11 → NoneFeasible bytes starts work
      there fine d none is e =
          let passed = (plan-passed bytes starts work).0 d in
          record { order = passed.0; places = passed.1; work-room = passed.2; none = without.0 is }
      there fine d (some a) is e = absurd (omega arith)
      there (refused r) d o is e = absurd (plan-other bytes starts work d e)

      back : NoneFeasible bytes starts work → (plan_numbers r).refusal.number ≡ 11
      back h =
          ap number call.answer ∙ rw ((plan-passed bytes starts work).1 (h.order, h.places, h.work-room), without.1 h.none)

-- ---- a plan's figures

-- The figures of a plan that was made: they are those of the order's plan, the ones of the mask are as many as the list of jobs
-- kept is long, which is the number kept, and the weights kept and lost are all weights.
pub record Fitting (bytes : List ℕ) (f : Figures) : Type 0 where
  pub best : Ended
  pub is : plan (order_of bytes).t0 (order_of bytes).jobs ≡ some best
  pub marks : ones f.mask ≡ length (jobs_kept (order_of bytes).jobs best.choice)
  pub kept : f.kept ≡ length (jobs_kept (order_of bytes).jobs best.choice)
  pub weights : f.kept_weight + f.lost_weight ≡ weight_of (order_of bytes).jobs

-- The answer of an order's plan has such figures,
answer-fits : (bytes : List ℕ) (a : Answer) → judge (order_checks bytes) ≡ fine → plan_answer (order_of bytes) ≡ some a
    → Fitting bytes (figures_of a)
answer-fits bytes a accepted is =
    let o = order_of bytes in
    let made = (map-eq-some_iff (answer_of o.t0 o.jobs) (plan o.t0 o.jobs)).0 is in
    let fits = answer-figures o a is (order-within bytes accepted) in
    let e : Ended = made.0 in
    let same : answer_of o.t0 o.jobs e ≡ a = made.2 in
    let long = run_length o.jobs e.choice (start_point o.t0) ((plan-is o.t0 o.jobs e).0 made.1).feasible in
    let list : a.kept ≡ length (jobs_kept o.jobs e.choice) =
    ap (λ (b : Answer). b.kept) (sym same) ∙ kept-list o.jobs e.choice long in
    record { best = e; is = made.1; marks = sym fits.kept ∙ list; kept = list; weights = fits.weights }

-- and so has every outcome that the contract allows in which a plan is made.
pub plan-fits : (bytes : List ℕ) (starts work : List ℤ) {r : Planned} {starts' work' : List ℤ}
    → PlanCall bytes starts work r starts' work' → (f : Figures) → r ≡ Ok f → Fitting bytes f
plan-fits bytes starts work call f m =
    go (plan_verdict bytes starts work) refl (plan_answer (order_of bytes)) refl (sym call.answer ∙ m)
  where
    go : (v : Verdict) → plan_verdict bytes starts work ≡ v → (o : Option Answer) → plan_answer (order_of bytes) ≡ o
        → planned_by v o ≡ Ok f → Fitting bytes f
    go fine v (some a) is m =
        let same : figures_of a ≡ f = cc in
        rw (← same) (answer-fits bytes a ((plan-passed bytes starts work).0 v).0 is)
    go fine v none is m = let z : ◌≡◌ {A = ℕ} 0 1 = cc in absurd (omega arith)
    go (refused r) v o is m = let z : ◌≡◌ {A = ℕ} 0 1 = cc in absurd (omega arith)
