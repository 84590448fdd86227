-- What the answers of planning halves say: 13 exactly when a place offends, with the first such place; else planning's own answer
-- and buffers; 11 exactly when nothing is feasible; and the optional seconds lost, 60 for each weight lost.
use Rattle.std.specs.Prelude.{ℕ, ◌*◌, ◌<◌, ◌≡◌, true, ◌↔◌, ◌≢◌, ◌⊎◌, ltb, length, Ok, Err}
use Rattle.std.proofs.Math.Path.{refl, sym, ap}
use Rattle.std.proofs.Common.{◌∙◌, true≢false, inl, inr, ⊎_elim, arith, ltb-true, ltb-false, lt-ltb}
use Rattle.std.proofs.Math.Logic.Iff
use mathlib.Core.List.{List, ◌++◌}
use Rattle.std.proofs.Math.Option.{Option, none, some, map}
use Rattle.std.proofs.Math.IntN.{ℤ}
use borrow.Table.Steps.{cases}
use Rattle.seconds.specs.Limits.{seconds_per_weight}
use Rattle.order.specs.Job.{Job, Order}
use Rattle.order.specs.Halves.{offends_at, seconds_lost}
use Rattle.order.proofs.HalvesLaws.{Offends, offends-is, offends-below, OfHalves, of-halves}
use Rattle.plan.specs.Plan.{Ended, plan, answer_of, plan_answer}
use Rattle.packed.specs.declared.Refusal.{Refusal}
use Rattle.packed.specs.Judge.{in_field, at_place, plainly, Check, Verdict, fine, refused, judge}
use Rattle.packed.specs.JudgeLaws.{stages-fine, refused-fine, refused-same, judge-tells}
use Rattle.packed.specs.Packed.{count_of, numbers_of, job_count, order_of, jobs_in}
use Rattle.packed.proofs.PackedLaws.{numbers-count}
use Rattle.packed.specs.PlacesLaws.{IsFirst, first-unique}
use Rattle.packed.specs.Refusals.{first_offending, header_checks, order_checks, halves_checks, room_checks}
use Rattle.packed.proofs.RefusalLaws.{offending-is-first, halves-fine}
use Rattle.packed.proofs.RefusalPlaces.{BadField, RefusalIs, bad, repeated, offending, nowhere, halves-tell}
use Rattle.packed.proofs.RefusalPlaces.{SixIs, six-behind, six-order, answer-refusal, answer-says}
use Rattle.fields.specs.Places.{jobs-count}
use Rattle.area.specs.Area.{area}
use Rattle.filling.specs.After.{work_by}
use Rattle.judge.specs.Told.{stays, told-next, Named, holds-behind, named-rooms, named-order, six-rooms}
use Rattle.planner.specs.Calls.{plan_checks, plan_verdict, planned_by, starts_by, planned_of, starts_after, plan_work_after, PlanCall}
use Rattle.planner.specs.Calls.{Planned, PlanNumbers, plan_numbers}
use Rattle.planner.specs.Answers.{refused_with, planned_with, told, passed-told, NoneFeasible, plan-no-thirteen, plan-eleven}
use Rattle.halves.specs.Calls.{plan_halves_checks, halves_verdict, lost_in, lost_seconds, with_seconds, halves_of, HalvesCall}
use Rattle.halves.specs.Calls.{HalvesPlanned, halves_numbers}
use Rattle.halves.proofs.CallLaws.{lost-sixty, verdict-as-plan}

-- ---- check 13

module _ (bytes : List ℕ) where
  abbrev t0 : ℤ
  t0 = (order_of bytes).t0

  abbrev jobs : List Job
  jobs = (order_of bytes).jobs

  -- The order is accepted by 1 to 9, and the place is the first that offends.
  pub record FirstOffends (p : ℕ) : Type 0 where
    pub order : judge (order_checks bytes) ≡ fine
    pub offends : Offends jobs p
    pub before : (k : ℕ) → k < p → ¬ Offends jobs k

  -- Check 13 says so.
  check-thirteen : (p : ℕ) → judge (halves_checks (numbers_of bytes)) ≡ refused (at_place 13 p)
      ↔ (Offends jobs p × ((k : ℕ) → k < p → ¬ Offends jobs k))
  unfolding halves_checks order_of
  check-thirteen p = (there, back)
    where
      zs : List ℤ
      zs = numbers_of bytes

      n : ℕ
      n = job_count zs

      f : IsFirst (offends_at (jobs_in bytes)) 0 n (first_offending zs)
      f = offending-is-first zs

      there : judge (halves_checks zs) ≡ refused (at_place 13 p) → Offends (jobs_in bytes) p × ((k : ℕ) → k < p → ¬ Offends (jobs_in bytes) k)
      there e = cases (ltb (first_offending zs) n)
          (λ b. let told : refused (at_place 13 (first_offending zs)) ≡ refused (at_place 13 p) = rw b at e in
          let here : first_offending zs ≡ p = ap (λ (r : Refusal). r.place) (refused-same told) in
          rw (← here) (
            (offends-is (jobs_in bytes) (first_offending zs)).0 (f.passes (ltb-true _ _ b)),
            λ k h o. true≢false (sym ((offends-is (jobs_in bytes) k).1 o) ∙ f.before k (omega arith) h),
          ))
          (λ b. absurd (refused-fine (sym (rw b at e))))

      back : Offends (jobs_in bytes) p × ((k : ℕ) → k < p → ¬ Offends (jobs_in bytes) k) → judge (halves_checks zs) ≡ refused (at_place 13 p)
      back h =
          let yes : offends_at (jobs_in bytes) p ≡ true = (offends-is (jobs_in bytes) p).1 h.0 in
          let within : p < n = cases (ltb p n) (λ b. ltb-true p n b)
          (λ b. absurd (true≢false (sym yes ∙ offends-below (jobs_in bytes) p (omega (arith, jobs-count bytes, numbers-count bytes, ltb-false p n b))))) in
          let same : first_offending zs ≡ p =
          first-unique (offends_at (jobs_in bytes)) 0 n (first_offending zs) p f
          (record {
            from = omega arith;
            to = omega arith;
            passes = λ b. yes;
            before = λ k a b. cases (offends_at (jobs_in bytes) k) (λ y. absurd (h.1 k b ((offends-is (jobs_in bytes) k).0 y))) (λ e. e);
          }) in
          rw (same, lt-ltb p n within)

-- It has no other number.
only-thirteen : (zs : List ℤ) {r : Refusal} → judge (halves_checks zs) ≡ refused r
    → judge (halves_checks zs) ≡ refused (at_place 13 r.place)
unfolding halves_checks
only-thirteen zs {r} e =
    e ∙ ap refused (judge-tells (λ (s : Refusal). s ≡ at_place 13 s.place) (halves_checks zs) ((λ h. refl), tt) e)

-- ---- the answer in numbers

-- Planning's numbers stay, whatever the seconds.
seconds-beside : (s : ℕ) (p : Planned) → (halves_numbers (with_seconds s p)).plan ≡ plan_numbers p
seconds-beside s (Err r) = refl
seconds-beside s (Ok f) = refl

module _ (bytes : List ℕ) (starts work : List ℤ) where
  -- Refused by a check: what the first that applies says, and no seconds.
  pub refused_says : {r : Refusal} → halves_verdict bytes starts work ≡ refused r
      → halves_numbers (halves_of bytes starts work) ≡ record { plan = refused_with r; seconds_lost = 0 }
  refused_says e = rw e

  -- Past the checks: 11 where there is no plan,
  pub no-plan-says : halves_verdict bytes starts work ≡ fine → plan (t0 bytes) (jobs bytes) ≡ none
      → halves_numbers (halves_of bytes starts work) ≡ record { plan = refused_with (plainly 11); seconds_lost = 0 }
  no-plan-says e is = rw (e, is)

  -- else the numbers of the plan, and the seconds that it loses.
  pub plan-says : (e : Ended) → halves_verdict bytes starts work ≡ fine → plan (t0 bytes) (jobs bytes) ≡ some e
      → halves_numbers (halves_of bytes starts work)
      ≡ record { plan = planned_with (t0 bytes) (jobs bytes) e; seconds_lost = seconds_lost (jobs bytes) e.choice }
  plan-says e passed is = rw (passed, is)

  -- The stages of its checks: the order's own, 13, and the two rooms.
  abbrev order : List Check
  order = order_checks bytes

  abbrev halves : List Check
  halves = halves_checks (numbers_of bytes)

  abbrev places : List Check
  places = room_checks (count_of bytes) (length starts)

  abbrev space : List Check
  space = room_checks area (length work)

  -- Past all checks 13 is passed too.
  passed-halves : halves_verdict bytes starts work ≡ fine → judge halves ≡ fine
  unfolding plan_halves_checks
  passed-halves e =
      let rooms = (stages-fine (order ++ halves ++ places) space).0 e in
      ((stages-fine order halves).0 ((stages-fine (order ++ halves) places).0 rooms.0).0).1

  -- Refused by the order's own checks, the verdict is planning's; past them, refused by 13, it is that.
  stopped-early : {r : Refusal} → judge order ≡ refused r → halves_verdict bytes starts work ≡ plan_verdict bytes starts work
  unfolding plan_halves_checks plan_checks
  stopped-early e =
      stays (order ++ halves ++ places) space (stays (order ++ halves) places (stays order halves e))
      ∙ sym (stays (order ++ places) space (stays order places e))

  stopped-by-thirteen : {r : Refusal} → judge order ≡ fine → judge halves ≡ refused r → halves_verdict bytes starts work ≡ refused r
  unfolding plan_halves_checks
  stopped-by-thirteen e f =
      stays (order ++ halves ++ places) space (stays (order ++ halves) places (told-next order halves e ∙ f))

  -- So the verdict is planning's, or the order is accepted and check 13 refuses it.
  either-verdict : (halves_verdict bytes starts work ≡ plan_verdict bytes starts work)
      ⊎ ((judge order ≡ fine) × ((p : ℕ) × (judge halves ≡ refused (at_place 13 p))))
  either-verdict = go (judge order) refl (judge halves) refl
    where
      go : (v : Verdict) → judge order ≡ v → (w : Verdict) → judge halves ≡ w
          → (halves_verdict bytes starts work ≡ plan_verdict bytes starts work)
          ⊎ ((judge order ≡ fine) × ((p : ℕ) × (judge halves ≡ refused (at_place 13 p))))
      go (refused r) e w f = inl (stopped-early e)
      go fine e fine f = inl (verdict-as-plan bytes starts work e f)
      go fine e (refused r) f = inr (e, (r.place, only-thirteen (numbers_of bytes) f))

  -- It is 13 exactly then.
  verdict-thirteen : {p : ℕ} → halves_verdict bytes starts work ≡ refused (at_place 13 p)
      ↔ ((judge order ≡ fine) × (judge halves ≡ refused (at_place 13 p)))
  verdict-thirteen {p} = (λ e. there e either-verdict, λ h. stopped-by-thirteen h.0 h.1)
    where
      there : halves_verdict bytes starts work ≡ refused (at_place 13 p)
          → (halves_verdict bytes starts work ≡ plan_verdict bytes starts work)
          ⊎ ((judge order ≡ fine) × ((q : ℕ) × (judge halves ≡ refused (at_place 13 q))))
          → (judge order ≡ fine) × (judge halves ≡ refused (at_place 13 p))
      there e (inl same) = absurd (plan-no-thirteen bytes starts work (sym same ∙ e) refl)
      there e (inr h) = (h.0, h.1.1 ∙ sym (stopped-by-thirteen h.0 h.1.1) ∙ e)

  -- Every refusal by the checks names what it should.
  halves-named : Named (numbers_of bytes) (plan_halves_checks bytes starts work)
  unfolding plan_halves_checks
  halves-named =
      let zs = numbers_of bytes in
      named-rooms zs (order ++ halves) (count_of bytes) (length starts) area (length work)
      (holds-behind (RefusalIs zs) order halves (named-order bytes) (λ r. judge-tells (RefusalIs zs) halves (halves-tell zs)))

  -- 6 is given with 1 to 5 passed and a job out of range.
  halves-checks-six : SixIs (numbers_of bytes) (header_checks bytes) (plan_halves_checks bytes starts work)
  unfolding plan_halves_checks halves_checks
  halves-checks-six =
      let zs = numbers_of bytes in
      six-rooms zs (header_checks bytes) (order ++ halves) (count_of bytes) (length starts) area (length work)
      (six-behind zs (header_checks bytes) order halves tt (six-order bytes))

-- ---- every outcome that the contract allows

module _ (bytes : List ℕ) (starts work : List ℤ) {r : HalvesPlanned} {starts' work' : List ℤ}
    (call : HalvesCall bytes starts work r starts' work') where
  -- The refusal of the answer is what planning tells by the verdict.
  refusal-told : (halves_numbers r).plan.refusal ≡ told bytes starts work (halves_verdict bytes starts work)
  refusal-told =
      ap (λ (h : HalvesPlanned). (halves_numbers h).plan.refusal) call.answer
      ∙ ap (λ (n : PlanNumbers). n.refusal)
      (seconds-beside (lost_seconds (order_of bytes)) (planned_by (halves_verdict bytes starts work) (plan_answer (order_of bytes))))

  -- It names what it should,
  pub halves-refusal : RefusalIs (numbers_of bytes) (halves_numbers r).plan.refusal
  halves-refusal =
      rw refusal-told
      (answer-refusal (numbers_of bytes) (told bytes starts work) (λ s. refl) (passed-told bytes starts work).0
      (halves_verdict bytes starts work) (halves-named bytes starts work))

  -- and is one that planning never tells past its checks exactly when the verdict is.
  answer-is : (s : Refusal) → s.number ≢ 11 → s.number ≢ 0
      → (halves_numbers r).plan.refusal ≡ s ↔ (halves_verdict bytes starts work ≡ refused s)
  answer-is s eleven zero =
      rw refusal-told
      (answer-says (numbers_of bytes) (told bytes starts work) (λ t. refl) (passed-told bytes starts work).0 s
      ((passed-told bytes starts work).1 s.number eleven zero) (halves_verdict bytes starts work))

  answer-thirteen : (p : ℕ) → (halves_numbers r).plan.refusal ≡ at_place 13 p ↔ (halves_verdict bytes starts work ≡ refused (at_place 13 p))
  answer-thirteen p = answer-is (at_place 13 p) (λ e. omega arith) (λ e. omega arith)

  -- 6 with a place and a field exactly when 1 to 5 are passed, the first job out of range is there, and that is its first field
  -- that is.
  pub halves-six : (p f : ℕ) → (halves_numbers r).plan.refusal ≡ in_field 6 p f
      ↔ ((judge (header_checks bytes) ≡ fine) × BadField (numbers_of bytes) p f)
  halves-six p f =
      Iff.trans (answer-is (in_field 6 p f) (λ e. omega arith) (λ e. omega arith)) (halves-checks-six bytes starts work p f)

  -- 13 with a place exactly when the order is accepted by 1 to 9 and that place is the first that offends, whatever the buffers.
  pub thirteen : (p : ℕ) → (halves_numbers r).plan.refusal ≡ at_place 13 p ↔ FirstOffends bytes p
  thirteen p = (there, back)
    where
      there : (halves_numbers r).plan.refusal ≡ at_place 13 p → FirstOffends bytes p
      there h =
          let v = (verdict-thirteen bytes starts work).0 ((answer-thirteen p).0 h) in
          let c = (check-thirteen bytes p).0 v.1 in
          record { order = v.0; offends = c.0; before = c.1 }

      back : FirstOffends bytes p → (halves_numbers r).plan.refusal ≡ at_place 13 p
      back h =
          (answer-thirteen p).1
          ((verdict-thirteen bytes starts work).1 (h.order, (check-thirteen bytes p).1 (h.offends, h.before)))

  -- It always has a place.
  thirteen-at : (halves_numbers r).plan.refusal.number ≡ 13
      → (halves_numbers r).plan.refusal ≡ at_place 13 (halves_numbers r).plan.refusal.place
  thirteen-at = has-place halves-refusal
    where
      has-place : {s : Refusal} → RefusalIs (numbers_of bytes) s → s.number ≡ 13 → s ≡ at_place 13 s.place
      has-place (bad b) e = absurd (omega arith)
      has-place (repeated i l) e = absurd (omega arith)
      has-place (offending i l) e = refl
      has-place (nowhere h) e = absurd (true≢false (rw e at h))

  -- So it is never given for an order of halves,
  pub halves-never-thirteen : OfHalves (jobs bytes) → (halves_numbers r).plan.refusal.number ≢ 13
  halves-never-thirteen h e =
      let o = ((thirteen (halves_numbers r).plan.refusal.place).0 (thirteen-at e)).offends in
      true≢false (sym ((offends-is _ _).1 o) ∙ (of-halves (jobs bytes)).0 h _)

  -- and always for any other order that passes 1 to 9.
  pub others-thirteen : judge (order_checks bytes) ≡ fine → ¬ OfHalves (jobs bytes) → (halves_numbers r).plan.refusal.number ≡ 13
  unfolding order_of
  others-thirteen accepted other = go (judge (halves_checks (numbers_of bytes))) refl
    where
      go : (v : Verdict) → judge (halves_checks (numbers_of bytes)) ≡ v → (halves_numbers r).plan.refusal.number ≡ 13
      go fine e = absurd (other ((halves-fine (numbers_of bytes)).0 e))
      go (refused s) e =
          ap (λ (t : Refusal). t.number)
          ((answer-thirteen s.place).1 ((verdict-thirteen bytes starts work).1 (accepted, only-thirteen (numbers_of bytes) e)))

  -- In short: 13 exactly when the order is accepted by 1 to 9 and some place offends.
  pub thirteen-if-some : (halves_numbers r).plan.refusal.number ≡ 13
      ↔ ((judge (order_checks bytes) ≡ fine) × ((k : ℕ) × Offends (jobs bytes) k))
  thirteen-if-some = (
    λ e. let p = (halves_numbers r).plan.refusal.place in
        let f = (thirteen p).0 (thirteen-at e) in (f.order, (p, f.offends)),
    λ h. others-thirteen h.0
        (λ all. true≢false (sym ((offends-is (jobs bytes) h.1.0).1 h.1.1) ∙ (of-halves (jobs bytes)).0 all h.1.0)),
  )

  -- Where 13 is not given, the answer's numbers and both buffers are planning's own.
  module _ {q : Planned} {starts'' work'' : List ℤ} (plan-call : PlanCall bytes starts work q starts'' work'') where
    verdict-same : (halves_numbers r).plan.refusal.number ≢ 13 → halves_verdict bytes starts work ≡ plan_verdict bytes starts work
    verdict-same not-thirteen =
        ⊎_elim (λ same. same)
        (λ h. absurd (not-thirteen (ap (λ (t : Refusal). t.number)
        ((answer-thirteen h.1.0).1 ((verdict-thirteen bytes starts work).1 (h.0, h.1.1))))))
        (either-verdict bytes starts work)

    pub as-plan : (halves_numbers r).plan.refusal.number ≢ 13
        → ((halves_numbers r).plan ≡ plan_numbers q) × (starts' ≡ starts'') × (work' ≡ work'')
    as-plan not-thirteen =
        let v = verdict-same not-thirteen in
        let a = plan_answer (order_of bytes) in (
          ap (λ (h : HalvesPlanned). (halves_numbers h).plan) call.answer
              ∙ seconds-beside (lost_seconds (order_of bytes)) (planned_by (halves_verdict bytes starts work) a)
              ∙ ap (λ (u : Verdict). plan_numbers (planned_by u a)) v
              ∙ ap plan_numbers (sym plan-call.answer),
          call.written ∙ ap (λ (u : Verdict). starts_by u a starts) v ∙ sym plan-call.written,
          call.area ∙ ap (λ (u : Verdict). work_by u work) v ∙ sym plan-call.area,
        )

  -- ---- refusal 11

  -- Exactly when the order is of halves and planning finds no feasible choice.
  pub halves-eleven : (halves_numbers r).plan.refusal.number ≡ 11 ↔ (OfHalves (jobs bytes) × NoneFeasible bytes starts work)
  unfolding order_of
  halves-eleven = (there, back)
    where
      plan-call : PlanCall bytes starts work (planned_of bytes starts work) (starts_after bytes starts work)
          (plan_work_after bytes starts work)
      plan-call = record { answer = refl; written = refl; area = refl }

      of : judge (order_checks bytes) ≡ fine → (halves_numbers r).plan.refusal.number ≡ 11 → OfHalves (jobs bytes)
      of order e = go (judge (halves_checks (numbers_of bytes))) refl
        where
          go : (v : Verdict) → judge (halves_checks (numbers_of bytes)) ≡ v → OfHalves (jobs bytes)
          go fine f = (halves-fine (numbers_of bytes)).0 f
          go (refused s) f =
              let no : ¬ OfHalves (jobs bytes) = λ h. refused-fine (sym f ∙ (halves-fine (numbers_of bytes)).1 h) in
              absurd (omega (arith, e, others-thirteen order no))

      there : (halves_numbers r).plan.refusal.number ≡ 11 → OfHalves (jobs bytes) × NoneFeasible bytes starts work
      there e =
          let same = as-plan plan-call (λ f. omega (arith, e, f)) in
          let none = (plan-eleven bytes starts work plan-call).0 (sym (ap (λ (n : PlanNumbers). n.refusal.number) same.0) ∙ e) in
          (of none.order e, none)

      back : OfHalves (jobs bytes) × NoneFeasible bytes starts work → (halves_numbers r).plan.refusal.number ≡ 11
      back h =
          let same = as-plan plan-call (halves-never-thirteen h.0) in
          ap (λ (n : PlanNumbers). n.refusal.number) same.0 ∙ (plan-eleven bytes starts work plan-call).1 h.1

  -- ---- the seconds lost

  -- They are 60 for each weight lost, of every outcome.
  pub seconds-sixty : (halves_numbers r).seconds_lost ≡ seconds_per_weight * (halves_numbers r).plan.lost_weight
  seconds-sixty =
      ap (λ (h : HalvesPlanned). (halves_numbers h).seconds_lost) call.answer
      ∙ go (halves_verdict bytes starts work) refl (plan (t0 bytes) (jobs bytes)) refl
      ∙ ap (λ (h : HalvesPlanned). seconds_per_weight * (halves_numbers h).plan.lost_weight) (sym call.answer)
    where
      o : Order
      o = order_of bytes

      said : Verdict → Option Ended → HalvesPlanned
      said v m = with_seconds (lost_in o m) (planned_by v (map (answer_of o.t0 o.jobs) m))

      go : (v : Verdict) → halves_verdict bytes starts work ≡ v → (m : Option Ended) → plan (t0 bytes) (jobs bytes) ≡ m
          → (halves_numbers (said v m)).seconds_lost ≡ seconds_per_weight * (halves_numbers (said v m)).plan.lost_weight
      go (refused s) d m is = refl
      go fine d none is = refl
      go fine d (some e) is = lost-sixty bytes (passed-halves bytes starts work d) e is
