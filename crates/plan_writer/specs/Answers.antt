-- What the answers of writing say: what refusals name, when 6 and 11 are given, that a refusal writes nothing, and that what is
-- written reads back as the plan's mask and the starts of the jobs that it keeps.
use Rattle.std.specs.Prelude.{ℕ, ◌*◌, ◌^◌, ◌≤◌, ◌≡◌, refl, false, ◌↔◌, ◌≢◌, List, ◌++◌, ℤ, length, take, drop, Ok, Err}
use Rattle.std.proofs.Common.{sym, ap, ap₂, ◌∙◌, arith}
use Rattle.std.proofs.Math.Logic.Iff
use Rattle.std.proofs.Math.Option.{Option, none, some, map-eq-none_iff}
use Rattle.std.proofs.Math.Seq.{take-append_seam, drop-append_seam}
use Rattle.order.specs.Choice.{Choice, feasible}
use Rattle.plan.specs.Plan.{plan, Answer, answer_of, plan_answer}
use Rattle.plan.proofs.PlanIs.{plan-none}
use Rattle.packed.specs.declared.Refusal.{Refusal}
use Rattle.packed.specs.Judge.{in_field, Verdict, fine, refused, judge, refusal_of}
use Rattle.packed.specs.JudgeLaws.{stages-fine, never}
use Rattle.packed.specs.Packed.{numbers_of, order_of}
use Rattle.packed.specs.Refusals.{header_checks, job_checks, weight_checks, room_checks, order_checks}
use Rattle.packed.proofs.RefusalLaws.{room-fine}
use Rattle.packed.proofs.RefusalPlaces.{BadField, RefusalIs, nowhere, SixIs, six-order, answer-refusal, answer-says}
use Rattle.packed_plan.specs.Plan.{plan_bytes, starts_kept, mask_in, starts_in}
use Rattle.area.specs.Area.{area}
use Rattle.judge.specs.Told.{Named, named-rooms, named-order, six-rooms}
use Rattle.plan_writer.specs.Calls.{plan_room, Written, write_checks, write_verdict, bytes_for, written_by, out_by, WriteCall}
use Rattle.plan_writer.specs.OwnPlans.{OwnPlan, own-plan, own-length, own-mask, own-kept}

-- ---- the checks

module _ (order out : List ℕ) (work : List ℤ) where
  -- They are passed exactly when the order is accepted and there is room for the longest plan and the work area.
  write-passed : write_verdict order out work ≡ fine
      ↔ ((judge (order_checks order) ≡ fine) × (plan_room ≤ length out) × (area ≤ length work))
  unfolding write_checks
  write-passed =
      let bytes = room_checks plan_room (length out) in
      let all = stages-fine (order_checks order ++ bytes) (room_checks area (length work)) in
      let first = stages-fine (order_checks order) bytes in
      let room = room-fine plan_room (length out) in
      let longest = room-fine area (length work) in (
        λ e. ((first.0 (all.0 e).0).0, room.0 (first.0 (all.0 e).0).1, longest.0 (all.0 e).1),
        λ h. all.1 (first.1 (h.0, room.1 h.1), longest.1 h.2),
      )

  -- No refusal by them is 11.
  write-not-eleven : {r : Refusal} → write_verdict order out work ≡ refused r → r.number ≢ 11
  unfolding write_checks header_checks job_checks weight_checks
  write-not-eleven = never 11 (write_checks order out work) tt

  -- They name a place with 6 and 7, and a field with 6;
  write-named : Named (numbers_of order) (write_checks order out work)
  unfolding write_checks
  write-named = named-rooms (numbers_of order) (order_checks order) plan_room (length out) area (length work) (named-order order)

  -- 6 is given with 1 to 5 passed and a job out of range.
  write-checks-six : SixIs (numbers_of order) (header_checks order) (write_checks order out work)
  unfolding write_checks
  write-checks-six =
      six-rooms (numbers_of order) (header_checks order) (order_checks order) plan_room (length out) area (length work) (six-order order)

  -- What is told by a verdict; past the checks it is 11 or nothing.
  abbrev told : Verdict → Refusal
  told v = refusal_of (written_by v (plan_answer (order_of order)))

  passed-told : RefusalIs (numbers_of order) (told fine) × ((told fine).number ≢ 6)
  passed-told = go (plan_answer (order_of order))
    where
      go : (o : Option Answer) → let r = refusal_of (written_by fine o) in
          RefusalIs (numbers_of order) r × (r.number ≢ 6)
      go none = (nowhere {n = 11} refl, λ e. omega arith)
      go (some a) = (nowhere {n = 0} refl, λ e. omega arith)

  -- So the answer's refusal names what it should,
  pub write-refusal : RefusalIs (numbers_of order) (told (write_verdict order out work))
  write-refusal = answer-refusal (numbers_of order) told (λ r. refl) passed-told.0 (write_verdict order out work) write-named

  -- and 6 is given with a place and a field exactly when 1 to 5 are passed, the first job out of range is there, and that is its
  -- first field that is.
  pub write-six : (p f : ℕ) → told (write_verdict order out work) ≡ in_field 6 p f
      ↔ ((judge (header_checks order) ≡ fine) × BadField (numbers_of order) p f)
  write-six p f =
      Iff.trans
      (answer-says (numbers_of order) told (λ r. refl) passed-told.0 (in_field 6 p f) passed-told.1 (write_verdict order out work))
      (write-checks-six p f)

-- The order is accepted, there is room, and no choice of its jobs is feasible.
pub record NoneFeasible (order out : List ℕ) (work : List ℤ) : Type 0 where
  pub accepted : judge (order_checks order) ≡ fine
  pub out-room : plan_room ≤ length out
  pub work-room : area ≤ length work
  pub none : (c : Choice) → feasible (order_of order).jobs c (order_of order).t0 ≡ false

-- The plan of an accepted order is written over the front of some bytes, so many of them: they are its bytes, and read back as its
-- mask, of which they hold the 48 top bits, and the starts of the jobs that it keeps; behind them all is as it was.
pub record PlanWritten (order out : List ℕ) (n : ℕ) (out' : List ℕ) : Type 0 where
  pub accepted : judge (order_checks order) ≡ fine
  pub answer : Answer
  pub is : plan_answer (order_of order) ≡ some answer
  pub bytes : n ≡ plan_bytes answer.kept
  pub front : take n out' ≡ bytes_for answer
  pub behind : drop n out' ≡ drop n out
  pub mask : mask_in (take n out') * 2 ^ 16 ≡ answer.mask
  pub starts : starts_in (take n out') ≡ starts_kept answer.starts

-- ---- every outcome that the contract allows

module _ (order out : List ℕ) (work : List ℤ) {r : Written} {out' : List ℕ} {work' : List ℤ}
    (call : WriteCall order out work r out' work') where
  -- 11 exactly when nothing is feasible.
  pub write-eleven : (refusal_of r).number ≡ 11 ↔ NoneFeasible order out work
  write-eleven =
      (λ e. there (write_verdict order out work) refl (plan_answer (order_of order)) refl (ap number (sym call.answer) ∙ e), back)
    where
      number : Written → ℕ
      number a = (refusal_of a).number

      -- No answer is no plan, which is no feasible choice.
      without : (plan_answer (order_of order) ≡ none) ↔ ((c : Choice) → feasible (order_of order).jobs c (order_of order).t0 ≡ false)
      without =
          let o = order_of order in
          let mapped = map-eq-none_iff (answer_of o.t0 o.jobs) (plan o.t0 o.jobs) in
          let is = plan-none o.t0 o.jobs in
          (λ e. is.0 (mapped.0 e), λ h. mapped.1 (is.1 h))

      there : (v : Verdict) → write_verdict order out work ≡ v → (o : Option Answer) → plan_answer (order_of order) ≡ o
          → number (written_by v o) ≡ 11 → NoneFeasible order out work
      there fine d none is e =
          let passed = (write-passed order out work).0 d in
          record { accepted = passed.0; out-room = passed.1; work-room = passed.2; none = without.0 is }
      there fine d (some a) is e = absurd (omega arith)
      there (refused s) d o is e = absurd (write-not-eleven order out work d e)

      back : NoneFeasible order out work → number r ≡ 11
      back h =
          ap number call.answer
          ∙ rw ((write-passed order out work).1 (h.accepted, h.out-room, h.work-room), without.1 h.none)

  -- With room, an accepted order that has a plan gets its bytes.
  pub plan-gets-bytes : judge (order_checks order) ≡ fine → plan_room ≤ length out → area ≤ length work
      → (a : Answer) → plan_answer (order_of order) ≡ some a → r ≡ Ok (plan_bytes a.kept)
  plan-gets-bytes accepted room space a is =
      call.answer ∙ rw ((write-passed order out work).1 (accepted, room, space), is) (ap (λ (k : ℕ). Ok k) (own-length (own-plan order accepted a is)))

  -- A refusal writes nothing,
  pub refused-nothing : (s : Refusal) → r ≡ Err s → out' ≡ out
  refused-nothing s e =
      call.written ∙ go (write_verdict order out work) (plan_answer (order_of order)) (sym e ∙ call.answer)
    where
      go : (v : Verdict) (o : Option Answer) → Err s ≡ written_by v o → out_by v o out ≡ out
      go (refused t) o m = refl
      go fine none m = refl
      go fine (some a) m = let z : ◌≡◌ {A = ℕ} 0 1 = cc in absurd (omega arith)

  -- and any other answer is the bytes of the order's plan.
  pub plan-written : (n : ℕ) → r ≡ Ok n → PlanWritten order out n out'
  plan-written n e =
      go (write_verdict order out work) refl (plan_answer (order_of order)) refl (sym e ∙ call.answer)
    where
      go : (v : Verdict) → write_verdict order out work ≡ v → (o : Option Answer) → plan_answer (order_of order) ≡ o
          → Ok n ≡ written_by v o → PlanWritten order out n out'
      go (refused t) d o is m = let z : ◌≡◌ {A = ℕ} 0 1 = cc in absurd (omega arith)
      go fine d none is m = let z : ◌≡◌ {A = ℕ} 0 1 = cc in absurd (omega arith)
      go fine d (some a) is m =
          let accepted = ((write-passed order out work).0 d).0 in
          let p : OwnPlan order a = own-plan order accepted a is in
          let long : n ≡ length (bytes_for a) = cc in
          let over : out' ≡ bytes_for a ++ drop (length (bytes_for a)) out =
          call.written ∙ ap₂ (λ (v : Verdict) (o : Option Answer). out_by v o out) d is in
          let front : take n out' ≡ bytes_for a =
          ap₂ take long over ∙ take-append_seam (bytes_for a) (drop (length (bytes_for a)) out) in
          record {
            accepted = accepted;
            answer = a;
            is = is;
            bytes = long ∙ own-length p;
            front = front;
            behind = ap₂ drop long over ∙ drop-append_seam (bytes_for a) (drop (length (bytes_for a)) out)
                ∙ ap (λ (k : ℕ). drop k out) (sym long);
            mask = ap (λ (m : ℕ). m * 2 ^ 16) (ap mask_in front ∙ own-mask p) ∙ p.whole;
            starts = ap starts_in front ∙ own-kept p;
          }
