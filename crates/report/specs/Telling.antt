-- The laws of telling: with room enough, what planning answers gives the text for the bytes.
use Prim.Native.Nat.{ℕ, ◌≤◌, ◌<◌, zero-le}
use Rattle.std.proofs.Math.Path.{◌≡◌, refl, ap}
use Rattle.std.proofs.Common.{sym, ◌∙◌, zero-add, arith, length-append, take_at}
use mathlib.Core.List.{List, [], ◌++◌}
use Rattle.std.proofs.Math.Option.{Option, none, some}
use Rattle.std.specs.Prelude.{ℤ, Ok, Err}
use Rattle.std.proofs.Math.ListN.{length, take, drop}
use borrow.Author.Tests.{ltb-true, lt-ltb, le-ltb}
use Rattle.seconds.specs.Limits.{most_jobs}
use Rattle.plan.specs.Plan.{Answer, plan_answer}
use Rattle.plan.proofs.Figures.{answer-figures}
use Rattle.packed.specs.declared.Refusal.{Refusal}
use Rattle.packed.specs.Judge.{plainly, Verdict, fine, refused, judge}
use Rattle.packed.specs.JudgeLaws.{judge-append, Tells, tells-append, judge-tells}
use Rattle.packed.specs.Packed.{count_of, numbers_of, job_count, job_in, order_of}
use Rattle.packed.proofs.PackedLaws.{numbers-count, order-jobs}
use Rattle.packed.specs.PlacesLaws.{length-each}
use Rattle.packed.specs.Refusals.{first_bad, first_repeat, header_checks, job_checks, weight_checks, order_checks}
use Rattle.packed.proofs.RefusalLaws.{header-fine}
use Rattle.packed.proofs.Accepted.{order-fine, order-within}
use Rattle.planner.specs.Calls.{plan_verdict, planned_by, starts_by, planned_of, starts_after}
use Rattle.planner.specs.Answers.{plan-roomy}
use Rattle.planner.specs.declared.Figures.{Figures}
use Rattle.text.specs.Buffer.{Wrote}
use Rattle.report.specs.Report.{refusal_line, plan_line, plan_text, text_of, report_of, text_room, printed, Reported}
use Rattle.report.specs.Writing.{listed, CanTell, HasRoom}
use Rattle.report.specs.WritingLaws.{listed-all}

-- ---- the place of a refusal

-- It is one of the places of at most 48 jobs.
abbrev Early : Refusal → Type 0
Early r = r.place ≤ most_jobs

module _ (bytes : List ℕ) where
  -- On a header there is none,
  header-early : Tells Early (header_checks bytes)
  unfolding header_checks
  header-early = (λ e. zero-le, (λ e. zero-le, (λ e. zero-le, (λ e. zero-le, (λ e. zero-le, (λ e. zero-le, tt))))))

  -- and behind that the jobs are few.
  jobs-early : count_of bytes ≤ most_jobs → Tells Early (job_checks (numbers_of bytes))
  unfolding job_checks
  jobs-early few =
      let zs = numbers_of bytes in (
        λ e. omega (arith, ltb-true (first_bad zs) (job_count zs) e, numbers-count bytes),
        (λ e. omega (arith, ltb-true (first_repeat zs) (job_count zs) e, numbers-count bytes), tt),
      )

  -- So it is for every check,
  order-early : count_of bytes ≤ most_jobs → Tells Early (order_checks bytes)
  unfolding weight_checks
  order-early few =
      tells-append Early (header_checks bytes ++ job_checks (numbers_of bytes)) (weight_checks 0 (numbers_of bytes))
      (tells-append Early (header_checks bytes) (job_checks (numbers_of bytes)) header-early (jobs-early few))
      (λ e. zero-le, tt)

  -- and for the refusal.
  pub place-early : {r : Refusal} → judge (order_checks bytes) ≡ refused r → r.place ≤ most_jobs
  place-early {r} e = go (judge (header_checks bytes)) refl
    where
      go : (v : Verdict) → judge (header_checks bytes) ≡ v → r.place ≤ most_jobs
      go fine h = judge-tells Early (order_checks bytes) (order-early ((header-fine bytes).0 h).few) e
      go (refused s) h =
          let same : refused s ≡ refused r =
          rw (
            judge-append (header_checks bytes ++ job_checks (numbers_of bytes)) (weight_checks 0 (numbers_of bytes)),
            judge-append (header_checks bytes) (job_checks (numbers_of bytes)),
            h,
          ) at e in
          judge-tells Early (header_checks bytes) header-early (h ∙ same)

-- ---- a plan

-- Its line, and the jobs' lines, are the text.
pub plan-told : (bytes : List ℕ) (figures : Figures) (starts : List ℤ) (out : List ℕ) → CanTell bytes figures starts out
    → report_of bytes ≡ plan_line figures ++ listed bytes starts (count_of bytes)
unfolding report_of text_of plan_text
plan-told bytes figures starts out f =
    rw ((order-fine bytes).1 f.order, f.is, f.numbers, listed-all bytes starts, f.begins)

-- ---- the answer of planning

-- An order has as many jobs as its header says.
jobs-count : (bytes : List ℕ) → length (order_of bytes).jobs ≡ count_of bytes
jobs-count bytes = rw (order-jobs bytes) (omega (arith, length-each (job_in bytes) 0 (count_of bytes)))

module _ (bytes : List ℕ) (starts work : List ℤ) (out : List ℕ) (room : HasRoom starts work out) where
  -- With so much room the verdict is the one on the order.
  verdict-is : plan_verdict bytes starts work ≡ judge (order_checks bytes)
  verdict-is = plan-roomy bytes starts work room.places room.space

  -- A refusal is told by one line, and its place is an early one.
  pub refusal-told : (r : Refusal) → Err r ≡ planned_of bytes starts work
      → (report_of bytes ≡ refusal_line r) × (r.place ≤ most_jobs)
  unfolding report_of text_of plan_text
  refusal-told r is = go (judge (order_checks bytes)) (plan_answer (order_of bytes)) refl refl (rw verdict-is at is)
    where
      go : (v : Verdict) (o : Option Answer) → judge (order_checks bytes) ≡ v → plan_answer (order_of bytes) ≡ o
          → Err r ≡ planned_by v o → (report_of bytes ≡ refusal_line r) × (r.place ≤ most_jobs)
      go (refused s) o e f h =
          let same : s ≡ r = cc in
          rw (e, ← same) (refl, place-early bytes e)
      go fine none e f h =
          let same : r ≡ plainly 11 = cc in
          rw (e, f, same) (refl, zero-le)
      go fine (some a) e f h = let z : ◌≡◌ {A = ℕ} 0 1 = cc in absurd (omega arith)

  -- A plan can be told.
  pub plan-tellable : (figures : Figures) (written : List ℤ) → Ok figures ≡ planned_of bytes starts work
      → written ≡ starts_after bytes starts work → CanTell bytes figures written out
  plan-tellable figures written is begin =
      go (judge (order_checks bytes)) (plan_answer (order_of bytes)) refl refl (rw verdict-is at is) (rw verdict-is at begin)
    where
      go : (v : Verdict) (o : Option Answer) → judge (order_checks bytes) ≡ v → plan_answer (order_of bytes) ≡ o
          → Ok figures ≡ planned_by v o → written ≡ starts_by v o starts → CanTell bytes figures written out
      go (refused s) o e f h w = let z : ◌≡◌ {A = ℕ} 0 1 = cc in absurd (omega arith)
      go fine none e f h w = let z : ◌≡◌ {A = ℕ} 0 1 = cc in absurd (omega arith)
      go fine (some a) e f h w =
          let order = (order-fine bytes).0 e in
          let long : length a.starts ≡ count_of bytes =
          (answer-figures (order_of bytes) a f (order-within bytes e)).starts ∙ jobs-count bytes in
          record {
            order = order;
            answer = a;
            is = f;
            numbers = cc;
            places = rw w (rw length-append (omega arith));
            begins = rw w (take_at a.starts (drop (length a.starts) starts) (count_of bytes) long);
            room = room.room;
          }

-- ---- the call

module _ (bytes out : List ℕ) where
  -- With too little room nothing is written.
  pub nothing-reported : length out < text_room → Reported bytes out out 0
  unfolding printed
  nothing-reported h = go (rw (lt-ltb (length out) text_room h))
    where
      go : printed bytes out ≡ [] → Reported bytes out out 0
      go e = record { text = rw e; count = rw e; within = zero-le }

  -- With room enough the text is.
  pub text-reported : {out' : List ℕ} {r : ℕ} → text_room ≤ length out → Wrote out 0 (report_of bytes) out' r
      → Reported bytes out out' r
  unfolding printed
  text-reported {out'} {r} h w = go (rw (le-ltb (length out) text_room h))
    where
      go : printed bytes out ≡ report_of bytes → Reported bytes out out' r
      go e = record { text = rw (e, w.bytes, zero-add); count = rw (e, w.behind, zero-add); within = w.room }

  -- Then the front of the buffer is the text.
  pub front-told : {out' : List ℕ} {r : ℕ} → text_room ≤ length out → Reported bytes out out' r → take r out' ≡ report_of bytes
  unfolding printed
  front-told {out'} {r} h f = go (rw (le-ltb (length out) text_room h))
    where
      go : printed bytes out ≡ report_of bytes → take r out' ≡ report_of bytes
      go e =
          let count : r ≡ length (report_of bytes) = f.count ∙ ap length e in
          let text : out' ≡ report_of bytes ++ drop (length (report_of bytes)) out = rw e at f.text in
          rw text (take_at (report_of bytes) (drop (length (report_of bytes)) out) r (sym count))
