-- R44 over the calls, proved: of an accepted order a call reads the bus-free time and the jobs alone, and these are the same with
-- the packs set to 0.
use Rattle.std.specs.Prelude.{ℕ, ◌+◌, ◌≡◌, refl, ltb, length}
use Rattle.std.proofs.Math.Path.{sym, ap, ap₂}
use Rattle.std.proofs.Common.{◌∙◌}
use mathlib.Core.List.{List, [], ◌∷◌, ◌++◌}
use Rattle.seconds.specs.Determined.{two, three}
use Rattle.seconds.specs.Limits.{most_weight}
use Rattle.order.specs.Job.{Job, Order, weight_of}
use Rattle.order.specs.Halves.{offends_at}
use Rattle.profile.specs.Profile.{extend}
use Rattle.plan.specs.Plan.{plan_answer}
use Rattle.legal.specs.Legal.{is_legal, is_best}
use Rattle.packed.specs.Judge.{Check, Verdict, fine, judge, or_else, check, check_at}
use Rattle.packed.specs.JudgeLaws.{judge-append, stages-fine}
use Rattle.packed.specs.Places.{first}
use Rattle.packed.specs.Packed.{count_of, numbers_of, job_count, order_of}
use Rattle.packed.proofs.PackedLaws.{numbers-count}
use Rattle.packed.specs.Refusals.{first_offending, header_checks, job_checks, weight_checks, halves_checks, room_checks, order_checks}
use Rattle.packed_plan.specs.Plan.{kept_in, starts_in, sent_checks}
use Rattle.filling.specs.After.{work_by}
use Rattle.checking.specs.Calls.{legal_checks, checked_by}
use Rattle.extending.specs.Calls.{profile_given, extend_judged, extend_checks, extended_by, out_by}
use Rattle.planner.specs.Calls.{plan_checks, planned_by, starts_by}
use Rattle.best_plan.specs.Calls.{best_checks}
use Rattle.halves.specs.Calls.{plan_halves_checks, lost_seconds, with_seconds}
use Rattle.plan_writer.specs.Calls.{write_checks, written_by, out_by as bytes_by}
use Rattle.packs_aside.proofs.SameOrder.{same-jobs, same_count, aside-accepted, aside-order}
use Rattle.packs_aside.specs.Unread.{Call, Unread, planning, planning_halves, extending, writing, judging_legal, judging_best}
use Rattle.packs_aside.specs.Unread.{PacksUnread}

-- ---- stages with the same verdict

record Alike (cs ds : List Check) : Type 0 where
  verdict : judge cs ≡ judge ds

unchanged : {cs : List Check} → Alike cs cs
unchanged = record { verdict = refl }

-- One stage behind another.
behind : {cs ds es fs : List Check} → Alike cs ds → Alike es fs → Alike (cs ++ es) (ds ++ fs)
behind {cs} {ds} {es} {fs} h g =
    record { verdict = judge-append cs es ∙ ap₂ or_else h.verdict g.verdict ∙ sym (judge-append ds fs) }

-- ---- the stages of accepted orders that say the same order

record SaySame (a b : List ℕ) : Type 0 where
  one : judge (order_checks a) ≡ fine
  other : judge (order_checks b) ≡ fine
  order : order_of a ≡ order_of b

-- 1 to 7 and 19 are passed by an accepted order.
seven-fine : (bytes : List ℕ) → judge (order_checks bytes) ≡ fine
    → judge (header_checks bytes ++ job_checks (numbers_of bytes)) ≡ fine
seven-fine bytes e = ((stages-fine (header_checks bytes ++ job_checks (numbers_of bytes)) (weight_checks 0 (numbers_of bytes))).0 e).0

module _ {a b : List ℕ} (s : SaySame a b) where
  count : count_of a ≡ count_of b
  count = same_count a b s.order

  orders : Alike (order_checks a) (order_checks b)
  orders = record { verdict = s.one ∙ sym s.other }

  seven : Alike (header_checks a ++ job_checks (numbers_of a)) (header_checks b ++ job_checks (numbers_of b))
  seven = record { verdict = seven-fine a s.one ∙ sym (seven-fine b s.other) }

  -- 9, with any weight before the jobs,
  weights : (before : ℕ) → Alike (weight_checks before (numbers_of a)) (weight_checks before (numbers_of b))
  unfolding weight_checks
  weights before =
      record {
        verdict = ap (λ (js : List Job). judge (check 9 (ltb most_weight (before + weight_of js)) ∷ [])) (same-jobs a b s.order);
      }

  -- 13,
  halves : Alike (halves_checks (numbers_of a)) (halves_checks (numbers_of b))
  unfolding halves_checks first_offending
  halves =
      let as_many : job_count (numbers_of a) ≡ job_count (numbers_of b) = numbers-count a ∙ count ∙ sym (numbers-count b) in
      record {
        verdict =
            ap₂ (λ (js : List Job) (n : ℕ). judge (check_at 13 (first (offends_at js) 0 n) n ∷ []))
            (same-jobs a b s.order) as_many;
      }

  -- and what asks for the number of jobs alone.
  by_count : (checks : ℕ → List Check) → Alike (checks (count_of a)) (checks (count_of b))
  by_count checks = record { verdict = ap (λ n. judge (checks n)) count }

-- ---- one law for all calls

-- Where the verdict of some checks, the order, its number of jobs and what is given beside it make all that is seen of a call, it
-- does not read packs, if the checks are alike for orders that say the same.
unread : {O G S : Type 0} (c : Call O G S) (checks : List ℕ → G → List Check) (by : Verdict → Order → ℕ → G → S)
    → ((p : O) → c.seen p
    ≡ by (judge (checks (c.order p) (c.beside p))) (order_of (c.order p)) (count_of (c.order p)) (c.beside p))
    → ((a b : List ℕ) → SaySame a b → (g : G) → Alike (checks a g) (checks b g))
    → Unread c
unread {O} {G} {S} c checks by says alike p q accepted aside given =
    let a : List ℕ = c.order q in
    let b : List ℕ = c.order p in
    let s : SaySame a b = record {
      one = rw aside (aside-accepted b accepted);
      other = accepted;
      order = rw aside (aside-order b accepted);
    } in
    says q
    ∙ ap (λ (g : G). by (judge (checks a g)) (order_of a) (count_of a) g) given
    ∙ (λ i. by ((alike a b s (c.beside p)).verdict i) (s.order i) (count s i) (c.beside p))
    ∙ sym (says p)

-- ---- the calls

pub packs-unread : PacksUnread
unfolding plan_checks plan_halves_checks extend_judged extend_checks write_checks legal_checks best_checks
packs-unread =
    record {
      plan =
          unread planning (λ bytes g. plan_checks bytes g.0 g.1)
          (λ v o n g. (planned_by v (plan_answer o), starts_by v (plan_answer o) g.0, work_by v g.1))
          (λ p. three p.allowed.answer p.allowed.written p.allowed.area)
          (λ a b s g. behind (behind (orders s) (by_count s (λ n. room_checks n (length g.0)))) unchanged);
      halves =
          unread planning_halves (λ bytes g. plan_halves_checks bytes g.0 g.1)
          (λ v o n g. let a = plan_answer o in (with_seconds (lost_seconds o) (planned_by v a), starts_by v a g.0, work_by v g.1))
          (λ p. three p.allowed.answer p.allowed.written p.allowed.area)
          (λ a b s g.
          behind (behind (behind (orders s) (halves s)) (by_count s (λ n. room_checks n (length g.0)))) unchanged);
      extend =
          unread extending (λ bytes g. extend_checks g.0 bytes g.1 g.2)
          (λ v o n g. let ps = extend (profile_given g.0) o.jobs in (extended_by v ps, out_by v ps g.1, work_by v g.2))
          (λ p. three p.allowed.answer p.allowed.written p.allowed.area)
          (λ a b s g. behind (behind (behind (behind (seven s) unchanged) (weights s _)) unchanged) unchanged);
      write =
          unread writing (λ bytes g. write_checks bytes g.0 g.1)
          (λ v o n g. (written_by v (plan_answer o), bytes_by v (plan_answer o) g.0, work_by v g.1))
          (λ p. three p.allowed.answer p.allowed.written p.allowed.area)
          (λ a b s g. behind (behind (orders s) unchanged) unchanged);
      legal =
          unread judging_legal legal_checks (λ v o n g. checked_by v (is_legal o (kept_in n g) (starts_in g))) (λ p. p.allowed)
          (λ a b s g. behind (orders s) (by_count s (λ n. sent_checks n g)));
      best =
          unread judging_best (λ bytes g. best_checks bytes g.0 g.1)
          (λ v o n g. (checked_by v (is_best o (kept_in n g.0) (starts_in g.0)), work_by v g.1))
          (λ p. two p.allowed.answer p.allowed.area)
          (λ a b s g. behind (behind (orders s) (by_count s (λ n. sent_checks n g.0))) unchanged);
    }
