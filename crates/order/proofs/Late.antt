-- R4: a job whose ready time and length pass its deadline is well formed and never runs. Whatever the other jobs, the choice and
-- the bus-free time, a feasible choice leaves it out; and where it is critical, no choice is feasible.
use Rattle.std.specs.Prelude.{ℕ, zero, suc, ◌≡◌, refl, Bool, true, false, List, [], ◌∷◌, ◌≢◌, ℤ, pos, ◌+ℤ◌, ◌<ℤ◌}
use Rattle.std.proofs.Common.{sym, ap, arith}
use Rattle.std.proofs.Math.Bool.{and-eq-true_iff}
use Rattle.std.proofs.lemmas.Bool.{false≢true}
use Rattle.std.proofs.Math.Option.{Option, some, none-ne-some, some-injective}
use Rattle.std.proofs.Math.ListN.{get_elem?}
use borrow.Table.Steps.{cases}
use Rattle.seconds.specs.Limits.{left_out}
use Rattle.seconds.specs.Signed.{signed, add_is}
use Rattle.order.specs.Job.{Rate, Job, one_rate, rate_of, allowed, bus_free}
use Rattle.order.specs.Choice.{Choice, feasible, start_of, starts}
use Rattle.order.proofs.Moves.{pick-holds, kept-rests}
use Rattle.order.proofs.Counts.{start-at, feasible-holds}

-- Ready + length passes the deadline, at every rate that the job has.
abbrev pub Late : Job → Type 0
Late j = (k : ℕ) (r : Rate) → rate_of j k ≡ some r → j.deadline <ℤ (j.ready +ℤ pos r.takes)

-- Of a job with one length it says just that.
pub late-one : (n : ℕ) (critical : Bool) (w : ℕ) (ready : ℤ) (takes : ℕ) (deadline : ℤ)
    → deadline <ℤ (ready +ℤ pos takes) → Late (one_rate n critical w ready takes deadline)
late-one n c w ready takes deadline h zero r e =
    let same = ap (λ (s : Rate). s.takes) (some-injective (record { takes = takes; gain = w }) r e) in
    rw (← same) h
late-one n c w ready takes deadline h (suc k) r e = absurd (none-ne-some r e)

-- ---- one job

-- However early the bus is free, the only pick that is allowed is to leave it out.
pub late-pick : (j : Job) (x : ℕ) (t : ℤ) → Late j → allowed j x t ≡ true → x ≡ 0
late-pick j zero t late a = refl
late-pick j (suc k) t late a =
    let kept = (pick-holds j (suc k) t a).kept (omega arith) in
    let takes = pos kept.0.takes in
    absurd (omega (
      signed,
      late k kept.0 kept.1,
      kept.2,
      (kept-rests j k t kept.1).0,
      add_is j.ready takes,
      add_is (start_of j (suc k) t) takes,
    ))

-- ---- among other jobs

-- Every feasible choice leaves it out,
pub late-left-out : (js : List Job) (c : Choice) (t : ℤ) (i : ℕ) {j : Job} → Late j → get_elem? js i ≡ some j
    → feasible js c t ≡ true → get_elem? c i ≡ some 0
late-left-out [] c t i {j} late at h = absurd (none-ne-some j at)
late-left-out (k ∷ js) [] t i late at h = absurd (false≢true h)
late-left-out (k ∷ js) (x ∷ c) t zero {j} late at h =
    let both = (and-eq-true_iff (allowed k x t) (feasible js c (bus_free k x t))).0 h in
    let same : j ≡ k = sym (some-injective k j at) in
    ap {B = Option ℕ} some (late-pick k x t (rw same at late) both.0)
late-left-out (k ∷ js) (x ∷ c) t (suc i) late at h =
    let both = (and-eq-true_iff (allowed k x t) (feasible js c (bus_free k x t))).0 h in
    late-left-out js c (bus_free k x t) i late at both.1

-- so the start that is told for it is that of a job left out;
pub late-start : (js : List Job) (c : Choice) (t : ℤ) (i : ℕ) {j : Job} → Late j → get_elem? js i ≡ some j
    → feasible js c t ≡ true → get_elem? (starts js c t) i ≡ some left_out
late-start js c t i late at h = start-at js c t i at (late-left-out js c t i late at h)

-- and where it is critical, no choice is feasible.
pub late-critical : (js : List Job) (c : Choice) (t : ℤ) (i : ℕ) {j : Job} → Late j → j.critical ≡ true
    → get_elem? js i ≡ some j → feasible js c t ≡ false
late-critical js c t i {j} late must at = cases (feasible js c t) (λ h. absurd (kept h refl)) (λ h. h)
  where
    kept : feasible js c t ≡ true → ◌≢◌ {A = ℕ} 0 0
    kept h =
        ((feasible-holds js c t h).places i j 0 left_out at (late-left-out js c t i late at h) (late-start js c t i late at h)
        ).critical must
