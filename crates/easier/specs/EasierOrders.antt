-- A packed order that is easier by its numbers says an easier order (R51), so its profile and its plan are no worse.
use Rattle.std.specs.Prelude.{ℕ, zero, suc, ◌+◌, ◌-◌, ◌<◌, ◌≡◌, ℤ, nat_abs}
use Rattle.std.proofs.Common.{sym, ap, ◌∙◌, arith}
use mathlib.Core.List.{List, Forall₂}
use Rattle.std.proofs.Math.Option.{some}
use Rattle.seconds.specs.Signed.{signed, abs_is}
use Rattle.order.specs.Easier.{Unchanged, EasierJob, EasierOrder}
use Rattle.order.proofs.EasierLaws.{no_lower}
use Rattle.order.proofs.OneRate.{easier-one-rate}
use Rattle.profile.specs.Profile.{order_profile}
use Rattle.profile.specs.NoWorse.{NoWorse}
use Rattle.profile.proofs.NoWorseLaws.{order-no-worse}
use Rattle.plan.specs.Plan.{Answer, plan_answer}
use Rattle.plan.specs.NoWorse.{PlanNoWorse}
use Rattle.plan.proofs.NoWorseLaws.{easier-plan}
use Rattle.packed.specs.Places.{each_of, each}
use Rattle.packed.specs.Judge.{fine, judge}
use Rattle.packed.specs.Refusals.{order_checks}
use Rattle.packed.specs.Packed.{the_number, the_length, is_critical, count_of, numbers_of, job_count, fields_at, job_of, job_at, jobs_of, order_of}
use Rattle.packed.proofs.PackedLaws.{numbers-count}
use Rattle.packed.proofs.RefusalLaws.{Within}
use Rattle.packed.proofs.Accepted.{order-fine, order-within}
use Rattle.easier.specs.EasierBytes.{EasierFields, EasierBytes}

-- One job, within its limits: numbers that are easier say an easier job.
easier-job : {new old : List ℤ} → Within new → Within old → EasierFields new old → EasierJob Unchanged (job_of new) (job_of old)
unfolding job_of
easier-job {new} {old} w v e =
    rw e.mark
    (easier-one-rate Unchanged (nat_abs (the_number new)) (nat_abs (the_number old)) (is_critical old) (ap nat_abs e.weight) e.ready
    (omega (signed, e.long, w.long, v.long, abs_is (the_length new), abs_is (the_length old))) e.deadline)

-- What holds at each place holds of the lists.
each_of_lem : {A : Type 0} (R : A → A → Type 0) (f g : ℕ → A) (at m : ℕ) → ((k : ℕ) → k < at + m → R (f k) (g k))
    → Forall₂ R (each_of f at m) (each_of g at m)
each_of_lem R f g at zero h = Forall₂.nil
each_of_lem R f g at (suc m) h = Forall₂.cons (h at (omega arith)) (each_of_lem R f g (suc at) m (λ k b. h k (omega arith)))

each_all : {A : Type 0} (R : A → A → Type 0) (f g : ℕ → A) (n : ℕ) → ((k : ℕ) → k < n → R (f k) (g k))
    → Forall₂ R (each f 0 n) (each g 0 n)
unfolding each
each_all R f g n h = each_of_lem R f g 0 (n - 0) (λ k b. h k (omega arith))

-- A job of an accepted order is within its limits.
fits : (bytes : List ℕ) → judge (order_checks bytes) ≡ fine → (k : ℕ) → k < count_of bytes → Within (fields_at (numbers_of bytes) k)
fits bytes accepted k h = ((order-fine bytes).0 accepted).jobs.within k (omega (arith, numbers-count bytes))

-- The order that the new bytes say is easier.
pub easier-order : {new old : List ℕ} → EasierBytes new old → EasierOrder Unchanged (order_of new) (order_of old)
unfolding order_of jobs_of
easier-order {new} {old} e =
    let many : job_count (numbers_of new) ≡ job_count (numbers_of old) = numbers-count new ∙ e.as_many ∙ sym (numbers-count old) in
    let jobs = each_all (EasierJob Unchanged) (job_at (numbers_of new)) (job_at (numbers_of old)) (job_count (numbers_of old)) λ k h.
    let l : k < count_of old = omega (arith, numbers-count old) in
    easier-job (fits new e.new-accepted k (omega (arith, e.as_many))) (fits old e.old-accepted k l) (e.jobs k l) in
    record { t0 = e.t0; jobs = rw many jobs }

-- So its profile is no worse,
pub easier-profile : {new old : List ℕ} → EasierBytes new old → NoWorse (order_profile (order_of new)) (order_profile (order_of old))
easier-profile e = order-no-worse (no_lower (easier-order e))

-- and its plan is there where the other's is, and no worse.
pub easier-answer : {new old : List ℕ} → EasierBytes new old → (a : Answer) → plan_answer (order_of old) ≡ some a
    → (b : Answer) × (plan_answer (order_of new) ≡ some b) × PlanNoWorse b a
easier-answer {new} {old} e = easier-plan (easier-order e) (order-within new e.new-accepted) (order-within old e.old-accepted)
