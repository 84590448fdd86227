-- What R51 does not promise of an easier order, each shown by P1 with job 12 made shorter: the finish may be later, a job kept
-- before may be left out, and the point total may rise or fall.
use Rattle.std.specs.Prelude.{ℕ, ◌≤◌, ◌≡◌, refl, true, false, ℤ, pos, negsuc, ◌≤ℤ◌}
use mathlib.Core.List.Forall₂
use mathlib.Core.List.{List, [], ◌∷◌}
use Rattle.std.proofs.Math.Option.{some, some-injective}
use Rattle.std.proofs.Common.{arith}
use Rattle.std.proofs.Math.ListN.{get_elem?}
use Rattle.std.specs.Int.Signed.{≤ℤ_refl}
use Rattle.seconds.specs.Limits.{rest, left_out}
use Rattle.seconds.specs.Signed.{signed}
use Rattle.order.specs.Job.{Order, one_rate}
use Rattle.order.specs.Choice.{mask}
use Rattle.order.specs.Easier.{Unchanged, EasierOrder}
use Rattle.order.proofs.EasierLaws.{same-job}
use Rattle.order.proofs.OneRate.{easier-one-rate}
use Rattle.plan.specs.Plan.{Answer, plan_answer}

-- ---- P1 with job 12 of a length

abbrev pub morning : ℕ → Order
morning long =
    record {
      t0 = negsuc 599;
      jobs =
          one_rate 7 true 0 (negsuc 599) 495 (pos 0)
          ∷ one_rate 3 false 20 (negsuc 199) 300 (pos 250)
          ∷ one_rate 12 false 15 (pos 0) long (pos 300)
          ∷ one_rate 5 true 0 (pos 100) 100 (pos 450)
          ∷ one_rate 9 false 15 (pos 0) 100 (pos 500)
          ∷ [];
    }

-- The answer of a plan, its mask from the picks of the five jobs.
abbrev answer : List ℕ → ℕ → ℕ → ℕ → ℤ → ℕ → List ℤ → Answer
answer picks kept weight lost free points starts =
    record {
      mask = mask picks;
      kept = kept;
      kept_weight = weight;
      lost_weight = lost;
      finish = free;
      points = points;
      starts = starts;
    }

-- At 200 seconds, which is P1, and at 85 the plan leaves it out; at 75 it is kept in place of job 9, and at 45 beside it.
abbrev at200 : Answer
at200 =
    answer (1 ∷ 1 ∷ 0 ∷ 1 ∷ 1 ∷ []) 4 35 15 (pos 455) 14 (negsuc 599 ∷ negsuc 89 ∷ left_out ∷ pos 225 ∷ pos 340 ∷ [])

abbrev at85 : Answer
at85 = answer (1 ∷ 1 ∷ 0 ∷ 1 ∷ 1 ∷ []) 4 35 15 (pos 455) 11 (negsuc 599 ∷ negsuc 89 ∷ left_out ∷ pos 225 ∷ pos 340 ∷ [])

abbrev at75 : Answer
at75 = answer (1 ∷ 1 ∷ 1 ∷ 1 ∷ 0 ∷ []) 4 35 15 (pos 430) 13 (negsuc 599 ∷ negsuc 89 ∷ pos 225 ∷ pos 315 ∷ left_out ∷ [])

abbrev at45 : Answer
at45 = answer (1 ∷ 1 ∷ 1 ∷ 1 ∷ 1 ∷ []) 5 50 0 (pos 515) 14 (negsuc 599 ∷ negsuc 89 ∷ pos 225 ∷ pos 285 ∷ pos 400 ∷ [])

pub plan-at-200 : plan_answer (morning 200) ≡ some at200
unfolding rest
plan-at-200 = refl

pub plan-at-85 : plan_answer (morning 85) ≡ some at85
unfolding rest
plan-at-85 = refl

pub plan-at-75 : plan_answer (morning 75) ≡ some at75
unfolding rest
plan-at-75 = refl

pub plan-at-45 : plan_answer (morning 45) ≡ some at45
unfolding rest
plan-at-45 = refl

-- ---- a job made shorter is easier

pub shorter-easier : (l k : ℕ) → l ≤ k → EasierOrder Unchanged (morning l) (morning k)
shorter-easier l k h =
    record {
      t0 = ≤ℤ_refl (negsuc 599);
      jobs =
          Forall₂.cons (same-job _)
          (Forall₂.cons (same-job _)
          (Forall₂.cons (easier-one-rate Unchanged 12 12 false refl (≤ℤ_refl (pos 0)) h (≤ℤ_refl (pos 300)))
          (Forall₂.cons (same-job _) (Forall₂.cons (same-job _) Forall₂.nil))));
    }

-- ---- what is not promised

-- Something that would hold of the plans of every easier order and of the other.
abbrev Always : (Answer → Answer → Type 0) → Type 0
Always says =
    (new old : Order) → EasierOrder Unchanged new old → (b a : Answer) → plan_answer new ≡ some b → plan_answer old ≡ some a → says b a

-- The finish is not always as early: at 45 more is kept, and the bus is free at 515 where it was at 455.
pub finish-may-be-later : ¬ (Always (λ new old. new.finish ≤ℤ old.finish))
finish-may-be-later always =
    let h = always (morning 45) (morning 200) (shorter-easier 45 200 (omega arith)) at45 at200 plan-at-45 plan-at-200 in omega signed

-- Not every job kept before is kept: at 75 job 9 is left out.
abbrev StaysKept : Answer → Answer → Type 0
StaysKept new old = (k : ℕ) → get_elem? new.starts k ≡ some left_out → get_elem? old.starts k ≡ some left_out

pub kept-may-be-left-out : ¬ (Always StaysKept)
kept-may-be-left-out always =
    let h = always (morning 75) (morning 200) (shorter-easier 75 200 (omega arith)) at75 at200 plan-at-75 plan-at-200 4 refl in
    let z : pos 340 ≡ left_out = some-injective (pos 340) left_out h in
    omega signed

-- The point total may rise, as from 85 to 75, or fall, as from 200 to 85.
pub points-may-rise : ¬ (Always (λ new old. new.points ≤ old.points))
points-may-rise always =
    let h = always (morning 75) (morning 85) (shorter-easier 75 85 (omega arith)) at75 at85 plan-at-75 plan-at-85 in omega arith

pub points-may-fall : ¬ (Always (λ new old. old.points ≤ new.points))
points-may-fall always =
    let h = always (morning 85) (morning 200) (shorter-easier 85 200 (omega arith)) at85 at200 plan-at-85 plan-at-200 in omega arith
