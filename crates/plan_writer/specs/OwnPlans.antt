-- An accepted order's own plan in bytes: what the bytes of its answer say is the top of the answer's mask and the starts of the jobs
-- that it keeps, which are those of the plan's choice.
use Rattle.std.specs.Prelude.{ℕ, ◌*◌, ◌-◌, ◌/◌, ◌%◌, ◌^◌, ◌≤◌, ◌<◌, ◌≡◌, refl, List, pos, length, get_or}
use Rattle.std.proofs.Common.{sym, ◌∙◌, arith}
use Rattle.std.proofs.Math.Path.{ap}
use Rattle.std.proofs.Math.Option.{some, map-eq-some_iff}
use Rattle.std.specs.Int.Count.{ones}
use Rattle.seconds.specs.Limits.{most_jobs}
use Rattle.seconds.specs.Ranges.{InTime}
use Rattle.seconds.proofs.TwosLaws.{time-in}
use Rattle.order.specs.Choice.{starts, mask}
use Rattle.order.proofs.Counts.{feasible-holds}
use Rattle.order.proofs.Within.{order-within as order-limits}
use Rattle.plan.specs.Plan.{Ended, plan, Answer, answer_of, plan_answer}
use Rattle.packed.specs.Judge.{fine, judge}
use Rattle.packed.proofs.LayoutLaws.{AreBytes}
use Rattle.packed.specs.Packed.{count_of, order_of}
use Rattle.packed.specs.Refusals.{order_checks}
use Rattle.packed.proofs.Accepted.{order-within}
use Rattle.packed_plan.specs.Plan.{plan_bytes, starts_kept, mask_in, count_in, starts_in, pad_in}
use Rattle.packed_plan.proofs.PlanLaws.{Starts}
use Rattle.packed_plan.proofs.BothWays.{packed-bytes, packed-length, packed-mask, packed-count, packed-starts, packed-pad}
use Rattle.fields.specs.Places.{jobs-count}
use Rattle.legal.specs.Legal.{kept_of, kept_starts}
use Rattle.planner.specs.PlanMask.{plan-feasible}
use Rattle.plan_writer.specs.Calls.{bytes_for}
use Rattle.plan_writer.specs.Kept.{kept-starts, kept-few, top_small, top-ones, top-whole, none-beyond as beyond}

-- The answer of an order's own plan: its starts that are kept are those of the plan's choice, they are times, and they are as many
-- as the ones in the top of its mask, which has none below it and none beyond the jobs.
pub record OwnPlan (order : List ℕ) (a : Answer) : Type 0 where
  pub best : Ended
  pub is : plan (order_of order).t0 (order_of order).jobs ≡ some best
  pub answer : answer_of (order_of order).t0 (order_of order).jobs best ≡ a
  pub own : starts_kept a.starts
      ≡ kept_starts (kept_of best.choice) (starts (order_of order).jobs best.choice (order_of order).t0)
  pub timely : (i : ℕ) → InTime (get_or (starts_kept a.starts) i (pos 0))
  pub many : length (starts_kept a.starts) ≡ a.kept
  pub few : a.kept ≤ most_jobs
  pub small : a.mask / 2 ^ 16 < 2 ^ 48
  pub marks : ones (a.mask / 2 ^ 16) ≡ a.kept
  pub whole : a.mask / 2 ^ 16 * 2 ^ 16 ≡ a.mask
  pub none-beyond : a.mask / 2 ^ 16 % 2 ^ (48 - count_of order) ≡ 0

jobs-are : (order : List ℕ) → length (order_of order).jobs ≡ count_of order
unfolding order_of
jobs-are order = jobs-count order

-- Every answer to an accepted order is one.
pub own-plan : (order : List ℕ) → judge (order_checks order) ≡ fine → (a : Answer) → plan_answer (order_of order) ≡ some a
    → OwnPlan order a
own-plan order passed a is =
    let o = order_of order in
    let made = (map-eq-some_iff (answer_of o.t0 o.jobs) (plan o.t0 o.jobs)).0 is in
    let c = made.0.choice in
    let within = order-limits o (order-within order passed) in
    let can = plan-feasible o.t0 o.jobs made.0 made.1 in
    let kept = kept-starts o.jobs c o.t0 within.jobs can in
    let long : length c ≡ count_of order = (feasible-holds o.jobs c o.t0 can).each ∙ jobs-are order in
    let short : length c ≤ 48 = omega (arith, long, jobs-are order, within.few) in
    rw (← made.2)
    (record {
      best = made.0;
      is = made.1;
      answer = refl;
      own = kept.own;
      timely = kept.timely;
      many = kept.many;
      few = omega (arith, kept-few c);
      small = top_small c short;
      marks = top-ones c short;
      whole = top-whole c short;
      none-beyond = ap (λ n. mask c / 2 ^ 16 % 2 ^ (48 - n)) (sym long) ∙ beyond c short;
    })

-- ---- its bytes

module _ {order : List ℕ} {a : Answer} (p : OwnPlan order a) where
  -- Its starts have room in 18 bits,
  pub own-starts : Starts (starts_kept a.starts)
  own-starts i = time-in (p.timely i)

  -- so its bytes are bytes, as many as so many starts take,
  pub own-bytes : AreBytes (bytes_for a)
  unfolding bytes_for
  own-bytes = packed-bytes (a.mask / 2 ^ 16) (starts_kept a.starts) p.small own-starts

  pub own-length : length (bytes_for a) ≡ plan_bytes a.kept
  unfolding bytes_for
  own-length =
      packed-length (a.mask / 2 ^ 16) (starts_kept a.starts) p.small own-starts ∙ ap plan_bytes p.many

  -- and they say what was written: the mask,
  pub own-mask : mask_in (bytes_for a) ≡ a.mask / 2 ^ 16
  unfolding bytes_for
  own-mask = packed-mask (a.mask / 2 ^ 16) (starts_kept a.starts) p.small own-starts

  as_many : ones (a.mask / 2 ^ 16) ≡ length (starts_kept a.starts)
  as_many = p.marks ∙ sym p.many

  -- a start for each job kept,
  pub own-count : count_in (bytes_for a) ≡ a.kept
  unfolding bytes_for
  own-count = packed-count (a.mask / 2 ^ 16) (starts_kept a.starts) p.small own-starts as_many ∙ p.many

  pub own-kept : starts_in (bytes_for a) ≡ starts_kept a.starts
  unfolding bytes_for
  own-kept = packed-starts (a.mask / 2 ^ 16) (starts_kept a.starts) p.small own-starts as_many

  -- and no bits at the end.
  pub own-pad : pad_in (bytes_for a) ≡ 0
  unfolding bytes_for
  own-pad = packed-pad (a.mask / 2 ^ 16) (starts_kept a.starts) p.small own-starts as_many
