-- The greatest weight of an order's profile decides whether a feasible choice keeps more than a weight: at the latest time at
-- which the bus can be free every feasible choice has its point there.
use Rattle.std.specs.Prelude.{ℕ, ◌+◌, ◌≡◌, refl, true, List, [], ◌∷◌, T, leb, ◌≤ℤ◌}
use Rattle.std.proofs.Common.{sym, ap, subst, ◌∙◌, zero-add, arith, leb-true, leb-false}
use mathlib.Core.List.Memᴰ
use Rattle.std.proofs.Math.Option.{Option, none, some}
use borrow.Table.Steps.{cases}
use Rattle.seconds.specs.Limits.{latest_free}
use Rattle.seconds.specs.RangesLaws.{time-free}
use Rattle.order.specs.Job.{Job, Order, Point, order_within}
use Rattle.order.specs.Choice.{Choice, feasible, finish, kept_weight, choices}
use Rattle.order.proofs.Runs.{runs, run-in-range}
use Rattle.order.proofs.Within.{order-within}
use Rattle.profile.specs.Profile.{worth, start_point, order_profile}
use Rattle.profile.proofs.Greatest.{Greatest, nothing, greatest}
use Rattle.profile.proofs.Worth.{lookup-worth}
use Rattle.profile.proofs.Extending.{SumBy, extend-is}
use Rattle.legal.specs.Legal.{none_more}
use Rattle.legal.proofs.BestLaws.{none_more_lem}
use Rattle.best_plan.specs.Weights.{not_above}

module _ (o : Order) (within : T (order_within o)) where
  abbrev jobs : List Job
  jobs = o.jobs

  abbrev from : List Point
  from = start_point o.t0 ∷ []

  -- A feasible choice leaves the bus free by the latest time,
  in-time : (c : Choice) → feasible jobs c o.t0 ≡ true → finish jobs c o.t0 ≤ℤ latest_free
  in-time c can =
      let limits = order-within o within in
      (run-in-range jobs c (start_point o.t0) limits.jobs (time-free limits.t0)
      (runs jobs c (start_point o.t0) (record { can = can; free = refl; sum = refl }))).high

  -- so its weight is one of the profile's by then,
  weight-there : (c : Choice) → feasible jobs c o.t0 ≡ true → SumBy from jobs latest_free (kept_weight jobs c)
  weight-there c can =
      record {
        point = start_point o.t0;
        member = Memᴰ.head refl;
        choice = c;
        can = can;
        by = in-time c can;
        sums = zero-add (kept_weight jobs c);
      }

  -- and these are the weights of feasible choices.
  there-can : {w : ℕ} (s : SumBy from jobs latest_free w) → feasible jobs s.choice o.t0 ≡ true
  there-can s = ap (λ (p : Point). feasible jobs s.choice p.time) (sym (Memᴰ.eq_of_singleton s.member)) ∙ s.can

  there-keeps : {w : ℕ} (s : SumBy from jobs latest_free w) → kept_weight jobs s.choice ≡ w
  there-keeps s =
      sym (zero-add (kept_weight jobs s.choice))
      ∙ ap (λ (p : Point). p.weight + kept_weight jobs s.choice) (sym (Memᴰ.eq_of_singleton s.member))
      ∙ s.sums

  profile-greatest : Greatest (SumBy from jobs latest_free) (worth (order_profile o) latest_free)
  profile-greatest =
      let shortest = extend-is from jobs in
      subst (Greatest (SumBy from jobs latest_free)) (lookup-worth shortest.rises latest_free) (shortest.finds latest_free)

  -- No feasible choice keeps more than a weight exactly when the greatest of the profile is not above it.
  pub most-told : (v : ℕ) → none_more o v (choices o.jobs) ≡ not_above (worth (order_profile o) latest_free) v
  most-told v = go (worth (order_profile o) latest_free) profile-greatest
    where
      go : (m : Option ℕ) → Greatest (SumBy from jobs latest_free) m → none_more o v (choices jobs) ≡ not_above m v
      go none (nothing f) = (none_more_lem o v).1 (λ c can. absurd (f (kept_weight jobs c) (weight-there c can)))
      go (some w) (greatest s h) = cases (leb w v)
          (λ e. (none_more_lem o v).1 (λ c can. omega (arith, h (kept_weight jobs c) (weight-there c can), leb-true w v e)) ∙ sym e)
          (λ e. cases (none_more o v (choices jobs))
          (λ y. absurd (omega (arith, (none_more_lem o v).0 y s.choice (there-can s), there-keeps s, leb-false w v e)))
          (λ y. y ∙ sym e))
