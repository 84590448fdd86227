-- The plan and the profile: the plan ends in the profile's last point, and there is no plan exactly when the profile is empty.
use Rattle.std.specs.Prelude.{◌≡◌, refl, ◌↔◌, false, ℤ}
use Rattle.std.proofs.Common.{sym, ap, ◌∙◌, true≢false, arith}
use mathlib.Core.List.Memᴰ
use mathlib.Core.List.{List, [], ◌∷◌, Memᴰ}
use Rattle.std.proofs.Math.Option.{Option, none, some, map, map-eq-none_iff}
use Rattle.seconds.specs.Signed.{signed}
use Rattle.order.specs.Job.{Job, Order, Point}
use Rattle.order.specs.Choice.{Choice, feasible, run, outcomes}
use Rattle.order.proofs.Runs.{ran}
use Rattle.order.proofs.Outcomes.{outcome-of, outcome-in}
use Rattle.profile.specs.Profile.{start_point, profile_after, order_profile}
use Rattle.profile.proofs.Last.{last_point, Best, last-best, last_none, last-of-none}
use Rattle.plan.specs.Plan.{Ended, plan}
use Rattle.plan.proofs.PlanIs.{IsPlan, plan-is, all-out, plan-none, plan-heaviest, plan-soonest}

-- All that the choices of some jobs give with the bus free at t.
abbrev pub reached : ℤ → List Job → List Point
reached t js = outcomes js (start_point t ∷ [])

-- They are the ends of the feasible choices.
pub reached-by : (t : ℤ) (js : List Job) {r : Point} → Memᴰ r (reached t js)
    → (c : Choice) × (run js c (start_point t) ≡ some r)
reached-by t js m =
    let o = outcome-of js (start_point t ∷ []) m in
    (o.choice, rw (Memᴰ.eq_of_singleton o.listed) at o.gives)

pub reaches : (t : ℤ) (js : List Job) (c : Choice) {r : Point} → run js c (start_point t) ≡ some r → Memᴰ r (reached t js)
reaches t js c = outcome-in js (start_point t ∷ []) c (Memᴰ.head refl)

-- There are none where nothing is feasible.
nothing-reached : (t : ℤ) (js : List Job) → ((c : Choice) → feasible js c t ≡ false) → reached t js ≡ []
nothing-reached t js out =
    all-out (reached t js) λ r m.
    let c = reached-by t js m in
    true≢false (sym (ran js c.0 (start_point t) c.1).can ∙ out c.0)

-- The plan ends in the heaviest of these, and in the earliest of that weight.
plan-best : (t : ℤ) (js : List Job) (e : Ended) → IsPlan t js e → Best (reached t js) e.end
plan-best t js e p =
    record {
      member = reaches t js e.choice p.feasible;
      heaviest = λ r m.
          let c = reached-by t js m in
          let f = ran js c.0 (start_point t) c.1 in
          omega (arith, plan-heaviest t js e p c.0 f.can, f.sum);
      earliest = λ r m w.
          let c = reached-by t js m in
          let f = ran js c.0 (start_point t) c.1 in
          omega (signed, plan-soonest t js e p c.0 f.can (omega (arith, f.sum)), f.free);
    }

-- The plan's end is the last point of the profile: no plan, no point.
pub plan-end-last : (t : ℤ) (js : List Job) → map (λ (e : Ended). e.end) (plan t js) ≡ last_point (profile_after t js)
plan-end-last t js = go (plan t js) refl
  where
    go : (o : Option Ended) → plan t js ≡ o → map (λ (e : Ended). e.end) o ≡ last_point (profile_after t js)
    go none h = sym ((last-of-none (reached t js)).1 (nothing-reached t js ((plan-none t js).0 h)))
    go (some e) h = sym ((last-best (reached t js) e.end).1 (plan-best t js e ((plan-is t js e).0 h)))

-- So the plan's bus-free time and kept weight are the last point's time and weight,
pub plan-last : (o : Order) (e : Ended) → plan o.t0 o.jobs ≡ some e → last_point (order_profile o) ≡ some e.end
plan-last o e h = sym (plan-end-last o.t0 o.jobs) ∙ ap (map (λ (e : Ended). e.end)) h

-- and there is no plan exactly when the profile is empty.
pub no-plan-no-profile : (t : ℤ) (js : List Job) → (plan t js ≡ none) ↔ (profile_after t js ≡ [])
no-plan-no-profile t js =
    let same = plan-end-last t js in
    let mapped = map-eq-none_iff (λ (e : Ended). e.end) (plan t js) in
    (λ h. last_none (profile_after t js) (sym same ∙ mapped.1 h), λ h. mapped.0 (same ∙ ap last_point h))
