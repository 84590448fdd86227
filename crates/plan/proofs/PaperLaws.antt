-- What the paper asks for holds here: the plan is an optimal schedule, and a set of scheduling points is complete and
-- minimum exactly when it is the profile.
use Rattle.std.specs.Prelude.{ℕ, ◌≤◌, ◌≡◌, refl, true, ◌↔◌, ◌⊎◌, ℤ, ◌≤ℤ◌, take}
use Rattle.std.proofs.Common.{ap₂, inl, inr, ⊎_elim, le_refl, arith}
use mathlib.Core.List.{List, [], ◌∷◌, map, Memᴰ}
use Rattle.std.proofs.Math.Option.{some}
use Rattle.std.specs.Int.Signed.{≤ℤ_refl}
use Rattle.seconds.specs.Signed.{signed, le_z-split, ≤ℤ-trans}
use Rattle.order.specs.Job.{Job, Order, Point}
use Rattle.order.specs.Choice.{Choice, feasible, kept_weight}
use Rattle.order.specs.Given.{Covers, Given, here, there, ◌⊑◌}
use Rattle.order.proofs.GivenLaws.{covers-trans, given_by, given-own, giver, ⊑-by}
use Rattle.order.proofs.Moves.{point-path}
use Rattle.order.proofs.Runs.{ran}
use Rattle.profile.specs.Profile.{start_point, profile_after}
use Rattle.profile.proofs.Rising.{Below, BelowAll, below_more, below-further, below-member}
use Rattle.profile.proofs.Rising.{Rising, rising_none, rising-one, rising-more}
use Rattle.profile.proofs.Points.{profile_of-rises, profile_of-same, profile_of-only, profile_of-member}
use Rattle.plan.specs.Plan.{Ended, plan}
use Rattle.plan.proofs.PlanIs.{end_of, run-feasible, plan-is, plan-ran, plan-heaviest}
use Rattle.plan.proofs.PlanProfile.{reached, reached-by, reaches}
use Rattle.plan.specs.Paper.{FeasibleAt, OptimalAt, SchedulingPoint, point_of, EachFeasible}
use Rattle.plan.specs.Paper.{BeforeFirst, OptimalBetween, Complete, InOrder, Minimum, CompleteMinimum}

-- From its bus-free time on, the plan is an optimal schedule of the whole order.
pub plan-optimal : (t0 : ℤ) (js : List Job) (e : Ended) → plan t0 js ≡ some e → (t : ℤ) → e.end.time ≤ℤ t
    → OptimalAt t0 js t e.choice
plan-optimal t0 js e h t late =
    let p = (plan-is t0 js e).0 h in
    let r = plan-ran t0 js e p in
    record {
      able = record { can = r.can; ends = omega (signed, r.free) };
      most = λ d f. omega (arith, plan-heaviest t0 js e p d f.can, r.sum);
    }

-- ---- scheduling points that rise

-- Points in order and minimum rise, and back.
rise : (js : List Job) (l : List SchedulingPoint) → InOrder l → Minimum js l → Rising (map (point_of js) l)
rise js [] h k = rising_none
rise js (s ∷ []) h k = rising-one (point_of js s)
rise js (s ∷ u ∷ l) h k = go (rise js (u ∷ l) h.1 k.1)
  where
    below : Below (point_of js s) (point_of js u)
    below = record { earlier = h.0; lighter = k.0 }

    go : Rising (map (point_of js) (u ∷ l)) → Rising (map (point_of js) (s ∷ u ∷ l))
    go (rising-more b r) = rising-more (below_more below (below-further below b)) (rising-more b r)

in_order_lem : (js : List Job) (l : List SchedulingPoint) → Rising (map (point_of js) l) → InOrder l
in_order_lem js [] r = tt
in_order_lem js (s ∷ []) r = tt
in_order_lem js (s ∷ u ∷ l) (rising-more (below_more h b) r) = (h.earlier, in_order_lem js (u ∷ l) r)

minimum : (js : List Job) (l : List SchedulingPoint) → Rising (map (point_of js) l) → Minimum js l
minimum js [] r = tt
minimum js (s ∷ []) r = tt
minimum js (s ∷ u ∷ l) (rising-more (below_more h b) r) = (h.lighter, minimum js (u ∷ l) r)

-- Rising points give nothing by a time before the first of them.
none_before : (js : List Job) (l : List SchedulingPoint) → Rising (map (point_of js) l) → {t : ℤ} {r : Point}
    → BeforeFirst t l → r.time ≤ℤ t → Given r (map (point_of js) l) → ⊥
none_before js [] r {t = t} b h x4 = elim x4 [ ]
none_before js (s ∷ l) r b h (here c) = omega signed
none_before js (s ∷ l) (rising-more below r) b h (there g) =
    let q = giver g in
    let k = below-member below q.1 in
    let c = q.2 in
    omega signed

module _ (t0 : ℤ) (js : List Job) where
  -- ---- feasible schedules and the points that the jobs reach

  -- The end of a feasible schedule is reached,
  end-reached : (c : Choice) → feasible js c t0 ≡ true → Memᴰ (end_of t0 js c) (reached t0 js)
  end-reached c h = reaches t0 js c (run-feasible t0 js c h)

  -- and a point that is reached is the end of one.
  abbrev EndsOne : Point → Type 0
  EndsOne r = (c : Choice) × FeasibleAt t0 js r.time c × (kept_weight js c ≡ r.weight)

  schedule-of : {r : Point} → Memᴰ r (reached t0 js) → EndsOne r
  schedule-of m =
      let c = reached-by t0 js m in
      let f = ran js c.0 (start_point t0) c.1 in
      (c.0, record { can = f.can; ends = omega (signed, f.free) }, omega (arith, f.sum))

  -- ---- from complete and minimum to the profile

  -- In a complete set each schedule is feasible at its own point.
  own-feasible : (l : List SchedulingPoint) → InOrder l → OptimalBetween t0 js l → EachFeasible t0 js l
  own-feasible [] h o = tt
  own-feasible (s ∷ []) h o = ((o.0 s.instant (≤ℤ_refl s.instant) tt).able, tt)
  own-feasible (s ∷ u ∷ l) h o = ((o.0 s.instant (≤ℤ_refl s.instant) h.0).able, own-feasible (u ∷ l) h.1 o.1)

  -- Schedules feasible at their points give no more than is reached.
  given-reached : (l : List SchedulingPoint) → EachFeasible t0 js l → map (point_of js) l ⊑ reached t0 js
  given-reached [] f r x'' = elim x'' [ ]
  given-reached (s ∷ l) f r (here c) =
      let own : Covers (end_of t0 js s.schedule) (point_of js s) = record { soon = f.0.ends; heavy = le_refl _ } in
      given_by (end-reached s.schedule f.0.can) (covers-trans own c)
  given-reached (s ∷ l) f r (there g) = given-reached l f.1 r g

  -- What is feasible at t is given by t's own part, unless t is before the first point.
  part_of : (l : List SchedulingPoint) → OptimalBetween t0 js l → (t : ℤ) (c : Choice) → FeasibleAt t0 js t c
      → BeforeFirst t l ⊎ Given (record { time = t; weight = kept_weight js c }) (map (point_of js) l)
  part_of [] o t c f = inl tt
  part_of (s ∷ l) o t c f = ⊎_elim (λ h. inr (go h (part_of l o.1 t c f))) inl (le_z-split s.instant t)
    where
      at-t : Point
      at-t = record { time = t; weight = kept_weight js c }

      go : s.instant ≤ℤ t → BeforeFirst t l ⊎ Given at-t (map (point_of js) l) → Given at-t (map (point_of js) (s ∷ l))
      go h (inl b) = here (record { soon = h; heavy = (o.0 t h b).most c f })
      go h (inr g) = there g

  reached-given : (l : List SchedulingPoint) → Complete t0 js l → reached t0 js ⊑ map (point_of js) l
  reached-given l w = ⊑-by λ r m. go r (schedule-of m)
    where
      go : (r : Point) → EndsOne r → Given r (map (point_of js) l)
      go r c =
          ⊎_elim (λ b. absurd (w.nothing r.time b c.0 c.1)) (λ g. rw c.2 at g)
          (part_of l w.optimal r.time c.0 c.1)

  is-profile : (l : List SchedulingPoint) → CompleteMinimum t0 js l → map (point_of js) l ≡ profile_after t0 js
  is-profile l w =
      profile_of-only (rise js l w.in_order w.minimum)
      (record {
        to = given-reached l (own-feasible l w.in_order w.complete.optimal);
        back = reached-given l w.complete;
      })

  -- ---- from the profile to complete and minimum

  -- r weighs no more than the first schedule, if there is one.
  abbrev NoHeavier : Point → List SchedulingPoint → Type 0
  NoHeavier r [] = Unit {0}
  NoHeavier r (s ∷ l) = r.weight ≤ kept_weight js s.schedule

  lighter-than-next : (s : SchedulingPoint) (l : List SchedulingPoint) (r : Point) → BelowAll (point_of js s) (map (point_of js) l)
      → r.weight ≤ kept_weight js s.schedule → NoHeavier r l
  lighter-than-next s [] r b h = tt
  lighter-than-next s (u ∷ l) r (below_more k b) h = omega (arith, k.lighter)

  -- Where every point reached is given from here on, or is no heavier than the next schedule, that schedule is optimal
  -- up to the one after it.
  between : (l : List SchedulingPoint) → EachFeasible t0 js l → Rising (map (point_of js) l)
      → ((r : Point) → Memᴰ r (reached t0 js) → Given r (map (point_of js) l) ⊎ NoHeavier r l)
      → OptimalBetween t0 js l
  between [] f r all = tt
  between (s ∷ l) f (rising-more b r) all = (here_on, between l f.1 r (λ q m. next q (all q m)))
    where
      weighs : (q : Point) → Given q (map (point_of js) (s ∷ l)) ⊎ NoHeavier q (s ∷ l) → (t : ℤ) → BeforeFirst t l → q.time ≤ℤ t
          → q.weight ≤ kept_weight js s.schedule
      weighs q (inl (here c)) t k h = c.heavy
      weighs q (inl (there g)) t k h = absurd (none_before js l r k h g)
      weighs q (inr w) t k h = w

      here_on : (t : ℤ) → s.instant ≤ℤ t → BeforeFirst t l → OptimalAt t0 js t s.schedule
      here_on t h k =
          record {
            able = record { can = f.0.can; ends = ≤ℤ-trans f.0.ends h };
            most = λ d g.
                weighs (end_of t0 js d) (all (end_of t0 js d) (end-reached d g.can)) t k g.ends;
          }

      next : (q : Point) → Given q (map (point_of js) (s ∷ l)) ⊎ NoHeavier q (s ∷ l) → Given q (map (point_of js) l) ⊎ NoHeavier q l
      next q (inl (here c)) = inr (lighter-than-next s l q b c.heavy)
      next q (inl (there g)) = inl g
      next q (inr w) = inr (lighter-than-next s l q b w)

  is-complete : (l : List SchedulingPoint) → EachFeasible t0 js l → map (point_of js) l ≡ profile_after t0 js
      → CompleteMinimum t0 js l
  is-complete l f e =
      let rises : Rising (map (point_of js) l) = rw e (profile_of-rises (reached t0 js)) in
      let gives : reached t0 js ⊑ map (point_of js) l = rw e (profile_of-same (reached t0 js)).back in
      record {
        in_order = in_order_lem js l rises;
        complete =
            record {
              nothing = λ t b c g.
                  none_before js l rises b g.ends (gives (end_of t0 js c) (given-own (end-reached c g.can)));
              optimal = between l f rises (λ r m. inl (gives r (given-own m)));
            };
        minimum = minimum js l rises;
      }

  -- Scheduling points are in order, complete and minimum exactly when their points are the profile and each schedule is
  -- feasible at its own.
  pub complete-minimum-is : (l : List SchedulingPoint)
      → CompleteMinimum t0 js l ↔ (EachFeasible t0 js l × (map (point_of js) l ≡ profile_after t0 js))
  complete-minimum-is l =
      (λ w. (own-feasible l w.in_order w.complete.optimal, is-profile l w), λ p. is-complete l p.0 p.1)

  -- Each point of the profile is the end of some choice,
  schedules : (ps : List Point) → ((p : Point) → Memᴰ p ps → Memᴰ p (reached t0 js))
      → (l : List SchedulingPoint) × EachFeasible t0 js l × (map (point_of js) l ≡ ps)
  schedules [] h = ([], tt, refl)
  schedules (p ∷ ps) h =
      let c = schedule-of (h p (Memᴰ.head refl)) in
      let further = schedules ps (λ q m. h q (Memᴰ.tail m)) in
      let s : SchedulingPoint = record { instant = p.time; schedule = c.0 } in
      (s ∷ further.0, (c.1, further.1), ap₂ ◌∷◌ (point-path refl c.2) further.2)

-- so the profile of each prefix of an order has schedules with which it is complete and minimum.
pub prefix-complete-minimum : (o : Order) (k : ℕ)
    → (l : List SchedulingPoint) × CompleteMinimum o.t0 (take k o.jobs) l
    × (map (point_of (take k o.jobs)) l ≡ profile_after o.t0 (take k o.jobs))
prefix-complete-minimum o k =
    let js = take k o.jobs in
    let s = schedules o.t0 js (profile_after o.t0 js) (λ p m. profile_of-member (reached o.t0 js) m) in
    (s.0, is-complete o.t0 js s.0 s.1 s.2, s.2)
