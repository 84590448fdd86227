-- Valid profiles as facts, and what keeps them valid: extending by jobs within the limits, and better-of.
use Rattle.std.specs.Prelude.{ℕ, suc, ◌+◌, ◌≤◌, ◌≡◌, refl, Bool, true, false, cond, T, leb, ℤ, length, take, drop}
use Rattle.std.proofs.Common.{sym, ap, ◌∙◌, subst, ⊎_elim, arith, leb→le, le→leb, take-append-drop}
use mathlib.Core.List.Memᴰ
use mathlib.Core.List.{List, [], ◌∷◌, ◌++◌, Memᴰ}
use Rattle.std.specs.Float.Ieee.Fits.{and_i, and_l, and_r}
use Rattle.std.specs.Float.Ieee.Bits.{is_true}
use Rattle.seconds.specs.Limits.{earliest, latest_free, most_weight, most_points}
use Rattle.seconds.specs.Signed.{true-T}
use Rattle.seconds.specs.Ranges.{InFree, is_free}
use Rattle.seconds.specs.RangesLaws.{between-true, time-free}
use Rattle.order.specs.Job.{Job, Order, Point, jobs_within, weight_of, order_within}
use Rattle.order.specs.Choice.{outcomes}
use Rattle.order.proofs.Within.{JobWithin, jobs-within, jobs_within-append, order-within}
use Rattle.order.proofs.Runs.{ran, run-in-range}
use Rattle.order.proofs.Outcomes.{outcome-of}
use Rattle.order.proofs.Counts.{kept-light}
use Rattle.profile.specs.Profile.{rising, points_within, valid_profile, extend, better_of, start_point, profile_after, order_profile}
use Rattle.profile.proofs.Rising.{Rising, rising-more, rising-one, below-member, rising-holds, rising-passes}
use Rattle.profile.proofs.Points.{profile_of-rises, profile_of-member}
use Rattle.profile.proofs.Last.{last_weight, last-heaviest}

-- ---- valid profiles as facts

-- A point within the limits.
pub record PointWithin (p : Point) : Type 0 where
  pub time : InFree p.time
  pub weight : p.weight ≤ most_weight

-- What the test says of a profile.
pub record ValidProfile (ps : List Point) : Type 0 where
  pub short : length ps ≤ most_points
  pub rises : Rising ps
  pub within : (p : Point) → Memᴰ p ps → PointWithin p

points-within : (ps : List Point) → T (points_within ps) → (p : Point) → Memᴰ p ps → PointWithin p
points-within [] t p x'' = elim x'' [ ]
points-within (q ∷ ps) t p (Memᴰ.head e) =
    rw e (record {
      time = (between-true earliest latest_free q.time).0 (is_true (is_free q.time) (search and_l));
      weight = leb→le q.weight most_weight (search (and_l, and_r));
    })
points-within (q ∷ ps) t p (Memᴰ.tail m) = points-within ps (search (and_l, and_r)) p m

within-points : (ps : List Point) → ((p : Point) → Memᴰ p ps → PointWithin p) → T (points_within ps)
within-points [] h = tt
within-points (q ∷ ps) h =
    let first = h q (Memᴰ.head refl) in
    let free : T (is_free q.time) = true-T ((between-true earliest latest_free q.time).1 first.time) in
    let light : T (leb q.weight most_weight) = le→leb q.weight most_weight first.weight in
    let further : T (points_within ps) = within-points ps (λ p m. h p (Memᴰ.tail m)) in
    search and_i

-- A profile that passes the test is valid, and back.
pub valid-holds : (ps : List Point) → T (valid_profile ps) → ValidProfile ps
valid-holds ps t =
    record {
      short = leb→le (length ps) most_points (search and_l);
      rises = rising-holds ps (search (and_l, and_r));
      within = points-within ps (search (and_l, and_r));
    }

pub valid-passes : (ps : List Point) → ValidProfile ps → T (valid_profile ps)
valid-passes ps v =
    let short : T (leb (length ps) most_points) = le→leb (length ps) most_points v.short in
    let rises : T (rising ps) = rising-passes v.rises in
    let within : T (points_within ps) = within-points ps v.within in
    search and_i

-- ---- how many points

-- Weights rise, so there is at most one point for each weight from the first one's up.
rising-room : {p : Point} {ps : List Point} (m : ℕ) → Rising (p ∷ ps) → ((q : Point) → Memᴰ q (p ∷ ps) → q.weight ≤ m)
    → length ps + p.weight ≤ m
rising-room {p} {ps = []} m r h = omega (arith, h p (Memᴰ.head refl))
rising-room {p} {ps = q ∷ qs} m (rising-more b r) h =
    omega (arith, below-member b (Memᴰ.head {x = q} refl), rising-room m r (λ x n. h x (Memᴰ.tail n)))

-- A rising list of weights up to m has at most m + 1 points.
pub rising-short : {ps : List Point} (m : ℕ) → Rising ps → ((q : Point) → Memᴰ q ps → q.weight ≤ m) → length ps ≤ suc m
rising-short {ps = []} m r h = omega arith
rising-short {ps = p ∷ ps} m r h = omega (arith, rising-room m r h)

-- ---- extending

-- No result is heavier than the last point's weight and the jobs' weights together.
pub extend-light : {P : List Point} (js : List Job) → Rising P → T (jobs_within js)
    → (q : Point) → Memᴰ q (extend P js) → q.weight ≤ last_weight P + weight_of js
extend-light {P} js r w q m =
    let o = outcome-of js P (profile_of-member (outcomes js P) m) in
    omega (
      arith,
      (ran js o.choice o.from o.gives).sum,
      kept-light js o.choice w,
      last-heaviest r o.from o.listed,
    )

-- So there are at most as many points as that weight, and one.
pub extend-short : {P : List Point} (js : List Job) → Rising P → T (jobs_within js)
    → length (extend P js) ≤ suc (last_weight P + weight_of js)
extend-short {P} js r w = rising-short (last_weight P + weight_of js) (profile_of-rises (outcomes js P)) (extend-light js r w)

-- Extending a valid profile by jobs within the limits gives a valid profile, where the weights together are at most 300.
pub valid-extend : (P : List Point) (js : List Job) → T (valid_profile P) → T (jobs_within js)
    → last_weight P + weight_of js ≤ most_weight → T (valid_profile (extend P js))
valid-extend P js t w l = valid-passes (extend P js) (record {
  short = omega (arith, extend-short js v.rises w);
  rises = profile_of-rises (outcomes js P);
  within = λ q m. record { time = time q m; weight = omega (arith, extend-light js v.rises w q m) };
})
  where
    v : ValidProfile P
    v = valid-holds P t

    time : (q : Point) → Memᴰ q (extend P js) → InFree q.time
    time q m =
        let o = outcome-of js P (profile_of-member (outcomes js P) m) in
        run-in-range js o.choice o.from w (v.within o.from o.listed).time o.gives

-- One point at a bus-free time is a valid profile, of no weight,
pub valid-start : (t : ℤ) → InFree t → T (valid_profile (start_point t ∷ []))
valid-start t h = valid-passes (start_point t ∷ []) (record {
  short = omega arith;
  rises = rising-one (start_point t);
  within = λ p m. rw (Memᴰ.eq_of_singleton m) (record { time = h; weight = omega arith });
})

-- so the profile of an order within the limits is valid.
pub valid-order_profile : (o : Order) → T (order_within o) → T (valid_profile (order_profile o))
valid-order_profile o t =
    let w = order-within o t in
    valid-extend (start_point o.t0 ∷ []) o.jobs (valid-start o.t0 (time-free w.t0)) w.jobs (omega (arith, w.weight))

-- ---- better-of

-- Better-of of two valid profiles is a valid profile.
pub valid-better_of : (P Q : List Point) → T (valid_profile P) → T (valid_profile Q) → T (valid_profile (better_of P Q))
valid-better_of P Q s t = valid-passes (better_of P Q) (record {
  short = rising-short most_weight (profile_of-rises (P ++ Q)) (λ q m. (within q m).weight);
  rises = profile_of-rises (P ++ Q);
  within = within;
})
  where
    within : (q : Point) → Memᴰ q (better_of P Q) → PointWithin q
    within q m =
        ⊎_elim ((valid-holds P s).within q) ((valid-holds Q t).within q)
        (Memᴰ.append_cases P (profile_of-member (P ++ Q) m))

-- ---- the prefixes of an order

-- The first k of jobs within the limits are within the limits.
pub jobs-take : (k : ℕ) (js : List Job) → T (jobs_within js) → T (jobs_within (take k js))
jobs-take k js t =
    let e = ap jobs_within (sym (take-append-drop k js)) ∙ jobs_within-append (take k js) (drop k js) in
    and_l (jobs_within (take k js)) (jobs_within (drop k js)) (subst T e t)

-- After k jobs from one point there are at most as many points as their weights, and one.
pub prefix-short : (t : ℤ) (k : ℕ) (js : List Job) → T (jobs_within js)
    → length (profile_after t (take k js)) ≤ 1 + weight_of (take k js)
prefix-short t k js w = omega (arith, extend-short (take k js) (rising-one (start_point t)) (jobs-take k js w))

-- The weights of the non-critical jobs,
abbrev pub non_critical_weight : List Job → ℕ
non_critical_weight [] = 0
non_critical_weight (j ∷ js) = cond j.critical 0 j.weight + non_critical_weight js

-- which are all weights there are.
pub non_critical-all : (js : List Job) → T (jobs_within js) → non_critical_weight js ≡ weight_of js
non_critical-all [] w = refl
non_critical-all (j ∷ js) w = let ws = jobs-within j js w in go j.critical refl ws.0 (non_critical-all js ws.1)
  where
    go : (b : Bool) → j.critical ≡ b → JobWithin j → non_critical_weight js ≡ weight_of js
        → cond b 0 j.weight + non_critical_weight js ≡ j.weight + weight_of js
    go true c v e = omega (arith, v.weightless c)
    go false c v e = omega arith
