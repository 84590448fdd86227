-- Extending, in the words of R12: at each time the greatest sum of a point's weight and the kept weight of a choice that
-- is feasible from that point and leaves the bus free by then; and the shortest profile that gives it.
use Rattle.std.specs.Prelude.{ℕ, ◌+◌, ◌≡◌, refl, true, ◌↔◌, ℤ, ◌≤ℤ◌}
use Rattle.std.proofs.Common.{sym, ◌∙◌}
use mathlib.Core.List.{List, [], Memᴰ}
use Rattle.std.proofs.Math.Option.{Option, some}
use Rattle.seconds.specs.Signed.{signed}
use Rattle.order.specs.Job.{Job, Point}
use Rattle.order.specs.Choice.{Choice, feasible, finish, kept_weight, run, outcomes}
use Rattle.order.proofs.Runs.{ran, runs}
use Rattle.order.proofs.Outcomes.{outcome-of, outcome-in}
use Rattle.profile.specs.Profile.{extend}
use Rattle.profile.proofs.Last.{last_point, Best, last-best}
use Rattle.profile.proofs.Greatest.{Greatest, greatest-one, greatest-same}
use Rattle.profile.proofs.Worth.{WeightBy, worth-greatest, ShortestProfile, profile_of-is}

-- A point of P and a choice that is feasible from its time and leaves the bus free by t; w is the sum of both weights.
pub record SumBy (P : List Point) (js : List Job) (t : ℤ) (w : ℕ) : Type 0 where
  pub point : Point
  pub member : Memᴰ point P
  pub choice : Choice
  pub can : feasible js choice point.time ≡ true
  pub by : finish js choice point.time ≤ℤ t
  pub sums : point.weight + kept_weight js choice ≡ w

-- The greatest such sum, or none if there is none.
abbrev pub GreatestBy : List Point → List Job → ℤ → Option ℕ → Type 0
GreatestBy P js t o = Greatest (SumBy P js t) o

-- The sums are the weights of the outcomes, both ways.
sum-outcome : (P : List Point) (js : List Job) (t : ℤ) (w : ℕ) → SumBy P js t w → WeightBy (outcomes js P) t w
sum-outcome P js t w s =
    let c = s.choice in
    let p = s.point in
    let q : Point = record { time = finish js c p.time; weight = p.weight + kept_weight js c } in
    let to : run js c p ≡ some q = runs js c p (record { can = s.can; free = refl; sum = refl }) in
    record { point = q; member = outcome-in js P c s.member to; by = s.by; weighs = s.sums }

outcome-sum : (P : List Point) (js : List Job) (t : ℤ) (w : ℕ) → WeightBy (outcomes js P) t w → SumBy P js t w
outcome-sum P js t w b =
    let o = outcome-of js P b.member in
    let r = ran js o.choice o.from o.gives in
    let early = b.by in
    let free = r.free in
    record {
      point = o.from;
      member = o.listed;
      choice = o.choice;
      can = r.can;
      by = omega signed;
      sums = sym r.sum ∙ b.weighs;
    }

-- Extending gives the shortest profile of the greatest sums.
pub extend-is : (P : List Point) (js : List Job) → ShortestProfile (GreatestBy P js) (extend P js)
extend-is P js =
    profile_of-is (GreatestBy P js) (λ t a b g h. greatest-one g h) (outcomes js P)
    (λ t. greatest-same (λ w. (outcome-sum P js t w, sum-outcome P js t w)) (worth-greatest (outcomes js P) t))

-- An empty profile extended is empty.
pub extend-empty : (js : List Job) → extend [] js ≡ []
extend-empty js = refl

-- Its last point has the greatest weight of all outcomes, and the earliest time of that weight.
pub extend-last : (P : List Point) (js : List Job) (q : Point) → last_point (extend P js) ≡ some q ↔ Best (outcomes js P) q
extend-last P js q = last-best (outcomes js P) q
