-- The plan: the first of all feasible choices by the ranking, and the numbers that the plan's answer reports.
-- Definitions only.
use Prim.Native.Nat.{ℕ, compare, Ordering}
use Rattle.std.specs.Prelude.{List, [], ◌∷◌, ℤ, pos, negsuc}
use Rattle.std.proofs.Math.Option.{Option, none, some, map}
use Rattle.order.specs.Job.{Job, Order, Point}
use Rattle.order.specs.Choice.{Choice, lost_weight, starts, mask, number_kept, choices, run, results}
use Rattle.profile.specs.Profile.{start_point, point_total}

-- ---- the ranking

abbrev pub compare_z : ℤ → ℤ → Ordering
compare_z (pos a) (pos b) = compare a b
compare_z (pos a) (negsuc b) = Ordering.gt
compare_z (negsuc a) (pos b) = Ordering.lt
compare_z (negsuc a) (negsuc b) = compare b a

-- The first comparison decides, or else the second.
abbrev pub or_then : Ordering → Ordering → Ordering
or_then Ordering.lt o = Ordering.lt
or_then Ordering.eq o = o
or_then Ordering.gt o = Ordering.gt

-- At the last place where two choices differ, the smaller pick comes first: left out before kept.
abbrev pub by_last_place : Choice → Choice → Ordering
by_last_place [] [] = Ordering.eq
by_last_place [] (y ∷ d) = Ordering.lt
by_last_place (x ∷ c) [] = Ordering.gt
by_last_place (x ∷ c) (y ∷ d) = or_then (by_last_place c d) (compare x y)

-- A feasible choice with the point that it ends in: when it leaves the bus free, and the weight kept.
pub record Ended : Type 0 where
  pub choice : Choice
  pub end : Point

-- Greatest kept weight, then the bus free first, then the last differing place.
abbrev pub ranking : Ended → Ended → Ordering
ranking a b =
    or_then (compare b.end.weight a.end.weight)
    (or_then (compare_z a.end.time b.end.time) (by_last_place a.choice b.choice))

-- ---- the plan

abbrev pub first_by : Ordering → Ended → Ended → Ended
first_by Ordering.lt a b = a
first_by Ordering.eq a b = a
first_by Ordering.gt a b = b

abbrev pub or_first : Ended → Option Ended → Ended
or_first a none = a
or_first a (some b) = first_by (ranking a b) a b

-- The first of a list by the ranking.
abbrev pub first : List Ended → Option Ended
first [] = none
first (a ∷ l) = some (or_first a (first l))

-- A choice, if it is feasible with the bus free at t.
abbrev pub ended : ℤ → List Job → Choice → Option Ended
ended t js c = map (λ (p : Point). record { choice = c; end = p }) (run js c (start_point t))

abbrev pub plan : ℤ → List Job → Option Ended
plan t js = first (results (ended t js) (choices js))

-- ---- the plan's answer, without a refusal; none where no choice is feasible

pub record Answer : Type 0 where
  pub mask : ℕ
  pub kept : ℕ
  pub kept_weight : ℕ
  pub lost_weight : ℕ
  pub finish : ℤ
  pub points : ℕ
  pub starts : List ℤ

abbrev pub answer_of : ℤ → List Job → Ended → Answer
answer_of t js e =
    record {
      mask = mask e.choice;
      kept = number_kept e.choice;
      kept_weight = e.end.weight;
      lost_weight = lost_weight js e.choice;
      finish = e.end.time;
      points = point_total t js;
      starts = starts js e.choice t;
    }

abbrev pub plan_answer : Order → Option Answer
plan_answer o = map (answer_of o.t0 o.jobs) (plan o.t0 o.jobs)
