-- The paper (Hwang, Chen and Agrawala), sections 2 and 3.2, in whole signed seconds, with the bus free at t0 where it starts at 0
-- and with the bus-free time, a rest after the last finish, where it has the finish: feasible and optimal schedules of some
-- jobs, and when a set of scheduling points is complete and minimum. Definitions only.
use Rattle.std.specs.Prelude.{◌≤◌, ◌<◌, ◌≡◌, true, List, [], ◌∷◌, ℤ, ◌≤ℤ◌, ◌<ℤ◌}
use Rattle.order.specs.Job.{Job, Point}
use Rattle.order.specs.Choice.{Choice, feasible, finish, kept_weight}

-- Feasible at t: a choice of the jobs that keeps every critical one and meets the deadlines, which is `feasible`, and
-- leaves the bus free at or before t. The source's prefix of k jobs is a list of jobs here.
pub record FeasibleAt (t0 : ℤ) (js : List Job) (t : ℤ) (c : Choice) : Type 0 where
  pub can : feasible js c t0 ≡ true
  pub ends : finish js c t0 ≤ℤ t

-- Optimal at t: feasible at t, and nothing feasible at t weighs more.
pub record OptimalAt (t0 : ℤ) (js : List Job) (t : ℤ) (c : Choice) : Type 0 where
  pub able : FeasibleAt t0 js t c
  pub most : (d : Choice) → FeasibleAt t0 js t d → kept_weight js d ≤ kept_weight js c

-- A scheduling point: an instant and the schedule made at it.
pub record SchedulingPoint : Type 0 where
  pub instant : ℤ
  pub schedule : Choice

-- t is before the first scheduling point, which every t is where there is none.
abbrev pub BeforeFirst : ℤ → List SchedulingPoint → Type 0
BeforeFirst t [] = Unit {0}
BeforeFirst t (s ∷ l) = t <ℤ s.instant

-- From each point to the next, and from the last on, the schedule of that point is optimal.
abbrev pub OptimalBetween : ℤ → List Job → List SchedulingPoint → Type 0
OptimalBetween t0 js [] = Unit {0}
OptimalBetween t0 js (s ∷ l) =
    ((t : ℤ) → s.instant ≤ℤ t → BeforeFirst t l → OptimalAt t0 js t s.schedule) × OptimalBetween t0 js l

-- Complete: moreover, nothing is feasible before the first point.
pub record Complete (t0 : ℤ) (js : List Job) (l : List SchedulingPoint) : Type 0 where
  pub nothing : (t : ℤ) → BeforeFirst t l → (c : Choice) → ¬ FeasibleAt t0 js t c
  pub optimal : OptimalBetween t0 js l

-- A relation from each point to the next.
abbrev pub Successive : (SchedulingPoint → SchedulingPoint → Type 0) → List SchedulingPoint → Type 0
Successive R [] = Unit {0}
Successive R (s ∷ []) = Unit {0}
Successive R (s ∷ u ∷ l) = R s u × Successive R (u ∷ l)

-- The points stand in the order of time; they are minimum if each schedule weighs more than the one before.
abbrev pub InOrder : List SchedulingPoint → Type 0
InOrder l = Successive (λ s u. s.instant <ℤ u.instant) l

abbrev pub Minimum : List Job → List SchedulingPoint → Type 0
Minimum js l = Successive (λ s u. kept_weight js s.schedule < kept_weight js u.schedule) l

-- A set of scheduling points as the source asks for: in order, complete and minimum.
pub record CompleteMinimum (t0 : ℤ) (js : List Job) (l : List SchedulingPoint) : Type 0 where
  pub in_order : InOrder l
  pub complete : Complete t0 js l
  pub minimum : Minimum js l

-- The profile's point of a scheduling point.
abbrev pub point_of : List Job → SchedulingPoint → Point
point_of js s = record { time = s.instant; weight = kept_weight js s.schedule }

-- Each schedule is feasible at its own point.
abbrev pub EachFeasible : ℤ → List Job → List SchedulingPoint → Type 0
EachFeasible t0 js [] = Unit {0}
EachFeasible t0 js (s ∷ l) = FeasibleAt t0 js s.instant s.schedule × EachFeasible t0 js l
