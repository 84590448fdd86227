-- What a call takes from planning, in three ways: as computed from weight rows, as computed from lists of points, and as the
-- rules say it. Definitions only.
use Rattle.std.specs.Prelude.{ℕ, suc, ◌+◌, ◌≡◌, List, [], ◌∷◌, ℤ, length, take}
use Rattle.std.proofs.Math.Option.{Option}
use Rattle.order.specs.Job.{Job, Point}
use Rattle.profile.specs.Profile.{lookup, extend, start_point, profile_after, last_weight, point_total}
use Rattle.profile.proofs.Rising.{Rising}
use Rattle.plan.specs.Plan.{Ended, plan}
use Rattle.rows.specs.Row.{earliest_of, start_row, row_after, reach, read_off, points_by_rows}
use Rattle.rows.specs.ByTime.{heaviest_by}
use Rattle.rows.specs.Walk.{plan_by_rows}
use Rattle.points.specs.Steps.{list_after, points_by_lists}
use Rattle.points.specs.Walk.{plan_by_lists}

-- The plan of some jobs with the bus free at a time, and their point total; a profile extended by them; and the last point of
-- their own profile by another time.
pub record Way : Type 0 where
  pub planned : ℤ → List Job → Option Ended
  pub total : ℤ → List Job → ℕ
  pub extended : List Point → List Job → List Point
  pub point_at : ℤ → List Job → ℤ → Option Point

-- By rows, each read up to the weight that is reached.
abbrev pub by_rows : Way
by_rows =
    record {
      planned = plan_by_rows;
      total = λ t js. points_by_rows (λ k. reach (take k js)) (length js) t js;
      extended = λ P js. read_off (row_after js (earliest_of P)) (last_weight P + reach js);
      point_at = λ t js u. heaviest_by (row_after js (start_row t)) u (suc (reach js));
    }

-- By lists.
abbrev pub by_lists : Way
by_lists =
    record {
      planned = plan_by_lists;
      total = λ t js. points_by_lists js (start_point t ∷ []);
      extended = λ P js. list_after js P;
      point_at = λ t js u. lookup (list_after js (start_point t ∷ [])) u;
    }

-- By the rules.
abbrev pub by_rules : Way
by_rules =
    record {
      planned = plan;
      total = point_total;
      extended = extend;
      point_at = λ t js u. lookup (profile_after t js) u;
    }

-- Two ways give the same for some jobs, from any time and any profile.
pub record SameWay (a b : Way) (js : List Job) : Type 0 where
  pub planned : (t : ℤ) → a.planned t js ≡ b.planned t js
  pub total : (t : ℤ) → a.total t js ≡ b.total t js
  pub extended : (P : List Point) → Rising P → a.extended P js ≡ b.extended P js
  pub point_at : (t u : ℤ) → a.point_at t js u ≡ b.point_at t js u
