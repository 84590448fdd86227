-- The list after some jobs is the profile extended by them, from every profile to start with; so it has a point exactly where
-- the weight row has a cell and no greater weight is reached as early.
use Rattle.std.specs.Prelude.{ℕ, ◌+◌, ◌≤◌, ◌<◌, ◌≡◌, refl, false, ◌↔◌, ℤ, length, ◌<ℤ◌}
use Rattle.std.proofs.Common.{sym, ap, ◌∙◌}
use mathlib.Core.List.Memᴰ.{head}
use mathlib.Core.List.Memᴰ.{tail}
use mathlib.Core.List.{List, [], ◌∷◌, Memᴰ as In}
use Rattle.order.specs.Job.{Rate, Job, Point}
use Rattle.profile.specs.Profile.{profile_of, extend, start_point, point_total}
use Rattle.profile.proofs.Rising.{Rising, rising-one}
use Rattle.profile.proofs.Points.{profile_of-rises, profile_of-rising}
use Rattle.profile.proofs.Joining.{extend-extend}
use Rattle.profile.proofs.Stepwise.{points_from, point_total-stepwise}
use Rattle.order.specs.Choice.{outcomes}
use Rattle.order.proofs.Outcomes.{outcomes-none}
use Rattle.rows.specs.Row.{earliest_of, row_after, Cell, NonePast, read_off}
use Rattle.rows.proofs.RowLaws.{rows-say}
use Rattle.rows.proofs.ReadLaws.{profile-point, extend-by-rows}
use Rattle.points.specs.Steps.{step_rates, list_step, list_after, points_by_lists}
use Rattle.points.proofs.StepLaws.{step-extends}

-- A job as the rules have it: one rate, which counts something unless the job is critical.
pub record Single (j : Job) : Type 0 where
  pub rate : Rate
  pub only : j.rates ≡ rate ∷ []
  pub weighty : j.critical ≡ false → 1 ≤ rate.gain

abbrev pub Singles : List Job → Type 0
Singles js = (j : Job) → In j js → Single j

-- The list after one job is the profile extended by it,
pub step_is : {j : Job} → Single j → {P : List Point} → Rising P → list_step j P ≡ extend P (j ∷ [])
step_is {j} s {P} r = ap (λ (rs : List Rate). step_rates j rs P) s.only ∙ step-extends j s.rate s.only r s.weighty

-- and the list after all is the profile extended by all.
pub list-is : (js : List Job) → Singles js → {P : List Point} → Rising P → list_after js P ≡ extend P js
list-is [] s {P} r = sym (ap profile_of (outcomes-none P) ∙ profile_of-rising r)
list-is (j ∷ js) s {P} r =
    ap (list_after js) (step_is (s j (head refl)) r)
    ∙ list-is js (λ k m. s k (tail m)) (profile_of-rises (outcomes (j ∷ []) P))
    ∙ extend-extend P (j ∷ []) js

-- A point is in the list exactly when its weight has a cell and no greater weight is reached as early.
pub list-point : (js : List Job) → Singles js → {P : List Point} → Rising P → (q : Point)
    → In q (list_after js P) ↔ (Cell (row_after js (earliest_of P)) q
    × ((x : Point) → Cell (row_after js (earliest_of P)) x → q.weight < x.weight → q.time <ℤ x.time))
list-point js s {P} r q = rw (list-is js s r) (profile-point (rows-say js P) q)

-- The list is what is read off the row,
pub list-read-off : (js : List Job) → Singles js → {P : List Point} → Rising P → (top : ℕ) → NonePast top (row_after js (earliest_of P))
    → read_off (row_after js (earliest_of P)) top ≡ list_after js P
list-read-off js s {P} r top h = sym (extend-by-rows P js top h) ∙ sym (list-is js s r)

-- and the points of the lists of all prefixes are the point total.
points-from : (js : List Job) → Singles js → {P : List Point} → Rising P → points_by_lists js P ≡ points_from P js
points-from [] s r = refl
points-from (j ∷ js) s {P} r =
    let e = step_is (s j (head refl)) r in
    ap (λ (Q : List Point). length Q + points_by_lists js Q) e
    ∙ ap (λ (n : ℕ). length (extend P (j ∷ [])) + n) (points-from js (λ k m. s k (tail m)) (profile_of-rises (outcomes (j ∷ []) P)))

pub points-are : (t : ℤ) (js : List Job) → Singles js → points_by_lists js (start_point t ∷ []) ≡ point_total t js
points-are t js s = points-from js s (rising-one (start_point t)) ∙ sym (point_total-stepwise t js)
