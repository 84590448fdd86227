-- The point total counted job by job: the profile of each prefix is made from the one before.
use Rattle.std.specs.Prelude.{ℕ, zero, suc, ◌+◌, ◌≡◌, refl, List, [], ◌∷◌, ℤ, length, take}
use Rattle.std.proofs.Common.{ap, ◌∙◌, arith}
use Rattle.order.specs.Job.{Job, Point}
use Rattle.profile.specs.Profile.{extend, start_point, points_up_to, point_total}
use Rattle.profile.proofs.Joining.{extend-extend}

-- The points of the profiles after each job, each made from the one before.
abbrev pub points_from : List Point → List Job → ℕ
points_from P [] = 0
points_from P (j ∷ js) =
    let Q = extend P (j ∷ []) in
    length Q + points_from Q js

-- The same counted over the prefixes, from any points.
prefix_points : ℕ → List Point → List Job → ℕ
prefix_points zero P js = 0
prefix_points (suc k) P js = prefix_points k P js + length (extend P (take (suc k) js))

-- The first job's points are counted first, and the others from there.
prefix_points-first : (k : ℕ) (P : List Point) (j : Job) (js : List Job)
    → prefix_points (suc k) P (j ∷ js) ≡ length (extend P (j ∷ [])) + prefix_points k (extend P (j ∷ [])) js
unfolding prefix_points
prefix_points-first zero P j js = omega arith
prefix_points-first (suc k) P j js =
    let ih = prefix_points-first k P j js in
    let e = ap length (extend-extend P (j ∷ []) (take (suc k) js)) in
    omega arith

-- So over all prefixes it is the count job by job,
prefix_points-all : (P : List Point) (js : List Job) → prefix_points (length js) P js ≡ points_from P js
unfolding prefix_points
prefix_points-all P [] = refl
prefix_points-all P (j ∷ js) =
    prefix_points-first (length js) P j js
    ∙ ap (λ (n : ℕ). length (extend P (j ∷ [])) + n) (prefix_points-all (extend P (j ∷ [])) js)

-- and from one point it is the point total's own sum.
prefix_points-up-to : (k : ℕ) (t : ℤ) (js : List Job) → points_up_to k t js ≡ prefix_points k (start_point t ∷ []) js
unfolding prefix_points
prefix_points-up-to zero t js = refl
prefix_points-up-to (suc k) t js =
    ap (λ (n : ℕ). n + length (extend (start_point t ∷ []) (take (suc k) js))) (prefix_points-up-to k t js)

-- The point total is the points counted job by job.
pub point_total-stepwise : (t : ℤ) (js : List Job) → point_total t js ≡ points_from (start_point t ∷ []) js
point_total-stepwise t js = prefix_points-up-to (length js) t js ∙ prefix_points-all (start_point t ∷ []) js
