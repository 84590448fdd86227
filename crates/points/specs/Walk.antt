-- The walk back over the lists of the prefixes, from the last job to the first: a job is left out where the list before it
-- gives exactly the weight still to account for, by the latest time allowed; else it is kept. And the plan by lists.
-- Definitions only.
use Rattle.std.specs.Prelude.{ℕ, ◌-◌, Bool, false, cond, List, [], ◌∷◌, reverse, leb, eqb, ℤ}
use Rattle.std.proofs.Math.Option.{Option, none, some, map}
use Rattle.order.specs.Job.{Job, Point, gain_of}
use Rattle.order.specs.Choice.{Choice}
use Rattle.order.proofs.Moves.{latest_before}
use Rattle.profile.specs.Profile.{last_point, start_point}
use Rattle.profile.proofs.Worth.{lookup_weight}
use Rattle.plan.specs.Plan.{Ended}
use Rattle.rows.specs.Walk.{Source, onward}
use Rattle.points.specs.Steps.{list_after}

-- A lookup finds exactly this weight.
abbrev pub is_weight : Option ℕ → ℕ → Bool
is_weight none w = false
is_weight (some v) w = eqb v w

-- Whether a job is left out: it is not critical, and the list before it gives the weight by that time.
abbrev pub leaves_by : Job → List Point → ℕ → ℤ → Bool
leaves_by j list w by = cond j.critical false (is_weight (lookup_weight list by) w)

-- Left out, or kept with the latest time before it, where as much weight is still wanted as it counts.
abbrev pub left_out : ℤ → Source
left_out by = record { pick = 0; latest = by }

abbrev pub kept_by : ℤ → Source
kept_by e = record { pick = 1; latest = e }

abbrev pub source_in : Job → List Point → ℕ → ℤ → Option Source
source_in j list w by =
    let kept = map kept_by (latest_before j 1 by) in
    cond (leaves_by j list w by) (some (left_out by)) (cond (leb (gain_of j 1) w) kept none)

-- The walk over the lists of the prefixes of some jobs, told from the last to the first, with what is made of the picks.
abbrev pub fold_lists {ℓ} : {A : Type ℓ} → (ℕ → A → A) → List Job → List Point → ℕ → ℤ → A → Option A
fold_lists add [] start w by made = some made
fold_lists add (j ∷ before) start w by made =
    onward (source_in j (list_after (reverse before) start) w by)
    (λ (s : Source). fold_lists add before start (w - gain_of j s.pick) s.latest (add s.pick made))

-- The picks themselves, in place order.
abbrev pub walk_lists : List Job → List Point → ℕ → ℤ → Choice → Option Choice
walk_lists = fold_lists (λ (x : ℕ) (c : Choice). x ∷ c)

-- The plan by lists ends in the last point of the last list, and its choice is the walk from there.
abbrev pub walk_lists_from : ℤ → List Job → Point → Option Ended
walk_lists_from t js p =
    let walked = walk_lists (reverse js) (start_point t ∷ []) p.weight p.time [] in
    map (λ (c : Choice). record { choice = c; end = p }) walked

abbrev pub plan_by_lists : ℤ → List Job → Option Ended
plan_by_lists t js = onward (last_point (list_after js (start_point t ∷ []))) (walk_lists_from t js)
