-- P8 by rows: A and B both weigh 10 and one of them fits; after B the bus is free first, but C waits until 40 for either,
-- so A is kept and the later B is left out. A walk along the earliest bus-free times would keep B.
use Rattle.std.specs.Prelude.{ℕ, ◌-◌, ◌≡◌, refl, true, false, cond, List, [], ◌∷◌, reverse, leb, ℤ, pos, take}
use Rattle.std.proofs.Math.Option.{Option, none, some, map}
use Rattle.seconds.specs.Limits.{rest}
use Rattle.order.specs.Job.{Job, one_rate, gain_of, picks}
use Rattle.order.specs.Choice.{Choice}
use Rattle.order.proofs.Moves.{latest_before}
use Rattle.profile.specs.Profile.{or_else}
use Rattle.rows.specs.Row.{Row, point, start_row, row_after, row_back, reach, read_off, points_by_rows}
use Rattle.rows.specs.Walk.{Source, in_time, onward, walk_back, plan_by_rows}

-- A takes 4 seconds and B 2, both by 4; C is critical, ready at 40, takes 1 second, by 41.
abbrev jobs : List Job
jobs =
    one_rate 0 false 10 (pos 0) 4 (pos 4)
    ∷ one_rate 1 false 10 (pos 0) 2 (pos 4)
    ∷ one_rate 2 true 0 (pos 40) 1 (pos 41)
    ∷ []

-- The plan keeps A and C.
plan-keeps-first : plan_by_rows (pos 0) jobs ≡ some (record { choice = 1 ∷ 0 ∷ 1 ∷ []; end = point (pos 56) 10 })
unfolding rest
plan-keeps-first = refl

-- After A and B the earliest time with weight 10 is B's, and the last profile is one point; five points in all.
earliest-is-second : row_after (take 2 jobs) (start_row (pos 0)) 10 ≡ some (pos 17)
unfolding rest
earliest-is-second = refl

profile-read : read_off (row_after jobs (start_row (pos 0))) 20 ≡ point (pos 56) 10 ∷ []
unfolding rest
profile-read = refl

points-counted : points_by_rows (λ k. reach (take k jobs)) 3 (pos 0) jobs ≡ 5
unfolding rest
points-counted = refl

-- ---- the walk along earliest bus-free times

-- As the walk back, but bound at each job by the cell met there, not by the latest time that is allowed.
abbrev hasty_source : Job → List ℕ → Row → ℕ → ℤ → Option Source
hasty_source j [] row w by = none
hasty_source j (x ∷ xs) row w by =
    let further = hasty_source j xs row w by in
    let cell = row (w - gain_of j x) in
    let met = onward (in_time cell (latest_before j x by)) (λ (e : ℤ). cell) in
    or_else (map (λ (t : ℤ). record { pick = x; latest = t }) (cond (leb (gain_of j x) w) met none)) further

abbrev hasty_walk : List Job → Row → ℕ → ℤ → Choice → Option Choice
hasty_walk [] row w by after = some after
hasty_walk (j ∷ before) row w by after =
    onward (hasty_source j (picks j) (row_back before row) w by)
    (λ (s : Source). hasty_walk before row (w - gain_of j s.pick) s.latest (s.pick ∷ after))

-- It gives B and C, where the walk back gives A and C.
walks-differ : (walk_back (reverse jobs) (start_row (pos 0)) 10 (pos 56) [] ≡ some (1 ∷ 0 ∷ 1 ∷ []))
    × (hasty_walk (reverse jobs) (start_row (pos 0)) 10 (pos 56) [] ≡ some (0 ∷ 1 ∷ 1 ∷ []))
unfolding rest
walks-differ = (refl, refl)
