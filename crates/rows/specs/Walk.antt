-- The walk back over the rows of the prefixes, from the last job to the first: at each job the first pick by which some
-- choice of the jobs before can leave the weight still to account for, in time. And the plan by rows. Definitions only.
use Rattle.std.specs.Prelude.{ℕ, ◌+◌, ◌*◌, ◌-◌, cond, List, [], ◌∷◌, reverse, leb, ℤ}
use Rattle.std.proofs.Math.Option.{Option, none, some, map}
use Rattle.std.specs.Int.Signed.{le_z}
use Rattle.order.specs.Job.{Job, Point, gain_of, picks}
use Rattle.order.specs.Choice.{Choice, bit_of}
use Rattle.order.proofs.Moves.{latest_before}
use Rattle.profile.specs.Profile.{or_else}
use Rattle.plan.specs.Plan.{Ended}
use Rattle.rows.specs.Row.{Row, start_row, row_after, row_back, reach, heaviest}

-- ---- one job

-- The latest time allowed, if a cell is there by then.
abbrev pub in_time : Option ℤ → Option ℤ → Option ℤ
in_time cell none = none
in_time none (some e) = none
in_time (some t) (some e) = cond (le_z t e) (some e) none

-- For a pick to leave weight w with the bus free by a time: the latest time at which the bus may be free before it, if
-- the row before the job has the rest of the weight by then.
abbrev pub source_of : Job → ℕ → Row → ℕ → ℤ → Option ℤ
source_of j x row w by =
    let latest = in_time (row (w - gain_of j x)) (latest_before j x by) in
    cond (leb (gain_of j x) w) latest none

-- A pick with that time, and the first of some picks that has one.
pub record Source : Type 0 where
  pub pick : ℕ
  pub latest : ℤ

abbrev pub first_source : Job → List ℕ → Row → ℕ → ℤ → Option Source
first_source j [] row w by = none
first_source j (x ∷ xs) row w by =
    let further = first_source j xs row w by in
    or_else (map (λ (e : ℤ). record { pick = x; latest = e }) (source_of j x row w by)) further

-- ---- all jobs, told from the last to the first

-- Go on from what was found, if anything was.
abbrev pub onward {ℓ ℓ'} : {A : Type ℓ} {B : Type ℓ'} → Option A → (A → Option B) → Option B
onward none further = none
onward (some a) further = further a

-- The walk, with what is made of the picks so far: a job's pick is added in front of those after it.
abbrev pub fold_back {ℓ} : {A : Type ℓ} → (ℕ → A → A) → List Job → Row → ℕ → ℤ → A → Option A
fold_back add [] row w by made = some made
fold_back add (j ∷ before) row w by made =
    onward (first_source j (picks j) (row_back before row) w by)
    (λ (s : Source). fold_back add before row (w - gain_of j s.pick) s.latest (add s.pick made))

-- The picks themselves, in place order.
abbrev pub walk_back : List Job → Row → ℕ → ℤ → Choice → Option Choice
walk_back = fold_back (λ (x : ℕ) (c : Choice). x ∷ c)

-- Their mask, with the worth of the next bit.
pub record Bits : Type 0 where
  pub next : ℕ
  pub sum : ℕ

abbrev pub with_pick : ℕ → Bits → Bits
with_pick x m = record { next = m.next * 2; sum = bit_of x * m.next + m.sum }

-- ---- the plan

-- The walk from where the plan ends.
abbrev pub walk_from : ℤ → List Job → Point → Option Ended
walk_from t js p =
    let walked = walk_back (reverse js) (start_row t) p.weight p.time [] in
    map (λ (c : Choice). record { choice = c; end = p }) walked

-- It ends in the heaviest cell of the last row, read up to a top weight; and up to all that the jobs reach.
abbrev pub plan_up_to : ℕ → ℤ → List Job → Option Ended
plan_up_to top t js = onward (heaviest (row_after js (start_row t)) top) (walk_from t js)

abbrev pub plan_by_rows : ℤ → List Job → Option Ended
plan_by_rows t js = plan_up_to (reach js) t js
