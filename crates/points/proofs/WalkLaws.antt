-- Where the weight is the greatest that is reached in time, the walk back by lookup in the lists is the walk back over the
-- rows; so the plan by lists is the plan.
use Rattle.std.specs.Prelude.{ℕ, ◌-◌, ◌≤◌, ◌≡◌, refl, Bool, true, false, cond, ◌↔◌, leb, ℤ, ◌≤ℤ◌}
use Rattle.std.proofs.Common.{sym, ap, ◌∙◌, ⊎_elim, arith}
use Rattle.std.proofs.lemmas.Bool.{false≢true}
use mathlib.Core.List.{List, [], ◌∷◌, ◌++◌, reverse, reverse-cons, reverse-reverse}
use mathlib.Core.List.Memᴰ.{head}
use mathlib.Core.List.Memᴰ.{tail}
use mathlib.Core.List.{Memᴰ as In}
use mathlib.Core.List.Memᴰ.{append_cases}
use mathlib.Core.List.Memᴰ.{eq_of_singleton}
use Rattle.std.proofs.Math.Option.{Option, none, some, map, some-injective}
use Rattle.seconds.specs.Signed.{signed}
use Rattle.order.specs.Job.{Job, Point, gain_of, picks}
use Rattle.order.specs.Choice.{Choice, outcomes}
use Rattle.order.proofs.Moves.{latest_before, latest-allows, moves, move_to}
use Rattle.order.proofs.Outcomes.{more-outcome-in}
use Rattle.profile.specs.Profile.{profile_of, or_else, start_point, last_point, profile_after}
use Rattle.profile.proofs.Rising.{Rising, rising-one}
use Rattle.profile.proofs.Last.{Best}
use Rattle.profile.proofs.Extending.{extend-last}
use Rattle.profile.proofs.Greatest.{Greatest, greatest}
use Rattle.profile.proofs.Worth.{WeightBy, worth-is, lookup_weight, lookup-profile_of}
use Rattle.plan.specs.Plan.{plan}
use Rattle.plan.proofs.PlanProfile.{reached, plan-end-last}
use Rattle.rows.specs.Row.{Row, point, start_row, row_after, row_back, reach, heaviest, By, Says}
use Rattle.rows.proofs.RowLaws.{nothing-there, by-later, earliest-says, back-says}
use Rattle.rows.proofs.Reach.{reach-none-past}
use Rattle.rows.specs.ByTime.{is_by}
use Rattle.rows.proofs.ByTimeLaws.{is-by}
use Rattle.rows.specs.Walk.{in_time, source_of, Source, first_source, onward, fold_back, walk_from}
use Rattle.rows.proofs.WalkLaws.{source_is, source-found, fold_step}
use Rattle.rows.proofs.PlanLaws.{plan-by-rows, plan-end-heaviest}
use Rattle.points.specs.Steps.{list_after}
use Rattle.points.proofs.PrefixLaws.{Single, Singles, list-is}
use Rattle.points.specs.Walk.{is_weight, leaves_by, left_out, kept_by, source_in, fold_lists, walk_lists}
use Rattle.points.specs.Walk.{walk_lists_from, plan_by_lists}

-- ---- one job

-- No point by a time is heavier.
abbrev pub NoHeavier : List Point → ℕ → ℤ → Type 0
NoHeavier ps w by = (q : Point) → In q ps → q.time ≤ℤ by → q.weight ≤ w

-- The test of a weight, in words.
is-weight : (o : Option ℕ) (w : ℕ) → is_weight o w ≡ true ↔ o ≡ some w
is-weight none w = (λ e. absurd (false≢true e), λ e. nothing-there e)
is-weight (some v) w = (λ e. ap some (omega signed), λ e. let same = some-injective v w e in omega signed)

-- Two tests that pass together are equal.
pass-together : (a b : Bool) → (a ≡ true → b ≡ true) → (b ≡ true → a ≡ true) → a ≡ b
pass-together true b h k = sym (h refl)
pass-together false true h k = k refl
pass-together false false h k = refl

-- The latest time allowed, if a cell is there by then: told by the test of the cell.
in-time-by : (cell : Option ℤ) (by : ℤ) → in_time cell (some by) ≡ cond (is_by cell by) (some by) none
in-time-by none by = refl
in-time-by (some t) by = refl

module _ {ps : List Point} {row : Row} (s : Says row ps) (w : ℕ) (by : ℤ) where
  -- What the lookup finds has a cell in time,
  found-cell : lookup_weight (profile_of ps) by ≡ some w → By (row w) by
  found-cell e = go ((worth-is ps by (some w)).0 (sym (lookup-profile_of ps by) ∙ e))
    where
      go : Greatest (WeightBy ps by) (some w) → By (row w) by
      go (greatest h f) = rw h.weighs at (by-later (s.earliest h.point h.member) h.by)

  -- and where nothing in time is heavier, the lookup finds what has a cell in time.
  cell-found : NoHeavier ps w by → By (row w) by → lookup_weight (profile_of ps) by ≡ some w
  cell-found most c =
      let q = point c.time w in
      lookup-profile_of ps by
      ∙ (worth-is ps by (some w)).1
      (greatest (record { point = q; member = s.listed q c.is; by = c.soon; weighs = refl })
      (λ x b. let h = most b.point b.member b.by in omega (arith, b.weighs)))

  -- So there the test by lookup is the test by row.
  weight-by : NoHeavier ps w by → is_weight (lookup_weight (profile_of ps) by) w ≡ is_by (row w) by
  weight-by most =
      let o = lookup_weight (profile_of ps) by in
      pass-together (is_weight o w) (is_by (row w) by)
      (λ e. (is-by (row w) by).1 (found-cell ((is-weight o w).0 e)))
      (λ e. (is-weight o w).1 (cell-found most ((is-by (row w) by).0 e)))

  module _ (j : Job) (most : j.critical ≡ false → NoHeavier ps w by) where
    -- Leaving a job out has a source exactly where it is left out by lookup.
    leaving-source : source_of j 0 row w by ≡ cond (leaves_by j (profile_of ps) w by) (some by) none
    leaving-source =
        let light : leb 0 w ≡ true = omega signed in
        let whole : w - 0 ≡ w = omega arith in
        rw (light, whole) (go j.critical most)
      where
        go : (c : Bool) → (c ≡ false → NoHeavier ps w by) → in_time (row w) (cond c none (some by))
            ≡ cond (cond c false (is_weight (lookup_weight (profile_of ps) by) w)) (some by) none
        go true h = refl
        go false h = in-time-by (row w) by ∙ ap (λ (b : Bool). cond b (some by) none) (sym (weight-by (h refl)))

    -- So for a job of one rate the first source is found by lookup.
    source-by-lookup : Single j → {t : Source} → first_source j (picks j) row w by ≡ some t
        → source_in j (profile_of ps) w by ≡ some t
    source-by-lookup one {t} found =
        let both : picks j ≡ 0 ∷ 1 ∷ [] = rw one.only in
        go (leaves_by j (profile_of ps) w by) (source_of j 1 row w by) refl (rw (both, leaving-source) at found)
      where
        go : (b : Bool) (o : Option ℤ) → source_of j 1 row w by ≡ o
            → or_else (map left_out (cond b (some by) none)) (or_else (map kept_by o) none) ≡ some t
            → cond b (some (left_out by)) (cond (leb (gain_of j 1) w) (map kept_by (latest_before j 1 by)) none) ≡ some t
        go true o e f = f
        go false none e f = nothing-there f
        go false (some d) e f =
            let has = (source_is j 1 row w by d).0 e in
            let test : leb (gain_of j 1) w ≡ true = omega (signed, has.light) in
            rw (test, has.last) f

-- ---- all jobs, told from the last to the first

-- Where no outcome with a job is heavier by a time, none before it is heavier than the rest of the weight, by the latest time
-- before a pick.
no-heavier-before : (js : List Job) (j : Job) (ps : List Point) (x w : ℕ) (by e : ℤ) → latest_before j x by ≡ some e
    → NoHeavier (outcomes (js ++ (j ∷ [])) ps) w by → NoHeavier (outcomes js ps) (w - gain_of j x) e
no-heavier-before js j ps x w by e l most q m h =
    let a = latest-allows j x q.time by l h in
    let to = moves j x q {q = move_to j x q} (record { may = a.0; free = refl; sum = refl }) in
    let light = most (move_to j x q) (more-outcome-in js j ps x m to) a.1 in
    omega arith

-- Left out, weight and time are the same.
no-heavier-without : (js : List Job) (j : Job) (ps : List Point) (w : ℕ) (by : ℤ)
    → NoHeavier (outcomes (js ++ (j ∷ [])) ps) w by → j.critical ≡ false → NoHeavier (outcomes js ps) w by
no-heavier-without js j ps w by most f =
    let whole : w - 0 ≡ w = omega arith in
    rw whole at (no-heavier-before js j ps 0 w by by (rw f) most)

-- Jobs of one rate each are so in any sequence.
in-reverse : (js : List Job) {j : Job} → In j (reverse js) → In j js
in-reverse [] m = m
in-reverse (k ∷ js) {j} m =
    ⊎_elim (λ n. tail (in-reverse js n)) (λ n. head (eq_of_singleton n)) (append_cases (reverse js) (rw reverse-cons at m))

singles-reverse : (js : List Job) → Singles js → Singles (reverse js)
singles-reverse js s j m = s j (in-reverse js m)

-- The walk by lookup is the walk over the rows, whatever is made of the picks.
pub fold-lists {ℓ} : {A : Type ℓ} (add : ℕ → A → A) (before : List Job) {start : List Point} {row : Row} → Rising start
    → Says row start → Singles before → (w : ℕ) (by : ℤ) (made : A) → NoHeavier (outcomes (reverse before) start) w by
    → By (row_back before row w) by → fold_lists add before start w by made ≡ fold_back add before row w by made
fold-lists add [] r says one w by made most c = refl
fold-lists add (j ∷ before) {start} {row} r says one w by made most c =
    let js = reverse before in
    let others : Singles before = λ k m. one k (tail m) in
    let found = source-found j (row_back before row) w by c in
    let t = found.0 in
    let more : NoHeavier (outcomes (js ++ (j ∷ [])) start) w by = rw reverse-cons at most in
    let most-here = no-heavier-without js j start w by more in
    let most-before = no-heavier-before js j start t.pick w by t.latest found.2.last more in
    let first = source-by-lookup (back-says before start says) w by j most-here (one j (head refl)) found.1 in
    let by-list : source_in j (list_after js start) w by ≡ some t = rw (list-is js (singles-reverse before others) r) first in
    rw by-list
    (fold-lists add before r says others (w - gain_of j t.pick) t.latest (add t.pick made) most-before found.2.cell
    ∙ sym (fold_step add j before row w by made t found.1))

-- What is made pick by pick is made of the choice that the walk over the lists gives.
pub fold-lists-is {ℓ} : {A : Type ℓ} (add : ℕ → A → A) (of : Choice → A) → ((x : ℕ) (c : Choice) → of (x ∷ c) ≡ add x (of c))
    → (before : List Job) (start : List Point) (w : ℕ) (by : ℤ) (after : Choice)
    → fold_lists add before start w by (of after) ≡ map of (walk_lists before start w by after)
fold-lists-is add of more [] start w by after = refl
fold-lists-is {A = A} add of more (j ∷ before) start w by after =
    go
    (source_in j (list_after (reverse before) start) w by)
    (λ (s : Source). fold_lists add before start (w - gain_of j s.pick) s.latest (add s.pick (of after)))
    (λ (s : Source). walk_lists before start (w - gain_of j s.pick) s.latest (s.pick ∷ after))
    (λ (s : Source).
    ap (fold_lists add before start (w - gain_of j s.pick) s.latest) (sym (more s.pick after))
    ∙ fold-lists-is add of more before start (w - gain_of j s.pick) s.latest (s.pick ∷ after))
  where
    go : (o : Option Source) (made : Source → Option A) (walked : Source → Option Choice)
        → ((s : Source) → made s ≡ map of (walked s)) → onward o made ≡ map of (onward o walked)
    go none made walked same = refl
    go (some s) made walked same = same s

-- ---- the plan

-- From the best of all outcomes both walks are the same,
from-best : (t : ℤ) (js : List Job) → Singles js → (p : Point) → Best (reached t js) p → walk_lists_from t js p ≡ walk_from t js p
from-best t js one p best =
    let start = start_point t ∷ [] in
    let says = earliest-says start in
    let back : reverse (reverse js) ≡ js = reverse-reverse js in
    let most : NoHeavier (outcomes (reverse (reverse js)) start) p.weight p.time = rw back (λ q m h. best.heaviest q m) in
    let member : In p (outcomes (reverse (reverse js)) start) = rw back best.member in
    ap (map (λ (c : Choice). record { choice = c; end = p }))
    (fold-lists (λ (x : ℕ) (c : Choice). x ∷ c) (reverse js) (rising-one (start_point t)) says (singles-reverse js one)
    p.weight p.time [] most ((back-says (reverse js) start says).earliest p member))

-- and that is where the last list ends: the plan by lists is the plan.
pub plan-by-lists : (t : ℤ) (js : List Job) → Singles js → plan_by_lists t js ≡ plan t js
plan-by-lists t js one =
    ap (λ (P : List Point). onward (last_point P) (walk_lists_from t js)) (list-is js one (rising-one (start_point t)))
    ∙ same_from (last_point (profile_after t js)) refl
    ∙ ap (λ (o : Option Point). onward o (walk_from t js)) heaviest-last
    ∙ plan-by-rows t js
  where
    same_from : (o : Option Point) → last_point (profile_after t js) ≡ o → onward o (walk_lists_from t js) ≡ onward o (walk_from t js)
    same_from none e = refl
    same_from (some p) e = from-best t js one p ((extend-last (start_point t ∷ []) js p).0 e)

    heaviest-last : last_point (profile_after t js) ≡ heaviest (row_after js (start_row t)) (reach js)
    heaviest-last = sym (plan-end-last t js) ∙ plan-end-heaviest t js (reach js) (reach-none-past t js)
