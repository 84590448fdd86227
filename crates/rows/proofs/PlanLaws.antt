-- The plan is read off the rows: its weight and bus-free time are the heaviest cell of the last row, its choice is the walk back
-- from there, and there is none where the row has no cell.
use Rattle.std.specs.Prelude.{ℕ, suc, ◌≤◌, ◌<◌, ◌≡◌, refl, List, [], ◌∷◌, reverse, ℤ, ◌≤ℤ◌}
use Rattle.std.proofs.Common.{sym, ap, ◌∙◌, append-nil, arith}
use Rattle.std.proofs.lemmas.List.{reverse-reverse}
use Rattle.std.proofs.Math.Option.{Option, none, some, map, some-injective}
use Rattle.seconds.specs.Signed.{signed}
use Rattle.order.specs.Job.{Job, Point}
use Rattle.order.specs.Choice.{Choice, run}
use Rattle.order.proofs.Moves.{point-path}
use Rattle.profile.specs.Profile.{start_point}
use Rattle.plan.specs.Plan.{Ended, plan}
use Rattle.plan.proofs.Ranking.{Better, heavier, sooner, tied, before-is}
use Rattle.plan.proofs.PlanIs.{with_end, IsPlan, plan-is}
use Rattle.plan.proofs.PlanProfile.{reached, reaches}
use Rattle.rows.specs.Row.{Row, point, start_row, row_after, By, Cell, Says, NonePast, reach, heaviest}
use Rattle.rows.proofs.RowLaws.{by-self, earliest-says, rows-say, back_is}
use Rattle.rows.proofs.Reach.{says-none-past, reach-none-past}
use Rattle.rows.proofs.ReadLaws.{Heaviest, no_cell, the-cell, heaviest-is}
use Rattle.rows.specs.Walk.{onward, walk_back, walk_from, plan_up_to, plan_by_rows}
use Rattle.rows.proofs.WalkLaws.{FirstToEnd, walk_first}

module _ (t : ℤ) (js : List Job) where
  -- The point that the order begins with, and the last row, which says where its choices end.
  abbrev start : Point
  start = start_point t

  abbrev last : Row
  last = row_after js (start_row t)

  last_says : Says last (reached t js)
  last_says = rows-say js (start ∷ [])

  -- Where a choice runs to, the last row has a cell in time.
  cell-by-then : (c : Choice) (q : Point) → run js c start ≡ some q → By (last q.weight) q.time
  cell-by-then c q r = last_says.earliest q (reaches t js c r)

  -- The walk from a cell gives the first of all choices that end in it.
  from_cell : (q : Point) → Cell last q
      → (c : Choice) × (walk_back (reverse js) (start_row t) q.weight q.time [] ≡ some c)
      × FirstToEnd js start q.weight q.time c
  from_cell q cell =
      let by = ap (λ (row : Row). row q.weight) (back_is js (start_row t)) ∙ cell in
      let w = walk_first (reverse js) start (earliest-says (start ∷ [])) q.weight q.time [] (by-self by) in (
        w.choice,
        w.gives ∙ ap some (append-nil w.choice),
        rw reverse-reverse at w.first,
      )

  module _ (top : ℕ) (none-past : NonePast top last) where
    -- No choice ends past the top.
    light : (c : Choice) (q : Point) → run js c start ≡ some q → q.weight < suc top
    light c q r = let h = (says-none-past last_says).0 none-past q (reaches t js c r) in omega arith

    -- The walk from the heaviest cell gives the plan.
    heaviest-plan : (q : Point) → Cell last q → ((r : Point) → Cell last r → r.weight < suc top → r.weight ≤ q.weight)
        → (c : Choice) → FirstToEnd js start q.weight q.time c → IsPlan t js (with_end c q)
    heaviest-plan q cell most c first =
        record { feasible = ends; leads = λ d r run h. none_before d r run ((before-is (with_end d r) (with_end c q)).0 h) }
      where
        -- No choice ends at that weight before the cell.
        no-earlier : (d : Choice) (r : Point) → run js d start ≡ some r → r.weight ≡ q.weight → q.time ≤ℤ r.time
        no-earlier d r run e =
            let k = cell-by-then d r run in
            let same = some-injective _ _ (sym cell ∙ (ap last (sym e) ∙ k.is)) in
            omega (signed, k.soon)

        ends : run js c start ≡ some q
        ends =
            let f = first.ends in
            let early = no-earlier c f.end f.runs f.weighs in
            f.runs ∙ ap some (point-path (omega (signed, f.soon)) f.weighs)

        none_before : (d : Choice) (r : Point) → run js d start ≡ some r → Better (with_end d r) (with_end c q) → ⊥
        none_before d r run (heavier w) =
            let k = cell-by-then d r run in
            omega (arith, most (point k.time r.weight) k.is (light d r run))
        none_before d r run (sooner w s) = omega (signed, no-earlier d r run w)
        none_before d r run (tied w s l) =
            first.leads d (record { end = r; runs = run; weighs = w; soon = omega signed }) l

    -- Where the last row has no cell there is no plan.
    no-cell-no-plan : ((r : Point) → Cell last r → ¬ (r.weight < suc top)) → plan t js ≡ none
    no-cell-no-plan empty = go (plan t js) refl
      where
        go : (o : Option Ended) → plan t js ≡ o → plan t js ≡ none
        go none e = e
        go (some a) e =
            let r = ((plan-is t js a).0 e).feasible in
            let k = cell-by-then a.choice a.end r in
            absurd (empty (point k.time a.end.weight) k.is (light a.choice a.end r))

    -- The plan from the heaviest cell, or from none; and that cell is the plan's end.
    from-heaviest : (o : Option Point) → Heaviest last (suc top) o
        → (onward o (walk_from t js) ≡ plan t js) × (map (λ (e : Ended). e.end) (plan t js) ≡ o)
    from-heaviest none (no_cell empty) = let e = no-cell-no-plan empty in (sym e, rw e)
    from-heaviest (some q) (the-cell cell most) =
        let w = from_cell q cell in
        let e = (plan-is t js (with_end w.0 q)).1 (heaviest-plan q cell most w.0 w.2) in
        (rw w.1 (sym e), rw e)

    -- The plan is the plan by rows.
    pub plan-up-to : plan_up_to top t js ≡ plan t js
    plan-up-to = (from-heaviest (heaviest last top) (heaviest-is last (suc top))).0

    -- The plan's kept weight is the greatest that has a cell in the last row, and its bus-free time is that cell.
    pub plan-end-heaviest : map (λ (e : Ended). e.end) (plan t js) ≡ heaviest last top
    plan-end-heaviest = (from-heaviest (heaviest last top) (heaviest-is last (suc top))).1

-- Every plan is the plan by rows.
pub plan-by-rows : (t : ℤ) (js : List Job) → plan_by_rows t js ≡ plan t js
plan-by-rows t js = plan-up-to t js (reach js) (reach-none-past t js)
