-- The walk back gives, of all choices that leave a weight with the bus free by a time, the first by the tie rule; and
-- what is made of its picks on the way.
use Prim.Native.Nat.{ℕ, zero, suc, ◌+◌, ◌*◌, ◌-◌, ◌^◌, ◌≤◌, compare, Ordering}
use Rattle.std.specs.Prelude.{◌≡◌, refl, Bool, true, false, ◌↔◌, leb, ℤ, length, ◌≤ℤ◌}
use Rattle.std.proofs.Common.{sym, ap, ◌∙◌, ⊎_elim, add-suc, pow-suc, arith}
use mathlib.Core.List.Memᴰ.{head as here}
use mathlib.Core.List.{List, [], ◌∷◌, ◌++◌, reverse, reverse-cons, append_assoc, Memᴰ as In}
use mathlib.Core.List.Memᴰ.{cases_cons}
use mathlib.Core.List.Memᴰ.{not-nil}
use mathlib.Core.List.Memᴰ.{eq_of_singleton}
use Rattle.std.proofs.Math.Option.{Option, none, some, some-injective}
use Rattle.std.specs.Int.Signed.{le_z}
use Rattle.seconds.specs.Signed.{signed}
use Rattle.order.specs.Job.{Job, Point, gain_of, up_to, picks, move}
use Rattle.order.specs.Choice.{Choice, run, bit_of, mask_of, mask}
use Rattle.order.proofs.Moves.{Moved, moved, moves, move_to, latest_before, latest-before, latest-allows, pick-listed}
use Rattle.order.proofs.Runs.{run-nil, run_more, run-last, run_length}
use Rattle.order.proofs.Outcomes.{outcome-in}
use Rattle.plan.specs.Plan.{or_then, by_last_place}
use Rattle.plan.proofs.Comparing.{or_then-lt, compare-lt, compare-total}
use Rattle.rows.specs.Row.{Row, point, next_row, row_back, By, Says}
use Rattle.rows.proofs.RowLaws.{nothing-there, by-self, by-later, step_from_lem, back-says}
use Rattle.rows.specs.Walk.{in_time, source_of, Source, first_source, fold_back, walk_back, Bits, with_pick}

-- ---- one job

-- The latest time allowed, where a cell is there by then.
in-time-is : (cell latest : Option ℤ) (e : ℤ) → in_time cell latest ≡ some e → (latest ≡ some e) × By cell e
in-time-is cell none e h = nothing-there h
in-time-is none (some d) e h = nothing-there h
in-time-is (some t) (some d) e h = go (le_z t d) refl
  where
    go : (b : Bool) → le_z t d ≡ b → (some d ≡ some e) × By (some t) e
    go true f =
        let same : some d ≡ some e = rw f at h in
        let k = some-injective d e same in
        (same, record { time = t; is = refl; soon = omega signed })
    go false f = nothing-there (rw f at h)

in-time-of : (cell : Option ℤ) (e : ℤ) → By cell e → in_time cell (some e) ≡ some e
in-time-of none e h = nothing-there h.is
in-time-of (some t) e h =
    let same = some-injective t h.time h.is in
    let f : le_z t e ≡ true = omega (signed, h.soon) in
    rw f

-- A pick has a source: it is not too heavy, there is a latest time before it, and the row has the rest by then.
pub record HasSource (j : Job) (x : ℕ) (row : Row) (w : ℕ) (by e : ℤ) : Type 0 where
  pub light : gain_of j x ≤ w
  pub last : latest_before j x by ≡ some e
  pub cell : By (row (w - gain_of j x)) e

-- That is what the computed source says.
pub source_is : (j : Job) (x : ℕ) (row : Row) (w : ℕ) (by e : ℤ) → (source_of j x row w by ≡ some e) ↔ HasSource j x row w by e
source_is j x row w by e = (λ h. to (leb (gain_of j x) w) refl h, back)
  where
    to : (b : Bool) → leb (gain_of j x) w ≡ b → source_of j x row w by ≡ some e → HasSource j x row w by e
    to true f h =
        let c = in-time-is (row (w - gain_of j x)) (latest_before j x by) e (rw f at h) in
        record { light = omega signed; last = c.0; cell = c.1 }
    to false f h = nothing-there (rw f at h)

    back : HasSource j x row w by e → source_of j x row w by ≡ some e
    back s =
        let f : leb (gain_of j x) w ≡ true = omega (signed, s.light) in
        rw (f, s.last) (in-time-of (row (w - gain_of j x)) e s.cell)

-- A move to a point in time, from a point that the row meets, has a source, no earlier than that point.
pub source-moved : (j : Job) (x : ℕ) (row : Row) (w : ℕ) (by : ℤ) (q r : Point) → By (row q.weight) q.time → Moved j x q r
    → r.weight ≡ w → r.time ≤ℤ by → (e : ℤ) × (source_of j x row w by ≡ some e) × (q.time ≤ℤ e)
source-moved j x row w by q r c m k h =
    let free = m.free in
    let l = latest-before j x q.time by m.may (omega signed) in
    let back : w - gain_of j x ≡ q.weight = omega (arith, m.sum) in (
      l.0,
      (source_is j x row w by l.0).1
          (record { light = omega (arith, m.sum); last = l.1; cell = rw back (by-later c l.2) }),
      l.2,
    )

-- From every point by a source's time, with the rest of the weight, the pick moves to a point of that weight in time.
pub source-moves : (j : Job) (x : ℕ) (row : Row) (w : ℕ) (by e : ℤ) → HasSource j x row w by e → (q : Point)
    → q.weight ≡ w - gain_of j x → q.time ≤ℤ e → (r : Point) × (move j x q ≡ some r) × (r.weight ≡ w) × (r.time ≤ℤ by)
source-moves j x row w by e s q k h =
    let l = latest-allows j x q.time by s.last h in (
      move_to j x q,
      moves j x q (record { may = l.0; free = refl; sum = refl }),
      omega (arith, s.light),
      l.1,
    )

-- ---- the first pick that has a source

-- What is found is a source of its pick.
pub first-source-is : (j : Job) (xs : List ℕ) (row : Row) (w : ℕ) (by : ℤ) (s : Source) → first_source j xs row w by ≡ some s
    → source_of j s.pick row w by ≡ some s.latest
first-source-is j [] row w by s h = nothing-there h
first-source-is j (x ∷ xs) row w by s h = go (first-source-is j xs row w by s) (source_of j x row w by) refl
  where
    go : (first_source j xs row w by ≡ some s → source_of j s.pick row w by ≡ some s.latest)
        → (o : Option ℤ) → source_of j x row w by ≡ o → source_of j s.pick row w by ≡ some s.latest
    go further none e = further (rw e at h)
    go further (some l) e =
        let same : record { pick = x; latest = l } ≡ s = some-injective _ s (rw e at h) in
        rw (← same) e

-- Numbers counted up are no less than the first.
up-to-from : (from n x : ℕ) → In x (up_to from n) → from ≤ x
up-to-from from zero x m = omega (arith, eq_of_singleton m)
up-to-from from (suc n) x m =
    ⊎_elim (λ e. omega arith) (λ k. omega (arith, up-to-from (suc from) n x k)) (cases_cons m)

-- One is found among some picks, and its pick is no greater than x.
pub record Found (j : Job) (xs : List ℕ) (row : Row) (w : ℕ) (by : ℤ) (x : ℕ) : Type 0 where
  pub source : Source
  pub is : first_source j xs row w by ≡ some source
  pub least : source.pick ≤ x

module _ (j : Job) (row : Row) (w : ℕ) (by : ℤ) (x : ℕ) {e : ℤ} (h : source_of j x row w by ≡ some e) where
  found-or : (y : ℕ) (xs : List ℕ) → y ≤ x → In x (y ∷ xs) → (In x xs → Found j xs row w by x) → Found j (y ∷ xs) row w by x
  found-or y xs l m further = go (source_of j y row w by) refl
    where
      go : (o : Option ℤ) → source_of j y row w by ≡ o → Found j (y ∷ xs) row w by x
      go (some e) f = record { source = record { pick = y; latest = e }; is = rw f; least = l }
      go none f =
          ⊎_elim
          (λ same. nothing-there (sym f ∙ (ap (λ (z : ℕ). source_of j z row w by) (sym same) ∙ h)))
          (λ k. let s = further k in record { source = s.source; is = rw f s.is; least = s.least })
          (cases_cons m)

  found_from : (from n : ℕ) → In x (up_to from n) → Found j (up_to from n) row w by x
  found_from from zero m = found-or from [] (up-to-from from zero x m) m (λ k. absurd (not-nil k))
  found_from from (suc n) m = found-or from (up_to (suc from) n) (up-to-from from (suc n) x m) m (found_from (suc from) n)

  -- Where a pick of the job has a source, one is found, and its pick is no greater.
  pub first-source-least : In x (picks j) → Found j (picks j) row w by x
  first-source-least m = found_from 0 (length j.rates) m

-- So where the next row has a cell in time, a source is found.
pub source-found : (j : Job) (row : Row) (w : ℕ) (by : ℤ) → By (next_row j row w) by
    → (s : Source) × (first_source j (picks j) row w by ≡ some s) × HasSource j s.pick row w by s.latest
source-found j row w by c =
    let d = step_from_lem j row (point c.time w) c.is in
    let m = d.3 in
    let e = source-moved j d.0 row w by d.1 (point c.time w) (by-self d.2) m refl c.soon in
    let f = first-source-least j row w by d.0 e.1 (pick-listed j d.0 d.1.time m.may) in
    let s = f.source in
    (s, f.is, (source_is j s.pick row w by s.latest).0 (first-source-is j (picks j) row w by s f.is))

-- ---- choices that leave a weight by a time

-- The choice runs from p to a point of weight w, with the bus free by a time.
pub record Ends (js : List Job) (p : Point) (w : ℕ) (by : ℤ) (c : Choice) : Type 0 where
  pub end : Point
  pub runs : run js c p ≡ some end
  pub weighs : end.weight ≡ w
  pub soon : end.time ≤ℤ by

-- Of those choices it is the first by the tie rule.
pub record FirstToEnd (js : List Job) (p : Point) (w : ℕ) (by : ℤ) (c : Choice) : Type 0 where
  pub ends : Ends js p w by c
  pub leads : (d : Choice) → Ends js p w by d → ¬ (by_last_place d c ≡ Ordering.lt)

-- Where a choice of the jobs before runs to, their row has a cell in time.
met : (before : List Job) (p : Point) {row : Row} → Says row (p ∷ []) → (c : Choice) (q : Point)
    → run (reverse before) c p ≡ some q → By (row_back before row q.weight) q.time
met before p s c q r =
    (back-says before (p ∷ []) s).earliest q (outcome-in (reverse before) (p ∷ []) c (here refl) r)

-- ---- the tie rule with one place more

-- The first comparison decides, or else the second: eq adds nothing, and a third may be joined to either.
or_then-eq-right : (o : Ordering) → or_then o Ordering.eq ≡ o
or_then-eq-right Ordering.lt = refl
or_then-eq-right Ordering.eq = refl
or_then-eq-right Ordering.gt = refl

or_then-assoc : (o p q : Ordering) → or_then (or_then o p) q ≡ or_then o (or_then p q)
or_then-assoc Ordering.lt p q = refl
or_then-assoc Ordering.eq p q = refl
or_then-assoc Ordering.gt p q = refl

-- A last place decides first.
last-place : (c d : Choice) (x y : ℕ) → length c ≡ length d
    → by_last_place (c ++ (x ∷ [])) (d ++ (y ∷ [])) ≡ or_then (compare x y) (by_last_place c d)
last-place [] [] x y n = sym (or_then-eq-right (compare x y))
last-place [] (b ∷ d) x y n = absurd (omega arith)
last-place (a ∷ c) [] x y n = absurd (omega arith)
last-place (a ∷ c) (b ∷ d) x y n =
    ap (λ (o : Ordering). or_then o (compare a b)) (last-place c d x y (omega arith))
    ∙ or_then-assoc (compare x y) (by_last_place c d) (compare a b)

-- ---- the walk

-- What the walk gives in front of the picks after it.
pub record Walked (before : List Job) (row : Row) (p : Point) (w : ℕ) (by : ℤ) (after : Choice) : Type 0 where
  pub choice : Choice
  pub gives : walk_back before row w by after ≡ some (choice ++ after)
  pub first : FirstToEnd (reverse before) p w by choice

-- No jobs: the one choice has no picks.
walk_none : (p : Point) {row : Row} → Says row (p ∷ []) → (w : ℕ) (by : ℤ) (after : Choice) → By (row w) by
    → Walked [] row p w by after
walk_none p s w by after c =
    let e = eq_of_singleton (s.listed (point c.time w) c.is) in
    record {
      choice = [];
      gives = refl;
      first =
          record {
            ends =
                record {
                  end = p;
                  runs = run-nil p;
                  weighs = sym (ap (λ (q : Point). q.weight) e);
                  soon = omega (signed, ap (λ (q : Point). q.time) e, c.soon);
                };
            leads = λ d k. not_first d;
          };
    }
  where
    not_first : (d : Choice) → ¬ (by_last_place d [] ≡ Ordering.lt)
    not_first [] l = let z : ◌≡◌ {A = ℕ} 0 1 = cc in omega arith
    not_first (y ∷ d) l = let z : ◌≡◌ {A = ℕ} 0 1 = cc in omega arith

-- One job more in front of the walk: its first source, and then the first choice of the jobs before by then.
walk_more : (j : Job) (before : List Job) (p : Point) {row : Row} → Says row (p ∷ []) → (w : ℕ) (by : ℤ) (s : Source)
    → first_source j (picks j) (row_back before row) w by ≡ some s → HasSource j s.pick (row_back before row) w by s.latest
    → (c : Choice) → FirstToEnd (reverse before) p (w - gain_of j s.pick) s.latest c
    → FirstToEnd (reverse (j ∷ before)) p w by (c ++ (s.pick ∷ []))
walk_more j before p {row} says w by s f has c first = rw reverse-cons (record { ends = ends; leads = leads })
  where
    ends : Ends (reverse before ++ (j ∷ [])) p w by (c ++ (s.pick ∷ []))
    ends =
        let q = first.ends in
        let m = source-moves j s.pick (row_back before row) w by s.latest has q.end q.weighs q.soon in
        record { end = m.0; runs = run_more (reverse before) j c s.pick p q.runs m.1; weighs = m.2; soon = m.3 }

    -- A choice with the same last pick leaves the jobs before the same weight and time.
    before-ends : (d : Choice) (q r : Point) (e : ℤ) → run (reverse before) d p ≡ some q → Moved j s.pick q r
        → r.weight ≡ w → source_of j s.pick (row_back before row) w by ≡ some e → q.time ≤ℤ e
        → Ends (reverse before) p (w - gain_of j s.pick) s.latest d
    before-ends d q r e runs m k o h =
        let own = first-source-is j (picks j) (row_back before row) w by s f in
        let alike = some-injective e s.latest (sym o ∙ own) in
        record { end = q; runs = runs; weighs = omega (arith, m.sum); soon = omega signed }

    -- The last pick of any choice has a source, so it is no smaller; and where it is the same, the picks before decide.
    no-sooner : (d : Choice) (y : ℕ) (q r : Point) → run (reverse before) d p ≡ some q → Moved j y q r → r.weight ≡ w
        → r.time ≤ℤ by → ¬ (by_last_place (d ++ (y ∷ [])) (c ++ (s.pick ∷ [])) ≡ Ordering.lt)
    no-sooner d y q r runs m k h l =
        let from = source-moved j y (row_back before row) w by q r (met before p says d q runs) m k h in
        let found = first-source-least j (row_back before row) w by y from.1 (pick-listed j y q.time m.may) in
        let same : found.source ≡ s = some-injective found.source s (sym found.is ∙ f) in
        let n = run_length (reverse before) d p runs ∙ sym (run_length (reverse before) c p first.ends.runs) in
        ⊎_elim
        (λ o. omega (arith, (compare-lt y s.pick).0 o, found.least, ap (λ (z : Source). z.pick) same))
        (λ o. tied ((compare-total.equal y s.pick).0 o.0) from m o.1)
        (or_then-lt (compare y s.pick) (by_last_place d c) (sym (last-place d c y s.pick n) ∙ l))
      where
        tied : y ≡ s.pick → (e : ℤ) × (source_of j y (row_back before row) w by ≡ some e) × (q.time ≤ℤ e) → Moved j y q r
            → ¬ (by_last_place d c ≡ Ordering.lt)
        tied e from m =
            let o = rw e at from.1 in
            first.leads d (before-ends d q r from.0 runs (rw e at m) k o from.2)

    leads : (d : Choice) → Ends (reverse before ++ (j ∷ [])) p w by d → ¬ (by_last_place d (c ++ (s.pick ∷ [])) ≡ Ordering.lt)
    leads d e l =
        let o = run-last (reverse before) j d p e.runs in
        no-sooner o.front o.pick o.middle e.end o.first (moved j o.pick o.middle o.then) e.weighs
        e.soon (ap (λ (g : Choice). by_last_place g (c ++ (s.pick ∷ []))) (sym o.whole) ∙ l)

-- The walk gives the first of all choices that leave the weight by the time, wherever there is one.
pub walk_first : (before : List Job) (p : Point) {row : Row} → Says row (p ∷ []) → (w : ℕ) (by : ℤ) (after : Choice)
    → By (row_back before row w) by → Walked before row p w by after
walk_first [] p s w by after c = walk_none p s w by after c
walk_first (j ∷ before) p {row} says w by after c =
    let f = source-found j (row_back before row) w by c in
    let s = f.0 in
    let further = walk_first before p says (w - gain_of j s.pick) s.latest (s.pick ∷ after) f.2.cell in
    record {
      choice = further.choice ++ (s.pick ∷ []);
      gives = rw f.1 (further.gives ∙ ap some (sym (append_assoc further.choice (s.pick ∷ []) after)));
      first = walk_more j before p says w by s f.1 f.2 further.choice further.first;
    }

-- ---- step by step, and what is made of the picks on the way

-- One step, where a source is found.
pub fold_step {ℓ} : {A : Type ℓ} (add : ℕ → A → A) (j : Job) (before : List Job) (row : Row) (w : ℕ) (by : ℤ) (made : A)
    (s : Source) → first_source j (picks j) (row_back before row) w by ≡ some s
    → fold_back add (j ∷ before) row w by made ≡ fold_back add before row (w - gain_of j s.pick) s.latest (add s.pick made)
fold_step add j before row w by made s f = rw f

-- The bits of a choice, with k empty places below it.
abbrev pub bits_of : ℕ → Choice → Bits
bits_of k c = record { next = 2 ^ (k + length c); sum = mask_of (k + length c) c }

-- One pick more in front.
pub bits-more : (k x : ℕ) (c : Choice) → bits_of k (x ∷ c) ≡ with_pick x (bits_of k c)
bits-more k x c =
    let n = k + length c in
    rw (add-suc k (length c)) (ap (λ (next : ℕ). record { next = next; sum = bit_of x * 2 ^ n + mask_of n c }) (pow-suc 2 n))

-- With as many empty places as there are to 64, the sum is the mask.
pub bits-mask : (c : Choice) → length c ≤ 64 → (bits_of (64 - length c) c).sum ≡ mask c
bits-mask c h = let n : 64 - length c + length c ≡ 64 = omega arith in ap (λ (k : ℕ). mask_of k c) n
