-- What stands among the results of a list of trials, and among the outcomes of some jobs.
use Rattle.std.specs.Prelude.{ℕ, ◌≡◌, refl, ◌⊎◌}
use Rattle.std.proofs.Common.{sym, ap, ◌∙◌, inl, inr}
use mathlib.Core.List.Memᴰ
use mathlib.Core.List.{List, [], ◌∷◌, ◌++◌, append_assoc, Memᴰ}
use Rattle.std.proofs.Math.Option.{Option, none, some}
use Rattle.order.specs.Job.{Job, Point, move}
use Rattle.order.specs.Choice.{Choice, choices, run, cons_if, results, outcomes}
use Rattle.order.proofs.Runs.{run-nil, run_join, run-split, run_more, run-last, choice-listed}

-- ---- the results of trials

-- Something in a list that gives b.
pub record Result {ℓ ℓ'} {A : Type ℓ} {B : Type ℓ'} (f : A → Option B) (l : List A) (b : B) : Type (ℓ ⊔ ℓ') where
  pub from : A
  pub listed : Memᴰ from l
  pub gives : f from ≡ some b

module _ {ℓ ℓ'} {A : Type ℓ} {B : Type ℓ'} (f : A → Option B) where
  still-in : (o : Option B) (l : List B) {b : B} → Memᴰ b l → Memᴰ b (cons_if o l)
  still-in none l m = m
  still-in (some a) l m = Memᴰ.tail m

  -- What something listed gives is among the results,
  pub result-in : (l : List A) {a : A} {b : B} → Memᴰ a l → f a ≡ some b → Memᴰ b (results f l)
  result-in [] {a = a} {b = b} x'' g = elim x'' [ ]
  result-in (x ∷ l) (Memᴰ.head e) g = rw (← e) (rw g (Memᴰ.head refl))
  result-in (x ∷ l) (Memᴰ.tail m) g = still-in (f x) (results f l) (result-in l m g)

  below : (x : A) (l : List A) {b : B} → Result f l b → Result f (x ∷ l) b
  below x l r = record { from = r.from; listed = Memᴰ.tail r.listed; gives = r.gives }

  -- and nothing else is.
  pub result-of : (l : List A) {b : B} → Memᴰ b (results f l) → Result f l b
  result-of [] m = absurd (Memᴰ.not-nil m)
  result-of (x ∷ l) {b} m = go (λ n. below x l (result-of l n)) (f x) refl m
    where
      go : (Memᴰ b (results f l) → Result f (x ∷ l) b) → (o : Option B) → f x ≡ o
          → Memᴰ b (cons_if o (results f l)) → Result f (x ∷ l) b
      go further none e n = further n
      go further (some a) e (Memᴰ.head h) =
          record { from = x; listed = Memᴰ.head refl; gives = e ∙ ap {B = Option B} some (sym h) }
      go further (some a) e (Memᴰ.tail n) = further n

-- ---- the outcomes of jobs

-- A point of the list and a choice that runs from it to r.
pub record Outcome (js : List Job) (ps : List Point) (r : Point) : Type 0 where
  pub from : Point
  pub choice : Choice
  pub listed : Memᴰ from ps
  pub gives : run js choice from ≡ some r

-- The outcomes from one point.
abbrev outcomes_from : List Job → Point → List Point
outcomes_from js p = results (λ (c : Choice). run js c p) (choices js)

-- Where a choice runs to from a listed point is an outcome,
pub outcome-in : (js : List Job) (ps : List Point) (c : Choice) {p r : Point}
    → Memᴰ p ps → run js c p ≡ some r → Memᴰ r (outcomes js ps)
outcome-in js [] c {p = p} {r = r} x'' g = elim x'' [ ]
outcome-in js (q ∷ ps) c {p} (Memᴰ.head e) g =
    let here = result-in (λ (d : Choice). run js d q) (choices js) (choice-listed js c p g) (rw e at g) in
    Memᴰ.append_left (outcomes js ps) here
outcome-in js (q ∷ ps) c (Memᴰ.tail m) g = Memᴰ.append_right (outcomes_from js q) (outcome-in js ps c m g)

-- and nothing else is.
pub outcome-of : (js : List Job) (ps : List Point) {r : Point} → Memᴰ r (outcomes js ps) → Outcome js ps r
outcome-of js [] m = absurd (Memᴰ.not-nil m)
outcome-of js (q ∷ ps) {r} m = go (λ n. further (outcome-of js ps n)) (Memᴰ.append_cases (outcomes_from js q) m)
  where
    further : Outcome js ps r → Outcome js (q ∷ ps) r
    further o = record { from = o.from; choice = o.choice; listed = Memᴰ.tail o.listed; gives = o.gives }

    go : (Memᴰ r (outcomes js ps) → Outcome js (q ∷ ps) r)
        → Memᴰ r (outcomes_from js q) ⊎ Memᴰ r (outcomes js ps) → Outcome js (q ∷ ps) r
    go later (inl n) =
        let o = result-of (λ (d : Choice). run js d q) (choices js) n in
        record { from = q; choice = o.from; listed = Memᴰ.head refl; gives = o.gives }
    go later (inr n) = later n

-- No jobs leave the points as they are.
pub outcomes-none : (ps : List Point) → outcomes [] ps ≡ ps
outcomes-none [] = refl
outcomes-none (p ∷ ps) =
    ap (λ (o : Option Point). cons_if o [] ++ outcomes [] ps) (run-nil p)
    ∙ ap {B = List Point} (λ qs. p ∷ qs) (outcomes-none ps)

-- The outcomes from joined lists of points.
pub outcomes-append : (js : List Job) (ps qs : List Point) → outcomes js (ps ++ qs) ≡ outcomes js ps ++ outcomes js qs
outcomes-append js [] qs = refl
outcomes-append js (p ∷ ps) qs =
    ap (λ (l : List Point). outcomes_from js p ++ l) (outcomes-append js ps qs)
    ∙ sym (append_assoc (outcomes_from js p) (outcomes js ps) (outcomes js qs))

-- The outcomes of joined jobs are those of the second from those of the first, and back.
pub outcomes-then : (js ks : List Job) (ps : List Point) {r : Point}
    → Memᴰ r (outcomes (js ++ ks) ps) → Memᴰ r (outcomes ks (outcomes js ps))
outcomes-then js ks ps m =
    let o = outcome-of (js ++ ks) ps m in
    let s = run-split js ks o.choice o.from o.gives in
    outcome-in ks (outcomes js ps) s.back (outcome-in js ps s.front o.listed s.first) s.then

pub then-outcomes : (js ks : List Job) (ps : List Point) {r : Point}
    → Memᴰ r (outcomes ks (outcomes js ps)) → Memᴰ r (outcomes (js ++ ks) ps)
then-outcomes js ks ps m =
    let o = outcome-of ks (outcomes js ps) m in
    let f = outcome-of js ps o.listed in
    outcome-in (js ++ ks) ps (f.choice ++ o.choice) f.listed
    (run_join js ks f.choice o.choice f.from f.gives o.gives)

-- ---- one job more

-- A move of the job to r from an outcome without it.
pub record MoreOutcome (js : List Job) (j : Job) (ps : List Point) (r : Point) : Type 0 where
  pub from : Point
  pub pick : ℕ
  pub listed : Memᴰ from (outcomes js ps)
  pub gives : move j pick from ≡ some r

-- Where it moves an outcome to is an outcome with the job,
pub more-outcome-in : (js : List Job) (j : Job) (ps : List Point) (x : ℕ) {q r : Point}
    → Memᴰ q (outcomes js ps) → move j x q ≡ some r → Memᴰ r (outcomes (js ++ (j ∷ [])) ps)
more-outcome-in js j ps x m g =
    let o = outcome-of js ps m in
    outcome-in (js ++ (j ∷ [])) ps (o.choice ++ (x ∷ [])) o.listed
    (run_more js j o.choice x o.from o.gives g)

-- and nothing else is.
pub more-outcome-of : (js : List Job) (j : Job) (ps : List Point) {r : Point}
    → Memᴰ r (outcomes (js ++ (j ∷ [])) ps) → MoreOutcome js j ps r
more-outcome-of js j ps m =
    let o = outcome-of (js ++ (j ∷ [])) ps m in
    let s = run-last js j o.choice o.from o.gives in
    record { from = s.middle; pick = s.pick; listed = outcome-in js ps s.front o.listed s.first; gives = s.then }
