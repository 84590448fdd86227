-- What running a choice gives: pick by pick, over joined jobs, and of easier jobs from a better point.
use Rattle.std.specs.Prelude.{ℕ, suc, ◌+◌, ◌≤◌, ◌≡◌, refl, Bool, true, false, T, ℤ, length, ◌≤ℤ◌}
use Rattle.std.proofs.Common.{sym, ap, ◌∙◌, add-zero, add_assoc, arith}
use mathlib.Core.List.Forall₂
use mathlib.Core.List.{List, [], ◌∷◌, ◌++◌, map}
use mathlib.Core.List.Memᴰ
use mathlib.Core.List.{Memᴰ}
use Rattle.std.proofs.Math.Option.{Option, none, some, some-injective, none-ne-some}
use Rattle.seconds.specs.Signed.{signed}
use Rattle.seconds.specs.Ranges.{InFree}
use Rattle.order.specs.Job.{Job, Point, allowed, gain_of, picks, move, jobs_within}
use Rattle.order.specs.Choice.{Choice, feasible, finish, kept_weight, with_each, choices, run}
use Rattle.order.specs.Given.{Covers}
use Rattle.order.specs.Easier.{NoLower, EasierJobs}
use Rattle.order.proofs.EasierLaws.{same-jobs}
use Rattle.order.proofs.Moves.{move_to, moved, move-allowed, move-refused, easier-move, point-path}
use Rattle.order.proofs.Moves.{pick-listed, bus_free-in-range}
use Rattle.order.proofs.Within.{jobs-within}

-- ---- pick by pick

-- No jobs and no picks leave the point as it is.
pub run-nil : (p : Point) → run [] [] p ≡ some p
run-nil p = rw (add-zero p.weight)

run_step : (j : Job) (js : List Job) (x : ℕ) (c : Choice) (p : Point)
    → allowed j x p.time ≡ true → run (j ∷ js) (x ∷ c) p ≡ run js c (move_to j x p)
run_step j js x c p a = rw (a, add_assoc p.weight (gain_of j x) (kept_weight js c))

-- A first pick that moves, then the other picks from there;
pub run-cons : (j : Job) (js : List Job) (x : ℕ) (c : Choice) (p : Point) {q : Point}
    → move j x p ≡ some q → run (j ∷ js) (x ∷ c) p ≡ run js c q
run-cons j js x c p {q} e =
    let a = (moved j x p e).may in
    let to : move_to j x p ≡ q = cc (move-allowed j x p a) in
    run_step j js x c p a ∙ ap (run js c) to

-- one that does not move, and the run gives nothing.
pub run-stuck : (j : Job) (js : List Job) (x : ℕ) (c : Choice) (p : Point)
    → move j x p ≡ none → run (j ∷ js) (x ∷ c) p ≡ none
run-stuck j js x c p e = go (allowed j x p.time) refl
  where
    go : (b : Bool) → allowed j x p.time ≡ b → run (j ∷ js) (x ∷ c) p ≡ none
    go true a = absurd (none-ne-some _ (sym e ∙ move-allowed j x p a))
    go false a = rw a

-- A run's first move.
pub run-first : (j : Job) (js : List Job) (x : ℕ) (c : Choice) (p : Point) {r : Point} → run (j ∷ js) (x ∷ c) p ≡ some r
    → (q : Point) × (move j x p ≡ some q) × (run js c q ≡ some r)
run-first j js x c p {r} e = go (allowed j x p.time) refl
  where
    go : (b : Bool) → allowed j x p.time ≡ b → (q : Point) × (move j x p ≡ some q) × (run js c q ≡ some r)
    go true a = (move_to j x p, move-allowed j x p a, sym (run_step j js x c p a) ∙ e)
    go false a = absurd (none-ne-some _ (sym (run-stuck j js x c p (move-refused j x p a)) ∙ e))

-- A run of no jobs has no picks, and ends where it began.
run_none : (c : Choice) (p : Point) {r : Point} → run [] c p ≡ some r → (c ≡ []) × (p ≡ r)
run_none [] p e = (refl, some-injective _ _ (sym (run-nil p) ∙ e))
run_none (x ∷ c) p e = absurd (none-ne-some _ e)

-- A run of one job is its move.
pub run-one : (j : Job) (x : ℕ) (p : Point) → run (j ∷ []) (x ∷ []) p ≡ move j x p
run-one j x p = go (move j x p) refl
  where
    go : (o : Option Point) → move j x p ≡ o → run (j ∷ []) (x ∷ []) p ≡ move j x p
    go none e = run-stuck j [] x [] p e ∙ sym e
    go (some q) e = run-cons j [] x [] p e ∙ run-nil q ∙ sym e

-- A run has a pick for each job.
pub run_length : (js : List Job) (c : Choice) (p : Point) {r : Point} → run js c p ≡ some r → length c ≡ length js
run_length [] [] p e = refl
run_length [] (x ∷ c) p e = absurd (none-ne-some _ e)
run_length (j ∷ js) [] p e = absurd (none-ne-some _ e)
run_length (j ∷ js) (x ∷ c) p e = let f = run-first j js x c p e in ap suc (run_length js c f.0 f.2)

-- ---- jobs joined to jobs

-- A run after a run is a run of the joined jobs,
pub run_join : (js ks : List Job) (c d : Choice) (p : Point) {q r : Point}
    → run js c p ≡ some q → run ks d q ≡ some r → run (js ++ ks) (c ++ d) p ≡ some r
run_join [] ks [] d p e f = rw (run_none [] p e).1 f
run_join [] ks (x ∷ c) d p e f = absurd (none-ne-some _ e)
run_join (j ∷ js) ks [] d p e f = absurd (none-ne-some _ e)
run_join (j ∷ js) ks (x ∷ c) d p e f =
    let m = run-first j js x c p e in
    run-cons j (js ++ ks) x (c ++ d) p m.1 ∙ run_join js ks c d m.0 m.2 f

-- and every run of joined jobs has these parts.
pub record Parts (js ks : List Job) (e : Choice) (p r : Point) : Type 0 where
  pub front : Choice
  pub back : Choice
  pub middle : Point
  pub whole : e ≡ front ++ back
  pub first : run js front p ≡ some middle
  pub then : run ks back middle ≡ some r

pub run-split : (js ks : List Job) (e : Choice) (p : Point) {r : Point} → run (js ++ ks) e p ≡ some r → Parts js ks e p r
run-split [] ks e p f = record { front = []; back = e; middle = p; whole = refl; first = run-nil p; then = f }
run-split (j ∷ js) ks [] p f = absurd (none-ne-some _ f)
run-split (j ∷ js) ks (x ∷ e) p f =
    let m = run-first j (js ++ ks) x e p f in
    let further = run-split js ks e m.0 m.2 in
    record {
      front = x ∷ further.front;
      back = further.back;
      middle = further.middle;
      whole = ap {B = Choice} (λ c. x ∷ c) further.whole;
      first = run-cons j js x further.front p m.1 ∙ further.first;
      then = further.then;
    }

-- The same of one job more: a run and then a move,
pub run_more : (js : List Job) (j : Job) (c : Choice) (x : ℕ) (p : Point) {q r : Point}
    → run js c p ≡ some q → move j x q ≡ some r → run (js ++ (j ∷ [])) (c ++ (x ∷ [])) p ≡ some r
run_more js j c x p {q} e f = run_join js (j ∷ []) c (x ∷ []) p e (run-one j x q ∙ f)

-- which is what every run with the job has.
pub record LastPick (js : List Job) (j : Job) (e : Choice) (p r : Point) : Type 0 where
  pub front : Choice
  pub pick : ℕ
  pub middle : Point
  pub whole : e ≡ front ++ (pick ∷ [])
  pub first : run js front p ≡ some middle
  pub then : move j pick middle ≡ some r

only-pick : (j : Job) (d : Choice) (p : Point) {r : Point} → run (j ∷ []) d p ≡ some r
    → (x : ℕ) × (d ≡ x ∷ []) × (move j x p ≡ some r)
only-pick j [] p e = absurd (none-ne-some _ e)
only-pick j (x ∷ d) p e =
    let m = run-first j [] x d p e in
    let n = run_none d m.0 m.2 in
    (x, ap {B = Choice} (λ c. x ∷ c) n.0, m.1 ∙ ap {B = Option Point} some n.1)

pub run-last : (js : List Job) (j : Job) (e : Choice) (p : Point) {r : Point}
    → run (js ++ (j ∷ [])) e p ≡ some r → LastPick js j e p r
run-last js j e p f =
    let s = run-split js (j ∷ []) e p f in
    let o = only-pick j s.back s.middle s.then in
    record {
      front = s.front;
      pick = o.0;
      middle = s.middle;
      whole = s.whole ∙ ap (λ (d : Choice). s.front ++ d) o.1;
      first = s.first;
      then = o.2;
    }

-- ---- where a run ends

-- A run of easier jobs, or of the same, from a point that covers another ends in a point that covers the other's end.
pub easier-run : {new old : List Job} → EasierJobs NoLower new old → (c : Choice) (p r : Point) {r' : Point} → Covers p r
    → run old c r ≡ some r' → (q : Point) × (run new c p ≡ some q) × Covers q r'
easier-run Forall₂.nil c p r h m =
    let none = run_none c r m in
    (p, ap (λ (d : Choice). run [] d p) none.0 ∙ run-nil p, rw (← none.1) h)
easier-run (Forall₂.cons e es) [] p r h m = absurd (none-ne-some _ m)
easier-run (Forall₂.cons {a = j} {b = k} {l₁ = js} {l₂ = ks} e es) (x ∷ c) p r h m =
    let was = run-first k ks x c r m in
    let step = easier-move e x p r h was.1 in
    let further = easier-run es c step.0 was.0 step.2 was.2 in
    (further.0, run-cons j js x c p step.1 ∙ further.1, further.2)

-- A run from a point that covers another ends in a point that covers the other's end.
pub run-monotone : (js : List Job) (c : Choice) (p r : Point) {r' : Point} → Covers p r → run js c r ≡ some r'
    → (q : Point) × (run js c p ≡ some q) × Covers q r'
run-monotone js c p r h e = easier-run (same-jobs js) c p r h e

-- A choice runs from p to q: it is feasible, and q has its bus-free time, and its kept weight on top of p's.
pub record Ran (js : List Job) (c : Choice) (p q : Point) : Type 0 where
  pub can : feasible js c p.time ≡ true
  pub free : q.time ≡ finish js c p.time
  pub sum : q.weight ≡ p.weight + kept_weight js c

-- What a run says, and back.
pub ran : (js : List Job) (c : Choice) (p : Point) {q : Point} → run js c p ≡ some q → Ran js c p q
ran js c p {q} e = go (feasible js c p.time) refl
  where
    go : (b : Bool) → feasible js c p.time ≡ b → Ran js c p q
    go true a =
        let to : record { time = finish js c p.time; weight = p.weight + kept_weight js c } ≡ q = cc in
        record { can = a; free = ap (λ (r : Point). r.time) (sym to); sum = ap (λ (r : Point). r.weight) (sym to) }
    go false a = absurd (none-ne-some q (cc))

pub runs : (js : List Job) (c : Choice) (p : Point) {q : Point} → Ran js c p q → run js c p ≡ some q
runs js c p m = rw m.can (ap {B = Option Point} some (point-path (sym m.free) (sym m.sum)))

-- So a choice that was feasible is feasible for easier jobs with the bus free no later: it leaves the bus free no later, and keeps
-- no less.
pub easier-choice : {new old : List Job} → EasierJobs NoLower new old → (c : Choice) {s t : ℤ} → s ≤ℤ t → feasible old c t ≡ true
    → (feasible new c s ≡ true) × (finish new c s ≤ℤ finish old c t) × (kept_weight old c ≤ kept_weight new c)
easier-choice {new} {old} e c {s} {t} h can =
    let p : Point = record { time = s; weight = 0 } in
    let r : Point = record { time = t; weight = 0 } in
    let end : Point = record { time = finish old c t; weight = kept_weight old c } in
    let was : run old c r ≡ some end = runs old c r (record { can = can; free = refl; sum = omega arith }) in
    let now = easier-run e c p r (record { soon = h; heavy = omega arith }) was in
    let q = ran new c p now.1 in
    (q.can, omega (signed, q.free, now.2.soon), omega (arith, q.sum, now.2.heavy))

-- With jobs within the limits, a bus-free time in range stays in range.
pub run-in-range : (js : List Job) (c : Choice) (p : Point) {q : Point} → T (jobs_within js) → InFree p.time
    → run js c p ≡ some q → InFree q.time
run-in-range [] c p w h e = rw (← (run_none c p e).1) h
run-in-range (j ∷ js) [] p w h e = absurd (none-ne-some _ e)
run-in-range (j ∷ js) (x ∷ c) p w h e =
    let ws = jobs-within j js w in
    let m = run-first j js x c p e in
    let n = moved j x p m.1 in
    run-in-range js c m.0 ws.1 (rw n.free (bus_free-in-range j x p.time ws.0 n.may h)) m.2

with_each_lem : (xs : List ℕ) (cs : List Choice) {x : ℕ} {c : Choice}
    → Memᴰ x xs → Memᴰ c cs → Memᴰ (x ∷ c) (with_each xs cs)
with_each_lem [] cs {c = c} x4 n = elim x4 [ ]
with_each_lem (y ∷ xs) cs (Memᴰ.head e) n = rw e (Memᴰ.append_left (with_each xs cs) (Memᴰ.map (λ (c : Choice). y ∷ c) n))
with_each_lem (y ∷ xs) cs (Memᴰ.tail m) n = Memᴰ.append_right (map (λ (c : Choice). y ∷ c) cs) (with_each_lem xs cs m n)

-- A choice that runs is one of the choices.
pub choice-listed : (js : List Job) (c : Choice) (p : Point) {q : Point} → run js c p ≡ some q → Memᴰ c (choices js)
choice-listed [] c p e = Memᴰ.head (run_none c p e).0
choice-listed (j ∷ js) [] p e = absurd (none-ne-some _ e)
choice-listed (j ∷ js) (x ∷ c) p e =
    let m = run-first j js x c p e in
    with_each_lem (picks j) (choices js) (pick-listed j x p.time (moved j x p m.1).may) (choice-listed js c m.0 m.2)
