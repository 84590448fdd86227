-- What is known of planning's answer for the bytes of an entry: that the first bytes decide, that planning gives it where there is
-- room, and that its figures fit; so those of a list of at most 10,000 orders are a sheet's.
use Rattle.std.specs.Prelude.{sum, ℕ, zero, suc, ◌+◌, ◌*◌, ◌≤◌, ◌<◌, ◌≡◌, refl, true, List, [], ◌∷◌, ◌++◌, map, leb, ℤ, length, get_or, set, replicate, take}
use Rattle.std.proofs.Common.{sym, ap, ◌∙◌, arith, leb→le}
use Rattle.std.proofs.lemmas.List.{map-append, length-map}
use Rattle.std.proofs.Math.Option.{Option, none, some, map-eq-some_iff}
use Rattle.seconds.specs.Limits.{most_weight, most_jobs, most_points}
use Rattle.order.specs.Job.{Order}
use Rattle.order.specs.Choice.{Choice, number_kept}
use Rattle.order.proofs.Within.{order-within as order-limits}
use Rattle.order.proofs.Runs.{run_length}
use Rattle.profile.specs.Profile.{start_point}
use Rattle.plan.specs.Plan.{plan, Answer, answer_of, plan_answer}
use Rattle.plan.proofs.PlanIs.{plan-is}
use Rattle.plan.proofs.Figures.{answer-figures}
use Rattle.packed.specs.declared.Refusal.{Refusal}
use Rattle.packed.specs.Judge.{plainly, Verdict, fine, refused, judge}
use Rattle.packed.specs.JudgeLaws.{number-passes}
use Rattle.packed.specs.Packed.{jobs_of, order_of}
use Rattle.packed.specs.Refusals.{header_checks, job_checks, weight_checks, order_checks}
use Rattle.packed.proofs.Accepted.{order-fine, order-within}
use Rattle.area.specs.Area.{area}
use Rattle.planner.specs.Calls.{longest_order, figures_of, planned_by, planned_of}
use Rattle.planner.specs.Longer.{front-enough}
use Rattle.planner.specs.Answers.{plan-roomy}
use Rattle.planner.specs.PlanningLaws.{total-few}
use Rattle.planner.specs.declared.Figures.{Figures}
use Rattle.planner.specs.Calls.{Planned, Refused, Made}
use Rattle.sheet.specs.Sheet.{Sheet, most_orders, orders, no_sheet, one_order, join, sheet_of, is_sheet}
use Rattle.sheet.specs.NumbersLaws.{sum-cons}
use Rattle.sheet.specs.Answered.{answered, with_order, week_of}
use Rattle.sheet.specs.SheetLaws.{Tidy, as_many, one-tidy, sheet-tidy, sheet-orders, zeros-at, join-assoc, none_left, none_right, sheet-append, sheet-more}
use Rattle.sheet.specs.FitsLaws.{Fitting, without, with-one, join-fits, sheet-says, sheet-passes, fitting-tidy}

-- The first bytes of an entry, if they are more than the longest order has, have the answer of the whole entry.
pub entry-front : (size : ℕ) → longest_order < size → (entry : List ℕ) → answered (take size entry) ≡ answered entry
unfolding answered
entry-front = front-enough answered (λ r. Refused r) (λ bytes r e. rw e)

-- With room for every order planning gives it.
pub answered-is : (bytes : List ℕ) (starts work : List ℤ) → most_jobs ≤ length starts → area ≤ length work
    → planned_of bytes starts work ≡ answered bytes
unfolding answered
answered-is bytes starts work places space =
    ap (λ v. planned_by v (plan_answer (order_of bytes))) (plan-roomy bytes starts work places space)

-- ---- the numbers of an answer

-- A refusal has one of the numbers 1 to 19; a plan no more weight, jobs and points than an order can have.
pub data Tame : Planned → Type 0 where
  refused-tame : {r : Refusal} → 1 ≤ r.number → r.number ≤ 19 → Tame (Refused r)
  made-tame : {f : Figures} → f.kept_weight + f.lost_weight ≤ most_weight → f.kept ≤ most_jobs
      → f.points ≤ most_points * most_jobs → Tame (Made f)

few-kept : (c : Choice) → number_kept c ≤ length c
few-kept [] = omega arith
few-kept (zero ∷ c) = omega (arith, few-kept c)
few-kept (suc k ∷ c) = omega (arith, few-kept c)

kept-few : (o : Order) (a : Answer) → plan_answer o ≡ some a → a.kept ≤ length o.jobs
kept-few o a h =
    let m = (map-eq-some_iff (answer_of o.t0 o.jobs) (plan o.t0 o.jobs)).0 h in
    let p = (plan-is o.t0 o.jobs m.0).0 m.1 in
    let same : length m.0.choice ≡ length o.jobs = run_length o.jobs m.0.choice (start_point o.t0) p.feasible in
    rw (← m.2) (omega (arith, few-kept m.0.choice))

points-few : (bytes : List ℕ) (a : Answer) → judge (order_checks bytes) ≡ fine → plan_answer (order_of bytes) ≡ some a
    → a.points ≤ most_points * most_jobs
unfolding order_of jobs_of
points-few bytes a e h =
    let m = (map-eq-some_iff (answer_of (order_of bytes).t0 (order_of bytes).jobs) (plan (order_of bytes).t0 (order_of bytes).jobs)).0 h in
    rw (← m.2) (total-few bytes ((order-fine bytes).0 e))

pub answered-tame : (bytes : List ℕ) → Tame (answered bytes)
unfolding answered header_checks job_checks weight_checks
answered-tame bytes = go (judge (order_checks bytes)) (plan_answer (order_of bytes)) refl refl
  where
    go : (v : Verdict) (o : Option Answer) → judge (order_checks bytes) ≡ v → plan_answer (order_of bytes) ≡ o → Tame (planned_by v o)
    go (refused r) o e h =
        refused-tame
        (leb→le 1 r.number (number-passes (λ n. leb 1 n) (order_checks bytes) tt e))
        (leb→le r.number 19 (number-passes (λ n. leb n 19) (order_checks bytes) tt e))
    go fine none e h = refused-tame {r = plainly 11} (omega arith) (omega arith)
    go fine (some a) e h =
        let within = order-within bytes e in
        let limits = order-limits (order_of bytes) within in
        made-tame {f = figures_of a}
        (omega (arith, (answer-figures (order_of bytes) a h within).weights, limits.weight))
        (omega (arith, kept-few (order_of bytes) a h, limits.few))
        (points-few bytes a e h)

-- ---- its figures fit

-- One 1 among zeros, summed up, and looked for elsewhere.
no-sum : (k n : ℕ) → ◌≡◌ {A = ℕ} (sum (take k (replicate n 0))) 0
no-sum zero n = refl
no-sum (suc k) zero = refl
no-sum (suc k) (suc n) = omega (arith, sum-cons 0 (take k (replicate n 0)), no-sum k n)

one-sum : (k n m : ℕ) → m < k → k ≤ n → ◌≡◌ {A = ℕ} (sum (take k (set (replicate n 0) m 1))) 1
one-sum zero n m h g = absurd (omega arith)
one-sum (suc k) zero m h g = absurd (omega arith)
one-sum (suc k) (suc n) zero h g = omega (arith, sum-cons 1 (take k (replicate n 0)), no-sum k n)
one-sum (suc k) (suc n) (suc m) h g =
    omega (arith, sum-cons 0 (take k (set (replicate n 0) m 1)), one-sum k n m (omega arith) (omega arith))

elsewhere : (n m i : ℕ) → m < i → ◌≡◌ {A = ℕ} (get_or (set (replicate n 0) m 1) i 0) 0
elsewhere zero m i h = refl
elsewhere (suc n) m zero h = absurd (omega arith)
elsewhere (suc n) zero (suc i) h = zeros-at n i
elsewhere (suc n) (suc m) (suc i) h = elsewhere n m i (omega arith)

refused-sums : (number : ℕ) → 1 ≤ number → number ≤ 19
    → Fitting (record { sums = set (1 ∷ replicate 23 0) number 1; top = 0; place = 0 })
refused-sums zero h g = absurd (omega arith)
refused-sums (suc m) h g =
    let at : (i : ℕ) → m < i → ◌≡◌ {A = ℕ} (get_or (set (replicate 23 0) m 1) i 0) 0 = elsewhere 23 m in
    record {
      all-judged = one-sum 20 23 m (omega arith) (omega arith);
      most-offered = omega (arith, at 20 (omega arith));
      most-kept = omega (arith, at 21 (omega arith));
      most-jobs = omega (arith, at 22 (omega arith));
      top-fitting = without (at 19 (omega arith)) refl refl;
    }

pub tame-fits : (p : Planned) → Tame p → Fitting (one_order p)
unfolding one_order
tame-fits (Refused r) (refused-tame low high) = refused-sums r.number low high
tame-fits (Made f) (made-tame weights jobs points) =
    record {
      all-judged = refl;
      most-offered = omega arith;
      most-kept = omega arith;
      most-jobs = omega arith;
      top-fitting = with-one (omega arith) (omega arith) (omega arith) (omega arith);
    }

pub answer-fits : (bytes : List ℕ) → Fitting (one_order (answered bytes))
answer-fits bytes = tame-fits (answered bytes) (answered-tame bytes)

-- So no sheet is refused as none: that of any list of at most 10,000 orders passes.
week-fits : (entries : List (List ℕ)) → Fitting (week_of entries)
unfolding week_of sheet_of no_sheet
week-fits [] =
    record { all-judged = refl; most-offered = omega arith; most-kept = omega arith; most-jobs = omega arith; top-fitting = without refl refl refl }
week-fits (e ∷ entries) =
    join-fits (one_order (answered e)) (sheet_of (map answered entries))
    (as_many (one-tidy (answered e)) (sheet-tidy (map answered entries)))
    (answer-fits e)
    (week-fits entries)

pub week-orders : (entries : List (List ℕ)) → orders (week_of entries) ≡ length entries
unfolding week_of
week-orders entries = sheet-orders (map answered entries) ∙ length-map entries answered

pub week-is-sheet : (entries : List (List ℕ)) → length entries ≤ most_orders → is_sheet (week_of entries) ≡ true
week-is-sheet entries few = sheet-passes (week_of entries) (omega (arith, week-orders entries)) (week-fits entries)

pub week-tidy : (entries : List (List ℕ)) → Tidy (week_of entries)
unfolding week_of
week-tidy entries = sheet-tidy (map answered entries)

-- The sheet of two lists of orders, one behind the other, is the join of theirs; one order more is one order joined.
pub week-append : (xs ys : List (List ℕ)) → week_of (xs ++ ys) ≡ join (week_of xs) (week_of ys)
unfolding week_of
week-append xs ys = ap sheet_of (map-append answered xs ys) ∙ sheet-append (map answered xs) (map answered ys)

pub week-more : (xs : List (List ℕ)) (bytes : List ℕ) → week_of (xs ++ (bytes ∷ [])) ≡ with_order (week_of xs) bytes
unfolding week_of with_order
week-more xs bytes = ap sheet_of (map-append answered xs (bytes ∷ [])) ∙ sheet-more (map answered xs) (answered bytes)

-- ---- joining, for figures that fit

-- Joining sheets is associative, and the sheet of no order changes none.
pub sheets-assoc : (a b c : Sheet) → length a.sums ≡ 24 → length b.sums ≡ 24 → join (join a b) c ≡ join a (join b c)
sheets-assoc a b c x y = join-assoc a b c (x ∙ sym y)

pub sheets-neutral : (s : Sheet) → length s.sums ≡ 24 → is_sheet s ≡ true → (join no_sheet s ≡ s) × (join s no_sheet ≡ s)
sheets-neutral s long is =
    let t = fitting-tidy s long (sheet-says s is).1 in (none_left s t, none_right s t)
