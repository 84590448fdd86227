-- The plan as R7 defines it: a feasible choice before which no feasible one ranks. The computed plan is that
-- choice, there is at most one, and there is none exactly where nothing is feasible. Then the ranking is spelled out.
use Prim.Native.Nat.{ℕ, ◌≤◌, ◌<◌, Ordering}
use Rattle.std.specs.Prelude.{◌≡◌, refl, Bool, true, false, List, [], ◌∷◌, ◌↔◌, ◌⊎◌, ℤ, length, ◌≤ℤ◌}
use Rattle.std.proofs.Common.{sym, ap, ◌∙◌, true≢false, inl, inr, ⊎_elim, arith}
use mathlib.Core.List.Memᴰ
use mathlib.Core.List.{Memᴰ}
use Rattle.std.proofs.Math.Option.{Option, none, some, map, some-injective, map-eq-some_iff}
use Rattle.seconds.specs.Signed.{signed, not-lt}
use Rattle.order.specs.Job.{Job, Point}
use Rattle.order.specs.Choice.{Choice, feasible, finish, kept_weight, choices, run, results}
use Rattle.order.proofs.Runs.{Ran, ran, runs, choice-listed}
use Rattle.order.proofs.Outcomes.{result-in, result-of}
use Rattle.order.proofs.Counts.{feasible-holds}
use Rattle.order.proofs.OneRate.{OneRate, one-rate-marks, mark-at}
use Rattle.profile.specs.Profile.{start_point}
use Rattle.plan.specs.Plan.{by_last_place, Ended, ended, plan}
use Rattle.plan.proofs.Comparing.{by_last_place-total}
use Rattle.plan.proofs.Ranking.{Before, Better, heavier, sooner, tied, before-is, same_rank}
use Rattle.plan.proofs.TieRule.{SmallerAtLast, LeftOutAtLast, left-out-of, tie-rule}
use Rattle.plan.proofs.First.{IsFirst, first-is, first-none}

-- A choice with an end.
abbrev pub with_end : Choice → Point → Ended
with_end c p = record { choice = c; end = p }

-- Feasible from t with that end, and nothing feasible from t ranks before it.
pub record IsPlan (t : ℤ) (js : List Job) (e : Ended) : Type 0 where
  pub feasible : run js e.choice (start_point t) ≡ some e.end
  pub leads : (c : Choice) (q : Point) → run js c (start_point t) ≡ some q → ¬ Before (with_end c q) e

-- ---- the computed plan

-- All feasible choices with their ends,
abbrev candidates : ℤ → List Job → List Ended
candidates t js = results (ended t js) (choices js)

-- which are those that run.
candidate : (t : ℤ) (js : List Job) (e : Ended)
    → (run js e.choice (start_point t) ≡ some e.end) ↔ Memᴰ e (candidates t js)
candidate t js e = (to, back)
  where
    to : run js e.choice (start_point t) ≡ some e.end → Memᴰ e (candidates t js)
    to h =
        result-in (ended t js) (choices js) (choice-listed js e.choice (start_point t) h)
        (ap (map (with_end e.choice)) h)

    back : Memᴰ e (candidates t js) → run js e.choice (start_point t) ≡ some e.end
    back m =
        let r = result-of (ended t js) (choices js) m in
        let s = (map-eq-some_iff (with_end r.from) (run js r.from (start_point t))).0 r.gives in
        rw (← s.2) s.1

-- The computed plan is the plan, and the plan is computed.
pub plan-is : (t : ℤ) (js : List Job) (e : Ended) → (plan t js ≡ some e) ↔ IsPlan t js e
plan-is t js e = (λ h. to ((first-is (candidates t js) e).0 h), λ p. (first-is (candidates t js) e).1 (back p))
  where
    to : IsFirst (candidates t js) e → IsPlan t js e
    to f =
        record {
          feasible = (candidate t js e).1 f.listed;
          leads = λ c q r. f.leads (with_end c q) ((candidate t js (with_end c q)).0 r);
        }

    back : IsPlan t js e → IsFirst (candidates t js) e
    back p =
        record {
          listed = (candidate t js e).0 p.feasible;
          leads = λ b m. p.leads b.choice b.end ((candidate t js b).1 m);
        }

-- There is at most one plan.
pub plan-one : (t : ℤ) (js : List Job) (e f : Ended) → IsPlan t js e → IsPlan t js f → e ≡ f
plan-one t js e f p q =
    same_rank e f (q.leads e.choice e.end p.feasible) (p.leads f.choice f.end q.feasible)

-- ---- feasible choices and their ends

-- The point that a choice ends in.
abbrev pub end_of : ℤ → List Job → Choice → Point
end_of t js c = record { time = finish js c t; weight = kept_weight js c }

-- A feasible choice runs to that point,
pub run-feasible : (t : ℤ) (js : List Job) (c : Choice) → feasible js c t ≡ true → run js c (start_point t) ≡ some (end_of t js c)
run-feasible t js c h = runs js c (start_point t) (record { can = h; free = refl; sum = omega arith })

-- and has as many picks as any other.
same_length : (t : ℤ) (js : List Job) (c d : Choice) → feasible js c t ≡ true → feasible js d t ≡ true → length c ≡ length d
same_length t js c d h k = (feasible-holds js c t h).each ∙ sym (feasible-holds js d t k).each

-- ---- where there is no plan

-- A list with nothing in it is empty.
pub all-out : {A : Type 0} (l : List A) → ((a : A) → ¬ Memᴰ a l) → l ≡ []
all-out [] h = refl
all-out (a ∷ l) h = absurd (h a (Memᴰ.head refl))

-- There is no plan exactly when no choice is feasible.
pub plan-none : (t : ℤ) (js : List Job) → (plan t js ≡ none) ↔ ((c : Choice) → feasible js c t ≡ false)
plan-none t js = (to, back)
  where
    to : plan t js ≡ none → (c : Choice) → feasible js c t ≡ false
    to h c = go (feasible js c t) refl
      where
        go : (b : Bool) → feasible js c t ≡ b → feasible js c t ≡ false
        go true e =
            let m = (candidate t js (with_end c (end_of t js c))).0 (run-feasible t js c e) in
            absurd (Memᴰ.not-nil (rw ((first-none (candidates t js)).0 h) at m))
        go false e = e

    back : ((c : Choice) → feasible js c t ≡ false) → plan t js ≡ none
    back h =
        (first-none (candidates t js)).1 (all-out (candidates t js) λ a m.
        let r = ran js a.choice (start_point t) ((candidate t js a).1 m) in
        true≢false (sym r.can ∙ h a.choice))

-- So where a choice is feasible, there is a plan.
pub plan-some : (t : ℤ) (js : List Job) (c : Choice) → feasible js c t ≡ true → (e : Ended) × (plan t js ≡ some e)
plan-some t js c h = go (plan t js) refl
  where
    go : (o : Option Ended) → plan t js ≡ o → (e : Ended) × (plan t js ≡ some e)
    go none p = absurd (true≢false (sym h ∙ (plan-none t js).0 p c))
    go (some e) p = (e, p)

-- ---- in the words of R7

module _ (t : ℤ) (js : List Job) (e : Ended) (p : IsPlan t js e) where
  -- The plan's choice is feasible, and the plan ends at that choice's bus-free time with its kept weight.
  pub plan-ran : Ran js e.choice (start_point t) e.end
  plan-ran = ran js e.choice (start_point t) p.feasible

  module _ (d : Choice) (h : feasible js d t ≡ true) where
    none-better : ¬ Better (with_end d (end_of t js d)) e
    none-better b = p.leads d (end_of t js d) (run-feasible t js d h) ((before-is (with_end d (end_of t js d)) e).1 b)

    -- No feasible choice keeps more weight;
    pub plan-heaviest : kept_weight js d ≤ e.end.weight
    plan-heaviest =
        let n : ¬ (e.end.weight < kept_weight js d) = λ k. none-better (heavier k) in
        omega arith

    -- of those that keep as much, none leaves the bus free earlier;
    pub plan-soonest : kept_weight js d ≡ e.end.weight → e.end.time ≤ℤ finish js d t
    plan-soonest w = not-lt (λ k. none-better (sooner w k))

    -- of those that also leave it free then, any other has the greater pick at the last place where the two differ;
    pub plan-last-place : kept_weight js d ≡ e.end.weight → finish js d t ≡ e.end.time
        → (d ≡ e.choice) ⊎ SmallerAtLast e.choice d
    plan-last-place w f = go (by_last_place d e.choice) refl
      where
        go : (o : Ordering) → by_last_place d e.choice ≡ o → (d ≡ e.choice) ⊎ SmallerAtLast e.choice d
        go Ordering.lt b = absurd (none-better (tied w f b))
        go Ordering.eq b = inl ((by_last_place-total.equal d e.choice).0 b)
        go Ordering.gt b =
            let before : by_last_place e.choice d ≡ Ordering.lt = cc (by_last_place-total.turned d e.choice) in
            inr ((tie-rule e.choice d (same_length t js e.choice d plan-ran.can h)).0 before)

    -- where each job has one rate, the plan leaves that job out and the other choice keeps it.
    pub plan-leaves-out : OneRate js → kept_weight js d ≡ e.end.weight → finish js d t ≡ e.end.time
        → (d ≡ e.choice) ⊎ LeftOutAtLast e.choice d
    plan-leaves-out one w f =
        ⊎_elim inl (λ s. inr (left-out-of s (mark-at d (one-rate-marks js d t one h) s.place))) (plan-last-place w f)

-- All of it: feasible, of greatest kept weight, among those the first to leave the bus free, and among those with the smaller pick at
-- the last place where it differs from another.
pub record BestChoice (t : ℤ) (js : List Job) (c : Choice) : Type 0 where
  pub possible : feasible js c t ≡ true
  pub heaviest : (d : Choice) → feasible js d t ≡ true → kept_weight js d ≤ kept_weight js c
  pub soonest : (d : Choice) → feasible js d t ≡ true → kept_weight js d ≡ kept_weight js c → finish js c t ≤ℤ finish js d t
  pub last_place : (d : Choice) → feasible js d t ≡ true → kept_weight js d ≡ kept_weight js c → finish js d t ≡ finish js c t
      → (d ≡ c) ⊎ SmallerAtLast c d

-- A choice does not come before one that is equal or has the smaller pick at the last place.
not_first : (c d : Choice) → length c ≡ length d → (d ≡ c) ⊎ SmallerAtLast c d → ¬ (by_last_place d c ≡ Ordering.lt)
not_first c d n (inl s) h = let z : ◌≡◌ {A = ℕ} 0 1 = cc ((by_last_place-total.equal d c).1 s) in absurd (omega arith)
not_first c d n (inr s) h =
    let z : ◌≡◌ {A = ℕ} 0 1 = cc (by_last_place-total.turned c d, (tie-rule c d n).1 s) in absurd (omega arith)

-- The best choice is the plan: a choice with its end is computed exactly where those words hold of it.
pub plan-in-words : (t : ℤ) (js : List Job) (c : Choice) → (plan t js ≡ some (with_end c (end_of t js c))) ↔ BestChoice t js c
plan-in-words t js c = (λ h. to ((plan-is t js e).0 h), λ b. (plan-is t js e).1 (back b))
  where
    e : Ended
    e = with_end c (end_of t js c)

    to : IsPlan t js e → BestChoice t js c
    to p =
        record {
          possible = (plan-ran t js e p).can;
          heaviest = plan-heaviest t js e p;
          soonest = plan-soonest t js e p;
          last_place = plan-last-place t js e p;
        }

    none : BestChoice t js c → (d : Choice) (q : Point) → Ran js d (start_point t) q → Better (with_end d q) e → ⊥
    none b d q r (heavier w) = omega (arith, b.heaviest d r.can, r.sum)
    none b d q r (sooner w s) = omega (signed, b.soonest d r.can (omega (arith, r.sum)), r.free)
    none b d q r (tied w s l) =
        not_first c d (same_length t js c d b.possible r.can)
        (b.last_place d r.can (omega (arith, r.sum)) (sym r.free ∙ s)) l

    back : BestChoice t js c → IsPlan t js e
    back b =
        record {
          feasible = run-feasible t js c b.possible;
          leads = λ d q r h. none b d q (ran js d (start_point t) r) ((before-is (with_end d q) e).0 h);
        }

-- The words fix one choice.
pub best-choice-one : (t : ℤ) (js : List Job) (c d : Choice) → BestChoice t js c → BestChoice t js d → c ≡ d
best-choice-one t js c d b b' =
    let same = sym ((plan-in-words t js c).1 b) ∙ (plan-in-words t js d).1 b' in
    ap (λ (e : Ended). e.choice) (some-injective (with_end c (end_of t js c)) (with_end d (end_of t js d)) same)
