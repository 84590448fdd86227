-- The test decides legality.
use Rattle.std.specs.Prelude.{ℕ, zero, suc, ◌≡◌, refl, Bool, true, false, not, List, [], ◌∷◌, ◌↔◌, ℤ, pos, ◌+ℤ◌, ◌≤ℤ◌, length}
use Rattle.std.proofs.Common.{ap, arith}
use Rattle.std.proofs.lemmas.Bool.{false≢true}
use Rattle.std.proofs.Math.Option.{some, some-injective, none-ne-some}
use Rattle.std.proofs.Math.ListN.{get_elem?}
use Rattle.seconds.specs.Limits.{rest}
use Rattle.seconds.specs.Signed.{signed, add_is}
use Rattle.order.specs.Job.{Job, Order, length_of}
use Rattle.legal.specs.Legal.{end_of, kept_jobs, Legal, start_legal, legal_from, is_legal}
use Rattle.legal.proofs.LegalLaws.{both, StartLegal, start-legal, legal-start}

abbrev from : List Job → ℤ → Order
from js free = record { t0 = free; jobs = js }

-- The bus is free a length and a rest after a start.
ends-after : (j : Job) (s : ℤ) → s ≤ℤ (end_of j s +ℤ pos rest)
ends-after j s = omega (signed, add_is s (pos (length_of j)), add_is (end_of j s) (pos rest))

-- ---- from the test

no-jobs : (free : ℤ) → Legal (from [] free) [] []
no-jobs free =
    record {
      every = refl;
      each = refl;
      critical = λ k e c. absurd (none-ne-some _ e);
      after-t0 = λ i e. absurd (none-ne-some _ e);
      when-ready = λ i e f. absurd (none-ne-some _ e);
      in-time = λ i e f. absurd (none-ne-some _ e);
      rested = λ i e f g. absurd (none-ne-some _ e);
    }

left_out_lem : (j : Job) (js : List Job) (ks : List Bool) (ss : List ℤ) (free : ℤ) → not j.critical ≡ true
    → Legal (from js free) ks ss → Legal (from (j ∷ js) free) (false ∷ ks) ss
left_out_lem j js ks ss free n l =
    record {
      every = ap suc l.every;
      each = l.each;
      critical = marked;
      after-t0 = l.after-t0;
      when-ready = l.when-ready;
      in-time = l.in-time;
      rested = l.rested;
    }
  where
    marked : (k : ℕ) {i : Job} → get_elem? (j ∷ js) k ≡ some i → i.critical ≡ true → get_elem? (false ∷ ks) k ≡ some true
    marked zero {i} e c =
        let same : j ≡ i = some-injective j i e in
        absurd (false≢true (rw (same, c) at n))
    marked (suc k) e c = l.critical k e c

kept : (j : Job) (js : List Job) (ks : List Bool) (s : ℤ) (ss : List ℤ) (free : ℤ) → StartLegal j s free
    → Legal (from js (end_of j s +ℤ pos rest)) ks ss → Legal (from (j ∷ js) free) (true ∷ ks) (s ∷ ss)
kept j js ks s ss free h l =
    record {
      every = ap suc l.every;
      each = ap suc l.each;
      critical = marked;
      after-t0 = timed;
      when-ready = readied;
      in-time = ended;
      rested = restful;
    }
  where
    marked : (k : ℕ) {i : Job} → get_elem? (j ∷ js) k ≡ some i → i.critical ≡ true → get_elem? (true ∷ ks) k ≡ some true
    marked zero e c = refl
    marked (suc k) e c = l.critical k e c

    timed : (i : ℕ) {t : ℤ} → get_elem? (s ∷ ss) i ≡ some t → free ≤ℤ t
    timed zero {t} e = let same = some-injective s t e in omega (signed, h.free-by)
    timed (suc i) {t} e = let later = l.after-t0 i e in omega (signed, h.free-by, ends-after j s)

    readied : (i : ℕ) {k : Job} {t : ℤ} → get_elem? (j ∷ kept_jobs js ks) i ≡ some k → get_elem? (s ∷ ss) i ≡ some t → k.ready ≤ℤ t
    readied zero {k} {t} e f = rw (← (some-injective j k e), ← (some-injective s t f)) h.ready_by
    readied (suc i) e f = l.when-ready i e f

    ended : (i : ℕ) {k : Job} {t : ℤ} → get_elem? (j ∷ kept_jobs js ks) i ≡ some k → get_elem? (s ∷ ss) i ≡ some t
        → end_of k t ≤ℤ k.deadline
    ended zero {k} {t} e f = rw (← (some-injective j k e), ← (some-injective s t f)) h.ends_by
    ended (suc i) e f = l.in-time i e f

    restful : (i : ℕ) {k : Job} {t u : ℤ} → get_elem? (j ∷ kept_jobs js ks) i ≡ some k → get_elem? (s ∷ ss) i ≡ some t
        → get_elem? ss i ≡ some u → (end_of k t +ℤ pos rest) ≤ℤ u
    restful zero {k} {t} e f g = rw (← (some-injective j k e), ← (some-injective s t f)) (l.after-t0 0 g)
    restful (suc i) e f g = l.rested i e f g

pub test-legal : (js : List Job) (ks : List Bool) (ss : List ℤ) (free : ℤ) → legal_from js ks ss free ≡ true
    → Legal (from js free) ks ss
test-legal [] [] [] free e = no-jobs free
test-legal [] [] (s ∷ ss) free e = absurd (false≢true e)
test-legal [] (k ∷ ks) ss free e = absurd (false≢true e)
test-legal (j ∷ js) [] ss free e = absurd (false≢true e)
test-legal (j ∷ js) (false ∷ ks) ss free e =
    let b = both (not j.critical) (legal_from js ks ss free) e in
    left_out_lem j js ks ss free b.0 (test-legal js ks ss free b.1)
test-legal (j ∷ js) (true ∷ ks) [] free e = absurd (false≢true e)
test-legal (j ∷ js) (true ∷ ks) (s ∷ ss) free e =
    let b = both (start_legal j s free) (legal_from js ks ss (end_of j s +ℤ pos rest)) e in
    kept j js ks s ss free (start-legal j s free b.0) (test-legal js ks ss (end_of j s +ℤ pos rest) b.1)

-- ---- to the test

-- A list as long has one at the same place.
like : (js : List Job) (ss : List ℤ) → length ss ≡ length js → (i : ℕ) {s : ℤ} → get_elem? ss i ≡ some s
    → (j : Job) × (get_elem? js i ≡ some j)
like js [] n i e = absurd (none-ne-some _ e)
like [] (s ∷ ss) n i e = absurd (omega arith)
like (j ∷ js) (s ∷ ss) n zero e = (j, refl)
like (j ∷ js) (s ∷ ss) n (suc i) e = like js ss (omega arith) i e

-- A list that reaches a place reaches the one before it.
before : (ss : List ℤ) (i : ℕ) {t : ℤ} → get_elem? ss (suc i) ≡ some t → (s : ℤ) × (get_elem? ss i ≡ some s)
before [] i e = absurd (none-ne-some _ e)
before (s ∷ ss) zero e = (s, refl)
before (s ∷ ss) (suc i) e = before ss i e

-- Without its first job, left out.
rest-left-out : (j : Job) (js : List Job) (ks : List Bool) (ss : List ℤ) (free : ℤ)
    → Legal (from (j ∷ js) free) (false ∷ ks) ss → Legal (from js free) ks ss
rest-left-out j js ks ss free l =
    record {
      every = let e = l.every in omega arith;
      each = l.each;
      critical = λ k. l.critical (suc k);
      after-t0 = l.after-t0;
      when-ready = l.when-ready;
      in-time = l.in-time;
      rested = l.rested;
    }

-- Without its first job, kept.
rest-kept : (j : Job) (js : List Job) (ks : List Bool) (s : ℤ) (ss : List ℤ) (free : ℤ)
    → Legal (from (j ∷ js) free) (true ∷ ks) (s ∷ ss) → Legal (from js (end_of j s +ℤ pos rest)) ks ss
rest-kept j js ks s ss free l =
    record {
      every = let e = l.every in omega arith;
      each = many;
      critical = λ k. l.critical (suc k);
      after-t0 = timed;
      when-ready = λ i. l.when-ready (suc i);
      in-time = λ i. l.in-time (suc i);
      rested = λ i. l.rested (suc i);
    }
  where
    many : length ss ≡ length (kept_jobs js ks)
    many = let e = l.each in omega arith

    timed : (i : ℕ) {t : ℤ} → get_elem? ss i ≡ some t → (end_of j s +ℤ pos rest) ≤ℤ t
    timed zero e = l.rested 0 refl refl e
    timed (suc i) {t} e =
        let b = before ss i e in
        let k = like (kept_jobs js ks) ss many i b.1 in
        let now = l.rested (suc i) k.1 b.1 e in
        let ih = timed i b.1 in
        omega (signed, ends-after k.0 b.0)

not-critical : (j : Job) (js : List Job) (ks : List Bool) (ss : List ℤ) (free : ℤ)
    → Legal (from (j ∷ js) free) (false ∷ ks) ss → not j.critical ≡ true
not-critical j js ks ss free l = go j.critical refl
  where
    go : (b : Bool) → j.critical ≡ b → not j.critical ≡ true
    go true c = absurd (false≢true (some-injective false true (l.critical 0 refl c)))
    go false c = ap not c

pub legal-test : (js : List Job) (ks : List Bool) (ss : List ℤ) (free : ℤ) → Legal (from js free) ks ss
    → legal_from js ks ss free ≡ true
legal-test [] [] [] free l = refl
legal-test [] [] (s ∷ ss) free l = let e = l.each in absurd (omega arith)
legal-test [] (k ∷ ks) ss free l = let e = l.every in absurd (omega arith)
legal-test (j ∷ js) [] ss free l = let e = l.every in absurd (omega arith)
legal-test (j ∷ js) (false ∷ ks) ss free l =
    rw (not-critical j js ks ss free l) (legal-test js ks ss free (rest-left-out j js ks ss free l))
legal-test (j ∷ js) (true ∷ ks) [] free l = let e = l.each in absurd (omega arith)
legal-test (j ∷ js) (true ∷ ks) (s ∷ ss) free l =
    let h : StartLegal j s free
    = record { free-by = l.after-t0 0 refl; ready_by = l.when-ready 0 refl refl; ends_by = l.in-time 0 refl refl } in
    rw (legal-start j s free h) (legal-test js ks ss (end_of j s +ℤ pos rest) (rest-kept j js ks s ss free l))

-- Both ways.
pub legal-is : (o : Order) (ks : List Bool) (ss : List ℤ) → is_legal o ks ss ≡ true ↔ Legal o ks ss
unfolding is_legal
legal-is o ks ss = (test-legal o.jobs ks ss o.t0, legal-test o.jobs ks ss o.t0)
