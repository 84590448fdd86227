-- Figures that fit together: what the tests say, that a join's fit where both do, and how great a sum can be.
use Rattle.std.specs.Prelude.{sum, ℕ, zero, suc, ◌+◌, ◌*◌, ◌-◌, ◌≤◌, ◌<◌, ◌≡◌, refl, Bool, true, false, ◌&&◌, List, [], ◌∷◌, leb, ltb, eqb, length, get_or, take, drop, Ok, Err}
use Rattle.std.proofs.Common.{ap, arith, get_or-drop, get_or-take}
use Rattle.std.proofs.Math.Bool.{and-eq-true_iff}
use borrow.Author.Tests.{leb-true, ltb-true, ltb-false, eqb-true, eqb-false, le-leb, lt-leb, lt-ltb, le-ltb, eq-eqb, ne_eqb}
use borrow.Table.Steps.{cases}
use Rattle.seconds.specs.Limits.{most_weight, most_jobs}
use Rattle.refusals.specs.declared.Reason.TheVariants.{BufferTooShort, NoSheet}
use Rattle.sheet.specs.Sheet.{Sheet, most_orders, orders, feasible, offered, kept, jobs_kept, add_lists, top_of, place_of, join, judged}
use Rattle.sheet.specs.Sheet.{greatest_top, weights_fit, top_fits, fits, is_sheet}
use Rattle.sheet.specs.Sheet.{sheet_in, sheet_over, joins, join_refusal, joined_after, JoinCall}
use Rattle.sheet.specs.Joining.{Small, CanJoin}
use Rattle.sheet.specs.SheetLaws.{Tidy, lists_at}
use Rattle.sheet.specs.NumbersLaws.{sheet-long, sum-cons}

-- ---- what the tests say

-- The greatest total's figures without a feasible order, and with one.
pub data TopFitting (many can top place : ℕ) : Type 0 where
  without : can ≡ 0 → top ≡ 0 → place ≡ 0 → TopFitting many can top place
  with-one : 1 ≤ can → 1 ≤ top → top ≤ greatest_top → place < many → TopFitting many can top place

pub record Fitting (s : Sheet) : Type 0 where
  pub all-judged : judged s ≡ orders s
  pub most-offered : offered s ≤ most_weight * feasible s
  pub most-kept : kept s ≤ offered s
  pub most-jobs : jobs_kept s ≤ most_jobs * feasible s
  pub top-fitting : TopFitting (orders s) (feasible s) s.top s.place

some_of : (n : ℕ) → (n ≡ 0 → ⊥) → 1 ≤ n
some_of zero h = absurd (h refl)
some_of (suc n) h = omega arith

both : {a b : Bool} → (a && b) ≡ true → (a ≡ true) × (b ≡ true)
both {a} {b} e = (and-eq-true_iff a b).0 e

and_both : {a b : Bool} → a ≡ true → b ≡ true → (a && b) ≡ true
and_both {a} {b} e f = (and-eq-true_iff a b).1 (e, f)

top-says : (many can top place : ℕ) → top_fits many can top place ≡ true → TopFitting many can top place
top-says many can top place e = cases (eqb can 0)
    (λ c. let h = both {a = eqb top 0} {b = eqb place 0} (rw c at e) in
    without (eqb-true can 0 c) (eqb-true top 0 h.0) (eqb-true place 0 h.1))
    (λ c. let h = both {a = ltb 0 top} {b = leb top greatest_top && ltb place many} (rw c at e) in
    let g = both {a = leb top greatest_top} {b = ltb place many} h.1 in
    with-one (some_of can (eqb-false can 0 c)) (ltb-true 0 top h.0) (leb-true top greatest_top g.0) (ltb-true place many g.1))

top-passes : (many can top place : ℕ) → TopFitting many can top place → top_fits many can top place ≡ true
top-passes many can top place (without c t p) = rw (eq-eqb can 0 c, eq-eqb top 0 t, eq-eqb place 0 p)
top-passes many can top place (with-one c t m p) =
    rw (ne_eqb can 0 (λ q. omega arith), lt-ltb 0 top (omega arith), le-leb top greatest_top m, lt-ltb place many p)

pub fits-says : (s : Sheet) → fits s ≡ true → Fitting s
unfolding fits
fits-says s e =
    let h = both {a = eqb (judged s) (orders s)} e in
    let g = both {a = weights_fit (feasible s) (offered s) (kept s) (jobs_kept s)} h.1 in
    let w = both {a = leb (offered s) (most_weight * feasible s)} g.0 in
    let k = both {a = leb (kept s) (offered s)} w.1 in
    record {
      all-judged = eqb-true (judged s) (orders s) h.0;
      most-offered = leb-true (offered s) (most_weight * feasible s) w.0;
      most-kept = leb-true (kept s) (offered s) k.0;
      most-jobs = leb-true (jobs_kept s) (most_jobs * feasible s) k.1;
      top-fitting = top-says (orders s) (feasible s) s.top s.place g.1;
    }

pub fitting-passes : (s : Sheet) → Fitting s → fits s ≡ true
unfolding fits
fitting-passes s f =
    and_both (eq-eqb (judged s) (orders s) f.all-judged)
    (and_both
    (and_both (le-leb (offered s) (most_weight * feasible s) f.most-offered)
    (and_both (le-leb (kept s) (offered s) f.most-kept) (le-leb (jobs_kept s) (most_jobs * feasible s) f.most-jobs)))
    (top-passes (orders s) (feasible s) s.top s.place f.top-fitting))

-- A sheet of at most 10,000 orders.
pub sheet-says : (s : Sheet) → is_sheet s ≡ true → (orders s ≤ most_orders) × Fitting s
unfolding is_sheet
sheet-says s e =
    let h = both {a = leb (orders s) most_orders} e in (leb-true (orders s) most_orders h.0, fits-says s h.1)

pub sheet-passes : (s : Sheet) → orders s ≤ most_orders → Fitting s → is_sheet s ≡ true
unfolding is_sheet
sheet-passes s few f = and_both (le-leb (orders s) most_orders few) (fitting-passes s f)

-- ---- a join's figures fit

sum-take : (n : ℕ) (xs ys : List ℕ) → length xs ≡ length ys
    → sum (take n (add_lists xs ys)) ≡ sum (take n xs) + sum (take n ys)
sum-take zero xs ys e = refl
sum-take (suc n) [] [] e = refl
sum-take (suc n) [] (y ∷ ys) e = absurd (omega arith)
sum-take (suc n) (x ∷ xs) [] e = absurd (omega arith)
sum-take (suc n) (x ∷ xs) (y ∷ ys) e =
    omega
    (arith, sum-cons (x + y) (take n (add_lists xs ys)), sum-cons x (take n xs), sum-cons y (take n ys), sum-take n xs ys (omega arith))

sum-behind : (n : ℕ) (xs ys : List ℕ) → length xs ≡ length ys
    → sum (take n (drop 1 (add_lists xs ys))) ≡ sum (take n (drop 1 xs)) + sum (take n (drop 1 ys))
sum-behind n [] [] e = sum-take n [] [] refl
sum-behind n [] (y ∷ ys) e = absurd (omega arith)
sum-behind n (x ∷ xs) [] e = absurd (omega arith)
sum-behind n (x ∷ xs) (y ∷ ys) e = sum-take n xs ys (omega arith)

top-joins : (n m c d t u p q : ℕ) → TopFitting n c t p → TopFitting m d u q
    → TopFitting (n + m) (c + d) (top_of t u) (place_of n t u p q)
top-joins n m c d t u p q (without c0 t0 p0) (without d0 u0 q0) =
    let e : ltb t u ≡ false = le-ltb t u (omega arith) in
    rw e (without (omega arith) t0 p0)
top-joins n m c d t u p q (without c0 t0 p0) (with-one d1 u1 um qm) =
    let e : ltb t u ≡ true = lt-ltb t u (omega arith) in
    rw e (with-one (omega arith) u1 um (omega arith))
top-joins n m c d t u p q (with-one c1 t1 tm pm) (without d0 u0 q0) =
    let e : ltb t u ≡ false = le-ltb t u (omega arith) in
    rw e (with-one (omega arith) t1 tm (omega arith))
top-joins n m c d t u p q (with-one c1 t1 tm pm) (with-one d1 u1 um qm) = cases (ltb t u)
    (λ e. rw e (with-one (omega arith) u1 um (omega arith)))
    (λ e. rw e (with-one (omega arith) t1 tm (omega arith)))

pub join-fits : (a b : Sheet) → length a.sums ≡ length b.sums → Fitting a → Fitting b → Fitting (join a b)
unfolding join
join-fits a b e f g =
    let at : (k : ℕ) → get_or (add_lists a.sums b.sums) k 0 ≡ get_or a.sums k 0 + get_or b.sums k 0 = lists_at a.sums b.sums e in
    record {
      all-judged = omega (arith, at 0, sum-behind 20 a.sums b.sums e, f.all-judged, g.all-judged);
      most-offered = omega (arith, at 20, at 21, f.most-offered, g.most-offered);
      most-kept = omega (arith, at 21, at 22, f.most-kept, g.most-kept);
      most-jobs = omega (arith, at 20, at 23, f.most-jobs, g.most-jobs);
      top-fitting =
          rw (at 0, at 20)
          (top-joins (orders a) (orders b) (feasible a) (feasible b) a.top b.top a.place b.place f.top-fitting g.top-fitting);
    }

-- ---- how great a sum can be

part-most : (n : ℕ) (l : List ℕ) (i : ℕ) → i < n → get_or l i 0 ≤ sum (take n l)
part-most zero l i h = absurd (omega arith)
part-most (suc n) [] i h = omega arith
part-most (suc n) (x ∷ l) zero h = omega (arith, sum-cons x (take n l))
part-most (suc n) (x ∷ l) (suc i) h = omega (arith, sum-cons x (take n l), part-most n l i (omega arith))

past_end : (l : List ℕ) (i : ℕ) → length l ≤ i → ◌≡◌ {A = ℕ} (get_or l i 0) 0
past_end [] i h = refl
past_end (x ∷ l) zero h = absurd (omega arith)
past_end (x ∷ l) (suc i) h = past_end l i (omega arith)

-- Each is at most 300 an order.
module _ (s : Sheet) (long : length s.sums ≡ 24) (f : Fitting s) where
  pub feasible-few : feasible s ≤ orders s
  feasible-few = omega (arith, part-most 20 (drop 1 s.sums) 19 (omega arith), get_or-drop 1 s.sums 19 0, f.all-judged)

  of-weights : (j : ℕ) → j < 3 → get_or s.sums (21 + j) 0 ≤ most_weight * orders s
  of-weights zero h = omega (arith, feasible-few, f.most-offered)
  of-weights (suc zero) h = omega (arith, feasible-few, f.most-offered, f.most-kept)
  of-weights (suc (suc zero)) h = omega (arith, feasible-few, f.most-jobs)
  of-weights (suc (suc (suc j))) h = absurd (omega arith)

  pub sum-most : (i : ℕ) → get_or s.sums i 0 ≤ most_weight * orders s
  sum-most zero = omega arith
  sum-most (suc i) = cases (ltb i 20)
      (λ e. let at : get_or (drop 1 s.sums) i 0 ≡ get_or s.sums (1 + i) 0 = get_or-drop 1 s.sums i 0 in
      let one : 1 + i ≡ suc i = omega arith in
      let same : get_or s.sums (1 + i) 0 ≡ get_or s.sums (suc i) 0 = ap (λ k. get_or s.sums k 0) one in
      omega (arith, part-most 20 (drop 1 s.sums) i (ltb-true i 20 e), f.all-judged))
      (λ e. cases (ltb i 23)
      (λ g. let one : 21 + (i - 20) ≡ suc i = omega (arith, ltb-false i 20 e) in
      rw one at (of-weights (i - 20) (omega (arith, ltb-true i 23 g))))
      (λ g. omega (arith, past_end s.sums (suc i) (omega (arith, ltb-false i 23 g)))))

  -- So is the place.
  pub place-few : s.place ≤ orders s
  place-few = go f.top-fitting
    where
      go : TopFitting (orders s) (feasible s) s.top s.place → s.place ≤ orders s
      go (without c t p) = omega arith
      go (with-one c t m p) = omega arith

-- Figures that fit are tidy.
pub fitting-tidy : (s : Sheet) → length s.sums ≡ 24 → Fitting s → Tidy s
fitting-tidy s long f = record { long = long; none = go f.top-fitting }
  where
    go : TopFitting (orders s) (feasible s) s.top s.place → s.top ≡ 0 → s.place ≡ 0
    go (without c t p) e = p
    go (with-one c t m p) e = absurd (omega arith)

-- ---- numbers that hold a sheet

-- Of at most 10,001 orders they are small.
pub fitting-small : (l : List ℕ) → 26 ≤ length l → Fitting (sheet_in l) → orders (sheet_in l) ≤ 10001 → Small l
fitting-small l room f few i below =
    let long = sheet-long l room in
    cases (ltb i 24)
    (λ e. omega (arith, sum-most (sheet_in l) long f i, get_or-take 24 l i 0 (ltb-true i 24 e)))
    (λ e. cases (ltb i 25)
    (λ g. let at : i ≡ 24 = omega (arith, ltb-false i 24 e, ltb-true i 25 g) in rw at (top_small f.top-fitting))
    (λ g. let at : i ≡ 25 = omega (arith, ltb-false i 25 g) in rw at (omega (arith, place-few (sheet_in l) long f))))
  where
    top_small : TopFitting (orders (sheet_in l)) (feasible (sheet_in l)) (get_or l 24 0) (get_or l 25 0) → get_or l 24 0 ≤ 4000000
    top_small (without c t p) = omega arith
    top_small (with-one c t m p) = omega arith

-- A sheet in numbers has at most so many orders.
pub sheet-few : (l : List ℕ) → is_sheet (sheet_in l) ≡ true → get_or l 0 0 ≤ most_orders
sheet-few l e = omega (arith, (sheet-says (sheet_in l) e).0, get_or-take 24 l 0 0 (omega arith))

-- ---- joining as a call

pub joins-says : (a b : Sheet) → joins a b ≡ true → (is_sheet a ≡ true) × (is_sheet b ≡ true) × (orders a + orders b ≤ most_orders)
joins-says a b e =
    let h = both {a = is_sheet a} e in
    let g = both {a = is_sheet b} h.1 in (h.0, g.0, leb-true (orders a + orders b) most_orders g.1)

-- What is refused with 10, what with 18, and what is joined.
module _ (to from : List ℕ) where
  pub first_short : length to < 26 → JoinCall to from (Err BufferTooShort) to
  unfolding join_refusal joined_after
  first_short h = let e = lt-leb 26 (length to) h in record { answer = rw e; lent = rw e }

  pub second_short : length from < 26 → JoinCall to from (Err BufferTooShort) to
  unfolding join_refusal joined_after
  second_short h =
      let e = lt-leb 26 (length from) h in
      cases (leb 26 (length to))
      (λ d. record { answer = rw (d, e); lent = rw (d, e) })
      (λ d. record { answer = rw d; lent = rw d })

  module _ (room : 26 ≤ length to) (room' : 26 ≤ length from) where
    pub join-refused : joins (sheet_in to) (sheet_in from) ≡ false → JoinCall to from (Err NoSheet) to
    unfolding join_refusal joined_after
    join-refused e =
        let a = le-leb 26 (length to) room in
        let b = le-leb 26 (length from) room' in
        record { answer = rw (a, b, e); lent = rw (a, b, e) }

    pub join-done : joins (sheet_in to) (sheet_in from) ≡ true → (to' : List ℕ)
        → to' ≡ sheet_over (join (sheet_in to) (sheet_in from)) to → JoinCall to from (Ok tt) to'
    unfolding join_refusal joined_after
    join-done e to' is =
        let a = le-leb 26 (length to) room in
        let b = le-leb 26 (length from) room' in
        record { answer = rw (a, b, e); lent = rw (a, b, e) is }

    pub joins-can : joins (sheet_in to) (sheet_in from) ≡ true → CanJoin to from
    joins-can e =
        let h = joins-says (sheet_in to) (sheet_in from) e in
        let a = sheet-says (sheet_in to) h.0 in
        let b = sheet-says (sheet_in from) h.1 in
        record {
          room = room;
          second-room = room';
          small = fitting-small to room a.1 (omega (arith, a.0));
          second-small = fitting-small from room' b.1 (omega (arith, b.0));
        }
