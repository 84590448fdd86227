-- The laws of sheets: joining is associative, the sheet of no order is neutral, the sheet of two lists is the join of theirs; each sum is
-- its sum over the list, and the greatest total is the first greatest.
use Rattle.std.specs.Prelude.{ℕ, zero, suc, ◌+◌, ◌≤◌, ◌<◌, ◌≡◌, refl, true, false, List, [], ◌∷◌, ◌++◌, map, ltb, length, get_or, set, replicate}
use Rattle.std.proofs.Common.{sym, ap, ◌∙◌, arith, add_assoc, zero-add, add-zero, length-set, ltb-true, ltb-false, lt-ltb, le-ltb}
use borrow.Table.Steps.{cases}
use Rattle.planner.specs.Calls.{Planned, Refused, Made}
use Rattle.sheet.specs.Sheet.{Sheet, sum_count, orders, no_sheet, one_order, add_lists, top_of, place_of, join, sheet_of}

-- ---- lists added

lists-assoc : (xs ys zs : List ℕ) → add_lists (add_lists xs ys) zs ≡ add_lists xs (add_lists ys zs)
lists-assoc [] ys zs = refl
lists-assoc (x ∷ xs) [] zs = refl
lists-assoc (x ∷ xs) (y ∷ ys) [] = refl
lists-assoc (x ∷ xs) (y ∷ ys) (z ∷ zs) = rw (add_assoc x y z, lists-assoc xs ys zs)

pub lists_length : (xs ys : List ℕ) → length xs ≡ length ys → length (add_lists xs ys) ≡ length ys
lists_length [] ys e = e
lists_length (x ∷ xs) [] e = refl
lists_length (x ∷ xs) (y ∷ ys) e = ap suc (lists_length xs ys (omega arith))

-- At each place stands the sum.
pub lists_at : (xs ys : List ℕ) → length xs ≡ length ys → (k : ℕ) → get_or (add_lists xs ys) k 0 ≡ get_or xs k 0 + get_or ys k 0
lists_at [] [] e k = refl
lists_at [] (y ∷ ys) e k = absurd (omega arith)
lists_at (x ∷ xs) [] e k = absurd (omega arith)
lists_at (x ∷ xs) (y ∷ ys) e zero = refl
lists_at (x ∷ xs) (y ∷ ys) e (suc k) = lists_at xs ys (omega arith) k

zeros-left : (n : ℕ) (xs : List ℕ) → length xs ≡ n → add_lists (replicate n 0) xs ≡ xs
zeros-left zero [] e = refl
zeros-left zero (x ∷ xs) e = absurd (omega arith)
zeros-left (suc n) [] e = absurd (omega arith)
zeros-left (suc n) (x ∷ xs) e = rw (zero-add x, zeros-left n xs (omega arith))

zeros-right : (n : ℕ) (xs : List ℕ) → length xs ≡ n → add_lists xs (replicate n 0) ≡ xs
zeros-right zero [] e = refl
zeros-right zero (x ∷ xs) e = absurd (omega arith)
zeros-right (suc n) [] e = absurd (omega arith)
zeros-right (suc n) (x ∷ xs) e = rw (add-zero x, zeros-right n xs (omega arith))

-- ---- joining is associative

top-assoc : (a b c : ℕ) → top_of (top_of a b) c ≡ top_of a (top_of b c)
top-assoc a b c = cases (ltb a b)
    (λ e. cases (ltb b c)
    (λ f. let g : ltb a c ≡ true = lt-ltb a c (omega (arith, ltb-true a b e, ltb-true b c f)) in rw (e, f, g))
    (λ f. rw (e, f, e)))
    (λ e. cases (ltb b c)
    (λ f. rw (e, f))
    (λ f. let g : ltb a c ≡ false = le-ltb a c (omega (arith, ltb-false a b e, ltb-false b c f)) in rw (e, f, e, g)))

place-assoc : (n m a b c p q r : ℕ)
    → place_of (n + m) (top_of a b) c (place_of n a b p q) r ≡ place_of n a (top_of b c) p (place_of m b c q r)
place-assoc n m a b c p q r = cases (ltb a b)
    (λ e. cases (ltb b c)
    (λ f. let g : ltb a c ≡ true = lt-ltb a c (omega (arith, ltb-true a b e, ltb-true b c f)) in rw (e, f, g, add_assoc n m r))
    (λ f. rw (e, f, e)))
    (λ e. cases (ltb b c)
    (λ f. cases (ltb a c) (λ g. rw (e, f, g, add_assoc n m r)) (λ g. rw (e, f, g)))
    (λ f. let g : ltb a c ≡ false = le-ltb a c (omega (arith, ltb-false a b e, ltb-false b c f)) in rw (e, f, e, g)))

-- The orders of a join, of sheets that have as many sums.
pub join-orders : (a b : Sheet) → length a.sums ≡ length b.sums → orders (join a b) ≡ orders a + orders b
unfolding join
join-orders a b e = lists_at a.sums b.sums e 0

pub join-assoc : (a b c : Sheet) → length a.sums ≡ length b.sums → join (join a b) c ≡ join a (join b c)
unfolding join
join-assoc a b c e =
    rw (
      lists-assoc a.sums b.sums c.sums,
      lists_at a.sums b.sums e 0,
      top-assoc a.top b.top c.top,
      place-assoc (orders a) (orders b) a.top b.top c.top a.place b.place c.place,
    )

-- ---- the sheet of no order

-- Figures with as many sums as there are, and no place without a feasible order.
pub record Tidy (s : Sheet) : Type 0 where
  pub long : length s.sums ≡ sum_count
  pub none : s.top ≡ 0 → s.place ≡ 0

top-none : (t : ℕ) → top_of 0 t ≡ t
top-none zero = refl
top-none (suc t) = rw (lt-ltb 0 (suc t) (omega arith))

place_none : (t q : ℕ) → (t ≡ 0 → q ≡ 0) → place_of 0 0 t 0 q ≡ q
place_none zero q h = sym (h refl)
place_none (suc t) q h = rw (lt-ltb 0 (suc t) (omega arith)) (zero-add q)

pub none_left : (s : Sheet) → Tidy s → join no_sheet s ≡ s
unfolding join no_sheet
none_left s h =
    rw (zeros-left 24 s.sums h.long, top-none s.top, place_none s.top s.place h.none)

pub none_right : (s : Sheet) → Tidy s → join s no_sheet ≡ s
unfolding join no_sheet
none_right s h = rw (zeros-right 24 s.sums h.long, le-ltb s.top 0 (omega arith))

-- ---- sheets of lists

none-place : (n a b p q : ℕ) → (a ≡ 0 → p ≡ 0) → top_of a b ≡ 0 → place_of n a b p q ≡ 0
none-place n a b p q h e = cases (ltb a b)
    (λ t. let z : b ≡ 0 = rw t at e in absurd (omega (arith, ltb-true a b t)))
    (λ t. let z : a ≡ 0 = rw t at e in rw t (h z))

pub join-tidy : (a b : Sheet) → Tidy a → Tidy b → Tidy (join a b)
unfolding join
join-tidy a b x y =
    record {
      long = lists_length a.sums b.sums (x.long ∙ sym y.long) ∙ y.long;
      none = λ e. none-place (orders a) a.top b.top a.place b.place x.none e;
    }

pub none-tidy : Tidy no_sheet
unfolding no_sheet
none-tidy = record { long = refl; none = λ e. refl }

pub one-tidy : (p : Planned) → Tidy (one_order p)
unfolding one_order
one-tidy (Refused r) = record { long = length-set (1 ∷ replicate 23 0) r.number 1; none = λ e. refl }
one-tidy (Made f) = record { long = refl; none = λ e. refl }

pub one_place : (p : Planned) → (one_order p).place ≡ 0
unfolding one_order
one_place (Refused r) = refl
one_place (Made f) = refl

pub sheet-tidy : (ps : List Planned) → Tidy (sheet_of ps)
unfolding sheet_of
sheet-tidy [] = none-tidy
sheet-tidy (p ∷ ps) = join-tidy (one_order p) (sheet_of ps) (one-tidy p) (sheet-tidy ps)

-- The sums of two tidy sheets are as many.
pub as_many : {a b : Sheet} → Tidy a → Tidy b → length a.sums ≡ length b.sums
as_many x y = x.long ∙ sym y.long

-- The sheet of two lists, one behind the other, is the join of their sheets.
pub sheet-append : (xs ys : List Planned) → sheet_of (xs ++ ys) ≡ join (sheet_of xs) (sheet_of ys)
unfolding sheet_of
sheet-append [] ys = sym (none_left (sheet_of ys) (sheet-tidy ys))
sheet-append (x ∷ xs) ys =
    ap (join (one_order x)) (sheet-append xs ys)
    ∙ sym (join-assoc (one_order x) (sheet_of xs) (sheet_of ys) (as_many (one-tidy x) (sheet-tidy xs)))

-- One order more at the end.
pub sheet-more : (xs : List Planned) (p : Planned) → sheet_of (xs ++ (p ∷ [])) ≡ join (sheet_of xs) (one_order p)
unfolding sheet_of
sheet-more xs p = sheet-append xs (p ∷ []) ∙ ap (join (sheet_of xs)) (none_right (one_order p) (one-tidy p))

-- ---- each sum is its sum over the list

abbrev pub sum_over : (Planned → ℕ) → List Planned → ℕ
sum_over f [] = 0
sum_over f (p ∷ ps) = f p + sum_over f ps

pub zeros-at : (n k : ℕ) → ◌≡◌ {A = ℕ} (get_or (replicate n 0) k 0) 0
zeros-at zero k = refl
zeros-at (suc n) zero = refl
zeros-at (suc n) (suc k) = zeros-at n k

pub each-sum : (k : ℕ) (ps : List Planned)
    → get_or (sheet_of ps).sums k 0 ≡ sum_over (λ p. get_or (one_order p).sums k 0) ps
unfolding sheet_of no_sheet join
each-sum k [] = zeros-at 24 k
each-sum k (p ∷ ps) =
    lists_at (one_order p).sums (sheet_of ps).sums (as_many (one-tidy p) (sheet-tidy ps)) k
    ∙ ap (λ n. get_or (one_order p).sums k 0 + n) (each-sum k ps)

-- The orders are as many as the list is long.
pub one-orders : (p : Planned) → orders (one_order p) ≡ 1
unfolding one_order
one-orders (Refused r) = at_front_lem r.number
  where
    at_front_lem : (n : ℕ) → ◌≡◌ {A = ℕ} (get_or (set (1 ∷ replicate 23 0) n 1) 0 0) 1
    at_front_lem zero = refl
    at_front_lem (suc n) = refl
one-orders (Made f) = refl

pub sheet-orders : (ps : List Planned) → orders (sheet_of ps) ≡ length ps
unfolding sheet_of no_sheet
sheet-orders [] = refl
sheet-orders (p ∷ ps) =
    join-orders (one_order p) (sheet_of ps) (as_many (one-tidy p) (sheet-tidy ps))
    ∙ (let many : orders (one_order p) + orders (sheet_of ps) ≡ suc (length ps) = omega (arith, one-orders p, sheet-orders ps) in many)

-- ---- the greatest total, and the first order that has it

abbrev pub tops_of : List Planned → List ℕ
tops_of ps = map (λ p. (one_order p).top) ps

-- No total is greater, all before the place are less, and where there is one it stands there.
pub record FirstGreatest (tops : List ℕ) (top place : ℕ) : Type 0 where
  pub most : (i : ℕ) → get_or tops i 0 ≤ top
  pub first : (i : ℕ) → i < place → get_or tops i 0 < top
  pub has : 1 ≤ top → (place < length tops) × (get_or tops place 0 ≡ top)

first_on : (t : ℕ) (ts : List ℕ) (u q : ℕ) → FirstGreatest ts u q → FirstGreatest (t ∷ ts) (top_of t u) (place_of 1 t u 0 q)
first_on t ts u q h = cases (ltb t u)
    (λ e. let one : 1 + q ≡ suc q = omega arith in
    let less : t < u = ltb-true t u e in
    rw (e, one) (record { most = most-less less; first = first-less less; has = λ s. (omega (arith, (h.has s).0), (h.has s).1) }))
    (λ e. let more : u ≤ t = ltb-false t u e in
    rw e (record { most = most-more more; first = λ i g. absurd (omega arith); has = λ s. (omega arith, refl) }))
  where
    most-less : t < u → (i : ℕ) → get_or (t ∷ ts) i 0 ≤ u
    most-less g zero = omega arith
    most-less g (suc i) = h.most i

    first-less : t < u → (i : ℕ) → i < suc q → get_or (t ∷ ts) i 0 < u
    first-less g zero k = g
    first-less g (suc i) k = h.first i (omega arith)

    most-more : u ≤ t → (i : ℕ) → get_or (t ∷ ts) i 0 ≤ t
    most-more g zero = omega arith
    most-more g (suc i) = omega (arith, h.most i)

pub first-greatest : (ps : List Planned) → FirstGreatest (tops_of ps) (sheet_of ps).top (sheet_of ps).place
unfolding sheet_of no_sheet join
first-greatest [] = record { most = λ i. omega arith; first = λ i h. absurd (omega arith); has = λ h. absurd (omega arith) }
first-greatest (p ∷ ps) =
    rw (one-orders p, one_place p)
    (first_on (one_order p).top (tops_of ps) (sheet_of ps).top (sheet_of ps).place (first-greatest ps))
