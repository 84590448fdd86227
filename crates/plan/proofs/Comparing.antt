-- When a comparison is a total order, and that the ranking of choices is one.
use Prim.Native.Nat.compare
use Prim.Native.Nat.{ℕ, zero, suc, ◌<◌, compare}
use Prim.Native.Nat.{Ordering}
use Rattle.std.specs.Prelude.{◌≡◌, refl, ◌↔◌, ◌⊎◌, [], ◌∷◌, ℤ, pos, negsuc, ◌<ℤ◌}
use Rattle.std.proofs.Common.{sym, ap, ap₂, ◌∙◌, inl, inr, arith}
use Rattle.seconds.specs.Signed.{signed}
use Rattle.order.specs.Choice.{Choice}
use Rattle.plan.specs.Plan.{compare_z, or_then, by_last_place, Ended, ranking}

-- A comparison seen from the other side.
abbrev pub flip : Ordering → Ordering
flip Ordering.lt = Ordering.gt
flip Ordering.eq = Ordering.eq
flip Ordering.gt = Ordering.lt

-- A total order: eq exactly for equals, the other way round is flipped, and before is transitive.
pub record TotalOrder {ℓ} {A : Type ℓ} (cmp : A → A → Ordering) : Type ℓ where
  pub equal : (a b : A) → (cmp a b ≡ Ordering.eq) ↔ (a ≡ b)
  pub turned : (a b : A) → cmp b a ≡ flip (cmp a b)
  pub transitive : (a b c : A) → cmp a b ≡ Ordering.lt → cmp b c ≡ Ordering.lt → cmp a c ≡ Ordering.lt

-- ---- how three comparisons fit, which says transitivity with eq in the chain too

-- What a to b and b to c leave for a to c.
abbrev Fits : Ordering → Ordering → Ordering → Type 0
Fits Ordering.lt Ordering.lt ac = ac ≡ Ordering.lt
Fits Ordering.lt Ordering.eq ac = ac ≡ Ordering.lt
Fits Ordering.lt Ordering.gt ac = Unit {0}
Fits Ordering.eq bc ac = ac ≡ bc
Fits Ordering.gt Ordering.lt ac = Unit {0}
Fits Ordering.gt Ordering.eq ac = ac ≡ Ordering.gt
Fits Ordering.gt Ordering.gt ac = ac ≡ Ordering.gt

-- A comparison that orders, perhaps with unequals alike: a weak order. Total orders are put together from these.
pub record Orders {ℓ} {A : Type ℓ} (cmp : A → A → Ordering) : Type ℓ where
  turned : (a b : A) → cmp b a ≡ flip (cmp a b)
  fits : (a b c : A) → Fits (cmp a b) (cmp b c) (cmp a c)

fits-swap : (o p q : Ordering) → Fits o p q → Fits p o q
fits-swap Ordering.lt Ordering.lt q f = f
fits-swap Ordering.lt Ordering.eq q f = f
fits-swap Ordering.lt Ordering.gt q f = tt
fits-swap Ordering.eq Ordering.lt q f = f
fits-swap Ordering.eq Ordering.eq q f = f
fits-swap Ordering.eq Ordering.gt q f = f
fits-swap Ordering.gt Ordering.lt q f = tt
fits-swap Ordering.gt Ordering.eq q f = f
fits-swap Ordering.gt Ordering.gt q f = f

fits_lt : (o : Ordering) → Fits o Ordering.lt Ordering.lt
fits_lt Ordering.lt = refl
fits_lt Ordering.eq = refl
fits_lt Ordering.gt = tt

fits-gt : (o : Ordering) → Fits o Ordering.gt Ordering.gt
fits-gt Ordering.lt = tt
fits-gt Ordering.eq = refl
fits-gt Ordering.gt = refl

-- The first comparison decides, or else the second: both keep fitting.
fits-or_then : (o p q o' p' q' : Ordering) → Fits o p q → Fits o' p' q' → Fits (or_then o o') (or_then p p') (or_then q q')
fits-or_then Ordering.lt Ordering.lt q o' p' q' f g = ap (λ x. or_then x q') f
fits-or_then Ordering.lt Ordering.eq q o' p' q' f g = rw f (fits-swap p' Ordering.lt Ordering.lt (fits_lt p'))
fits-or_then Ordering.lt Ordering.gt q o' p' q' f g = tt
fits-or_then Ordering.eq Ordering.lt q o' p' q' f g = rw f (fits_lt o')
fits-or_then Ordering.eq Ordering.eq q o' p' q' f g = rw f g
fits-or_then Ordering.eq Ordering.gt q o' p' q' f g = rw f (fits-gt o')
fits-or_then Ordering.gt Ordering.lt q o' p' q' f g = tt
fits-or_then Ordering.gt Ordering.eq q o' p' q' f g = rw f (fits-swap p' Ordering.gt Ordering.gt (fits-gt p'))
fits-or_then Ordering.gt Ordering.gt q o' p' q' f g = ap (λ x. or_then x q') f

flip-or_then : (o p : Ordering) → or_then (flip o) (flip p) ≡ flip (or_then o p)
flip-or_then Ordering.lt p = refl
flip-or_then Ordering.eq p = refl
flip-or_then Ordering.gt p = refl

-- Where the first comparison decides or else the second, eq needs both, and lt comes in two ways.
pub or_then-eq : (o p : Ordering) → or_then o p ≡ Ordering.eq → (o ≡ Ordering.eq) × (p ≡ Ordering.eq)
or_then-eq Ordering.lt p e = (cc, cc)
or_then-eq Ordering.eq p e = (refl, e)
or_then-eq Ordering.gt p e = (cc, cc)

pub or_then-lt : (o p : Ordering) → or_then o p ≡ Ordering.lt → (o ≡ Ordering.lt) ⊎ ((o ≡ Ordering.eq) × (p ≡ Ordering.lt))
or_then-lt Ordering.lt p e = inl refl
or_then-lt Ordering.eq p e = inr (refl, e)
or_then-lt Ordering.gt p e = inl (cc)

-- Only eq is its own other side.
own-flip : (o : Ordering) → o ≡ flip o → o ≡ Ordering.eq
own-flip Ordering.lt e = cc
own-flip Ordering.eq e = refl
own-flip Ordering.gt e = cc

-- ---- orders put together

module _ {ℓ} {A : Type ℓ} {cmp : A → A → Ordering} (o : Orders cmp) where
  -- A weak order that calls only equals alike is a total order.
  pub total : ((a b : A) → cmp a b ≡ Ordering.eq → a ≡ b) → TotalOrder cmp
  total same =
      record {
        equal = λ a b. (same a b, λ e. rw (← e) (own-flip (cmp a a) (o.turned a a)));
        turned = o.turned;
        transitive = λ a b c h k. rw (h, k) at (o.fits a b c);
      }

  -- By a key, and the other way round.
  pub by_key {κ} : {B : Type κ} (key : B → A) → Orders (λ a b. cmp (key a) (key b))
  by_key key =
      record { turned = λ a b. o.turned (key a) (key b); fits = λ a b c. o.fits (key a) (key b) (key c) }

  pub flipped : Orders (λ a b. cmp b a)
  flipped =
      record { turned = λ a b. o.turned b a; fits = λ a b c. fits-swap (cmp c b) (cmp b a) (cmp c a) (o.fits c b a) }

  -- One comparison, or else another.
  pub lexicographic : {cmp' : A → A → Ordering} → Orders cmp' → Orders (λ a b. or_then (cmp a b) (cmp' a b))
  lexicographic {cmp'} o' =
      record {
        turned = λ a b. ap₂ or_then (o.turned a b) (o'.turned a b) ∙ flip-or_then (cmp a b) (cmp' a b);
        fits = λ a b c.
            fits-or_then (cmp a b) (cmp b c) (cmp a c) (cmp' a b) (cmp' b c) (cmp' a c) (o.fits a b c) (o'.fits a b c);
      }

-- ---- a comparison that decides a strict order

-- Irreflexive and transitive.
pub record StrictOrder {A : Type 0} (R : A → A → Type 0) : Type 0 where
  pub irreflexive : (a : A) → ¬ R a a
  pub transitive : {a b c : A} → R a b → R b c → R a c

-- What a comparison says of two values.
abbrev pub Says : {A : Type 0} → (A → A → Type 0) → Ordering → A → A → Type 0
Says R Ordering.lt a b = R a b
Says R Ordering.eq a b = a ≡ b
Says R Ordering.gt a b = R b a

module _ {A : Type 0} {R : A → A → Type 0} (s : StrictOrder R) where
  -- Only one of the three can be said.
  says-one : (o p : Ordering) (a b : A) → Says R o a b → Says R p a b → o ≡ p
  says-one Ordering.lt Ordering.lt a b h k = refl
  says-one Ordering.lt Ordering.eq a b h k = absurd (s.irreflexive b (rw k at h))
  says-one Ordering.lt Ordering.gt a b h k = absurd (s.irreflexive a (s.transitive h k))
  says-one Ordering.eq Ordering.lt a b h k = absurd (s.irreflexive b (rw h at k))
  says-one Ordering.eq Ordering.eq a b h k = refl
  says-one Ordering.eq Ordering.gt a b h k = absurd (s.irreflexive b (rw h at k))
  says-one Ordering.gt Ordering.lt a b h k = absurd (s.irreflexive a (s.transitive k h))
  says-one Ordering.gt Ordering.eq a b h k = absurd (s.irreflexive b (rw k at h))
  says-one Ordering.gt Ordering.gt a b h k = refl

  says-flip : (o : Ordering) (a b : A) → Says R o a b → Says R (flip o) b a
  says-flip Ordering.lt a b h = h
  says-flip Ordering.eq a b h = sym h
  says-flip Ordering.gt a b h = h

  says-fits : (o p q : Ordering) (a b c : A) → Says R o a b → Says R p b c → Says R q a c → Fits o p q
  says-fits Ordering.lt Ordering.lt q a b c f g h = says-one q Ordering.lt a c h (s.transitive f g)
  says-fits Ordering.lt Ordering.eq q a b c f g h = says-one q Ordering.lt a c h (rw g at f)
  says-fits Ordering.lt Ordering.gt q a b c f g h = tt
  says-fits Ordering.eq p q a b c f g h = says-one q p a c h (rw f g)
  says-fits Ordering.gt Ordering.lt q a b c f g h = tt
  says-fits Ordering.gt Ordering.eq q a b c f g h = says-one q Ordering.gt a c h (rw g at f)
  says-fits Ordering.gt Ordering.gt q a b c f g h = says-one q Ordering.gt a c h (s.transitive g f)

  module _ (cmp : A → A → Ordering) (says : (a b : A) → Says R (cmp a b) a b) where
    -- A comparison that says what holds orders, lt is the strict order, and only equals are alike.
    pub decided : Orders cmp
    decided =
        record {
          turned = λ a b. says-one (cmp b a) (flip (cmp a b)) b a (says b a) (says-flip (cmp a b) a b (says a b));
          fits = λ a b c. says-fits (cmp a b) (cmp b c) (cmp a c) a b c (says a b) (says b c) (says a c);
        }

    pub decided-lt : (a b : A) → (cmp a b ≡ Ordering.lt) ↔ R a b
    decided-lt a b = (λ e. rw e at (says a b), says-one (cmp a b) Ordering.lt a b (says a b))

    pub decided-total : TotalOrder cmp
    decided-total = total decided (λ a b e. rw e at (says a b))

-- ---- numbers

says-suc : (o : Ordering) (m n : ℕ) → Says ◌<◌ o m n → Says ◌<◌ o (suc m) (suc n)
says-suc Ordering.lt m n h = omega arith
says-suc Ordering.eq m n h = ap suc h
says-suc Ordering.gt m n h = omega arith

compare-says : (m n : ℕ) → Says ◌<◌ (compare m n) m n
compare-says zero zero = refl
compare-says zero (suc n) = rw (compare.zero-suc n) (omega arith)
compare-says (suc m) zero = rw (compare.suc-zero m) (omega arith)
compare-says (suc m) (suc n) = rw (compare.suc-suc m n) (says-suc (compare m n) m n (compare-says m n))

numbers : StrictOrder ◌<◌
numbers = record { irreflexive = λ n h. omega arith; transitive = λ h k. omega arith }

pub compare-orders : Orders compare
compare-orders = decided numbers compare compare-says

-- Numbers are compared by their order.
pub compare-lt : (m n : ℕ) → (compare m n ≡ Ordering.lt) ↔ (m < n)
compare-lt = decided-lt numbers compare compare-says

pub compare-total : TotalOrder compare
compare-total = decided-total numbers compare compare-says

-- ---- times

says-pos : (o : Ordering) (m n : ℕ) → Says ◌<◌ o m n → Says ◌<ℤ◌ o (pos m) (pos n)
says-pos Ordering.lt m n h = omega signed
says-pos Ordering.eq m n h = ap pos h
says-pos Ordering.gt m n h = omega signed

says-neg : (o : Ordering) (m n : ℕ) → Says ◌<◌ o n m → Says ◌<ℤ◌ o (negsuc m) (negsuc n)
says-neg Ordering.lt m n h = omega signed
says-neg Ordering.eq m n h = ap negsuc (sym h)
says-neg Ordering.gt m n h = omega signed

compare_z-says : (x y : ℤ) → Says ◌<ℤ◌ (compare_z x y) x y
compare_z-says (pos m) (pos n) = says-pos (compare m n) m n (compare-says m n)
compare_z-says (pos m) (negsuc n) = omega signed
compare_z-says (negsuc m) (pos n) = omega signed
compare_z-says (negsuc m) (negsuc n) = says-neg (compare n m) m n (compare-says n m)

times : StrictOrder ◌<ℤ◌
times = record { irreflexive = λ x h. omega signed; transitive = λ h k. omega signed }

pub compare_z-orders : Orders compare_z
compare_z-orders = decided times compare_z compare_z-says

-- Times are compared by their order.
pub compare_z-lt : (x y : ℤ) → (compare_z x y ≡ Ordering.lt) ↔ x <ℤ y
compare_z-lt = decided-lt times compare_z compare_z-says

pub compare_z-total : TotalOrder compare_z
compare_z-total = decided-total times compare_z compare_z-says

-- ---- choices

pub by_last_place-orders : Orders by_last_place
by_last_place-orders = record { turned = turn; fits = fit }
  where
    turn : (c d : Choice) → by_last_place d c ≡ flip (by_last_place c d)
    turn [] [] = refl
    turn [] (y ∷ d) = refl
    turn (x ∷ c) [] = refl
    turn (x ∷ c) (y ∷ d) =
        ap₂ or_then (turn c d) (compare-orders.turned x y) ∙ flip-or_then (by_last_place c d) (compare x y)

    fit : (c d e : Choice) → Fits (by_last_place c d) (by_last_place d e) (by_last_place c e)
    fit [] [] [] = refl
    fit [] [] (z ∷ e) = refl
    fit [] (y ∷ d) [] = tt
    fit [] (y ∷ d) (z ∷ e) = fits-swap (by_last_place (y ∷ d) (z ∷ e)) _ _ (fits_lt (by_last_place (y ∷ d) (z ∷ e)))
    fit (x ∷ c) [] [] = refl
    fit (x ∷ c) [] (z ∷ e) = tt
    fit (x ∷ c) (y ∷ d) [] = fits-gt (by_last_place (x ∷ c) (y ∷ d))
    fit (x ∷ c) (y ∷ d) (z ∷ e) =
        fits-or_then (by_last_place c d) (by_last_place d e) (by_last_place c e) (compare x y) (compare y z) (compare x z)
        (fit c d e) (compare-orders.fits x y z)

by_last_place-eq : (c d : Choice) → by_last_place c d ≡ Ordering.eq → c ≡ d
by_last_place-eq [] [] e = refl
by_last_place-eq [] (y ∷ d) e = cc
by_last_place-eq (x ∷ c) [] e = cc
by_last_place-eq (x ∷ c) (y ∷ d) e =
    let parts = or_then-eq (by_last_place c d) (compare x y) e in
    ap₂ ◌∷◌ ((compare-total.equal x y).0 parts.1) (by_last_place-eq c d parts.0)

pub by_last_place-total : TotalOrder by_last_place
by_last_place-total = total by_last_place-orders by_last_place-eq

-- ---- the ranking

abbrev weight_of_end : Ended → ℕ
weight_of_end e = e.end.weight

abbrev time_of_end : Ended → ℤ
time_of_end e = e.end.time

-- The ranking is a total order on choices with their ends.
pub ranking-total : TotalOrder ranking
ranking-total = total orders same
  where
    orders : Orders ranking
    orders =
        lexicographic (by_key (flipped compare-orders) weight_of_end)
        (lexicographic (by_key compare_z-orders time_of_end) (by_key by_last_place-orders (λ (e : Ended). e.choice)))

    same : (a b : Ended) → ranking a b ≡ Ordering.eq → a ≡ b
    same a b e =
        let parts = or_then-eq (compare (weight_of_end b) (weight_of_end a)) _ e in
        let rests = or_then-eq (compare_z (time_of_end a) (time_of_end b)) (by_last_place a.choice b.choice) parts.1 in
        let w : weight_of_end a ≡ weight_of_end b = sym ((compare-total.equal (weight_of_end b) (weight_of_end a)).0 parts.0) in
        let t : time_of_end a ≡ time_of_end b = (compare_z-total.equal (time_of_end a) (time_of_end b)).0 rests.0 in
        let c : a.choice ≡ b.choice = by_last_place-eq a.choice b.choice rests.1 in
        λ i. record { choice = c i; end = record { time = t i; weight = w i } }
