-- What is counted of a choice: weights, jobs kept, mask and starts; and feasibility in the words of R6.
use Rattle.std.specs.Prelude.{ℕ, zero, suc, ◌+◌, ◌^◌, ◌≤◌, ◌<◌, ◌≡◌, refl, true, List, [], ◌∷◌, T, ℤ, length, take}
use Rattle.std.proofs.Common.{ap, ap₂, ◌∙◌, arith}
use Rattle.std.proofs.Math.Bool.{and-eq-true_iff}
use Rattle.std.proofs.lemmas.Bool.{false≢true}
use Rattle.std.proofs.Math.Option.{Option, some, none-ne-some, some-injective}
use Rattle.std.specs.Int.Count.{ones}
use Rattle.std.proofs.lemmas.Nat.{ones_cat}
use Rattle.std.proofs.Math.ListN.{get_elem?}
use Rattle.order.specs.Job.{Job, allowed, bus_free, jobs_within, weight_of}
use Rattle.order.specs.Choice.{Choice, feasible, finish, kept_weight, lost_weight, start_of, starts}
use Rattle.order.specs.Choice.{bit_of, mask_of, mask, number_kept}
use Rattle.order.proofs.Within.{jobs-within}
use Rattle.order.proofs.Moves.{gain-light, gain-and-loss, PickHolds, pick-holds, holds-pick}

-- ---- weights

-- No choice keeps more than all weights.
pub kept-light : (js : List Job) (c : Choice) → T (jobs_within js) → kept_weight js c ≤ weight_of js
kept-light [] c w = omega arith
kept-light (j ∷ js) [] w = omega arith
kept-light (j ∷ js) (x ∷ c) w =
    let ws = jobs-within j js w in
    omega (arith, gain-light j x ws.0, kept-light js c ws.1)

-- The weight kept and the weight lost are all weights together.
pub kept-and-lost : (js : List Job) (c : Choice) → T (jobs_within js) → length c ≡ length js
    → kept_weight js c + lost_weight js c ≡ weight_of js
kept-and-lost [] c w e = omega arith
kept-and-lost (j ∷ js) [] w e = absurd (omega arith)
kept-and-lost (j ∷ js) (x ∷ c) w e =
    let ws = jobs-within j js w in
    let ih = kept-and-lost js c ws.1 (omega arith) in
    omega (arith, gain-and-loss j x ws.0)

-- ---- the mask

-- A mask of n bits is below 2 ^ n.
pub mask_fits : (n : ℕ) (c : Choice) → mask_of n c < 2 ^ n
mask_fits zero c = omega arith
mask_fits (suc n) [] = omega (arith, mask_fits n [])
mask_fits (suc n) (zero ∷ c) = omega (arith, mask_fits n c)
mask_fits (suc n) (suc k ∷ c) = omega (arith, mask_fits n c)

ones_bit : (x : ℕ) → ones (bit_of x) ≡ bit_of x
unfolding ones
ones_bit zero = refl
ones_bit (suc k) = refl

ones-of : (n : ℕ) (c : Choice) → length c ≤ n → ones (mask_of n c) ≡ number_kept c
unfolding ones
ones-of zero [] h = refl
ones-of zero (x ∷ c) h = absurd (omega arith)
ones-of (suc n) [] h = refl
ones-of (suc n) (x ∷ c) h =
    ones_cat n (bit_of x) (mask_of n c) (mask_fits n c) ∙ ap₂ ◌+◌ (ones_bit x) (ones-of n c (omega arith))

-- The number kept is the ones in the mask.
pub kept-is-ones : (c : Choice) → length c ≤ 64 → ones (mask c) ≡ number_kept c
kept-is-ones c h = ones-of 64 c h

-- ---- bus-free time and starts

-- A choice that keeps nothing leaves the bus free when it was.
pub finish-empty : (js : List Job) (c : Choice) (t : ℤ) → number_kept c ≡ 0 → finish js c t ≡ t
finish-empty [] c t e = refl
finish-empty (j ∷ js) [] t e = refl
finish-empty (j ∷ js) (zero ∷ c) t e = finish-empty js c t (omega arith)
finish-empty (j ∷ js) (suc k ∷ c) t e = absurd (omega arith)

-- There is a start for each job.
pub starts-length : (js : List Job) (c : Choice) (t : ℤ) → length c ≡ length js → length (starts js c t) ≡ length js
starts-length [] c t e = refl
starts-length (j ∷ js) [] t e = absurd (omega arith)
starts-length (j ∷ js) (x ∷ c) t e = ap suc (starts-length js c (bus_free j x t) (omega arith))

-- The start at a place: with the bus free when the picks before it leave it free.
pub start-at : (js : List Job) (c : Choice) (t : ℤ) (i : ℕ) {j : Job} {x : ℕ}
    → get_elem? js i ≡ some j → get_elem? c i ≡ some x
    → get_elem? (starts js c t) i ≡ some (start_of j x (finish (take i js) (take i c) t))
start-at [] c t i e f = absurd (none-ne-some _ e)
start-at (k ∷ js) [] t i e f = absurd (none-ne-some _ f)
start-at (k ∷ js) (y ∷ c) t zero e f =
    ap₂ {C = Option ℤ} (λ l z. some (start_of l z t)) (some-injective _ _ e) (some-injective _ _ f)
start-at (k ∷ js) (y ∷ c) t (suc i) e f = start-at js c (bus_free k y t) i e f

-- ---- feasibility in the words of R6

-- A pick for each job, and at every place the pick holds for its start: critical jobs are kept, kept jobs end in time.
pub record Holds (js : List Job) (c : Choice) (t : ℤ) : Type 0 where
  pub each : length c ≡ length js
  pub places : (i : ℕ) (j : Job) (x : ℕ) (s : ℤ)
      → get_elem? js i ≡ some j → get_elem? c i ≡ some x → get_elem? (starts js c t) i ≡ some s → PickHolds j x s

-- A feasible choice holds,
pub feasible-holds : (js : List Job) (c : Choice) (t : ℤ) → feasible js c t ≡ true → Holds js c t
feasible-holds [] [] t a = record { each = refl; places = λ i j x s e f g. absurd (none-ne-some j e) }
feasible-holds [] (x ∷ c) t a = absurd (false≢true a)
feasible-holds (j ∷ js) [] t a = absurd (false≢true a)
feasible-holds (j ∷ js) (x ∷ c) t a =
    let both = (and-eq-true_iff (allowed j x t) (feasible js c (bus_free j x t))).0 a in
    let ih = feasible-holds js c (bus_free j x t) both.1 in
    record { each = ap suc ih.each; places = place (pick-holds j x t both.0) ih.places }
  where
    place : PickHolds j x (start_of j x t)
        → ((i : ℕ) (k : Job) (y : ℕ) (s : ℤ) → get_elem? js i ≡ some k → get_elem? c i ≡ some y
        → get_elem? (starts js c (bus_free j x t)) i ≡ some s → PickHolds k y s)
        → (i : ℕ) (k : Job) (y : ℕ) (s : ℤ) → get_elem? {A = Job} (j ∷ js) i ≡ some k → get_elem? {A = ℕ} (x ∷ c) i ≡ some y
        → get_elem? (starts (j ∷ js) (x ∷ c) t) i ≡ some s → PickHolds k y s
    place h ih zero k y s e f g =
        rw (← (some-injective _ _ e), ← (some-injective _ _ f), ← (some-injective _ _ g)) h
    place h ih (suc i) k y s e f g = ih i k y s e f g

-- and a choice that holds is feasible.
pub holds-feasible : (js : List Job) (c : Choice) (t : ℤ) → Holds js c t → feasible js c t ≡ true
holds-feasible [] [] t h = refl
holds-feasible [] (x ∷ c) t h = absurd (omega (arith, h.each))
holds-feasible (j ∷ js) [] t h = absurd (omega (arith, h.each))
holds-feasible (j ∷ js) (x ∷ c) t h =
    let first = holds-pick j x t (h.places 0 j x (start_of j x t) refl refl refl) in
    let later : Holds js c (bus_free j x t) = record { each = omega (arith, h.each); places = λ i. h.places (suc i) } in
    let further = holds-feasible js c (bus_free j x t) later in
    (and-eq-true_iff (allowed j x t) (feasible js c (bus_free j x t))).1 (first, further)
