-- Choices: when one is feasible, when it leaves the bus free, its weights, starts and mask, and all that the choices of some jobs give.
-- Definitions only.
use Rattle.std.specs.Prelude.{ℕ, zero, suc, ◌+◌, ◌*◌, ◌^◌, Bool, true, false, cond, ◌&&◌, List, [], ◌∷◌, ◌++◌, map, ℤ}
use Rattle.std.proofs.Math.Option.{Option, none, some}
use Rattle.seconds.specs.Limits.{left_out}
use Rattle.order.specs.Job.{Job, Point, start_at, allowed, bus_free, gain_of, loss_of, picks}

-- A choice has one pick for each job, in their sequence.
abbrev pub Choice : Type 0
Choice = List ℕ

-- Feasible: every pick is allowed with the bus free when the picks before it leave it free.
abbrev pub feasible : List Job → Choice → ℤ → Bool
feasible [] [] free = true
feasible [] (x ∷ c) free = false
feasible (j ∷ js) [] free = false
feasible (j ∷ js) (x ∷ c) free = allowed j x free && feasible js c (bus_free j x free)

-- When the bus is free after a choice: an empty one leaves it free when it was.
abbrev pub finish : List Job → Choice → ℤ → ℤ
finish [] c free = free
finish (j ∷ js) [] free = free
finish (j ∷ js) (x ∷ c) free = finish js c (bus_free j x free)

-- The weight kept, and the weight lost.
abbrev pub kept_weight : List Job → Choice → ℕ
kept_weight [] c = 0
kept_weight (j ∷ js) [] = 0
kept_weight (j ∷ js) (x ∷ c) = gain_of j x + kept_weight js c

abbrev pub lost_weight : List Job → Choice → ℕ
lost_weight [] c = 0
lost_weight (j ∷ js) [] = 0
lost_weight (j ∷ js) (x ∷ c) = loss_of j x + lost_weight js c

-- The starts in place order, 200,000 for a job left out.
abbrev pub start_of : Job → ℕ → ℤ → ℤ
start_of j zero free = left_out
start_of j (suc k) free = start_at j free

abbrev pub starts : List Job → Choice → ℤ → List ℤ
starts [] c free = []
starts (j ∷ js) [] free = []
starts (j ∷ js) (x ∷ c) free = start_of j x free ∷ starts js c (bus_free j x free)

-- A bit for each job, 1 where it is kept; as a mask of so many bits, the highest for place 0; and how many are kept.
abbrev pub bit_of : ℕ → ℕ
bit_of zero = 0
bit_of (suc k) = 1

abbrev pub mask_of : ℕ → Choice → ℕ
mask_of zero c = 0
mask_of (suc n) [] = 0
mask_of (suc n) (x ∷ c) = bit_of x * 2 ^ n + mask_of n c

abbrev pub mask : Choice → ℕ
mask c = mask_of 64 c

abbrev pub number_kept : Choice → ℕ
number_kept [] = 0
number_kept (x ∷ c) = bit_of x + number_kept c

-- Every choice of some jobs.
abbrev pub with_each : List ℕ → List Choice → List Choice
with_each [] cs = []
with_each (x ∷ xs) cs = map (λ (c : Choice). x ∷ c) cs ++ with_each xs cs

abbrev pub choices : List Job → List Choice
choices [] = [] ∷ []
choices (j ∷ js) = with_each (picks j) (choices js)

-- What a choice gives, run from a point: the bus-free time with the weight added, if it is feasible from there.
abbrev pub run : List Job → Choice → Point → Option Point
run js c p =
    cond (feasible js c p.time)
    (some (record { time = finish js c p.time; weight = p.weight + kept_weight js c }))
    none

-- The results there are of a list of trials.
abbrev pub cons_if {ℓ} : {A : Type ℓ} → Option A → List A → List A
cons_if none l = l
cons_if (some a) l = a ∷ l

abbrev pub results {ℓ ℓ'} : {A : Type ℓ} {B : Type ℓ'} → (A → Option B) → List A → List B
results f [] = []
results f (a ∷ l) = cons_if (f a) (results f l)

-- All that the choices of some jobs give from a list of points.
abbrev pub outcomes : List Job → List Point → List Point
outcomes js [] = []
outcomes js (p ∷ ps) = results (λ (c : Choice). run js c p) (choices js) ++ outcomes js ps
