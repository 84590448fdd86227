-- The jobs that a feasible choice keeps: their starts are times and the only ones before 200,000, and they are as many as the ones in
-- the 48 top bits of its mask.
use Rattle.std.specs.Prelude.{ℕ, zero, suc, ◌+◌, ◌*◌, ◌-◌, ◌/◌, ◌%◌, ◌^◌, ◌≤◌, ◌<◌, ◌≡◌, refl, true, List, [], ◌∷◌, ◌++◌, T, ℤ, pos, length, drop, get_or}
use Rattle.std.proofs.Common.{sym, ap, ◌∙◌, arith, pow_pos, pow-add, ne_eqb}
use Rattle.std.proofs.Math.Bool.{and-eq-true_iff}
use Rattle.std.proofs.lemmas.Bool.{false≢true}
use Rattle.std.specs.Int.Count.{ones}
use Rattle.std.proofs.Math.Pow.{low}
use Rattle.std.specs.Int.Signed.{lt_z}
use borrow.Table.Steps.{cases}
use Rattle.seconds.specs.Limits.{left_out}
use Rattle.seconds.specs.Ranges.{InTime}
use Rattle.seconds.specs.Signed.{signed, add_is, max-is}
use Rattle.order.specs.Job.{Job, start_at, allowed, bus_free, jobs_within}
use Rattle.order.specs.Choice.{Choice, feasible, starts, mask_of, mask, number_kept}
use Rattle.order.proofs.Within.{JobWithin, jobs-within}
use Rattle.order.proofs.Moves.{pick-holds}
use Rattle.order.proofs.Counts.{mask_fits, kept-is-ones}
use Rattle.packed_plan.proofs.PlanLaws.{ones-raised}
use Rattle.packed_plan.specs.Plan.{starts_kept}
use Rattle.legal.specs.Legal.{kept_of, kept_starts}

-- ---- starts in place order

-- Of two lists behind each other.
pub kept_append : (xs ys : List ℤ) → starts_kept (xs ++ ys) ≡ starts_kept xs ++ starts_kept ys
kept_append [] ys = refl
kept_append (x ∷ xs) ys = cases (lt_z x left_out)
    (λ e. rw e (ap (λ l. x ∷ l) (kept_append xs ys)))
    (λ e. rw e (kept_append xs ys))

-- Where none is kept, none is kept behind a place.
pub none-behind : (n : ℕ) (xs : List ℤ) → starts_kept xs ≡ [] → starts_kept (drop n xs) ≡ []
none-behind zero xs e = e
none-behind (suc n) [] e = refl
none-behind (suc n) (x ∷ xs) e = cases (lt_z x left_out)
    (λ is. let more : length (x ∷ starts_kept xs) ≡ 0 = ap length (rw is at e) in absurd (omega arith))
    (λ is. none-behind n xs (rw is at e))

-- ---- the starts of a feasible choice

-- A kept job's start is a time.
start-timely : (j : Job) (k : ℕ) (t : ℤ) → JobWithin j → allowed j (suc k) t ≡ true → InTime (start_at j t)
start-timely j k t w a =
    let kept = (pick-holds j (suc k) t a).kept (λ e. omega arith) in
    omega (
      signed,
      max-is j.ready t,
      add_is (start_at j t) (pos kept.0.takes),
      kept.2,
      w.ready.low,
      w.deadline.high,
    )

-- What is kept of the starts of a choice.
pub record Kept (js : List Job) (c : Choice) (t : ℤ) : Type 0 where
  pub own : starts_kept (starts js c t) ≡ kept_starts (kept_of c) (starts js c t)
  pub many : length (starts_kept (starts js c t)) ≡ number_kept c
  pub timely : (i : ℕ) → InTime (get_or (starts_kept (starts js c t)) i (pos 0))

-- Behind a job that is kept.
one_kept : (j : Job) (js : List Job) (k : ℕ) (c : Choice) (t : ℤ) → InTime (start_at j t) → Kept js c (bus_free j (suc k) t)
    → Kept (j ∷ js) (suc k ∷ c) t
one_kept j js k c t start ih =
    record {
      own = here ∙ rw (ne_eqb (suc k) 0 (λ e. omega arith)) (ap (λ l. start_at j t ∷ l) ih.own);
      many = ap length here ∙ omega (arith, ih.many);
      timely = λ i. rw here (all i);
    }
  where
    here : starts_kept (starts (j ∷ js) (suc k ∷ c) t) ≡ start_at j t ∷ starts_kept (starts js c (bus_free j (suc k) t))
    here = let early : lt_z (start_at j t) left_out ≡ true = omega (signed, start.high) in rw early

    all : (i : ℕ) → InTime (get_or (start_at j t ∷ starts_kept (starts js c (bus_free j (suc k) t))) i (pos 0))
    all zero = start
    all (suc i) = ih.timely i

-- So it is for every feasible choice of jobs within the limits.
pub kept-starts : (js : List Job) (c : Choice) (t : ℤ) → T (jobs_within js) → feasible js c t ≡ true → Kept js c t
kept-starts [] [] t w f = record { own = refl; many = refl; timely = λ i. record { low = omega signed; high = omega signed } }
kept-starts [] (x ∷ c) t w f = absurd (false≢true f)
kept-starts (j ∷ js) [] t w f = absurd (false≢true f)
kept-starts (j ∷ js) (zero ∷ c) t w f =
    let ih = kept-starts js c t (jobs-within j js w).1 ((and-eq-true_iff (allowed j 0 t) (feasible js c t)).0 f).1 in
    record { own = ih.own; many = omega (arith, ih.many); timely = ih.timely }
kept-starts (j ∷ js) (suc k ∷ c) t w f =
    let within = jobs-within j js w in
    let both = (and-eq-true_iff (allowed j (suc k) t) (feasible js c (bus_free j (suc k) t))).0 f in
    one_kept j js k c t (start-timely j k t within.0 both.0) (kept-starts js c (bus_free j (suc k) t) within.1 both.1)

-- As many are kept as there are picks, or fewer.
pub kept-few : (c : Choice) → number_kept c ≤ length c
kept-few [] = omega arith
kept-few (zero ∷ c) = let ih = kept-few c in omega arith
kept-few (suc k ∷ c) = let ih = kept-few c in omega arith

-- ---- the mask

-- No picks, no bits.
mask-none : (n : ℕ) → mask_of n [] ≡ 0
mask-none zero = refl
mask-none (suc n) = refl

-- So many bits more below move a mask up.
mask_up : (k n m : ℕ) (c : Choice) → k ≡ n + m → length c ≤ n → mask_of k c ≡ mask_of n c * 2 ^ m
mask_up k n m [] e h = rw (mask-none k, mask-none n) (omega arith)
mask_up k zero m (x ∷ c) e h = absurd (omega arith)
mask_up zero (suc n) m (x ∷ c) e h = absurd (omega arith)
mask_up (suc k) (suc n) m (x ∷ c) e h =
    let less : k ≡ n + m = omega arith in
    rw (mask_up k n m c less (omega arith), less, pow-add 2 n m) (omega arith)

module _ (c : Choice) (few : length c ≤ 48) where
  -- A mask of 64 bits has 16 below those of 48 jobs.
  up : mask c ≡ mask_of 48 c * 2 ^ 16
  up = mask_up 64 48 16 c (omega arith) few

  -- The 48 top bits are the mask of so many,
  top-bits : mask c / 2 ^ 16 ≡ mask_of 48 c
  top-bits = omega (arith, up)

  pub top_small : mask c / 2 ^ 16 < 2 ^ 48
  top_small = rw top-bits (mask_fits 48 c)

  -- below them there are none,
  pub top-whole : mask c / 2 ^ 16 * 2 ^ 16 ≡ mask c
  top-whole = rw top-bits (sym up)

  -- nor beyond the jobs,
  pub none-beyond : mask c / 2 ^ 16 % 2 ^ (48 - length c) ≡ 0
  none-beyond =
      let d = 48 - length c in
      let moved : mask_of 48 c ≡ mask_of (length c) c * 2 ^ d = mask_up 48 (length c) d c (omega arith) (omega arith) in
      let sum : mask c / 2 ^ 16 ≡ mask_of (length c) c * 2 ^ d + 0 = omega (arith, top-bits, moved) in
      ap (λ x. x % 2 ^ d) sum ∙ low (mask_of (length c) c) d (pow_pos d)

  -- and their ones are the jobs kept.
  pub top-ones : ones (mask c / 2 ^ 16) ≡ number_kept c
  top-ones = ap ones top-bits ∙ sym (ap ones up ∙ ones-raised (mask_of 48 c) 16) ∙ kept-is-ones c (omega arith)
