-- The rest after every kept job (R5), of the starts of any choice: the next kept job starts a rest after its finish or later, and
-- after the last one the bus is free a rest after its finish.
use Rattle.std.specs.Prelude.{ℕ, zero, suc, ◌<◌, ◌≡◌, List, [], ◌∷◌, ℤ, pos, ◌+ℤ◌, drop, ◌≤ℤ◌}
use Rattle.std.proofs.Common.{◌∙◌, arith}
use Rattle.std.proofs.Math.Option.{some, none-ne-some, some-injective}
use Rattle.std.proofs.Math.ListN.{get_elem?}
use Rattle.seconds.specs.Limits.{rest}
use Rattle.seconds.specs.Signed.{signed}
use Rattle.order.specs.Job.{Rate, Job, rate_of, bus_free}
use Rattle.order.specs.Choice.{Choice, finish, start_of, starts, number_kept}
use Rattle.order.proofs.Moves.{bus_free-later, kept-rests}
use Rattle.order.proofs.Counts.{finish-empty}

-- With the bus free at t, the job at a place is kept at a rate and starts at s.
pub record KeptAt (js : List Job) (c : Choice) (t : ℤ) (i : ℕ) (r : Rate) (s : ℤ) : Type 0 where
  pub job : Job
  pub pick : ℕ
  pub stands : get_elem? js i ≡ some job
  pub kept : get_elem? c i ≡ some (suc pick)
  pub rate : rate_of job pick ≡ some r
  pub starts : get_elem? (starts js c t) i ≡ some s

-- What is kept behind a first job.
further : {j : Job} {js : List Job} {x : ℕ} {c : Choice} {t : ℤ} {i : ℕ} {r : Rate} {s : ℤ}
    → KeptAt (j ∷ js) (x ∷ c) t (suc i) r s → KeptAt js c (bus_free j x t) i r s
further k =
    record { job = k.job; pick = k.pick; stands = k.stands; kept = k.kept; rate = k.rate; starts = k.starts }

-- A first job that is kept starts no earlier than the bus is free, and a rest after its finish the bus is free again.
first-kept : (j : Job) (js : List Job) (x : ℕ) (c : Choice) (t : ℤ) {r : Rate} {s : ℤ} → KeptAt (j ∷ js) (x ∷ c) t 0 r s
    → (t ≤ℤ s) × (bus_free j x t ≡ (s +ℤ pos r.takes) +ℤ pos rest)
first-kept j js zero c t k = absurd (omega (arith, some-injective 0 (suc k.pick) k.kept))
first-kept j js (suc n) c t {r} {s} k =
    let start : start_of j (suc n) t ≡ s = some-injective (start_of j (suc n) t) s k.starts in
    let same : j ≡ k.job = some-injective j k.job k.stands in
    let pick : n ≡ k.pick = omega (arith, some-injective (suc n) (suc k.pick) k.kept) in
    let rate : rate_of j n ≡ some r = rw (same, pick) k.rate in
    let rests = kept-rests j n t rate in
    (omega (signed, start, rests.1), rw (← start) rests.2)

-- So does every other: no kept job starts before the bus is free.
kept-after : (js : List Job) (c : Choice) (t : ℤ) (i : ℕ) {r : Rate} {s : ℤ} → KeptAt js c t i r s → t ≤ℤ s
kept-after [] c t i k = absurd (none-ne-some k.job k.stands)
kept-after (j ∷ js) [] t i k = absurd (none-ne-some (suc k.pick) k.kept)
kept-after (j ∷ js) (x ∷ c) t zero k = (first-kept j js x c t k).0
kept-after (j ∷ js) (x ∷ c) t (suc i) k =
    omega (signed, bus_free-later j x t, kept-after js c (bus_free j x t) i (further k))

-- Of two kept jobs the second starts a rest after the first one's finish, or later.
pub rested-between : (js : List Job) (c : Choice) (t : ℤ) (i n : ℕ) {r q : Rate} {s u : ℤ} → i < n
    → KeptAt js c t i r s → KeptAt js c t n q u → ((s +ℤ pos r.takes) +ℤ pos rest) ≤ℤ u
rested-between js c t i zero h a b = absurd (omega arith)
rested-between [] c t i (suc n) h a b = absurd (none-ne-some a.job a.stands)
rested-between (j ∷ js) [] t i (suc n) h a b = absurd (none-ne-some (suc a.pick) a.kept)
rested-between (j ∷ js) (x ∷ c) t zero (suc n) h a b =
    omega (signed, (first-kept j js x c t a).1, kept-after js c (bus_free j x t) n (further b))
rested-between (j ∷ js) (x ∷ c) t (suc i) (suc n) h a b =
    rested-between js c (bus_free j x t) i n (omega arith) (further a) (further b)

-- Where nothing is kept behind a kept job, the choice leaves the bus free a rest after that job's finish.
pub rested-after : (js : List Job) (c : Choice) (t : ℤ) (i : ℕ) {r : Rate} {s : ℤ} → KeptAt js c t i r s
    → number_kept (drop (suc i) c) ≡ 0 → finish js c t ≡ (s +ℤ pos r.takes) +ℤ pos rest
rested-after [] c t i k e = absurd (none-ne-some k.job k.stands)
rested-after (j ∷ js) [] t i k e = absurd (none-ne-some (suc k.pick) k.kept)
rested-after (j ∷ js) (x ∷ c) t zero k e = finish-empty js c (bus_free j x t) e ∙ (first-kept j js x c t k).1
rested-after (j ∷ js) (x ∷ c) t (suc i) k e = rested-after js c (bus_free j x t) i (further k) e
