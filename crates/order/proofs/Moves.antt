-- The facts about a job's moves, on which every other law rests: what a pick gives forwards, the latest start backwards,
-- the weight that it adds, and that a move of an easier job from an earlier and heavier point gives an earlier and heavier one.
use Rattle.std.specs.Prelude.{ℕ, zero, suc, ◌+◌, ◌-◌, ◌≤◌, ◌<◌, ◌≡◌, refl, Bool, true, false, not, cond, ◌↔◌, ◌≢◌, ◌⊎◌, ℤ, pos, ◌+ℤ◌, ◌-ℤ◌, ◌≤ℤ◌, length}
use Rattle.std.proofs.Common.{sym, ap, ◌∙◌, inl, inr, add-zero, arith}
use Rattle.std.proofs.lemmas.Bool.{false≢true, not-true}
use mathlib.Core.List.Memᴰ
use mathlib.Core.List.{List, [], ◌∷◌, Memᴰ}
use Rattle.std.proofs.Math.Option.{Option, none, some, none-ne-some, some-injective}
use Rattle.std.specs.Int.Signed.{le_z}
use Rattle.std.proofs.Math.ListN.{get_elem?}
use Rattle.seconds.specs.Limits.{rest}
use Rattle.seconds.specs.Signed.{signed, same_test, add_is, sub_is, max-is, min-is}
use Rattle.seconds.specs.Ranges.{max_z, min_z, InFree}
use Rattle.order.specs.Job.{Rate, Job, one_rate, Point, start_at, rate_of, finish_at, allowed_at, free_at, gain_at}
use Rattle.order.specs.Job.{allowed, bus_free, gain_of, loss_of, up_to, picks, move}
use Rattle.order.specs.Choice.{start_of}
use Rattle.order.specs.Given.{Covers}
use Rattle.order.specs.Later.{later}
use Rattle.order.specs.Easier.{NoLower, EasierRate, EasierJob}
use Rattle.order.proofs.EasierLaws.{same-job, no-lower-job, RatesAt, neither, both, rates-at}
use Rattle.order.proofs.Within.{RateWithin, JobWithin}

-- ---- what is allowed, in the words of R6

-- The rate of a kept job.
abbrev pub kept_rate : Job → ℕ → Option Rate
kept_rate j zero = none
kept_rate j (suc k) = rate_of j k

-- A pick holds for a start: a critical job is kept, and a kept job has its rate and finishes at or before its deadline.
pub record PickHolds (j : Job) (x : ℕ) (start : ℤ) : Type 0 where
  pub critical : j.critical ≡ true → x ≢ 0
  pub kept : x ≢ 0 → (r : Rate) × (kept_rate j x ≡ some r) × ((start +ℤ pos r.takes) ≤ℤ j.deadline)

holds_at : (j : Job) (o : Option Rate) (t : ℤ) → allowed_at j o t ≡ true
    → (r : Rate) × (o ≡ some r) × ((start_at j t +ℤ pos r.takes) ≤ℤ j.deadline)
holds_at j none t a = absurd (false≢true a)
holds_at j (some r) t a = (r, refl, omega signed)

-- An allowed pick holds, and back.
pub pick-holds : (j : Job) (x : ℕ) (t : ℤ) → allowed j x t ≡ true → PickHolds j x (start_of j x t)
pick-holds j zero t a = record { critical = λ c. absurd (false≢true (rw c at a)); kept = λ n. absurd (n refl) }
pick-holds j (suc k) t a = record { critical = λ c. omega arith; kept = λ n. holds_at j (rate_of j k) t a }

pub holds-pick : (j : Job) (x : ℕ) (t : ℤ) → PickHolds j x (start_of j x t) → allowed j x t ≡ true
holds-pick j zero t h = go j.critical refl
  where
    go : (b : Bool) → j.critical ≡ b → not j.critical ≡ true
    go true c = absurd (h.critical c refl)
    go false c = ap not c
holds-pick j (suc k) t h =
    let r = h.kept (omega arith) in
    rw r.1 (omega (signed, r.2))

-- ---- an easier job, forwards: with the bus free no later, a pick is allowed where it was, frees the bus no later and counts
-- no less

module _ {new old : Job} (e : EasierJob NoLower new old) {s t : ℤ} (h : s ≤ℤ t) where
  start-sooner : start_at new s ≤ℤ start_at old t
  start-sooner = omega (signed, e.ready, max-is new.ready s, max-is old.ready t)

  finish-sooner : {n o : Rate} → EasierRate NoLower n o → finish_at new n s ≤ℤ finish_at old o t
  finish-sooner {n} {o} r =
      omega (signed, start-sooner, r.takes, add_is (start_at new s) (pos n.takes), add_is (start_at old t) (pos o.takes))

  allowed_at_lem : {n o : Option Rate} → RatesAt n o → allowed_at old o t ≡ true → allowed_at new n s ≡ true
  allowed_at_lem neither a = absurd (false≢true a)
  allowed_at_lem (both r) a = omega (signed, finish-sooner r, e.deadline)

  free-at : {n o : Option Rate} → RatesAt n o → free_at new n s ≤ℤ free_at old o t
  free-at neither = h
  free-at (both {new = n} {old = o} r) =
      omega (signed, finish-sooner r, add_is (finish_at new n s) (pos rest), add_is (finish_at old o t) (pos rest))

  -- It is allowed where it was,
  pub easier-allowed : (x : ℕ) → allowed old x t ≡ true → allowed new x s ≡ true
  easier-allowed zero a = ap not e.critical ∙ a
  easier-allowed (suc k) a = allowed_at_lem (rates-at e.rates k) a

  -- and the bus is free again no later;
  pub easier-free : (x : ℕ) → bus_free new x s ≤ℤ bus_free old x t
  easier-free zero = h
  easier-free (suc k) = free-at (rates-at e.rates k)

-- it counts no less.
gain-at : {n o : Option Rate} → RatesAt n o → gain_at o ≤ gain_at n
gain-at neither = omega arith
gain-at (both r) = r.gain

pub easier-gain : {new old : Job} → EasierJob NoLower new old → (x : ℕ) → gain_of old x ≤ gain_of new x
easier-gain e zero = omega arith
easier-gain e (suc k) = gain-at (rates-at e.rates k)

-- ---- a kept job, forwards: from an earlier time it is allowed, and the bus is free, no later

earlier-at : (j : Job) (o : Option Rate) {s t : ℤ} → s ≤ℤ t → allowed_at j o t ≡ true → allowed_at j o s ≡ true
earlier-at j none h e = e
earlier-at j (some r) {s} {t} h e =
    omega (
      signed,
      max-is j.ready s,
      max-is j.ready t,
      add_is (start_at j s) (pos r.takes),
      add_is (start_at j t) (pos r.takes),
    )

mono_at : (j : Job) (o : Option Rate) {s t : ℤ} → s ≤ℤ t → free_at j o s ≤ℤ free_at j o t
mono_at j none h = h
mono_at j (some r) {s} {t} h =
    omega (
      signed,
      max-is j.ready s,
      max-is j.ready t,
      add_is (start_at j s) (pos r.takes),
      add_is (start_at j t) (pos r.takes),
      add_is (finish_at j r s) (pos rest),
      add_is (finish_at j r t) (pos rest),
    )

-- What is allowed with the bus free at a time is allowed with it free earlier.
pub allowed-earlier : (j : Job) (x : ℕ) {s t : ℤ} → s ≤ℤ t → allowed j x t ≡ true → allowed j x s ≡ true
allowed-earlier j zero h e = e
allowed-earlier j (suc k) h e = earlier-at j (rate_of j k) h e

-- With the bus free no later, it is free again no later.
pub bus_free-mono : (j : Job) (x : ℕ) {s t : ℤ} → s ≤ℤ t → bus_free j x s ≤ℤ bus_free j x t
bus_free-mono j zero h = h
bus_free-mono j (suc k) h = mono_at j (rate_of j k) h

later-at : (j : Job) (o : Option Rate) (t : ℤ) → t ≤ℤ free_at j o t
later-at j none t = omega signed
later-at j (some r) t =
    omega (signed, max-is j.ready t, add_is (start_at j t) (pos r.takes), add_is (finish_at j r t) (pos rest))

-- No pick frees the bus earlier than it was free.
pub bus_free-later : (j : Job) (x : ℕ) (t : ℤ) → t ≤ℤ bus_free j x t
bus_free-later j zero t = omega signed
bus_free-later j (suc k) t = later-at j (rate_of j k) t

-- A kept job starts when it is ready and the bus is free, or later; a rest after its finish the bus is free again.
pub kept-rests : (j : Job) (k : ℕ) (t : ℤ) {r : Rate} → rate_of j k ≡ some r
    → (j.ready ≤ℤ start_of j (suc k) t) × (t ≤ℤ start_of j (suc k) t)
    × (bus_free j (suc k) t ≡ (start_of j (suc k) t +ℤ pos r.takes) +ℤ pos rest)
kept-rests j k t e = (omega (signed, max-is j.ready t), omega (signed, max-is j.ready t), rw e)

-- ---- a move: when there is one, and where it leads

-- A pick moves p to q: it is allowed, and q has the bus-free time and the weight after it.
pub record Moved (j : Job) (x : ℕ) (p q : Point) : Type 0 where
  pub may : allowed j x p.time ≡ true
  pub free : q.time ≡ bus_free j x p.time
  pub sum : q.weight ≡ p.weight + gain_of j x

-- Where a pick leads that is allowed.
abbrev pub move_to : Job → ℕ → Point → Point
move_to j x p = record { time = bus_free j x p.time; weight = p.weight + gain_of j x }

-- An allowed pick moves, any other does not.
pub move-allowed : (j : Job) (x : ℕ) (p : Point) → allowed j x p.time ≡ true → move j x p ≡ some (move_to j x p)
move-allowed j x p e = rw e

pub move-refused : (j : Job) (x : ℕ) (p : Point) → allowed j x p.time ≡ false → move j x p ≡ none
move-refused j x p e = rw e

-- Points with the same time and weight are the same.
pub point-path : {p q : Point} → p.time ≡ q.time → p.weight ≡ q.weight → p ≡ q
point-path s w = λ i. record { time = s i; weight = w i }

-- What a move says, and back.
pub moved : (j : Job) (x : ℕ) (p : Point) {q : Point} → move j x p ≡ some q → Moved j x p q
moved j x p {q} e = go (allowed j x p.time) refl
  where
    go : (b : Bool) → allowed j x p.time ≡ b → Moved j x p q
    go true a =
        let to : move_to j x p ≡ q = cc (move-allowed j x p a) in
        record { may = a; free = ap (λ (r : Point). r.time) (sym to); sum = ap (λ (r : Point). r.weight) (sym to) }
    go false a = absurd (none-ne-some q (sym (move-refused j x p a) ∙ e))

pub moves : (j : Job) (x : ℕ) (p : Point) {q : Point} → Moved j x p q → move j x p ≡ some q
moves j x p m = move-allowed j x p m.may ∙ ap {B = Option Point} some (point-path (sym m.free) (sym m.sum))

-- Left out, a point stays where it is, and the job is not critical.
pub left-out-moves : (j : Job) (p : Point) → j.critical ≡ false → move j 0 p ≡ some p
left-out-moves j p c = moves j 0 p (record { may = ap not c; free = refl; sum = omega arith })

pub moves-left-out : (j : Job) (p q : Point) → move j 0 p ≡ some q → (j.critical ≡ false) × (q ≡ p)
moves-left-out j p q e =
    let m = moved j 0 p e in
    (go j.critical m.may, point-path m.free (omega (arith, m.sum)))
  where
    go : (c : Bool) → not c ≡ true → c ≡ false
    go true a = absurd (false≢true a)
    go false a = refl

-- Kept at a rate, it moves exactly when the job starts by its last start: it waits until the job is ready, and is then later
-- by the rate's seconds and a rest, and heavier by what the rate counts.
abbrev pub kept_to : Job → Rate → Point → Point
kept_to j r p = record { time = finish_at j r p.time +ℤ pos rest; weight = p.weight + r.gain }

module _ (j : Job) (k : ℕ) (r : Rate) (is : rate_of j k ≡ some r) (p : Point) where
  pub kept-moves : start_at j p.time ≤ℤ (j.deadline -ℤ pos r.takes) → move j (suc k) p ≡ some (kept_to j r p)
  kept-moves h = moves j (suc k) p (record { may = may; free = rw is; sum = rw is })
    where
      may : allowed j (suc k) p.time ≡ true
      may = rw is (omega (signed, sub_is j.deadline (pos r.takes), add_is (start_at j p.time) (pos r.takes)))

  pub moves-kept : (q : Point) → move j (suc k) p ≡ some q
      → (start_at j p.time ≤ℤ (j.deadline -ℤ pos r.takes)) × (q ≡ kept_to j r p)
  moves-kept q e = (in-time, point-path free sum)
    where
      m : Moved j (suc k) p q
      m = moved j (suc k) p e

      may : allowed_at j (some r) p.time ≡ true
      may = rw is at m.may

      in-time : start_at j p.time ≤ℤ (j.deadline -ℤ pos r.takes)
      in-time =
          let allowed-so = may in
          omega (signed, sub_is j.deadline (pos r.takes), add_is (start_at j p.time) (pos r.takes))

      free : q.time ≡ free_at j (some r) p.time
      free = m.free ∙ ap (λ (o : Option Rate). free_at j o p.time) is

      sum : q.weight ≡ p.weight + r.gain
      sum = m.sum ∙ ap (λ (o : Option Rate). p.weight + gain_at o) is

-- A move of an easier job, or of the same, from a point that covers another leads to a point that covers where the other leads.
pub easier-move : {new old : Job} → EasierJob NoLower new old → (x : ℕ) (p r : Point) {r' : Point} → Covers p r
    → move old x r ≡ some r' → (q : Point) × (move new x p ≡ some q) × Covers q r'
easier-move {new} {old} e x p r {r'} h m =
    let was = moved old x r m in (
      move_to new x p,
      move-allowed new x p (easier-allowed e h.soon x was.may),
      record {
        soon = omega (signed, easier-free e h.soon x, was.free);
        heavy = omega (arith, h.heavy, was.sum, easier-gain e x);
      },
    )

-- A move from a point that covers another leads to a point that covers where the other leads.
pub move-monotone : (j : Job) (x : ℕ) (p r : Point) {r' : Point} → Covers p r → move j x r ≡ some r'
    → (q : Point) × (move j x p ≡ some q) × Covers q r'
move-monotone j x p r h e = easier-move (no-lower-job j j (same-job j)) x p r h e

-- ---- backwards: the latest time at which the bus may be free, for a pick to leave it free by a given time

-- The last start at a rate: the finish is by the deadline, and a rest before the given time.
abbrev pub last_start : Job → Rate → ℤ → ℤ
last_start j r by = min_z j.deadline (by -ℤ pos rest) -ℤ pos r.takes

-- There is one if the job is ready by then.
abbrev pub latest_at : Job → Option Rate → ℤ → Option ℤ
latest_at j none by = none
latest_at j (some r) by =
    let e = last_start j r by in
    cond (le_z j.ready e) (some e) none

-- Left out, the bus must be free by that time already.
abbrev pub latest_before : Job → ℕ → ℤ → Option ℤ
latest_before j zero by = cond j.critical none (some by)
latest_before j (suc k) by = latest_at j (rate_of j k) by

-- A kept job ends in time exactly when it starts by its last start.
starts-in-time : (j : Job) (r : Rate) (t by : ℤ)
    → ((allowed_at j (some r) t ≡ true) × (free_at j (some r) t ≤ℤ by)) ↔ start_at j t ≤ℤ last_start j r by
starts-in-time j r t by =
    omega (
      signed,
      add_is (start_at j t) (pos r.takes),
      add_is (finish_at j r t) (pos rest),
      sub_is by (pos rest),
      min-is j.deadline (by -ℤ pos rest),
      sub_is (min_z j.deadline (by -ℤ pos rest)) (pos r.takes),
    )

-- A job starts by a time when it is ready by then and the bus is free by then.
start-by : (j : Job) (t e : ℤ) → start_at j t ≤ℤ e ↔ ((j.ready ≤ℤ e) × (t ≤ℤ e))
start-by j t e = omega (signed, max-is j.ready t)

latest-at : (j : Job) (o : Option Rate) (t by : ℤ) → allowed_at j o t ≡ true → free_at j o t ≤ℤ by
    → (e : ℤ) × (latest_at j o by ≡ some e) × (t ≤ℤ e)
latest-at j none t by a h = absurd (false≢true a)
latest-at j (some r) t by a h =
    let e = last_start j r by in
    let d = (start-by j t e).0 ((starts-in-time j r t by).0 (a, h)) in
    let test : le_z j.ready e ≡ true = omega (signed, d.0) in
    (e, rw test, d.1)

latest-at-back : (j : Job) (o : Option Rate) (t by : ℤ) {e : ℤ} → latest_at j o by ≡ some e → t ≤ℤ e
    → (allowed_at j o t ≡ true) × (free_at j o t ≤ℤ by)
latest-at-back j none t by d h = absurd (none-ne-some _ d)
latest-at-back j (some r) t by {e} d h = go (le_z j.ready (last_start j r by)) refl
  where
    go : (b : Bool) → le_z j.ready (last_start j r by) ≡ b → (allowed_at j (some r) t ≡ true) × (free_at j (some r) t ≤ℤ by)
    go true a =
        let same : last_start j r by ≡ e = cc in
        (starts-in-time j r t by).1 ((start-by j t (last_start j r by)).1 (omega signed))
    go false a = absurd (none-ne-some e (cc))

left-out-before : (b : Bool) (by : ℤ) → not b ≡ true → cond b none (some by) ≡ some by
left-out-before true by a = absurd (false≢true a)
left-out-before false by a = refl

-- A pick that is allowed and leaves the bus free by a time has a latest time before it, which is no earlier;
pub latest-before : (j : Job) (x : ℕ) (t by : ℤ) → allowed j x t ≡ true → bus_free j x t ≤ℤ by
    → (e : ℤ) × (latest_before j x by ≡ some e) × (t ≤ℤ e)
latest-before j zero t by a h = (by, left-out-before j.critical by a, h)
latest-before j (suc k) t by a h = latest-at j (rate_of j k) t by a h

-- and from every time up to the latest the pick is allowed and leaves the bus free in time.
pub latest-allows : (j : Job) (x : ℕ) (t by : ℤ) {e : ℤ} → latest_before j x by ≡ some e → t ≤ℤ e
    → (allowed j x t ≡ true) × (bus_free j x t ≤ℤ by)
latest-allows j zero t by {e} d h = go j.critical refl
  where
    go : (b : Bool) → j.critical ≡ b → (not j.critical ≡ true) × (t ≤ℤ by)
    go true c = absurd (none-ne-some e (cc))
    go false c = let same : by ≡ e = cc in (ap not c, omega signed)
latest-allows j (suc k) t by d h = latest-at-back j (rate_of j k) t by d h

-- ---- the picks that stand in a job's list

up-to-has : (from k n : ℕ) → k ≤ n → Memᴰ (from + k) (up_to from n)
up-to-has from zero zero h = Memᴰ.head (add-zero from)
up-to-has from zero (suc n) h = Memᴰ.head (add-zero from)
up-to-has from (suc k) zero h = absurd (omega arith)
up-to-has from (suc k) (suc n) h = Memᴰ.tail (Memᴰ.cast (omega arith) (up-to-has (suc from) k n (omega arith)))

has-rate : (j : Job) (rs : List Rate) (k : ℕ) (t : ℤ) → allowed_at j (get_elem? rs k) t ≡ true → k < length rs
has-rate j [] k t a = absurd (false≢true a)
has-rate j (r ∷ rs) zero t a = omega arith
has-rate j (r ∷ rs) (suc k) t a = let h = has-rate j rs k t a in omega arith

-- A pick beyond the rates is not allowed.
pub pick-bounded : (j : Job) (x : ℕ) (t : ℤ) → allowed j x t ≡ true → x ≤ length j.rates
pick-bounded j zero t a = omega arith
pick-bounded j (suc k) t a = has-rate j j.rates k t a

-- An allowed pick is one of the job's picks.
pub pick-listed : (j : Job) (x : ℕ) (t : ℤ) → allowed j x t ≡ true → Memᴰ x (picks j)
pick-listed j x t a = Memᴰ.cast (omega arith) (up-to-has 0 x (length j.rates) (pick-bounded j x t a))

-- ---- jobs within the limits

gain-at-light : (w : ℕ) (o : Option Rate) → ((r : Rate) → o ≡ some r → RateWithin w r) → gain_at o ≤ w
gain-at-light w none h = omega arith
gain-at-light w (some r) h = (h r refl).light

-- A pick counts at most the job's weight,
pub gain-light : (j : Job) (x : ℕ) → JobWithin j → gain_of j x ≤ j.weight
gain-light j zero w = omega arith
gain-light j (suc k) w = gain-at-light j.weight (rate_of j k) (w.rates k)

-- of which a critical job has none;
pub gain-critical : (j : Job) (x : ℕ) → JobWithin j → j.critical ≡ true → gain_of j x ≡ 0
gain-critical j x w c = omega (arith, gain-light j x w, w.weightless c)

-- what it does not count, it loses.
pub gain-and-loss : (j : Job) (x : ℕ) → JobWithin j → gain_of j x + loss_of j x ≡ j.weight
gain-and-loss j x w = omega (arith, gain-light j x w)

-- A job of the rules counts its whole weight at its one rate.
pub one-rate-whole : (n : ℕ) (c : Bool) (w : ℕ) (ready : ℤ) (l : ℕ) (d : ℤ) (k : ℕ) (r : Rate)
    → rate_of (one_rate n c w ready l d) k ≡ some r → r.gain ≡ w
one-rate-whole n c w ready l d zero r e = ap (λ (q : Rate). q.gain) (sym (some-injective _ _ e))
one-rate-whole n c w ready l d (suc k) r e = absurd (none-ne-some r e)

-- Only a job that is not critical may be left out, and then it loses its weight; kept at a rate that counts its whole weight it
-- loses none.
pub left-out-loses : (j : Job) (t : ℤ) → allowed j 0 t ≡ true → (j.critical ≡ false) × (loss_of j 0 ≡ j.weight)
left-out-loses j t a = (not-true j.critical a, omega arith)

pub kept-loses-none : (j : Job) (k : ℕ) (t : ℤ) → ((r : Rate) → rate_of j k ≡ some r → r.gain ≡ j.weight)
    → allowed j (suc k) t ≡ true → loss_of j (suc k) ≡ 0
kept-loses-none j k t full a = go (rate_of j k) refl a
  where
    go : (o : Option Rate) → rate_of j k ≡ o → allowed_at j o t ≡ true → j.weight - gain_at (rate_of j k) ≡ 0
    go none e a = absurd (false≢true a)
    go (some r) e a = rw e (omega (arith, full r e))

-- A bus-free time in range stays in range.
pub bus_free-in-range : (j : Job) (x : ℕ) (t : ℤ) → JobWithin j → allowed j x t ≡ true → InFree t → InFree (bus_free j x t)
bus_free-in-range j zero t w a h = h
bus_free-in-range j (suc k) t w a h = go (rate_of j k) a
  where
    go : (o : Option Rate) → allowed_at j o t ≡ true → InFree (free_at j o t)
    go none a = absurd (false≢true a)
    go (some r) a = omega (signed, later-at j (some r) t, add_is (finish_at j r t) (pos rest), w.deadline.high)

-- ---- a job set later, and the bus free as much later: every pick does the same as much later

max_later : (x y d : ℤ) → max_z (x +ℤ d) (y +ℤ d) ≡ max_z x y +ℤ d
max_later x y d =
    omega (signed, max-is (x +ℤ d) (y +ℤ d), max-is x y, add_is x d, add_is y d, add_is (max_z x y) d)

sum-later : (x d y : ℤ) → (x +ℤ d) +ℤ y ≡ (x +ℤ y) +ℤ d
sum-later x d y = omega (signed, add_is x d, add_is (x +ℤ d) y, add_is x y, add_is (x +ℤ y) d)

test-later : (x y d : ℤ) → le_z (x +ℤ d) (y +ℤ d) ≡ le_z x y
test-later x y d = same_test (le_z (x +ℤ d) (y +ℤ d)) (le_z x y) (omega (signed, add_is x d, add_is y d))

module _ (d : ℤ) (n : ℕ) (j : Job) where
  finish-at-later : (r : Rate) (t : ℤ) → finish_at (later d n j) r (t +ℤ d) ≡ finish_at j r t +ℤ d
  finish-at-later r t =
      ap (λ (s : ℤ). s +ℤ pos r.takes) (max_later j.ready t d) ∙ sum-later (start_at j t) d (pos r.takes)

  allowed-at-later : (o : Option Rate) (t : ℤ) → allowed_at (later d n j) o (t +ℤ d) ≡ allowed_at j o t
  allowed-at-later none t = refl
  allowed-at-later (some r) t =
      ap (λ (f : ℤ). le_z f (j.deadline +ℤ d)) (finish-at-later r t) ∙ test-later (finish_at j r t) j.deadline d

  free-at-later : (o : Option Rate) (t : ℤ) → free_at (later d n j) o (t +ℤ d) ≡ free_at j o t +ℤ d
  free-at-later none t = refl
  free-at-later (some r) t =
      ap (λ (f : ℤ). f +ℤ pos rest) (finish-at-later r t) ∙ sum-later (finish_at j r t) d (pos rest)

  -- It is allowed where it was allowed,
  pub later-allowed : (x : ℕ) (t : ℤ) → allowed (later d n j) x (t +ℤ d) ≡ allowed j x t
  later-allowed zero t = refl
  later-allowed (suc k) t = allowed-at-later (rate_of j k) t

  -- it leaves the bus free as much later,
  pub later-free : (x : ℕ) (t : ℤ) → bus_free (later d n j) x (t +ℤ d) ≡ bus_free j x t +ℤ d
  later-free zero t = refl
  later-free (suc k) t = free-at-later (rate_of j k) t

  -- and it counts the same weight.
  pub later-gain : (x : ℕ) → gain_of (later d n j) x ≡ gain_of j x
  later-gain zero = refl
  later-gain (suc k) = refl

-- ---- a job that is not ready before a time s, with the bus free at s or before: a kept job waits until it is ready

module _ (j : Job) {s t : ℤ} (ready : s ≤ℤ j.ready) (h : t ≤ℤ s) where
  start-waits : start_at j t ≡ start_at j s
  start-waits = omega (signed, max-is j.ready t, max-is j.ready s)

  allowed-at-waits : (o : Option Rate) → allowed_at j o t ≡ allowed_at j o s
  allowed-at-waits none = refl
  allowed-at-waits (some r) = ap (λ (z : ℤ). le_z (z +ℤ pos r.takes) j.deadline) start-waits

  free-at-waits : (o : Option Rate) → (free_at j o t ≡ free_at j o s) ⊎ ((free_at j o t ≡ t) × (free_at j o s ≡ s))
  free-at-waits none = inr (refl, refl)
  free-at-waits (some r) = inl (ap (λ (z : ℤ). (z +ℤ pos r.takes) +ℤ pos rest) start-waits)

  -- A pick is allowed from both or from neither,
  pub waits-allowed : (x : ℕ) → allowed j x t ≡ allowed j x s
  waits-allowed zero = refl
  waits-allowed (suc k) = allowed-at-waits (rate_of j k)

  -- and leaves the bus free at the same time, or when it was.
  pub waits-free : (x : ℕ) → (bus_free j x t ≡ bus_free j x s) ⊎ ((bus_free j x t ≡ t) × (bus_free j x s ≡ s))
  waits-free zero = inr (refl, refl)
  waits-free (suc k) = free-at-waits (rate_of j k)

-- ---- a job whose deadline and rest are past by a time F, with the bus free by F

-- An allowed pick leaves the bus free by F again.
pub free-by : (j : Job) (x : ℕ) {t F : ℤ} → (j.deadline +ℤ pos rest) ≤ℤ F → t ≤ℤ F → allowed j x t ≡ true
    → bus_free j x t ≤ℤ F
free-by j zero until h a = h
free-by j (suc k) {t} {F} until h a = go (rate_of j k) a
  where
    go : (o : Option Rate) → allowed_at j o t ≡ true → free_at j o t ≤ℤ F
    go none a = absurd (false≢true a)
    go (some r) a = omega (signed, until, add_is (finish_at j r t) (pos rest), add_is j.deadline (pos rest))
