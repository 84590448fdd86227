-- What the test of a legal plan says: one start against the job's own move, and a whole plan against its choice.
use Rattle.std.specs.Prelude.{ℕ, zero, suc, ◌<◌, ◌≤◌, ◌≡◌, refl, Bool, true, false, not, ◌&&◌, List, [], ◌∷◌, eqb, ℤ, pos, ◌+ℤ◌, ◌≤ℤ◌, length}
use Rattle.std.proofs.Common.{sym, ap, ap₂, arith}
use Rattle.std.proofs.Math.Bool.{and-eq-true_iff}
use Rattle.std.proofs.lemmas.Bool.{false≢true}
use Rattle.std.proofs.Math.Option.{some, some-injective, none-ne-some}
use Rattle.std.specs.Int.Signed.{le_z}
use Rattle.std.proofs.Math.ListN.{get_elem?}
use Rattle.seconds.specs.Limits.{rest}
use Rattle.seconds.specs.Signed.{signed, add_is, max-is}
use Rattle.order.specs.Job.{Rate, Job, first_takes, length_of, start_at, allowed, bus_free}
use Rattle.order.specs.Choice.{Choice, feasible, finish, starts}
use Rattle.order.proofs.OneRate.{Marks}
use Rattle.order.proofs.Moves.{pick-holds, holds-pick, kept-rests}
use Rattle.legal.specs.Legal.{end_of, kept_jobs, start_legal, legal_from, pick_of, choice_of, kept_of, kept_starts, ends_at}

-- Jobs that have a rate.
abbrev pub Rated : List Job → Type 0
Rated [] = Unit {0}
Rated (j ∷ js) = (0 < length j.rates) × Rated js

pub both : (a b : Bool) → (a && b) ≡ true → (a ≡ true) × (b ≡ true)
both a b e = (and-eq-true_iff a b).0 e

-- What the test of one start says.
pub record StartLegal (j : Job) (s free : ℤ) : Type 0 where
  pub free-by : free ≤ℤ s
  pub ready_by : j.ready ≤ℤ s
  pub ends_by : end_of j s ≤ℤ j.deadline

pub start-legal : (j : Job) (s free : ℤ) → start_legal j s free ≡ true → StartLegal j s free
start-legal j s free e =
    let a = both (le_z free s) (le_z j.ready s && le_z (end_of j s) j.deadline) e in
    let b = both (le_z j.ready s) (le_z (end_of j s) j.deadline) a.1 in
    let f = a.0 in
    let r = b.0 in
    let d = b.1 in
    record { free-by = omega signed; ready_by = omega signed; ends_by = omega signed }

pub legal-start : (j : Job) (s free : ℤ) → StartLegal j s free → start_legal j s free ≡ true
legal-start j s free l =
    let f : le_z free s ≡ true = omega (signed, l.free-by) in
    let r : le_z j.ready s ≡ true = omega (signed, l.ready_by) in
    let d : le_z (end_of j s) j.deadline ≡ true = omega (signed, l.ends_by) in
    rw (f, r, d)

-- ---- a legal start and a job's move

-- A legal start is no earlier than the job's own, the pick is allowed, and the bus is free no later.
pub record MovesBy (j : Job) (s free own : ℤ) : Type 0 where
  pub may : allowed j 1 own ≡ true
  pub later : start_at j own ≤ℤ s
  pub frees : bus_free j 1 own ≤ℤ (end_of j s +ℤ pos rest)

-- The first rate takes the job's length,
takes-length : (rs : List Rate) {r : Rate} → get_elem? rs 0 ≡ some r → first_takes rs ≡ r.takes
takes-length [] {r} e = absurd (none-ne-some r e)
takes-length (q ∷ rs) {r} e = ap (λ (x : Rate). x.takes) (some-injective q r e)

-- and is there where the job has a rate.
first-rate : (rs : List Rate) → 0 < length rs → (r : Rate) × (get_elem? rs 0 ≡ some r)
first-rate [] h = absurd (omega arith)
first-rate (r ∷ rs) h = (r, refl)

moves-by : (j : Job) (s free own : ℤ) → 0 < length j.rates → own ≤ℤ free → StartLegal j s free → MovesBy j s free own
moves-by j s free own h early l =
    let r : (q : Rate) × (get_elem? j.rates 0 ≡ some q) = first-rate j.rates h in
    let long : length_of j ≡ r.0.takes = takes-length j.rates r.1 in
    let later : start_at j own ≤ℤ s = omega (signed, l.free-by, l.ready_by, max-is j.ready own) in
    let ends : (s +ℤ pos r.0.takes) ≤ℤ j.deadline = rw long at l.ends_by in
    let sums = add_is (start_at j own) (pos r.0.takes) in
    record {
      may = holds-pick j 1 own
          (record {
            critical = λ c e. omega arith;
            kept = λ n. (r.0, r.1, omega (signed, ends, sums, add_is s (pos r.0.takes)));
          });
      later = later;
      frees = rw ((kept-rests j 0 own r.1).2, long)
          (omega (
            signed,
            sums,
            add_is s (pos r.0.takes),
            add_is (start_at j own +ℤ pos r.0.takes) (pos rest),
            add_is (s +ℤ pos r.0.takes) (pos rest),
          ));
    }

-- The job's own start is legal, and the bus is free when the move says.
own-legal : (j : Job) (free : ℤ) → allowed j 1 free ≡ true
    → StartLegal j (start_at j free) free × ((end_of j (start_at j free) +ℤ pos rest) ≡ bus_free j 1 free)
own-legal j free may =
    let held = (pick-holds j 1 free may).kept (λ e. omega arith) in
    let long : length_of j ≡ held.0.takes = takes-length j.rates held.1 in
    let rests = kept-rests j 0 free held.1 in
    (record { free-by = rests.1; ready_by = rests.0; ends_by = rw long held.2 }, rw long (sym rests.2))

-- ---- choices and the jobs that they keep

-- A choice of noughts and ones is told by the jobs that it keeps.
pub choice-kept : (c : Choice) → Marks c → choice_of (kept_of c) ≡ c
choice-kept [] m = refl
choice-kept (x ∷ c) m = ap₂ (λ y d. y ∷ d) (pick x m.0) (choice-kept c m.1)
  where
    pick : (x : ℕ) → x ≤ 1 → pick_of (not (eqb x 0)) ≡ x
    pick zero h = refl
    pick (suc zero) h = refl
    pick (suc (suc x)) h = absurd (omega arith)

-- ---- a whole plan and its choice

-- Each of the first list is no later than its like in the second.
pub data NoLater : List ℤ → List ℤ → Type 0 where
  no_start : NoLater [] []
  no-later : {s t : ℤ} {ss ts : List ℤ} → s ≤ℤ t → NoLater ss ts → NoLater (s ∷ ss) (t ∷ ts)

-- What a legal plan says of its choice, from a bus-free time no later.
pub record Says (js : List Job) (ks : List Bool) (ss : List ℤ) (free own : ℤ) : Type 0 where
  pub may : feasible js (choice_of ks) own ≡ true
  pub starts-later : NoLater (kept_starts ks (starts js (choice_of ks) own)) ss
  pub ends-later : finish js (choice_of ks) own ≤ℤ ends_at (kept_jobs js ks) ss free

pub legal-says : (js : List Job) (ks : List Bool) (ss : List ℤ) (free own : ℤ) → Rated js → own ≤ℤ free
    → legal_from js ks ss free ≡ true → Says js ks ss free own
legal-says [] [] [] free own r h e = record { may = refl; starts-later = no_start; ends-later = h }
legal-says [] [] (s ∷ ss) free own r h e = absurd (false≢true e)
legal-says [] (k ∷ ks) ss free own r h e = absurd (false≢true e)
legal-says (j ∷ js) [] ss free own r h e = absurd (false≢true e)
legal-says (j ∷ js) (false ∷ ks) ss free own r h e =
    let b = both (not j.critical) (legal_from js ks ss free) e in
    let ih = legal-says js ks ss free own r.1 h b.1 in
    record { may = rw b.0 ih.may; starts-later = ih.starts-later; ends-later = ih.ends-later }
legal-says (j ∷ js) (true ∷ ks) [] free own r h e = absurd (false≢true e)
legal-says (j ∷ js) (true ∷ ks) (s ∷ ss) free own r h e =
    let b = both (start_legal j s free) (legal_from js ks ss (end_of j s +ℤ pos rest)) e in
    let m = moves-by j s free own r.0 h (start-legal j s free b.0) in
    let ih = legal-says js ks ss (end_of j s +ℤ pos rest) (bus_free j 1 own) r.1 m.frees b.1 in
    record { may = rw m.may ih.may; starts-later = no-later m.later ih.starts-later; ends-later = ih.ends-later }

-- A feasible choice with its own starts is legal.
pub own-starts-legal : (js : List Job) (ks : List Bool) (free : ℤ) → feasible js (choice_of ks) free ≡ true
    → legal_from js ks (kept_starts ks (starts js (choice_of ks) free)) free ≡ true
own-starts-legal [] [] free e = refl
own-starts-legal [] (k ∷ ks) free e = absurd (false≢true e)
own-starts-legal (j ∷ js) [] free e = absurd (false≢true e)
own-starts-legal (j ∷ js) (false ∷ ks) free e =
    let b = both (not j.critical) (feasible js (choice_of ks) free) e in
    rw b.0 (own-starts-legal js ks free b.1)
own-starts-legal (j ∷ js) (true ∷ ks) free e =
    let b = both (allowed j 1 free) (feasible js (choice_of ks) (bus_free j 1 free)) e in
    let l = own-legal j free b.0 in
    let here : start_legal j (start_at j free) free ≡ true = legal-start j (start_at j free) free l.0 in
    let ih = own-starts-legal js ks (bus_free j 1 free) b.1 in
    rw (here, l.1) ih
