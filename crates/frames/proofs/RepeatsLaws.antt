-- The repeats of a frame: which they are, that their sequence is the only one of them, how many there are, and their weight.
use Prim.Native.Nat.{ℕ, zero, suc, ◌+◌, ◌*◌, ◌-◌, ◌≤◌, ◌<◌}
use Rattle.std.specs.Prelude.{◌≡◌, ◌↔◌, ltb, ℤ}
use Rattle.std.proofs.Math.Path.{refl, ap, ap₂}
use Rattle.std.proofs.Common.{sym, ◌∙◌, suc-mul, add_comm, mul-le-mul_right, lt_of_mul-lt-mul_right}
use Rattle.std.proofs.Math.Logic.{⊎_elim}
use mathlib.Core.List.{List, ◌++◌, Memᴰ}
use mathlib.Core.List.{[], ◌∷◌}
use Rattle.std.proofs.Math.Nat.{eq_of_mul-eq-mul_right, div-eq_of_eq-mul_left}
use native.Mathlib.Omega.{arith}
use borrow.Author.Tests.{ltb-true, ltb-false}
use borrow.Table.Steps.{cases}
use Rattle.multiples.specs.Multiples.{Multiple, AllPositive}
use Rattle.multiples.specs.MultiplesLaws.{common-multiple, common-least}
use Rattle.packed.specs.Places.{each_of, each, flat}
use Rattle.frames.specs.Frames.{Repeat, jobs_given, phase_at, period_at, frame_of, repeat_of, times_at, repeats_at, repeats_of}
use Rattle.frames.specs.Frames.{sorted, sequence_of}
use Rattle.frames.proofs.SequenceLaws.{Sorted, sorted-one, Unlike, empty, unlike, sorted-members, sorted-sorts}
use Rattle.frames.proofs.SequenceLaws.{tally, sorted-tally, tally-append}
use Rattle.frames.specs.Facts.{GivenFine}
use Rattle.frames.proofs.GivenLaws.{Counted, counted}

-- ---- one for each place, and their members

module _ {A : Type 0} (f : ℕ → A) where
  in-each-of : (at m k : ℕ) → k < m → Memᴰ (f (at + k)) (each_of f at m)
  in-each-of at zero k h = absurd (omega arith)
  in-each-of at (suc m) zero h = let e : at + 0 ≡ at = omega arith in mathlib.Core.List.Memᴰ.head (ap f e)
  in-each-of at (suc m) (suc k) h =
      let e : at + suc k ≡ suc at + k = omega arith in
      mathlib.Core.List.Memᴰ.tail (mathlib.Core.List.Memᴰ.cast (ap f e) (in-each-of (suc at) m k (omega arith)))

  of-each-of : (at m : ℕ) {a : A} → Memᴰ a (each_of f at m) → (k : ℕ) × (at ≤ k) × (k < at + m) × (a ≡ f k)
  of-each-of at zero h = absurd (mathlib.Core.List.Memᴰ.not-nil h)
  of-each-of at (suc m) (mathlib.Core.List.Memᴰ.head e) = (at, omega arith, omega arith, e)
  of-each-of at (suc m) (mathlib.Core.List.Memᴰ.tail h) =
      let r = of-each-of (suc at) m h in
      (r.0, omega (arith, r.1), omega (arith, r.2), r.3)

  pub in-each : (n k : ℕ) → k < n → Memᴰ (f k) (each f 0 n)
  unfolding each
  in-each n k h = let e : k ≡ 0 + k = omega arith in mathlib.Core.List.Memᴰ.cast (ap f e) (in-each-of 0 (n - 0) k (omega arith))

  pub of-each : (n : ℕ) {a : A} → Memᴰ a (each f 0 n) → (k : ℕ) × (k < n) × (a ≡ f k)
  unfolding each
  of-each n h = let r = of-each-of 0 (n - 0) h in (r.0, omega (arith, r.2), r.3)

module _ {A : Type 0} (f : ℕ → List A) where
  in-flat : (n p : ℕ) → p < n → {a : A} → Memᴰ a (f p) → Memᴰ a (flat f n)
  unfolding flat
  in-flat zero p h m = absurd (omega arith)
  in-flat (suc n) p h {a} m = cases (ltb p n)
      (λ e. mathlib.Core.List.Memᴰ.append_left (f n) (in-flat n p (ltb-true p n e) m))
      (λ e. let last : p ≡ n = omega (arith, ltb-false p n e) in mathlib.Core.List.Memᴰ.append_right (flat f n) (rw last at m))

  of-flat : (n : ℕ) {a : A} → Memᴰ a (flat f n) → (p : ℕ) × (p < n) × Memᴰ a (f p)
  unfolding flat
  of-flat zero m = absurd (mathlib.Core.List.Memᴰ.not-nil m)
  of-flat (suc n) {a} m =
      ⊎_elim (λ (h : Memᴰ a (flat f n)). let r = of-flat n h in (r.0, omega (arith, r.1), r.2))
      (λ (h : Memᴰ a (f n)). (n, omega arith, h))
      (mathlib.Core.List.Memᴰ.append_cases (flat f n) m)

-- ---- the frame

module _ {zs : List ℤ} (g : GivenFine zs) where
  -- The numbers of the job at a place, as counts.
  pub at-place : (p : ℕ) → p < jobs_given zs → Counted zs p
  at-place p h = counted zs p (g.repeat p h)

  all-run : AllPositive (each (period_at zs) 0 (jobs_given zs))
  all-run d m = let r = of-each (period_at zs) (jobs_given zs) m in rw r.2 (at-place r.0 r.1).runs

  -- The frame is a multiple of every period,
  pub frame-multiple : (p : ℕ) → p < jobs_given zs → Multiple (period_at zs p) (frame_of zs)
  unfolding frame_of
  frame-multiple p h =
      common-multiple (each (period_at zs) 0 (jobs_given zs)) (period_at zs p) (in-each (period_at zs) (jobs_given zs) p h)

  -- and every number that is a multiple of every period is a multiple of it.
  pub frame-least : (m : ℕ) → ((p : ℕ) → p < jobs_given zs → Multiple (period_at zs p) m) → Multiple (frame_of zs) m
  unfolding frame_of
  frame-least m all =
      common-least (each (period_at zs) 0 (jobs_given zs)) all-run m
      (λ d l. let r = of-each (period_at zs) (jobs_given zs) l in rw r.2 (all r.0 r.1))

  -- So the period of each job fits in it a whole number of times.
  pub frame-whole : (p : ℕ) → p < jobs_given zs → frame_of zs ≡ times_at zs p * period_at zs p
  frame-whole p h =
      let q = frame-multiple p h in
      let times : times_at zs p ≡ q.0 = div-eq_of_eq-mul_left (at-place p h).runs q.1 in
      q.1 ∙ ap (λ (t : ℕ). t * period_at zs p) (sym times)

  -- The period of a repeat ends within the frame.
  pub period-inside : (p m : ℕ) → p < jobs_given zs → m < times_at zs p → m * period_at zs p + period_at zs p ≤ frame_of zs
  period-inside p m h l = rw (frame-whole p h, ← suc-mul m (period_at zs p)) (mul-le-mul_right (period_at zs p) l)

-- ---- which repeats there are

-- A job that was given is ready at its phase + a multiple of its period, below the frame.
pub record IsRepeat (zs : List ℤ) (a : Repeat) : Type 0 where
  pub there : a.place < jobs_given zs
  pub times : ℕ
  pub ready : a.ready ≡ phase_at zs a.place + times * period_at zs a.place
  pub inside : a.ready < frame_of zs

module _ {zs : List ℤ} (g : GivenFine zs) where
  -- Its multiple is below the periods in the frame.
  pub few-times : (a : Repeat) (i : IsRepeat zs a) → i.times < times_at zs a.place
  few-times a i =
      let p : ℕ = a.place in
      let begins : i.times * period_at zs p < times_at zs p * period_at zs p =
      rw (← frame-whole g p i.there) (omega (arith, i.ready, i.inside)) in
      lt_of_mul-lt-mul_right (period_at zs p) begins

  pub repeat-is : (a : Repeat) → Memᴰ a (repeats_of zs) ↔ IsRepeat zs a
  unfolding repeats_of
  repeat-is a = (there, back)
    where
      there : Memᴰ a (flat (repeats_at zs) (jobs_given zs)) → IsRepeat zs a
      there m =
          let r = of-flat (repeats_at zs) (jobs_given zs) m in
          let p : ℕ = r.0 in
          let s = of-each (repeat_of zs p) (times_at zs p) r.2 in
          let c = at-place g p r.1 in
          let ends = period-inside g p s.0 r.1 s.1 in
          rw s.2 (record { there = r.1; times = s.0; ready = refl; inside = omega (arith, c.timely, c.due) })

      back : IsRepeat zs a → Memᴰ a (flat (repeats_at zs) (jobs_given zs))
      back i =
          let p : ℕ = a.place in
          let same : a ≡ repeat_of zs p i.times = λ k. record { place = p; ready = i.ready k } in
          in-flat (repeats_at zs) (jobs_given zs) p i.there
          (mathlib.Core.List.Memᴰ.cast same (in-each (repeat_of zs p) (times_at zs p) i.times (few-times a i)))

  -- ---- their sequence

  unlike-each : (p at m : ℕ) → 1 ≤ period_at zs p → Unlike (each_of (repeat_of zs p) at m)
  unlike-each p at zero h = empty
  unlike-each p at (suc m) h = unlike new (unlike-each p (suc at) m h)
    where
      new : ¬ Memᴰ (repeat_of zs p at) (each_of (repeat_of zs p) (suc at) m)
      new l =
          let r = of-each-of (repeat_of zs p) (suc at) m l in
          let e : phase_at zs p + at * period_at zs p ≡ phase_at zs p + r.0 * period_at zs p = ap (λ (a : Repeat). a.ready) r.3 in
          let same : at ≡ r.0 = eq_of_mul-eq-mul_right (period_at zs p) h at r.0 (omega arith) in
          omega (arith, r.1)

  unlike-append : (l m : List Repeat) → Unlike l → Unlike m → ((a : Repeat) → Memᴰ a l → ¬ Memᴰ a m) → Unlike (l ++ m)
  unlike-append [] m u v apart = v
  unlike-append (a ∷ l) m (unlike new u) v apart =
      unlike (λ h. ⊎_elim new (apart a (mathlib.Core.List.Memᴰ.head refl)) (mathlib.Core.List.Memᴰ.append_cases l h))
      (unlike-append l m u v (λ b h. apart b (mathlib.Core.List.Memᴰ.tail h)))

  unlike-flat : (n : ℕ) → n ≤ jobs_given zs → Unlike (flat (repeats_at zs) n)
  unfolding flat each
  unlike-flat zero h = empty
  unlike-flat (suc n) h =
      unlike-append (flat (repeats_at zs) n) (repeats_at zs n) (unlike-flat n (omega arith))
      (unlike-each n 0 (times_at zs n - 0) (at-place g n (omega arith)).runs) apart
    where
      apart : (a : Repeat) → Memᴰ a (flat (repeats_at zs) n) → ¬ Memᴰ a (repeats_at zs n)
      apart a l m =
          let r = of-flat (repeats_at zs) n l in
          let s = of-each (repeat_of zs r.0) (times_at zs r.0) r.2 in
          let t = of-each (repeat_of zs n) (times_at zs n) m in
          let place : Repeat → ℕ = λ b. b.place in
          let same : r.0 ≡ n = ap place (sym s.2 ∙ t.2) in
          omega (arith, r.1)

  -- Each repeat once, sorted by ready time and then by the place given.
  pub record InSequence (l : List Repeat) : Type 0 where
    pub sorted : Sorted l
    pub repeats : (a : Repeat) → Memᴰ a l ↔ IsRepeat zs a

  -- The sequence is such a list,
  pub sequence-is : InSequence (sequence_of zs)
  sequence-is =
      record {
        sorted = unfold sequence_of in sorted-sorts (repeats_of zs) (unfold repeats_of in unlike-flat (jobs_given zs) (omega arith));
        repeats = λ a.
            let same : Memᴰ a (sequence_of zs) ↔ Memᴰ a (repeats_of zs) = unfold sequence_of in sorted-members (repeats_of zs) a in
            (λ m. (repeat-is a).0 (same.0 m), λ i. same.1 ((repeat-is a).1 i));
      }

  -- and there is no other.
  pub sequence-one : (l : List Repeat) → InSequence l → l ≡ sequence_of zs
  sequence-one l s =
      let t = sequence-is in
      sorted-one l (sequence_of zs) s.sorted t.sorted
      (λ a. (λ m. (t.repeats a).1 ((s.repeats a).0 m), λ m. (s.repeats a).1 ((t.repeats a).0 m)))

-- ---- sums over them

-- A number for each of the first n places, added up.
abbrev pub total : (ℕ → ℕ) → ℕ → ℕ
total f zero = 0
total f (suc n) = total f n + f n

module _ (zs : List ℤ) (g : ℕ → ℕ) where
  -- A number for each repeat, by the place of its job.
  abbrev by_place : Repeat → ℕ
  by_place a = g a.place

  tally-each : (p at m : ℕ) → tally by_place (each_of (repeat_of zs p) at m) ≡ m * g p
  tally-each p at zero = omega arith
  tally-each p at (suc m) =
      ap (λ (n : ℕ). g p + n) (tally-each p (suc at) m) ∙ add_comm (g p) (m * g p) ∙ sym (suc-mul m (g p))

  tally-flat : (n : ℕ) → tally by_place (flat (repeats_at zs) n) ≡ total (λ p. times_at zs p * g p) n
  unfolding flat each
  tally-flat zero = refl
  tally-flat (suc n) =
      let last : tally by_place (repeats_at zs n) ≡ times_at zs n * g n = tally-each n 0 (times_at zs n - 0) ∙ ap (λ t. t * g n) (omega arith) in
      tally-append by_place (flat (repeats_at zs) n) (repeats_at zs n) ∙ ap₂ ◌+◌ (tally-flat n) last

  -- Added up over the sequence it is, for each job, as often its number as the job repeats.
  pub sequence-tally : tally by_place (sequence_of zs) ≡ total (λ p. times_at zs p * g p) (jobs_given zs)
  unfolding sequence_of repeats_of
  sequence-tally = sorted-tally by_place (repeats_of zs) ∙ tally-flat (jobs_given zs)
