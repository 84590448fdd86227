-- The least of the next ready times is the next repeat of the sequence, and with its job moved on by a period one repeat more is done.
use Rattle.std.specs.Prelude.{ℕ, zero, suc, ◌+◌, ◌*◌, ◌≤◌, ◌<◌, ◌≡◌, refl, ◌≢◌, ltb, eqb, ℤ, length, get_or, take, drop, set}
use Rattle.std.proofs.Common.{sym, ap, ◌∙◌, ⊎_elim, suc-mul, mul-le-mul_right, lt_of_mul-lt-mul_right, arith, length-set, length-take-le, drop-cons, get_or-take, get_or-set_same, get_or-set_other, ltb-true, ltb-false, eqb-true}
use mathlib.Core.List.Memᴰ
use mathlib.Core.List.{List, [], ◌∷◌, Memᴰ}
use Rattle.std.proofs.lemmas.Bool.{eqb-false}
use borrow.Table.Steps.{cases}
use Rattle.frames.specs.Frames.{Repeat, jobs_given, phase_at, period_at, sequence_of, repeat_count, repeat_at}
use Rattle.frames.proofs.SequenceLaws.{Comes, earlier, given, Sorted, leads}
use Rattle.frames.specs.Facts.{GivenFine}
use Rattle.frames.proofs.RepeatsLaws.{at-place, IsRepeat, sequence-is}
use Rattle.picking.specs.Picking.{IsLeast, ReadyAt, Reached}

-- ---- the least of some numbers

-- Of one number it is that.
pub least-alone : (times : List ℕ) → IsLeast times 1 0
least-alone times =
    record {
      there = omega arith;
      least = λ p h. let e : p ≡ 0 = omega arith in rw e (omega arith);
      first = λ p h. absurd (omega arith);
    }

-- One number more: it is less,
pub least-here : (times : List ℕ) (p place : ℕ) → IsLeast times p place → get_or times p 0 < get_or times place 0
    → IsLeast times (p + 1) p
least-here times p place l h =
    record {
      there = omega arith;
      least = λ q b. cases (ltb q p)
          (λ e. omega (arith, l.least q (ltb-true q p e)))
          (λ e. let here : q ≡ p = omega (arith, ltb-false q p e) in rw here (omega arith));
      first = λ q b. omega (arith, l.least q b);
    }

-- or it is not.
pub least_stays : (times : List ℕ) (p place : ℕ) → IsLeast times p place → get_or times place 0 ≤ get_or times p 0
    → IsLeast times (p + 1) place
least_stays times p place l h =
    record {
      there = omega (arith, l.there);
      least = λ q b. cases (ltb q p)
          (λ e. l.least q (ltb-true q p e))
          (λ e. let here : q ≡ p = omega (arith, ltb-false q p e) in rw here h);
      first = l.first;
    }

-- The least of the first n is it in the whole list too.
pub least-front : (times : List ℕ) (n place : ℕ) → n ≤ length times → IsLeast (take n times) (length (take n times)) place → IsLeast times n place
least-front times n place room l =
    let long : length (take n times) ≡ n = length-take-le n times room in
    let at : (p : ℕ) → p < n → get_or (take n times) p 0 ≡ get_or times p 0 = λ p h. get_or-take n times p 0 h in
    let there : place < n = omega (arith, l.there) in
    record {
      there = there;
      least = λ p h. omega (arith, l.least p (omega arith), at place there, at p h);
      first = λ p h. omega (arith, l.first p h, at place there, at p (omega arith));
    }

-- ---- what stands behind a place of a sorted list

drop-sorted : (l : List Repeat) (k : ℕ) → Sorted l → Sorted (drop k l)
drop-sorted l zero s = s
drop-sorted [] (suc k) s = s
drop-sorted (a ∷ l) (suc k) (leads f s) = drop-sorted l k s

drop-in : (l : List Repeat) (k : ℕ) {a : Repeat} → Memᴰ a (drop k l) → Memᴰ a l
drop-in l zero m = m
drop-in [] (suc k) m = m
drop-in (b ∷ l) (suc k) m = Memᴰ.tail (drop-in l k m)

sorted-behind : {a : Repeat} {l : List Repeat} → Sorted (a ∷ l) → (b : Repeat) → Memᴰ b l → Comes a b
sorted-behind (leads f s) = f

-- At first every job is ready next at its phase, and every repeat is left.
pub none_done : {zs : List ℤ} → GivenFine zs → (next : List ℕ) → jobs_given zs ≤ length next
    → ((p : ℕ) → p < jobs_given zs → get_or next p 0 ≡ phase_at zs p) → Reached zs next 0
none_done {zs} g next room h =
    record {
      room = room;
      each = λ p l. record { times = 0; is = h p l ∙ omega arith };
      left = λ a m.
          let i = ((sequence-is g).repeats a).0 m in
          let e = h a.place i.there in
          (λ k. omega (arith, i.ready), λ k. m);
    }

module _ {zs : List ℤ} (g : GivenFine zs) (next : List ℕ) (k place : ℕ) (r : Reached zs next k) (more : k < repeat_count zs)
    (least : IsLeast next (jobs_given zs) place) where
  abbrev now : Repeat
  now = record { place = place; ready = get_or next place 0 }

  abbrev then : Repeat
  then = repeat_at zs k

  abbrev after : List Repeat
  after = drop (suc k) (sequence_of zs)

  left_is : drop k (sequence_of zs) ≡ then ∷ after
  left_is = drop-cons (sequence_of zs) k (record { place = 0; ready = 0 }) more

  then-left : Memᴰ then (drop k (sequence_of zs))
  then-left = rw left_is (Memᴰ.head refl)

  then-in : Memᴰ then (sequence_of zs)
  then-in = drop-in (sequence_of zs) k then-left

  then_is : IsRepeat zs then
  then_is = ((sequence-is g).repeats then).0 then-in

  -- The least of the next ready times is a repeat that is left.
  now-is : IsRepeat zs now
  now-is =
      let t = r.each place least.there in
      record {
        there = least.there;
        times = t.times;
        ready = t.is;
        inside = omega (arith, least.least then.place then_is.there, (r.left then then-in).0 then-left, then_is.inside);
      }

  now-in : Memᴰ now (sequence_of zs)
  now-in = ((sequence-is g).repeats now).1 now-is

  now-left : Memᴰ now (drop k (sequence_of zs))
  now-left = (r.left now now-in).1 (omega arith)

  behind : (a : Repeat) → Memᴰ a after → Comes then a
  behind = sorted-behind (rw left_is at (drop-sorted (sequence_of zs) k (sequence-is g).sorted))

  -- The next of the sequence does not come before it,
  not-before : ¬ Comes then now
  not-before (earlier l) =
      omega (arith, least.least then.place then_is.there, (r.left then then-in).0 then-left)
  not-before (given e l) =
      omega (arith, least.first then.place l, (r.left then then-in).0 then-left)

  -- and so is it.
  pub picked : then ≡ now
  picked =
      ⊎_elim (λ (e : now ≡ then). sym e) (λ (m : Memᴰ now after). absurd (not-before (behind now m)))
      (Memᴰ.cases_cons (rw left_is at now-left))

  -- ---- one repeat more

  abbrev period : ℕ
  period = period_at zs place

  abbrev moved : List ℕ
  moved = set next place (now.ready + period)

  own-time : get_or moved place 0 ≡ now.ready + period
  own-time = get_or-set_same next place (now.ready + period) 0 (omega (arith, least.there, r.room))

  other-time : (p : ℕ) → p ≢ place → get_or moved p 0 ≡ get_or next p 0
  other-time p h = get_or-set_other next place p (now.ready + period) 0 h

  ready-next : (p : ℕ) → p < jobs_given zs → ReadyAt zs p (get_or moved p 0)
  ready-next p h = cases (eqb p place)
      (λ e. let t = r.each place least.there in
      let here : p ≡ place = eqb-true p place e in
      rw here (record {
        times = suc t.times;
        is = own-time ∙ omega (arith, t.is, suc-mul t.times period);
      }))
      (λ e. rw (other-time p (eqb-false p place e)) (r.each p h))

  -- A repeat that is left and comes later is ready at the moved time or later.
  to : (a : Repeat) → IsRepeat zs a → get_or next a.place 0 ≤ a.ready → Comes now a → get_or moved a.place 0 ≤ a.ready
  to a i h c = cases (eqb a.place place)
      (λ e. let here : a.place ≡ place = eqb-true a.place place e in rw (here, own-time) (own here c))
      (λ e. rw (other-time a.place (eqb-false a.place place e)) h)
    where
      own : a.place ≡ place → Comes now a → now.ready + period ≤ a.ready
      own here (given e l) = absurd (omega arith)
      own here (earlier l) =
          let t = r.each place least.there in
          let ready : a.ready ≡ phase_at zs place + i.times * period = rw here at i.ready in
          let fewer : t.times < i.times = lt_of_mul-lt-mul_right period (omega (arith, t.is)) in
          omega (arith, t.is, suc-mul t.times period, mul-le-mul_right period fewer)

  back : (a : Repeat) → get_or moved a.place 0 ≤ a.ready → (get_or next a.place 0 ≤ a.ready) × (a ≢ now)
  back a h = cases (eqb a.place place)
      (λ e. let here : a.place ≡ place = eqb-true a.place place e in
      let late : now.ready + period ≤ a.ready = rw (here, own-time) at h in (
        rw here (omega arith),
        λ s.
            let ready : Repeat → ℕ = λ b. b.ready in
            let same : a.ready ≡ now.ready = ap ready s in
            omega (arith, (at-place g place least.there).runs),
      ))
      (λ e.
      let other : a.place ≢ place = eqb-false a.place place e in
      let place : Repeat → ℕ = λ b. b.place in
      (rw (other-time a.place other) at h, λ s. other (ap place s)))

  pub one-done : Reached zs (set next place (get_or next place 0 + period_at zs place)) (k + 1)
  one-done =
      let e : k + 1 ≡ suc k = omega arith in
      rw e (record {
        room = omega (arith, r.room, length-set next place (now.ready + period));
        each = ready-next;
        left = λ a m.
            let i = ((sequence-is g).repeats a).0 m in (
              λ h.
                  let was = (r.left a m).0 (rw left_is (Memᴰ.tail h)) in
                  to a i was (rw picked at (behind a h)),
              λ h.
                  let b = back a h in
                  ⊎_elim (λ (s : a ≡ then). absurd (b.1 (s ∙ picked))) (λ (n : Memᴰ a after). n)
                  (Memᴰ.cases_cons (rw left_is at ((r.left a m).1 b.0))),
            );
      })
