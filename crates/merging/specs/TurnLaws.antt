-- Merging turn by turn: which number a turn takes, and what is then written.
use Rattle.std.specs.Prelude.{ℕ, suc, ◌+◌, ◌≤◌, ◌<◌, min, ◌≡◌, refl, Bool, true, false, cond, List, [], ◌∷◌, ◌++◌, ltb, ℤ, pos, length, set, take, ◌≤ℤ◌}
use Rattle.std.proofs.Common.{sym, ap, ◌∙◌, append-nil, ⊎_elim, eq-or-lt_of_le, arith, ltb-true, ltb-false, length-append, length-set, length-take-le, get_or-append-add, take-suc-set, get_or-take}
use Rattle.std.proofs.Math.ListN.{get_or-append}
use Rattle.std.proofs.Math.Seq.{append_snoc}
use Rattle.std.proofs.lemmas.List.{take-set-le}
use Rattle.std.specs.Int.Signed.{le_z}
use Rattle.seconds.specs.Signed.{signed}
use Rattle.codes.specs.declared.Prefix.{Prefix}
use Rattle.codes.specs.Code.{per_second, lightness, past_all, at0, end_of}
use Rattle.merging.specs.Turns.{turns_at, kept_of, least_light, Ended, CanMerge, merged, Merged}

-- ---- what is written

-- All before the place and the numbers kept stand in front; what is kept of the rest is still to come.
pub record Written (whole : List ℤ) (at lightest : ℕ) (was : List ℤ) (kept best : ℕ) (work rest : List ℤ) : Type 0 where
  pub lower : least_light ≤ best
  pub upper : best ≤ per_second
  pub few : kept + best ≤ lightest
  pub size : length work ≡ length was
  pub front : take at was ++ whole ≡ take (at + kept) work ++ kept_of best rest

-- At the start nothing is kept.
written_none : (at lightest : ℕ) (was rest : List ℤ) → least_light ≤ lightest → lightest ≤ per_second
    → Written (kept_of lightest rest) at lightest was 0 lightest was rest
written_none at lightest was rest h l =
    let none_yet : at + 0 ≡ at = omega arith in
    record { lower = h; upper = l; few = omega arith; size = refl; front = rw none_yet }

module _ {whole : List ℤ} {at lightest : ℕ} {was : List ℤ} {kept best : ℕ} {work rest : List ℤ}
    (w : Written whole at lightest was kept best work rest) (room : at + lightest < length was + least_light) where
  -- There is room for one more,
  written-room : at + kept < length work
  written-room = omega (arith, w.few, w.lower, w.size)

  -- and all before the place stays.
  written-before : (k : ℕ) → k < at → at0 work k ≡ at0 was k
  written-before k h =
      let r = written-room in
      let here = front_reads (at + kept) work (kept_of best rest) (omega arith) (omega arith) in
      let there = front_reads at was whole h (omega (arith, w.size)) in
      sym here ∙ sym (ap (λ (l : List ℤ). at0 l k) w.front) ∙ there
    where
      front_reads : (m : ℕ) (l r : List ℤ) → k < m → m ≤ length l → at0 (take m l ++ r) k ≡ at0 l k
      front_reads m l r h g =
          get_or-append (take m l) r (pos 0) k (omega (arith, length-take-le m l g)) ∙ get_or-take m l k (pos 0) h

-- One number more: it is written, and kept where it is less light than all before.
written-more : {whole : List ℤ} {at lightest : ℕ} {was : List ℤ} {kept best : ℕ} {work : List ℤ} (x : ℤ) (xs : List ℤ)
    → Written whole at lightest was kept best work (x ∷ xs) → at + lightest < length was + least_light → least_light ≤ lightness x
    → Written whole at lightest was (kept + cond (ltb (lightness x) best) 1 0) (min (lightness x) best) (set work (at + kept) x) xs
written-more {whole} {at} {lightest} {was} {kept} {best} {work} x xs w room h = go (ltb (lightness x) best) refl
  where
    go : (b : Bool) → ltb (lightness x) best ≡ b
        → Written whole at lightest was (kept + cond b 1 0) (min (lightness x) best) (set work (at + kept) x) xs
    go true e =
        let less = ltb-true (lightness x) best e in
        let upper = w.upper in
        let one_more : kept + 1 ≡ suc kept = omega arith in
        let best-is : min (lightness x) best ≡ lightness x = omega arith in
        let next : at + suc kept ≡ suc (at + kept) = omega arith in
        let left : take at was ++ whole ≡ take (at + kept) work ++ x ∷ kept_of (lightness x) xs = rw e at w.front in
        let moved = append_snoc (take (at + kept) work) x (kept_of (lightness x) xs) in
        rw (one_more, best-is) (record {
          lower = h;
          upper = omega arith;
          few = omega (arith, w.few);
          size = length-set work (at + kept) x ∙ w.size;
          front = left ∙ sym (rw (next, take-suc-set work (at + kept) x (written-room w room)) moved);
        })
    go false e =
        let more = ltb-false (lightness x) best e in
        let upper = w.upper in
        let none_more : kept + 0 ≡ kept = omega arith in
        let best-is : min (lightness x) best ≡ best = omega arith in
        let left : take at was ++ whole ≡ take (at + kept) work ++ kept_of best xs = rw e at w.front in
        rw (none_more, best-is) (record {
          lower = w.lower;
          upper = upper;
          few = w.few;
          size = length-set work (at + kept) x ∙ w.size;
          front = rw (take-set-le (at + kept) work (at + kept) x (omega arith)) left;
        })

-- With none left the whole is written.
written_all : {whole : List ℤ} {at lightest : ℕ} {was : List ℤ} {kept best : ℕ} {work : List ℤ}
    → Written whole at lightest was kept best work [] → at + lightest < length was + least_light
    → (kept ≡ length whole) × ((k : ℕ) → k < length whole → at0 work (at + k) ≡ at0 whole k)
written_all {whole} {at} {was = was} {kept} {work = work} w room = (long, reads)
  where
    all : take at was ++ whole ≡ take (at + kept) work
    all = w.front ∙ append-nil (take (at + kept) work)

    begun : length (take at was) ≡ at
    begun = length-take-le at was (omega (arith, w.size, written-room w room))

    long : kept ≡ length whole
    long =
        let taken = length-take-le (at + kept) work (omega (arith, written-room w room)) in
        omega (arith, begun, length-append (take at was) whole, ap length all)

    reads : (k : ℕ) → k < length whole → at0 work (at + k) ≡ at0 whole k
    reads k h =
        let there = get_or-append-add (take at was) whole k (pos 0) in
        let here = get_or-take (at + kept) work (at + k) (pos 0) (omega (arith, long)) in
        sym here ∙ sym (ap (λ (l : List ℤ). at0 l (at + k)) all) ∙ (rw begun at there)

-- ---- where the two lists stand

-- The next numbers are at i and at j, and so many are left.
pub record Places (place end from end_pushed i j left : ℕ) : Type 0 where
  pub low_i : place ≤ i
  pub high_i : i ≤ end
  pub low_j : from ≤ j
  pub high_j : j ≤ end_pushed
  pub all : left + i + j ≡ end + end_pushed

-- A turn takes x and goes on at i' and j'.
pub record Turned (work : List ℤ) (place end : ℕ) (pushed : List ℤ) (from end_pushed i j left : ℕ) (x : ℤ) (i' j' : ℕ)
    : Type 0 where
  pub takes : turns_at (suc left) work i pushed j ≡ x ∷ turns_at left work i' pushed j'
  pub places : Places place end from end_pushed i' j' left
  pub least : pos 0 ≤ℤ x
  pub heavy : least_light ≤ lightness x

-- A number that goes first is a point's: at its end a list has a number past all.
goes_left : {xs ys : List ℤ} {f d g e i j : ℕ} → Ended xs f d → Ended ys g e → i ≤ d → g ≤ j → (i ≡ d → j < e)
    → at0 xs i ≤ℤ at0 ys j → i < d
goes_left {xs} {d = d} {i = i} {j} list other high low more h = ⊎_elim past (λ l. l) (eq-or-lt_of_le high)
  where
    past : i ≡ d → i < d
    past is =
        let a : at0 xs i ≡ past_all = ap (at0 xs) is ∙ list.past in
        let b = other.most j low (more is) in
        absurd (omega signed)

module _ {work : List ℤ} {place end : ℕ} {pushed : List ℤ} {from end_pushed i j left : ℕ} (list : Ended work place end)
    (other : Ended pushed from end_pushed) (h : Places place end from end_pushed i j (suc left)) where
  -- So a turn takes a point's number.
  turned : Turned work place end pushed from end_pushed i j left
      (cond (le_z (at0 work i) (at0 pushed j)) (at0 work i) (at0 pushed j))
      (i + cond (le_z (at0 work i) (at0 pushed j)) 1 0) (j + cond (le_z (at0 work i) (at0 pushed j)) 0 1)
  turned = go (le_z (at0 work i) (at0 pushed j)) refl
    where
      go : (b : Bool) → le_z (at0 work i) (at0 pushed j) ≡ b
          → Turned work place end pushed from end_pushed i j left (cond b (at0 work i) (at0 pushed j))
          (i + cond b 1 0) (j + cond b 0 1)
      go true e =
          let real = goes_left list other h.high_i h.low_j (λ d. omega (arith, h.all)) (omega signed) in
          let i-is : i + 1 ≡ suc i = omega arith in
          let j-is : j + 0 ≡ j = omega arith in
          rw (i-is, j-is) (record {
            takes = rw e;
            places = record {
              low_i = omega (arith, h.low_i);
              high_i = real;
              low_j = h.low_j;
              high_j = h.high_j;
              all = omega (arith, h.all);
            };
            least = list.least i h.low_i real;
            heavy = list.heavy i h.low_i real;
          })
      go false e =
          let real = goes_left other list h.high_j h.low_i (λ d. omega (arith, h.all)) (omega signed) in
          let i-is : i + 0 ≡ i = omega arith in
          let j-is : j + 1 ≡ suc j = omega arith in
          rw (i-is, j-is) (record {
            takes = rw e;
            places = record {
              low_i = h.low_i;
              high_i = h.high_i;
              low_j = omega (arith, h.low_j);
              high_j = real;
              all = omega (arith, h.all);
            };
            least = other.least j h.low_j real;
            heavy = other.heavy j h.low_j real;
          })

-- ---- between turns

-- Of the numbers of two lists in turn, what is kept of those so far is written up to n.
pub record Merging (whole : List ℤ) (at lightest : ℕ) (pushed was work : List ℤ) (i j n best left : ℕ) : Type 0 where
  pub list : Prefix
  pub other : Prefix
  pub can : CanMerge was list pushed other at lightest
  pub places : Places list.place (end_of list) other.place (end_of other) i j left
  pub kept : ℕ
  pub reached : n ≡ at + kept
  pub written : Written whole at lightest was kept best work (turns_at left was i pushed j)

-- At the start all is left.
pub merging_start : {list : Prefix} {pushed : List ℤ} {other : Prefix} {at lightest : ℕ} {was : List ℤ}
    → CanMerge was list pushed other at lightest
    → Merging (merged was list pushed other lightest) at lightest pushed was was list.place other.place at lightest
    (list.count + other.count)
merging_start {list} {pushed} {other} {at} {lightest} {was} g = record {
  list = list;
  other = other;
  can = g;
  places = record { low_i = omega arith; high_i = omega arith; low_j = omega arith; high_j = omega arith; all = omega arith };
  kept = 0;
  reached = omega arith;
  written = written_none at lightest was (turns_at (list.count + other.count) was list.place pushed other.place) g.low g.light;
}

module _ {whole : List ℤ} {at lightest : ℕ} {pushed was work : List ℤ} {i j n best left : ℕ}
    (m : Merging whole at lightest pushed was work i j n best left) where
  -- The places are inside,
  pub inside-list : i + 1 < length work
  inside-list = omega (arith, m.places.high_i, m.can.behind, written-room m.written m.can.room)

  pub inside-pushed : j + 1 < length pushed
  inside-pushed = omega (arith, m.places.high_j, m.can.room_pushed)

  pub inside-merged : n < length work
  inside-merged = omega (arith, m.reached, written-room m.written m.can.room)

  -- and the list is still read as it was.
  list-stays : (k : ℕ) → k ≤ end_of m.list → at0 work k ≡ at0 was k
  list-stays k h = written-before m.written m.can.room k (omega (arith, m.can.behind))

  -- A turn with a and b at hand takes a point's number,
  module _ {a b : ℤ} (is-a : a ≡ at0 was i) (is_b : b ≡ at0 pushed j) {l : ℕ} (more : left ≡ suc l) where
    taken : Turned was m.list.place (end_of m.list) pushed m.other.place (end_of m.other) i j l (cond (le_z a b) a b)
        (i + cond (le_z a b) 1 0) (j + cond (le_z a b) 0 1)
    taken = rw (is-a, is_b) (turned m.can.here m.can.there (rw more at m.places))

    -- after which the one behind it is at hand,
    pub next_here : (c a' : ℤ) (i' : ℕ) → c ≡ at0 work (i + 1) → a' ≡ cond (le_z a b) c a → i' ≡ i + cond (le_z a b) 1 0
        → a' ≡ at0 was i'
    next_here c a' i' is_c a-is i-is = rw (a-is, i-is) (go (le_z a b) taken.places.high_i)
      where
        go : (f : Bool) → i + cond f 1 0 ≤ end_of m.list → cond f c a ≡ at0 was (i + cond f 1 0)
        go true h = is_c ∙ list-stays (i + 1) h
        go false h = let same : i + 0 ≡ i = omega arith in rw same is-a

    pub next-there : (d b' : ℤ) (j' : ℕ) → d ≡ at0 pushed (j + 1) → b' ≡ cond (le_z a b) b d → j' ≡ j + cond (le_z a b) 0 1
        → b' ≡ at0 pushed j'
    next-there d b' j' is-d b-is j-is = rw (b-is, j-is) (go (le_z a b))
      where
        go : (f : Bool) → cond f b d ≡ at0 pushed (j + cond f 0 1)
        go true = let same : j + 0 ≡ j = omega arith in rw same is_b
        go false = is-d

    pub merging-least : pos 0 ≤ℤ cond (le_z a b) a b
    merging-least = taken.least

    -- and leaves one turn less.
    pub merging-turn : (x : ℤ) (i' j' n' best' : ℕ) → x ≡ cond (le_z a b) a b → i' ≡ i + cond (le_z a b) 1 0
        → j' ≡ j + cond (le_z a b) 0 1 → n' ≡ n + cond (ltb (lightness x) best) 1 0 → best' ≡ min (lightness x) best
        → Merging whole at lightest pushed was (set work n x) i' j' n' best' l
    merging-turn x i' j' n' best' x-is i-is j-is n-is best-is =
        let t = rw (← x-is, ← i-is, ← j-is) at taken in
        let w = rw (more, t.takes) at m.written in
        let next = written-more x (turns_at l was i' pushed j') w m.can.room t.heavy in
        record {
          list = m.list;
          other = m.other;
          can = m.can;
          places = t.places;
          kept = m.kept + cond (ltb (lightness x) best) 1 0;
          reached = omega (arith, n-is, m.reached);
          written = rw (best-is, m.reached) next;
        }

-- With no turn left all is merged.
pub merging-end : {list : Prefix} {pushed : List ℤ} {other : Prefix} {at lightest : ℕ} {was work : List ℤ} {i j n best left : ℕ}
    → Merging (merged was list pushed other lightest) at lightest pushed was work i j n best left → left ≡ 0
    → Merged was list pushed other at lightest n work
merging-end m e =
    let d = written_all (rw e at m.written) m.can.room in
    record {
      size = m.written.size;
      count = omega (arith, m.reached, d.0);
      written = d.1;
      before = written-before m.written m.can.room;
    }
