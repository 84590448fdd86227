-- Joining two lists of points: the front of the first is copied, the rest merged with the second, and behind the part in use
-- stands the better of both.
use Rattle.std.specs.Prelude.{ℕ, zero, suc, ◌+◌, ◌-◌, ◌≤◌, ◌<◌, ◌≡◌, refl, true, false, ltb, ℤ, pos, length, set, ◌≤ℤ◌}
use Rattle.std.proofs.Common.{sym, ap, ◌∙◌, ⊎_elim, arith, lt-ltb, le-ltb, length-set, length-append, get_or-set_same, get_or-set_other}
use mathlib.Core.List.Memᴰ
use mathlib.Core.List.Memᴰ.{append_cases as in_either}
use mathlib.Core.List.{List, [], ◌∷◌, ◌++◌, map, Memᴰ as In}
use Rattle.std.proofs.lemmas.List.{length-map}
use Rattle.std.specs.Int.Signed.{le_z}
use Rattle.seconds.specs.Limits.{most_weight}
use Rattle.seconds.specs.Signed.{signed, up, dn}
use Rattle.order.specs.Job.{Point}
use Rattle.profile.specs.Profile.{better_of}
use Rattle.profile.proofs.Rising.{Rising, rising-front, rising-back}
use Rattle.profile.proofs.Closure.{PointWithin, rising-short}
use Rattle.profile.proofs.Points.{profile_of-member}
use Rattle.profiles.specs.OnePass.{below_all}
use Rattle.better.specs.InTurn.{first_goes}
use Rattle.better.specs.Heavier.{merge, merge-better}
use Rattle.codes.specs.declared.Prefix.{Prefix}
use Rattle.codes.specs.Code.{per_second, most_light, code, lightness, point_of, past_all, at0, list_at, points_at, end_of}
use Rattle.codes.specs.CodeLaws.{light-is, code-least, code-most, code-order}
use Rattle.codes.specs.Held.{Held, held_none, held_more}
use Rattle.codes.specs.HeldLaws.{held_stays, list_length, held-within, held-append, held-copied, held-point}
use Rattle.merging.specs.Turns.{least_light, Ended, CanMerge, merged, Merged}
use Rattle.merging.specs.TurnPoints.{merged-are, held-codes}
use Rattle.merging.specs.Fronts.{last_after, last-light, last-few, front_kept}
use Rattle.merging.specs.Joins.{Copied, CanWeigh, light_before, CanJoin, Joined}

-- ---- numbers that are points'

-- With a number past all behind it a list can be merged.
held-ended : {l : List ℤ} {i e : ℕ} {ps : List Point} → Held l i ps → i + length ps ≡ e → at0 l e ≡ past_all → Ended l i e
held-ended h d past = record {
  order = omega arith;
  past = past;
  least = λ k a b. let p = held-point h k a (omega arith) in rw p.2 (code-least p.1);
  most = λ k a b. let p = held-point h k a (omega arith) in rw p.2 (code-most p.1);
  heavy = λ k a b. let p = held-point h k a (omega arith) in rw p.2 (omega (arith, light-is p.1, p.1.weight));
}

-- The last number of a list tells the last weight,
last-told : {l : List ℤ} {i : ℕ} {p : Point} (fs : List Point) → Held l i (p ∷ fs)
    → lightness (at0 l (i + length fs)) + up (last_after (pos p.weight) fs) ≡ most_light + dn (last_after (pos p.weight) fs)
last-told {i = i} [] (held_more s e h) =
    let here : i + 0 ≡ i = omega arith in
    rw (here, e) (omega (arith, light-is s, s.weight))
last-told {i = i} (q ∷ fs) (held_more s e h) =
    let next : i + suc (length fs) ≡ suc i + length fs = omega arith in
    rw next (last-told fs h)

-- and so does the number before the place after it.
before-told : {l : List ℤ} {i : ℕ} {fs : List Point} (z : ℕ) → Held l i fs → i + length fs ≡ z
    → light_before l i z + up (last_after below_all fs) ≡ most_light + dn (last_after below_all fs)
before-told {i = i} z held_none d = let none_yet : ltb i z ≡ false = le-ltb i z (omega arith) in rw none_yet
before-told z (held_more {i = i} {ps = fs} s e h) d =
    let some-yet : ltb i z ≡ true = lt-ltb i z (omega arith) in
    let last : z - 1 ≡ i + length fs = omega arith in
    rw (some-yet, last) (last-told fs (held_more s e h))

-- A point whose number is up to a list's first goes before all of the list.
goes_first_lem : {l : List ℤ} {i : ℕ} (n : ℕ) → 1 ≤ n → Held l i (list_at l i n) → {p : Point} → PointWithin p → code p ≤ℤ at0 l i
    → (ps : List Point) → first_goes (p ∷ ps) (list_at l i n) ≡ true
goes_first_lem zero h k s e ps = absurd (omega arith)
goes_first_lem {l} {i} (suc n) h (held_more t d k) {p} s e ps =
    let le = rw d at e in
    let test : le_z (code p) (code (point_of (at0 l i))) ≡ true = omega signed in
    sym (code-order s t) ∙ test

-- The parts of a list stand where it stands.
held-parts : {l : List ℤ} {i j : ℕ} (fs : List Point) {bs : List Point} → Held l i (fs ++ bs) → i + length fs ≡ j
    → Held l i fs × Held l j bs
held-parts {i = i} {j} [] h d = let e : i ≡ j = omega arith in (held_none, rw e at h)
held-parts {j = j} (p ∷ fs) (held_more s e h) d =
    let both = held-parts {j = j} fs h (omega arith) in
    (held_more s e both.0, both.1)

-- ---- the steps of joining

-- The work area with a number past all behind the list.
abbrev marked : List ℤ → ℕ → List ℤ
marked work used = set work used past_all

module _ {work : List ℤ} {list : Prefix} {z : ℕ} {pushed : List ℤ} {other : Prefix} (g : CanJoin work list z pushed other) where
  -- A list has at most 301 points.
  pub join-few : list.count ≤ 301
  join-few =
      let few = rising-short most_weight g.rises (λ q m. (held-within g.held q m).weight) in
      omega (arith, list_length work list.place list.count)

  -- The number past all stands behind it.
  stays : (k : ℕ) → k < end_of list → at0 (marked work (end_of list)) k ≡ at0 work k
  stays k h = get_or-set_other work (end_of list) k past_all (pos 0) (omega arith)

  -- The parts of the list, as long as they are and where they stand.
  parts : length g.cut.front + length g.cut.back ≡ list.count
  parts =
      let sum = length-append g.cut.front g.cut.back in
      omega (arith, ap length g.cut.whole, list_length work list.place list.count)

  pub high : z ≤ end_of list
  high = omega (arith, parts, g.cut.count)

  both-held : Held (marked work (end_of list)) list.place g.cut.front × Held (marked work (end_of list)) z g.cut.back
  both-held =
      let all = held_stays {m = marked work (end_of list)} (end_of list) stays (omega (arith, list_length work list.place list.count)) g.held in
      held-parts g.cut.front (rw g.cut.whole at all) g.cut.count

  -- The back of the list, from the place found on, ends where the list ends.
  abbrev pub back_of : Prefix
  back_of = record { place = z; count = end_of list - z }

  back-ends : end_of back_of ≡ end_of list
  back-ends = omega (arith, high)

  module _ {copy : List ℤ} (c : Copied list.place (end_of list + 1) (z - list.place) (marked work (end_of list)) copy) where
    -- The number before the place found can be weighed, once the front is copied.
    pub can-weigh : CanWeigh copy list.place z
    can-weigh = record {
      inside = omega (arith, high, g.room, c.size, length-set work (end_of list) past_all);
      least = least;
    }
      where
        least : list.place < z → pos 0 ≤ℤ at0 copy (z - 1)
        least h =
            let p = held-point both-held.0 (z - 1) (omega arith) (omega (arith, g.cut.count)) in
            let e : at0 copy (z - 1) ≡ code p.0 = c.before (z - 1) (omega (arith, high)) ∙ p.2 in
            rw e (code-least p.1)

    -- The front and the back are still there, and behind them a number past all.
    front-held : Held copy list.place g.cut.front
    front-held = held_stays (end_of list + 1) c.before (omega (arith, g.cut.count, high)) both-held.0

    ends : z + length g.cut.back ≡ end_of list
    ends = omega (arith, parts, g.cut.count)

    back-held : Held copy z g.cut.back
    back-held = held_stays (end_of list + 1) c.before (omega (arith, ends)) both-held.1

    past : at0 copy (end_of back_of) ≡ past_all
    past =
        ap (at0 copy) back-ends
        ∙ c.before (end_of list) (omega arith)
        ∙ get_or-set_same work (end_of list) past_all (pos 0) (omega (arith, g.room))

    -- The front rises to a last weight,
    abbrev last : ℤ
    last = last_after below_all g.cut.front

    front-rises : Rising g.cut.front
    front-rises = rising-front g.cut.front g.cut.back (rw g.cut.whole at g.rises)

    module _ {lightest : ℕ} (l : lightest ≡ light_before copy list.place z) where
      -- which the number before the place found tells:
      told : lightest + up last ≡ most_light + dn last
      told = rw l (before-told z front-held g.cut.count)

      -- the longer the front, the fewer points are still to come.
      light : lightest + (z - list.place) ≤ per_second
      light =
          let few = last-few below_all front-rises (λ p m. omega signed) in
          omega (arith, told, g.cut.count)

      heavy : least_light ≤ lightest
      heavy = omega (arith, told, last-light below_all g.cut.front (held-within both-held.0) (omega arith))

      -- The rest can be merged,
      pub can-merge : CanMerge copy back_of pushed other (end_of list + 1 + (z - list.place)) lightest
      can-merge = record {
        here = held-ended back-held (omega (arith, ends, back-ends)) past;
        there = held-ended g.held_too (omega (arith, list_length pushed other.place other.count)) g.past;
        behind = omega (arith, back-ends);
        low = heavy;
        light = omega (arith, light);
        room = omega (arith, light, g.room, c.size, length-set work (end_of list) past_all);
        room_pushed = g.inside;
      }

      -- and then the better of both stands behind the part in use.
      module _ {r : ℕ} {after : List ℤ}
          (m : Merged copy back_of pushed other (end_of list + 1 + (z - list.place)) lightest r after) where
        -- What is merged,
        abbrev rest : List Point
        rest = merge last g.cut.back (points_at pushed other)

        -- behind the front, is the better of both;
        better : better_of (points_at work list) (points_at pushed other) ≡ g.cut.front ++ rest
        better =
            sym (merge-better g.rises g.rises_too)
            ∙ ap (λ (ps : List Point). merge below_all ps (points_at pushed other)) g.cut.whole
            ∙ front_kept below_all g.cut.back (points_at pushed other) front-rises (λ p n. omega signed)
            (λ p n. goes_first_lem other.count g.some g.held_too (held-within both-held.0 p n) (g.cut.early p n))

        -- it is within the limits,
        rest-within : (p : Point) → In p rest → PointWithin p
        rest-within p n =
            ⊎_elim (held-within g.held p) (held-within g.held_too p)
            (in_either (points_at work list) (profile_of-member (points_at work list ++ points_at pushed other) listed))
          where
            listed : In p (better_of (points_at work list) (points_at pushed other))
            listed = rw better (Memᴰ.append_right g.cut.front n)

        -- and its numbers are written.
        numbers : merged copy back_of pushed other lightest ≡ map code rest
        numbers =
            merged-are back_of other lightest last past g.past back-held (omega (arith, ends)) g.held_too
            (list_length pushed other.place other.count)
            (rising-back g.cut.front g.cut.back (rw g.cut.whole at g.rises)) g.rises_too told

        pub joins : Joined work list pushed other (record { place = end_of list + 1; count = r - (end_of list + 1) }) after
        joins = record {
          size = m.size ∙ c.size ∙ length-set work (end_of list) past_all;
          stays = λ k h. m.before k (omega arith) ∙ c.before k (omega arith) ∙ stays k h;
          behind = refl;
          held = rw better (held-append (end_of list + 1 + (z - list.place)) front (omega (arith, g.cut.count)) back);
          counted = omega (
            arith,
            m.count,
            ap length numbers,
            length-map rest code,
            ap length better,
            length-append g.cut.front rest,
            g.cut.count,
          );
        }
          where
            front : Held after (end_of list + 1) g.cut.front
            front =
                let n = g.cut.count in
                held-copied (end_of list + 1) both-held.0
                (λ k h. m.before (end_of list + 1 + k) (omega arith) ∙ c.laid k (omega arith))

            back : Held after (end_of list + 1 + (z - list.place)) rest
            back = held-codes (end_of list + 1 + (z - list.place)) rest rest-within (rw numbers at m.written)
