-- The numbers of two lists of points, taken in turn, are the numbers of the points in turn, and those kept are the heavier
-- ones': so merging them merges the points.
use Rattle.std.specs.Prelude.{ℕ, zero, suc, ◌+◌, ◌-◌, ◌≤◌, ◌<◌, ◌≡◌, refl, Bool, true, false, cond, ltb, ℤ, pos, length}
use Rattle.std.proofs.Common.{ap, ◌∙◌, arith, lt-ltb, le-ltb}
use mathlib.Core.List.Memᴰ.{head}
use mathlib.Core.List.Memᴰ.{tail}
use mathlib.Core.List.{List, [], ◌∷◌, map, Memᴰ as In}
use Rattle.std.specs.Int.Signed.{le_z, lt_z}
use Rattle.seconds.specs.Signed.{signed, up, dn}
use Rattle.order.specs.Job.{Point}
use Rattle.profile.proofs.Rising.{Rising}
use Rattle.profile.proofs.Closure.{PointWithin}
use Rattle.better.specs.InTurn.{goes_first, in_turn, among, Turns, no_more, first, second, turns}
use Rattle.better.specs.Heavier.{heavier, merge}
use Rattle.codes.specs.declared.Prefix.{Prefix}
use Rattle.codes.specs.Code.{most_light, code, lightness, past_all, at0, end_of}
use Rattle.codes.specs.CodeLaws.{light-is, code-most, code-order}
use Rattle.codes.specs.Held.{Held, held_none, held_more}
use Rattle.codes.specs.HeldLaws.{held-within}
use Rattle.merging.specs.Turns.{turns_at, kept_of, merged}

-- ---- in turn

-- Past each of two lists stands a number past all.
module _ {xs ys : List ℤ} {d e : ℕ} (past : at0 xs d ≡ past_all) (past-too : at0 ys e ≡ past_all) where
  -- Their numbers in turn are the points'.
  turns-are : (n : ℕ) {i j : ℕ} {ps qs : List Point} → Held xs i ps → i + length ps ≡ d → Held ys j qs → j + length qs ≡ e
      → n ≡ length ps + length qs → turns_at n xs i ys j ≡ map code (in_turn ps qs)
  turns-are zero held_none a held_none b h = refl
  turns-are zero held_none a (held_more t g k) b h = absurd (omega arith)
  turns-are zero (held_more s f l) a k b h = absurd (omega arith)
  turns-are (suc n) held_none a held_none b h = absurd (omega arith)
  turns-are (suc n) {i} held_none a (held_more {i = j} {p = q} t g k) b h =
      let at-end : i ≡ d = omega arith in
      let f : at0 xs i ≡ past_all = ap (at0 xs) at-end ∙ past in
      let late : le_z past_all (code q) ≡ false = omega (signed, code-most t) in
      let ih = turns-are n {i = i} held_none a k (omega arith) (omega arith) in
      rw (f, g, late) (ap (λ (r : List ℤ). code q ∷ r) ih)
  turns-are (suc n) {j = j} (held_more {i = i} {p = p} s f l) a held_none b h =
      let at-end : j ≡ e = omega arith in
      let g : at0 ys j ≡ past_all = ap (at0 ys) at-end ∙ past-too in
      let soon : le_z (code p) past_all ≡ true = omega (signed, code-most s) in
      let ih = turns-are n {j = j} l (omega arith) held_none b (omega arith) in
      rw (f, g, soon) (ap (λ (r : List ℤ). code p ∷ r) ih)
  turns-are (suc n) (held_more {i = i} {p = p} {ps = ps} s f l) a (held_more {i = j} {p = q} {ps = qs} t g k) b h =
      let first = turns-are n l (omega arith) (held_more t g k) b (omega arith) in
      let second = turns-are n (held_more s f l) a k (omega arith) (omega arith) in
      rw (f, g, code-order s t) (go (goes_first p q) first second)
    where
      go : (c : Bool) → turns_at n xs (suc i) ys j ≡ map code (in_turn ps (q ∷ qs))
          → turns_at n xs i ys (suc j) ≡ map code (in_turn (p ∷ ps) qs)
          → cond c (code p ∷ turns_at n xs (suc i) ys j) (code q ∷ turns_at n xs i ys (suc j))
          ≡ map code (cond c (p ∷ in_turn ps (q ∷ qs)) (q ∷ among p (in_turn ps) qs))
      go true x y = ap (λ (r : List ℤ). code p ∷ r) x
      go false x y = ap (λ (r : List ℤ). code q ∷ r) y

-- The points in turn are within the limits where both lists are.
turns-within : {ps qs ls : List Point} → Turns ps qs ls → ((p : Point) → In p ps → PointWithin p)
    → ((p : Point) → In p qs → PointWithin p) → (p : Point) → In p ls → PointWithin p
turns-within no_more f g p m = f p m
turns-within (first a b t) f g p (head d) = f p (head d)
turns-within (first a b t) f g p (tail m) = turns-within t (λ q n. f q (tail n)) g p m
turns-within (second a b t) f g p (head d) = g p (head d)
turns-within (second a b t) f g p (tail m) = turns-within t f (λ q n. g q (tail n)) p m

-- ---- kept

-- The numbers kept are the heavier points'; best and w tell the same last weight.
kept-are : (ls : List Point) → ((p : Point) → In p ls → PointWithin p) → (best : ℕ) (w : ℤ) → best + up w ≡ most_light + dn w
    → kept_of best (map code ls) ≡ map code (heavier w ls)
kept-are [] f best w e = refl
kept-are (p ∷ ls) f best w e =
    go (lt_z w (pos p.weight)) refl
    (kept-are ls (λ q m. f q (tail m)) (lightness (code p)) (pos p.weight) (omega (arith, light, s.weight)))
    (kept-are ls (λ q m. f q (tail m)) best w e)
  where
    s : PointWithin p
    s = f p (head refl)

    light : lightness (code p) ≡ most_light - p.weight
    light = light-is s

    go : (b : Bool) → lt_z w (pos p.weight) ≡ b
        → kept_of (lightness (code p)) (map code ls) ≡ map code (heavier (pos p.weight) ls)
        → kept_of best (map code ls) ≡ map code (heavier w ls)
        → cond (ltb (lightness (code p)) best) (code p ∷ kept_of (lightness (code p)) (map code ls)) (kept_of best (map code ls))
        ≡ map code (cond b (p ∷ heavier (pos p.weight) ls) (heavier w ls))
    go true d x y =
        let less : lightness (code p) < best = omega (signed, light, s.weight, e) in
        rw (lt-ltb (lightness (code p)) best less) (ap (λ (r : List ℤ). code p ∷ r) x)
    go false d x y =
        let more : best ≤ lightness (code p) = omega (signed, light, s.weight, e) in
        rw (le-ltb (lightness (code p)) best more) y

-- Two lists of points merged by their numbers are merged as points, after a last weight.
pub merged-are : {work pushed : List ℤ} (list other : Prefix) (lightest : ℕ) (w : ℤ) {ps qs : List Point}
    → at0 work (end_of list) ≡ past_all → at0 pushed (end_of other) ≡ past_all → Held work list.place ps
    → length ps ≡ list.count → Held pushed other.place qs → length qs ≡ other.count → Rising ps → Rising qs
    → lightest + up w ≡ most_light + dn w
    → merged work list pushed other lightest ≡ map code (merge w ps qs)
merged-are list other lightest w {ps} {qs} past past-too h a k b r s l =
    ap (kept_of lightest)
    (turns-are past past-too (list.count + other.count) h (omega arith) k (omega arith) (omega arith))
    ∙ kept-are (in_turn ps qs) (turns-within (turns r qs s) (held-within h) (held-within k)) lightest w l

-- Numbers that are points' hold the points.
pub held-codes : {l : List ℤ} (i : ℕ) (qs : List Point) → ((p : Point) → In p qs → PointWithin p)
    → ((k : ℕ) → k < length (map code qs) → at0 l (i + k) ≡ at0 (map code qs) k) → Held l i qs
held-codes i [] f h = held_none
held-codes {l} i (q ∷ qs) f h =
    let here : i + 0 ≡ i = omega arith in
    let is : at0 l i ≡ code q = rw here at (h 0 (omega arith)) in
    held_more (f q (head refl)) is (held-codes (suc i) qs (λ p m. f p (tail m)) further)
  where
    further : (k : ℕ) → k < length (map code qs) → at0 l (suc i + k) ≡ at0 (map code qs) k
    further k m = let x : suc i + k ≡ i + suc k = omega arith in rw x (h (suc k) (omega arith))
