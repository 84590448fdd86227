-- The search from the back cuts a rising list into the points up to a time and the later ones.
use Rattle.std.specs.Prelude.{ℕ, suc, ◌+◌, ◌-◌, ◌≤◌, ◌<◌, ◌≡◌, refl, true, false, ℤ, length, ◌≤ℤ◌, ◌<ℤ◌}
use Rattle.std.proofs.Common.{sym, ap, ◌∙◌, subst, ⊎_elim, eq-or-lt_of_le, arith}
use mathlib.Core.List.Memᴰ.{head}
use mathlib.Core.List.Memᴰ.{tail}
use mathlib.Core.List.{List, [], ◌∷◌, ◌++◌, Memᴰ as In}
use mathlib.Core.List.Memᴰ.{not-nil}
use Rattle.std.proofs.Math.Decide.{dec_lt}
use Rattle.std.specs.Int.Signed.{le_z}
use Rattle.seconds.specs.Ranges.{InFree}
use Rattle.seconds.specs.Signed.{signed}
use Rattle.order.specs.Job.{Point}
use Rattle.profile.specs.Profile.{lookup, last_point}
use Rattle.profile.proofs.Rising.{below-member, Rising, rising-more}
use Rattle.codes.specs.Code.{code, limit_of, at0}
use Rattle.codes.specs.CodeLaws.{code_below, limit-early, limit-late}
use Rattle.codes.specs.Held.{Held, held_none, held_more, After}
use Rattle.codes.specs.HeldLaws.{held-within}

-- ---- the search, number by number

-- All numbers from e on are past the limit.
pub record Searching (work : List ℤ) (place end : ℕ) (limit : ℤ) (e : ℕ) : Type 0 where
  pub low : place ≤ e
  pub high : e ≤ end
  pub over : (k : ℕ) → e ≤ k → k < end → limit <ℤ at0 work k

pub searching-start : (work : List ℤ) (place end : ℕ) (limit : ℤ) → place ≤ end → Searching work place end limit end
searching-start work place end limit h = record { low = h; high = omega arith; over = λ k l m. absurd (omega arith) }

module _ {work : List ℤ} {place end : ℕ} {limit : ℤ} {e : ℕ} (s : Searching work place end limit e) where
  pub searching-down : place < e → limit <ℤ at0 work (e - 1) → Searching work place end limit (e - 1)
  searching-down h l = record {
    low = omega arith;
    high = omega (arith, s.high);
    over = λ k m n. ⊎_elim (λ d. subst (λ (z : ℕ). limit <ℤ at0 work z) d l) (λ d. s.over k (omega arith) n) (eq-or-lt_of_le m);
  }

  pub searching-found : (place < e → at0 work (e - 1) ≤ℤ limit) → After work place end limit e
  searching-found u = record { low = s.low; high = s.high; over = s.over; under = u }

-- ---- what it finds in a rising list

-- A list cut at a place: in front the points whose numbers are up to a limit, behind them the others.
pub record Cut (limit : ℤ) (work : List ℤ) (i e : ℕ) (ps : List Point) : Type 0 where
  pub front : List Point
  pub back : List Point
  pub whole : ps ≡ front ++ back
  pub count : i + length front ≡ e
  pub early : (p : Point) → In p front → code p ≤ℤ limit
  pub late : (p : Point) → In p back → limit <ℤ code p
  pub held : Held work i front
  pub held_back : Held work e back

-- Where every number is past the limit, all points are behind.
all-late : {limit : ℤ} {work : List ℤ} {i : ℕ} {ps : List Point} → Held work i ps
    → ((k : ℕ) → i ≤ k → k < i + length ps → limit <ℤ at0 work k) → (p : Point) → In p ps → limit <ℤ code p
all-late {limit = limit} {work = work} (held_none {i = i}) over p x7 = elim x7 [ ]
all-late (held_more {i = i} s f h) over p (head d) = let l = over i (omega arith) (omega arith) in rw d (rw f at l)
all-late (held_more s f h) over p (tail m) = all-late h (λ k a b. over k (omega arith) (omega arith)) p m

pub cut : {limit : ℤ} {work : List ℤ} {i : ℕ} {ps : List Point} (e : ℕ) → Held work i ps → Rising ps
    → After work i (i + length ps) limit e → Cut limit work i e ps
cut {work = work} {i} e held_none r a = record {
  front = [];
  back = [];
  whole = refl;
  count = omega (arith, a.low, a.high);
  early = λ p m. absurd (not-nil m);
  late = λ p m. absurd (not-nil m);
  held = held_none;
  held_back = held_none;
}
cut {limit} {work} e (held_more {i = i} {p = p} {ps = ps} s f h) (rising-more b r) a = go (dec_lt i e) (λ l. cut e h r (further l))
  where
    further : i < e → After work (suc i) (suc i + length ps) limit e
    further l = record {
      low = l;
      high = omega (arith, a.high);
      over = λ k m n. a.over k m (omega arith);
      under = λ m. a.under (omega arith);
    }

    go : Dec (i < e) → (i < e → Cut limit work (suc i) e ps) → Cut limit work i e (p ∷ ps)
    go (no n) ih =
        let same : e ≡ i = omega (arith, a.low) in
        record {
          front = [];
          back = p ∷ ps;
          whole = refl;
          count = omega arith;
          early = λ q m. absurd (not-nil m);
          late = all-late (held_more s f h) (λ k x y. a.over k (omega arith) y);
          held = held_none;
          held_back = rw same (held_more s f h);
        }
    go (yes l) ih =
        let c = ih l in
        record {
          front = p ∷ c.front;
          back = c.back;
          whole = ap (λ (x : List Point). p ∷ x) c.whole;
          count = omega (arith, c.count);
          early = early c (first c c.front refl);
          late = c.late;
          held = held_more s f c.held;
          held_back = c.held_back;
        }
      where
        -- The first of the front is the one before the place, or below one that is up to the limit.
        first : (c : Cut limit work (suc i) e ps) (x : List Point) → c.front ≡ x → code p ≤ℤ limit
        first c [] d =
            let n = c.count in
            let z : length c.front ≡ 0 = ap length d in
            let at_i : e - 1 ≡ i = omega arith in
            rw (at_i, f) at (a.under l)
        first c (q ∷ x) d =
            let m : In q c.front = subst (λ (y : List Point). In q y) (sym d) (head refl) in
            let listed : In q ps = subst (λ (z : List Point). In q z) (sym (c.whole ∙ ap (λ (y : List Point). y ++ c.back) d)) (head refl) in
            let k = c.early q m in
            let g = code_below s (held-within h q listed) (below-member b listed) in
            omega signed

        early : (c : Cut limit work (suc i) e ps) → code p ≤ℤ limit → (q : Point) → In q (p ∷ c.front) → code q ≤ℤ limit
        early c g q (head d) = rw d g
        early c g q (tail m) = c.early q m

-- ---- at a time

module _ {t : ℤ} (f : InFree t) {work : List ℤ} {i e : ℕ} {ps : List Point} (c : Cut (limit_of t) work i e ps) where
  pub cut-early : (p : Point) → In p c.front → p.time ≤ℤ t
  cut-early p m = limit-early f (held-within c.held p m) (c.early p m)

  pub cut-late : (p : Point) → In p c.back → t <ℤ p.time
  cut-late p m = limit-late f (held-within c.held_back p m) (c.late p m)

-- The lookup at the time is the last point of the front.
pub lookup-front : (t : ℤ) (fs bs : List Point) → ((p : Point) → In p fs → p.time ≤ℤ t) → ((p : Point) → In p bs → t <ℤ p.time)
    → lookup (fs ++ bs) t ≡ last_point fs
lookup-front t [] [] e l = refl
lookup-front t [] (q ∷ bs) e l =
    let late = l q (head refl) in
    let test : le_z q.time t ≡ false = omega signed in
    rw (lookup-front t [] bs e (λ p m. l p (tail m)), test)
lookup-front t (p ∷ fs) bs e l =
    let soon = e p (head refl) in
    let test : le_z p.time t ≡ true = omega signed in
    rw (lookup-front t fs bs (λ q m. e q (tail m)) l, test)
