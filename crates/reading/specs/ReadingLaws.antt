-- Laws of what was found, of the last point by a time and of all, of the numbers of a list, and of what they say.
use Rattle.std.specs.Prelude.{ℕ, suc, ◌+◌, ◌-◌, ◌≤◌, ◌<◌, ◌≡◌, refl, true, false, ℤ, pos, length, ◌≤ℤ◌, ◌<ℤ◌, None, Some}
use Rattle.std.proofs.Common.{sym, ap, ◌∙◌, ⊎_elim, eq-or-lt_of_le, arith}
use mathlib.Core.List.Memᴰ.{not-nil}
use mathlib.Core.List.{List, [], ◌∷◌, append-nil, Memᴰ as In}
use Rattle.std.proofs.Math.Option.{Option, none, some}
use Rattle.std.specs.Int.Signed.{le_z}
use Rattle.seconds.specs.Ranges.{InFree}
use Rattle.seconds.specs.Signed.{signed}
use Rattle.order.specs.Job.{Point}
use Rattle.order.proofs.Moves.{point-path}
use Rattle.profile.specs.Profile.{lookup, last_point}
use Rattle.codes.specs.Code.{code, point_of, limit_of, at0, list_at}
use Rattle.codes.specs.CodeLaws.{code-least, point-back, limit-early, limit-late}
use Rattle.codes.specs.Held.{Held, held_none, held_more, After}
use Rattle.codes.specs.HeldLaws.{held_stays, held-read, list_length, held-point}
use Rattle.codes.specs.Cuts.{lookup-front}
use Rattle.reading.specs.Reading.{found, Says}
use Rattle.reading.specs.declared.Found.{Found}

-- The code's answer says what was found: nothing, or a point.
pub found_nothing : (o : Option Point) → found o ≡ None → o ≡ none
found_nothing none e = refl
found_nothing (some p) e = cc

pub found_at : (o : Option Point) (f : Found) → found o ≡ Some f → o ≡ some (record { time = f.time; weight = f.weight })
found_at none f e = cc
found_at (some p) f e = let same : ◌≡◌ {A = Found} (record { weight = p.weight; time = p.time }) f = cc in
    ap some (point-path (ap (λ (g : Found). g.time) same) (ap (λ (g : Found). g.weight) same))

-- By a time that no point passes, the last point of all is found.
pub last-by-latest : {t : ℤ} (ps : List Point) → ((p : Point) → In p ps → p.time ≤ℤ t) → lookup ps t ≡ last_point ps
last-by-latest {t} ps h =
    ap (λ (qs : List Point). lookup qs t) (sym (append-nil ps)) ∙ lookup-front t ps [] h (λ p m. absurd (not-nil m))

-- What the search from the back finds at a time is the list's last point by it, in whatever order the points stand:
module _ {work : List ℤ} {t : ℤ} (f : InFree t) where
  -- none, where all numbers are past the limit,
  pub lookup-over : {i : ℕ} {ps : List Point} → Held work i ps
      → ((k : ℕ) → i ≤ k → k < i + length ps → limit_of t <ℤ at0 work k) → lookup ps t ≡ none
  lookup-over held_none over = refl
  lookup-over (held_more {i = i} {p = p} s e h) over =
      let past : limit_of t <ℤ code p = rw e at (over i (omega arith) (omega arith)) in
      let late = limit-late f s past in
      let test : le_z p.time t ≡ false = omega signed in
      rw (lookup-over h (λ k a b. over k (omega arith) (omega arith)), test)

  -- else that of the number before the place found.
  pub lookup-after : {i : ℕ} {ps : List Point} (e : ℕ) → Held work i ps → After work i (i + length ps) (limit_of t) e → i < e
      → lookup ps t ≡ some (point_of (at0 work (e - 1)))
  lookup-after e held_none a l = absurd (omega (arith, a.high))
  lookup-after e (held_more {i = i} {p = p} {ps = ps} s d h) a l =
      ⊎_elim here (λ m. behind (lookup-after e h (further m) m)) (eq-or-lt_of_le l)
    where
      -- It is the first of all, and the others are past the limit,
      here : suc i ≡ e → lookup (p ∷ ps) t ≡ some (point_of (at0 work (e - 1)))
      here same =
          let at_i : e - 1 ≡ i = omega arith in
          let by : code p ≤ℤ limit_of t = rw (at_i, d) at (a.under l) in
          let soon = limit-early f s by in
          let test : le_z p.time t ≡ true = omega signed in
          let none-behind : lookup ps t ≡ none = lookup-over h (λ k m n. a.over k (omega arith) (omega arith)) in
          rw (none-behind, test, at_i, d, point-back s)

      -- or it is one behind the first.
      further : suc i < e → After work (suc i) (suc i + length ps) (limit_of t) e
      further m = record {
        low = omega arith;
        high = omega (arith, a.high);
        over = λ k x y. a.over k x (omega arith);
        under = λ x. a.under l;
      }

      behind : lookup ps t ≡ some (point_of (at0 work (e - 1))) → lookup (p ∷ ps) t ≡ some (point_of (at0 work (e - 1)))
      behind is = rw is

-- A number of a list is one that points have.
pub number-there : {l : List ℤ} {i : ℕ} (n : ℕ) → Held l i (list_at l i n) → (k : ℕ) → k < n → pos 0 ≤ℤ at0 l (i + k)
number-there {l} {i} n h k less =
    let p = held-point h (i + k) (omega arith) (omega (arith, list_length l i n)) in
    rw p.2 (code-least p.1)

-- ---- numbers that say a list

-- A list that stands says itself.
pub held-says : {work : List ℤ} {place count : ℕ} {ps : List Point} → Held work place ps → count ≡ length ps
    → Says work place count ps
held-says {work} {place} {count} {ps} h e =
    let is : list_at work place count ≡ ps = rw e (held-read h) in
    record { held = rw is h; says = λ t. ap (λ (qs : List Point). lookup qs t) is }

-- Where the numbers before an end stay, they say the same.
pub says_stays : {l m : List ℤ} {place count : ℕ} {ps : List Point} (n : ℕ) → ((k : ℕ) → k < n → at0 m k ≡ at0 l k)
    → place + count ≤ n → Says l place count ps → Says m place count ps
says_stays {l} {m} {place} {count} n f h s =
    let many = list_length l place count in
    let stays : Held m place (list_at l place count) = held_stays n f (omega arith) s.held in
    let is : list_at m place count ≡ list_at l place count = rw many at (held-read stays) in
    record { held = rw is stays; says = λ t. ap (λ (qs : List Point). lookup qs t) is ∙ s.says t }
