-- Cells laid and counted one by one.
use Rattle.std.specs.Prelude.{ℕ, zero, suc, ◌+◌, ◌≤◌, ◌<◌, ◌≡◌, refl, Bool, true, false, cond, List, ℤ, pos, length, set}
use Rattle.std.proofs.Common.{sym, ap, ap₂, ◌∙◌, ⊎_elim, eq-or-lt_of_le, arith, length-set, get_or-set_same, get_or-set_other}
use Rattle.std.specs.Int.{from_bool}
use Rattle.codes.specs.Code.{at0}
use Rattle.cells.specs.Laying.{is_point, before, rises_to, Laid}

pub laid_none : (f : ℕ → ℤ) (from at : ℕ) (work : List ℤ) → Laid f from from at work work
laid_none f from at work = record { size = refl; laid = λ x a b. absurd (omega arith); stays = λ k h. refl }

pub laid_more : {f : ℕ → ℤ} {from x at : ℕ} {was work : List ℤ} → Laid f from x at was work → from ≤ x → at + x < length was
    → (z : ℤ) → z ≡ f x → Laid f from (x + 1) at was (set work (at + x) z)
laid_more {f} {from} {x} {at} {was} {work} l low room z is = record {
  size = length-set work (at + x) z ∙ l.size;
  laid = λ y a b. ⊎_elim (λ e. rw e last) (λ m. other (at + y) (omega arith) ∙ l.laid y a m) (eq-or-lt_of_le (up_to y b));
  stays = λ k h. other k (omega arith) ∙ l.stays k h;
}
  where
    other : (k : ℕ) → (k ≡ at + x → ⊥) → at0 (set work (at + x) z) k ≡ at0 work k
    other k = get_or-set_other work (at + x) k z (pos 0)

    last : at0 (set work (at + x) z) (at + x) ≡ f x
    last = get_or-set_same work (at + x) z (pos 0) (omega (arith, l.size)) ∙ is

    up_to : (y : ℕ) → y < x + 1 → y ≤ x
    up_to y h = omega arith

-- A test as a number.
pub one-if : (b : Bool) → from_bool b ≡ cond b 1 0
one-if true = refl
one-if false = refl

-- One more is counted where it is greater than the one before.
pub rises-more : (f : ℕ → ℤ) (x : ℕ) {n : ℕ} → n ≡ rises_to f x → (y : ℕ) → y ≡ suc x → (last z : ℤ) → last ≡ before f x → z ≡ f x
    → (m : ℕ) → m ≡ n + cond (is_point last z) 1 0 → m ≡ rises_to f y
rises-more f x {n} told y y-is last z l-is z-is m m-is =
    m-is ∙ ap₂ ◌+◌ told (ap (λ (b : Bool). cond b 1 0) (ap₂ is_point l-is z-is)) ∙ ap (rises_to f) (sym y-is)

-- No more are counted than there are.
pub rises-few : (f : ℕ → ℤ) (x : ℕ) → rises_to f x ≤ x
rises-few f zero = omega arith
rises-few f (suc x) = omega (arith, rises-few f x, one (is_point (before f x) (f x)))
  where
    one : (b : Bool) → cond b 1 0 ≤ 1
    one true = omega arith
    one false = omega arith

-- The same cells are counted alike.
pub rises-same : (f g : ℕ → ℤ) (x : ℕ) → ((y : ℕ) → y < x → f y ≡ g y) → rises_to f x ≡ rises_to g x
rises-same f g zero h = refl
rises-same f g (suc x) h =
    ap₂ ◌+◌ (rises-same f g x (λ y l. h y (omega arith)))
    (ap (λ (b : Bool). cond b 1 0) (ap₂ is_point (before_same x (λ y l. h y (omega arith))) (h x (omega arith))))
  where
    before_same : (x : ℕ) → ((y : ℕ) → y < x → f y ≡ g y) → before f x ≡ before g x
    before_same zero h = refl
    before_same (suc x) h = h x (omega arith)
