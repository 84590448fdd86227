-- Cells put one by one.
use Rattle.std.specs.Prelude.{refl, ℕ, ◌+◌, ◌≤◌, ◌<◌, ◌≡◌, List, ℤ, pos, length, set}
use Rattle.std.proofs.Common.{◌∙◌, ⊎_elim, eq-or-lt_of_le, arith, length-set, get_or-set_same, get_or-set_other}
use Rattle.codes.specs.Code.{at0}
use Rattle.cells.specs.Cells.{Put}

pub put-none : (f : ℕ → ℤ) (from : ℕ) (was : List ℤ) → Put f from from was was
put-none f from was = record { size = refl; put = λ x a b. absurd (omega arith); before = λ x h. refl; behind = λ x h. refl }

pub put-more : {f : ℕ → ℤ} {from k : ℕ} {was row : List ℤ} → Put f from k was row → from ≤ k → k < length was → (z : ℤ) → z ≡ f k
    → Put f from (k + 1) was (set row k z)
put-more {f} {from} {k} {was} {row} p low room z is = record {
  size = length-set row k z ∙ p.size;
  put = λ x a b. ⊎_elim (λ e. rw e last) (λ m. other x (omega arith) ∙ p.put x a m) (eq-or-lt_of_le (up_to x b));
  before = λ x h. other x (omega arith) ∙ p.before x h;
  behind = λ x h. other x (omega arith) ∙ p.behind x (omega arith);
}
  where
    other : (x : ℕ) → (x ≡ k → ⊥) → at0 (set row k z) x ≡ at0 row x
    other x = get_or-set_other row k x z (pos 0)

    last : at0 (set row k z) k ≡ f k
    last = get_or-set_same row k z (pos 0) (omega (arith, p.size)) ∙ is

    up_to : (x : ℕ) → x < k + 1 → x ≤ k
    up_to x h = omega arith
