-- The lesser and the greater of two, from what the library says to what the specs say.
use Rattle.std.proofs.Common.{◌≡◌, ap₂, ◌∙◌}
use Rattle.std.specs.Int.{int_min, int_max}
use Rattle.std.specs.Prelude.{int_lt, ℤ}
use borrow.Table.Steps.{cases}
use Rattle.seconds.specs.Signed.{signed, min_z, max_z, min-is, max-is}

pub lesser-is : {x y a b : ℤ} → a ≡ x → b ≡ y → {r : ℤ} → r ≡ int_min a b → r ≡ min_z x y
lesser-is {x} {y} e f h =
    h ∙ ap₂ int_min e f ∙ cases (int_lt y x) (λ t. rw t (omega (signed, min-is x y))) (λ t. rw t (omega (signed, min-is x y)))

pub greater-is : {x y a b : ℤ} → a ≡ x → b ≡ y → {r : ℤ} → r ≡ int_max a b → r ≡ max_z x y
greater-is {x} {y} e f h =
    h ∙ ap₂ int_max e f ∙ cases (int_lt y x) (λ t. rw t (omega (signed, max-is x y))) (λ t. rw t (omega (signed, max-is x y)))
