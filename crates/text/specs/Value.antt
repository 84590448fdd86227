-- What figures say: the number read back from its bytes. Definitions only.
use Rattle.std.specs.Prelude.{ℕ, ◌+◌, ◌-◌, ◌*◌, ◌≤◌, cond, eqb, ℤ, pos, neg_ℤ}
use mathlib.Core.List.{List, [], ◌∷◌, Memᴰ}
use Rattle.text.specs.Decimal.{minus, byte_of}

-- The number that figures say after a number that was read before them.
abbrev pub value_after : ℕ → List ℕ → ℕ
value_after read [] = read
value_after read (b ∷ bs) = value_after (read * 10 + (b - 48)) bs

-- The number that figures say.
abbrev pub value_of : List ℕ → ℕ
value_of bs = value_after 0 bs

-- A byte that is a figure.
pub record IsFigure (b : ℕ) : Type 0 where
  pub low : byte_of 0 ≤ b
  pub high : b ≤ byte_of 9

-- All of these bytes are figures.
abbrev pub AllFigures : List ℕ → Type 0
AllFigures bs = (b : ℕ) → Memᴰ b bs → IsFigure b

-- The signed number that bytes say.
abbrev pub signed_of : List ℕ → ℤ
signed_of [] = pos 0
signed_of (b ∷ bs) = cond (eqb b minus) (neg_ℤ (pos (value_of bs))) (pos (value_of (b ∷ bs)))
