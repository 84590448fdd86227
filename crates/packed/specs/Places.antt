-- Lists by places: the parts of a list, lists put together place by place, and the first place that passes a test.
-- Definitions only.
use Rattle.std.specs.Prelude.{ℕ, zero, suc, ◌*◌, ◌-◌, Bool, cond, Option, Some, None, ltb, List, [], ◌∷◌, ◌++◌, take, drop}

module _ {ℓ} {A : Type ℓ} where
  -- The part at a place, of a list of parts of w each.
  unfoldable pub part : ℕ → List A → ℕ → List A
  part w l k = take w (drop (w * k) l)

  -- The parts of the first n places, put together.
  unfoldable pub flat : (ℕ → List A) → ℕ → List A
  flat f zero = []
  flat f (suc n) = flat f n ++ f n

  -- One for each of m places, from a place on.
  abbrev pub each_of : (ℕ → A) → ℕ → ℕ → List A
  each_of f at zero = []
  each_of f at (suc m) = f at ∷ each_of f (suc at) m

  -- One for each place, from a place on and below n.
  unfoldable pub each : (ℕ → A) → ℕ → ℕ → List A
  each f at n = each_of f at (n - at)

-- The first of m places, from a place on, that passes a test; the place behind them if none does.
abbrev pub first_of : (ℕ → Bool) → ℕ → ℕ → ℕ
first_of p at zero = at
first_of p at (suc m) =
    let later = first_of p (suc at) m in
    cond (p at) at later

-- The first place, from a place on and below n, that passes a test; n if none does.
unfoldable pub first : (ℕ → Bool) → ℕ → ℕ → ℕ
first p at n = first_of p at (n - at)

-- A place that is found below n; none where a search ended there.
abbrev pub found_below : ℕ → ℕ → Option ℕ
found_below n k = cond (ltb k n) (Some k) None
