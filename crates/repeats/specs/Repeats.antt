-- The first number of a list that stood earlier in it. Definitions only.
use Rattle.std.specs.Prelude.{ℕ, Bool, List, ltb, eqb, length, get_or}
use Rattle.packed.specs.Places.{first}

-- Whether the number at a place j is that at k.
abbrev pub alike : List ℕ → ℕ → ℕ → Bool
alike ns k j = eqb (get_or ns j 0) (get_or ns k 0)

-- Whether the number at a place stood earlier.
abbrev pub stood_earlier : List ℕ → ℕ → Bool
stood_earlier ns k = ltb (first (alike ns k) 0 k) k

-- The first such place; the length if there is none.
unfoldable pub first_again : List ℕ → ℕ
first_again ns = first (stood_earlier ns) 0 (length ns)
