-- A stream's entries: each behind its length in two bytes, the highest first; and the sheet of a stream (R48). Definitions only.
use Rattle.std.specs.Prelude.{ℕ, zero, suc, ◌+◌, ◌*◌, Bool, cond, List, [], ◌∷◌, ltb, length, take, drop}
use Rattle.sheet.specs.Sheet.{Sheet, most_orders}
use Rattle.sheet.specs.Answered.{week_of}

-- The length that two bytes say.
abbrev pub said : ℕ → ℕ → ℕ
said high low = high * 256 + low

-- The whole entries, and what is left behind the last one.
pub record Parts : Type 0 where
  pub whole : List (List ℕ)
  pub rest : List ℕ

-- An entry in front of other parts.
abbrev pub before : List ℕ → Parts → Parts
before e p = record { whole = e ∷ p.whole; rest = p.rest }

-- The parts of a stream of at most so many entries. A length half missing, or running past the end, is left with all behind it.
unfoldable pub parts_by : ℕ → List ℕ → Parts
parts_by zero s = record { whole = []; rest = s }
parts_by (suc n) [] = record { whole = []; rest = [] }
parts_by (suc n) (high ∷ []) = record { whole = []; rest = high ∷ [] }
parts_by (suc n) (high ∷ low ∷ s) =
    cond (ltb (length s) (said high low))
    (record { whole = []; rest = high ∷ low ∷ s })
    (before (take (said high low) s) (parts_by n (drop (said high low) s)))

-- Of any stream: it has fewer entries than bytes.
unfoldable pub parts_of : List ℕ → Parts
parts_of s = parts_by (length s) s

abbrev pub entries_of : List ℕ → List (List ℕ)
entries_of s = (parts_of s).whole

-- A stream is cut where something is left, else whole.
abbrev pub is_cut : List ℕ → Bool
is_cut s = ltb 0 (length (parts_of s).rest)

-- More entries than a sheet may have: 18.
abbrev pub too_many : List ℕ → Bool
too_many s = ltb most_orders (length (entries_of s))

-- The sheet of a stream is that of its whole entries.
abbrev pub stream_sheet : List ℕ → Sheet
stream_sheet s = week_of (entries_of s)
