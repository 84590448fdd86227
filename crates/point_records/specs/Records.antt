-- Point records as alternating numbers. Definitions only.
use Rattle.std.specs.Prelude.{ℕ, ◌+◌, List, [], ◌∷◌, ℤ, pos}
use Rattle.seconds.specs.Limits.{most_points}
use Rattle.point_records.specs.declared.Point.{Point}

-- The numbers of some records: each record's time and then its weight.
abbrev pub flattened : List Point → List ℤ
flattened [] = []
flattened (p ∷ ps) = p.time ∷ p.weight ∷ flattened ps

-- The most records that the lookup reads.
abbrev pub most_read : ℕ
most_read = most_points + 1

-- The most records that are passed by value.
abbrev pub most_passed : ℕ
most_passed = 8

-- A record that holds nothing yet.
abbrev pub blank : Point
blank = record { time = pos 0; weight = pos 0 }
