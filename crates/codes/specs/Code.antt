-- A scheduling point as one number: smaller where it is earlier, and at one time where it is heavier. Definitions only.
use Rattle.std.specs.Prelude.{ℕ, zero, suc, ◌+◌, ◌-◌, ◌*◌, ◌/◌, ◌%◌, List, [], ◌∷◌, ℤ, pos, nat_abs, ◌+ℤ◌, ◌-ℤ◌, get_or}
use Rattle.order.specs.Job.{Point}
use Rattle.codes.specs.declared.Prefix.{Prefix}

-- The seconds since the earliest time that a point may have.
abbrev pub since : ℤ → ℕ
since t = nat_abs (t +ℤ pos 100000)

-- The numbers for each second, and how light a point of no weight is.
abbrev pub per_second : ℕ
per_second = 512

abbrev pub most_light : ℕ
most_light = 511

-- The number of a time and a weight, and of a point.
abbrev pub code_of : ℤ → ℕ → ℤ
code_of t w = pos (since t * per_second + (most_light - w))

abbrev pub code : Point → ℤ
code p = code_of p.time p.weight

-- How light a point is, told from its number: the heavier, the less light.
abbrev pub lightness : ℤ → ℕ
lightness z = nat_abs z % per_second

-- The point of a number.
abbrev pub point_of : ℤ → Point
point_of z = record { time = pos (nat_abs z / per_second) -ℤ pos 100000; weight = most_light - lightness z }

-- The greatest number at a time, and a number past every point.
abbrev pub limit_of : ℤ → ℤ
limit_of t = pos (since t * per_second + most_light)

abbrev pub past_all : ℤ
past_all = pos 1073741824

-- ---- lists of numbers

-- The number at a place.
abbrev pub at0 : List ℤ → ℕ → ℤ
at0 l k = get_or l k (pos 0)

-- The list of points at a place, so many.
abbrev pub list_at : List ℤ → ℕ → ℕ → List Point
list_at l i zero = []
list_at l i (suc n) = point_of (at0 l i) ∷ list_at l (suc i) n

-- The points of a list in the work area or in a buffer, and the place behind its last number.
abbrev pub points_at : List ℤ → Prefix → List Point
points_at l r = list_at l r.place r.count

abbrev pub end_of : Prefix → ℕ
end_of r = r.place + r.count
