-- Records of bits. A layout is a list of fields, highest bit first; a record is one number in mixed base, and bytes are
-- digits of 8 bits each. Reading and writing follow from the layout. Definitions only.
use Rattle.std.specs.Prelude.{ℕ, zero, suc, ◌+◌, ◌*◌, ◌/◌, ◌%◌, ◌^◌, List, [], ◌∷◌, ◌++◌, ℤ, pos, nat_abs, length, replicate}
use Rattle.seconds.specs.Twos.{bits_to, to_bits}

-- ---- digits

-- The bits of some widths together.
abbrev pub total : List ℕ → ℕ
total [] = 0
total (w ∷ ws) = w + total ws

-- Digits of these widths joined to one number, the first highest; what is missing counts as 0.
abbrev pub join : List ℕ → List ℕ → ℕ
join [] xs = 0
join (w ∷ ws) [] = 0
join (w ∷ ws) (x ∷ xs) = x * 2 ^ total ws + join ws xs

-- A number cut into digits of these widths.
abbrev pub cut : List ℕ → ℕ → List ℕ
cut [] n = []
cut (w ∷ ws) n = n / 2 ^ total ws ∷ cut ws (n % 2 ^ total ws)

-- ---- fields

-- A field has so many bits, plain or two's complement.
pub data Field : Type 0 where
  plain : ℕ → Field
  twos : ℕ → Field

-- The bits of a field.
abbrev pub width_of : Field → ℕ
width_of (plain w) = w
width_of (twos w) = w

-- The bits of each field.
abbrev pub widths : List Field → List ℕ
widths [] = []
widths (f ∷ fs) = width_of f ∷ widths fs

-- The number that a field's bits mean.
abbrev pub meaning : Field → ℕ → ℤ
meaning (plain w) n = pos n
meaning (twos w) n = bits_to w n

-- The bits of a number in a field.
abbrev pub bits_for : Field → ℤ → ℕ
bits_for (plain w) z = nat_abs z
bits_for (twos w) z = to_bits w z

-- What the digits of all fields mean.
abbrev pub meanings : List Field → List ℕ → List ℤ
meanings [] xs = []
meanings (f ∷ fs) [] = []
meanings (f ∷ fs) (x ∷ xs) = meaning f x ∷ meanings fs xs

-- The digits of all fields for some numbers.
abbrev pub digits_for : List Field → List ℤ → List ℕ
digits_for [] zs = []
digits_for (f ∷ fs) [] = []
digits_for (f ∷ fs) (z ∷ zs) = bits_for f z ∷ digits_for fs zs

-- ---- records

-- The numbers of a record.
unfoldable pub decode : List Field → ℕ → List ℤ
decode fs n = meanings fs (cut (widths fs) n)

-- The record of some numbers.
unfoldable pub encode : List Field → List ℤ → ℕ
encode fs zs = join (widths fs) (digits_for fs zs)

-- ---- bytes

-- The number that some bytes make, highest first.
unfoldable pub number_of : List ℕ → ℕ
number_of bs = join (replicate (length bs) 8) bs

-- A number as so many bytes, highest first.
unfoldable pub bytes_of : ℕ → ℕ → List ℕ
bytes_of k n = cut (replicate k 8) n

-- ---- the two records of an order

-- Header: count of jobs, bus-free time, kind of the records.
abbrev pub header_layout : List Field
header_layout = plain 6 ∷ twos 18 ∷ plain 8 ∷ []

-- The bits of a job's pack, by kind: none in kind 0.
abbrev pub pack_bits : ℕ → ℕ
pack_bits zero = 0
pack_bits (suc kind) = 8

-- Job, in front: number, pack, critical mark, weight, ready time;
abbrev pub front_layout : ℕ → List Field
front_layout kind = plain 6 ∷ plain (pack_bits kind) ∷ plain 1 ∷ plain 7 ∷ twos 18 ∷ []

-- behind them: length, deadline.
abbrev pub back_layout : List Field
back_layout = plain 14 ∷ twos 18 ∷ []

-- A job of a kind. A field that a kind lacks has no bits: it reads as 0 and holds only 0.
abbrev pub job_layout : ℕ → List Field
job_layout kind = front_layout kind ++ back_layout

-- The bytes of a header.
abbrev pub header_bytes : ℕ
header_bytes = total (widths header_layout) / 8

-- The bytes of a job's front, and of all of it, by kind.
unfoldable pub front_bytes : ℕ → ℕ
front_bytes kind = total (widths (front_layout kind)) / 8

unfoldable pub record_bytes : ℕ → ℕ
record_bytes kind = total (widths (job_layout kind)) / 8

-- The numbers of a job, the same in every kind.
abbrev pub job_numbers : ℕ
job_numbers = length (job_layout 0)
