-- The packed plan: 48 bits of mask, a signed start of 18 bits for each one in it, zero bits to the next whole byte. It is a layout
-- as an order's records are, and reading and writing follow from it. Definitions only.
use Rattle.std.specs.Prelude.{ℕ, suc, ◌+◌, ◌*◌, ◌-◌, ◌/◌, ◌%◌, ◌^◌, Bool, not, cond, ◌||◌, List, [], ◌∷◌, ◌++◌, eqb, ltb, ℤ, pos, nat_abs, length, replicate, take, drop, get_or}
use Rattle.std.specs.Int.Count.{ones}
use Rattle.std.specs.Int.Signed.{lt_z}
use Rattle.seconds.specs.Limits.{left_out}
use Rattle.packed.specs.Layout.{Field, plain, twos, decode, encode, number_of, bytes_of}
use Rattle.packed.specs.Places.{each}
use Rattle.packed.specs.Judge.{Check, check}

-- ---- the layout

-- The bits of a mask, its whole bytes, and the bits of a start.
abbrev pub mask_bits : ℕ
mask_bits = 48

abbrev pub mask_bytes : ℕ
mask_bytes = mask_bits / 8

abbrev pub start_bits : ℕ
start_bits = 18

-- The bytes of a plan with so many starts: its bits, rounded up; and the zero bits at its end.
abbrev pub plan_bytes : ℕ → ℕ
plan_bytes n = (mask_bits + start_bits * n + 7) / 8

abbrev pub pad_bits : ℕ → ℕ
pad_bits n = 8 * plan_bytes n - (mask_bits + start_bits * n)

-- The mask and the starts; and with the bits at the end.
abbrev pub front_layout : ℕ → List Field
front_layout n = plain mask_bits ∷ replicate n (twos start_bits)

abbrev pub plan_layout : ℕ → List Field
plan_layout n = front_layout n ++ (plain (pad_bits n) ∷ [])

-- ---- the bytes of a mask and its starts

unfoldable pub plan_number : ℕ → List ℤ → ℕ
plan_number mask starts = encode (plan_layout (length starts)) ((pos mask ∷ starts) ++ (pos 0 ∷ []))

unfoldable pub pack_plan : ℕ → List ℤ → List ℕ
pack_plan mask starts = bytes_of (plan_bytes (length starts)) (plan_number mask starts)

-- The starts of the jobs kept alone, of starts in place order: a job left out has 200,000 there.
abbrev pub starts_kept : List ℤ → List ℤ
starts_kept [] = []
starts_kept (s ∷ ss) = cond (lt_z s left_out) (s ∷ starts_kept ss) (starts_kept ss)

-- ---- what bytes say

-- The mask, and how many starts it asks for: one for each one in it.
unfoldable pub mask_in : List ℕ → ℕ
mask_in bytes = number_of (take mask_bytes bytes)

unfoldable pub count_in : List ℕ → ℕ
count_in bytes = ones (mask_in bytes)

-- The numbers of a plan with so many starts,
unfoldable pub plan_fields : ℕ → List ℕ → List ℤ
plan_fields n bytes = decode (plan_layout n) (number_of bytes)

-- its starts,
unfoldable pub starts_in : List ℕ → List ℤ
starts_in bytes = take (count_in bytes) (drop 1 (plan_fields (count_in bytes) bytes))

-- and the number of the bits at its end.
unfoldable pub pad_in : List ℕ → ℕ
pad_in bytes = nat_abs (get_or (plan_fields (count_in bytes) bytes) (suc (count_in bytes)) (pos 0))

-- Whether a mask keeps the job at a place: its highest bit is that of place 0.
abbrev pub kept_at : ℕ → ℕ → Bool
kept_at mask p = not (eqb (mask / 2 ^ (mask_bits - suc p) % 2) 0)

-- Which of so many jobs are kept.
unfoldable pub kept_in : ℕ → List ℕ → List Bool
kept_in n bytes = each (kept_at (mask_in bytes)) 0 n

-- ---- checks 14 and 15, against so many jobs

-- 14: under 6 bytes, or another length than the bits of the mask and of a start for each one in it, rounded up to bytes; every one
-- counts, also those beyond the jobs. 15: set bits beyond the jobs, or at the end.
unfoldable pub sent_checks : ℕ → List ℕ → List Check
sent_checks n plan =
    check 14 (ltb (length plan) mask_bytes || not (eqb (length plan) (plan_bytes (count_in plan))))
    ∷ check 15 (not (eqb (mask_in plan % 2 ^ (mask_bits - n)) 0) || not (eqb (pad_in plan) 0))
    ∷ []
