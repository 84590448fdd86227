-- An order with its packs set to 0 (R44): each job has all its other numbers as they are, and they are packed again with the same
-- bus-free time. Definitions only.
use Rattle.std.specs.Prelude.{ℕ, List, [], ◌∷◌, ℤ, pos}
use Rattle.packed.specs.Places.{flat}
use Rattle.packed.specs.Packed.{the_number, the_mark, the_weight, the_ready, the_length, the_deadline}
use Rattle.packed.specs.Packed.{t0_of, numbers_of, job_count, fields_at, pack_order}

-- A job's numbers, its pack set to 0,
abbrev pub pack_aside : List ℤ → List ℤ
pack_aside zs = the_number zs ∷ pos 0 ∷ the_mark zs ∷ the_weight zs ∷ the_ready zs ∷ the_length zs ∷ the_deadline zs ∷ []

-- the numbers of all jobs,
unfoldable pub packs_aside : List ℤ → List ℤ
packs_aside zs = flat (λ k. pack_aside (fields_at zs k)) (job_count zs)

-- and the packed order.
abbrev pub order_aside : List ℕ → List ℕ
order_aside bytes = pack_order (t0_of bytes) (packs_aside (numbers_of bytes))
