-- Both sides of the edges of winning as one list, by both tie rules: each answer, and what the rules say of it. One statement holds
-- of the whole list, by computation.
use Rattle.std.specs.Prelude.{ℕ, ◌+◌, ◌≡◌, refl, List, [], ◌∷◌, ◌++◌, map, ℤ, pos, negsuc, Ok, Err}
use Rattle.seconds.specs.Limits.{rest}
use Rattle.seconds.specs.Twos.{bits_to, to_bits}
use Rattle.packed.specs.Layout.{decode, encode, number_of, bytes_of, record_bytes}
use Rattle.packed.specs.Places.{part, flat, each, first}
use Rattle.packed.specs.Packed.{header_word, header_of, count_of, t0_of, kind_of, record_at, job_word, job_fields, numbers_of, job_count, fields_at}
use Rattle.packed.specs.Packed.{first_packed, kind_for, packed_header, packed_job, pack_in, pack_order, job_of, jobs_of, order_of}
use Rattle.packed.specs.Judge.{plainly}
use Rattle.ties.specs.Winning.{Chosen, sooner, to_first, winner_by}
use Rattle.ties.specs.declared.Winner.TheVariants.{First, Second}

-- An opening with the bus free at 0 and one job, ready at 0, for a pack: its mark, weight, length and deadline.
abbrev pub for_pack : ℕ → ℕ → ℕ → ℕ → ℕ → List ℕ
for_pack pack mark weight long deadline =
    pack_order (pos 0) (pos 1 ∷ pos pack ∷ pos mark ∷ pos weight ∷ pos 0 ∷ pos long ∷ pos deadline ∷ [])

-- One for pack 0.
abbrev pub opening : ℕ → ℕ → ℕ → ℕ → List ℕ
opening = for_pack 0

-- One that ends at 10, one of the same weight that ends at 5, one with no feasible choice, and one with no jobs, free at 7.
abbrev slow : List ℕ
slow = opening 0 10 10 10

abbrev quick : List ℕ
quick = opening 0 10 5 10

abbrev hopeless : List ℕ
hopeless = opening 1 0 10 9

abbrev pub idle : List ℕ
idle = pack_order (pos 7) []

-- Another with no jobs, free before 0.
abbrev early : List ℕ
early = pack_order (negsuc 2) []

-- Two jobs of weight 10 and 1, and how long each takes: both keep 10 first, and 11 at 41 and at 85.
abbrev two_jobs : ℕ → ℕ → List ℕ
two_jobs long further =
    pack_order (pos 0)
    (pos 1 ∷ pos 0 ∷ pos 0 ∷ pos 10 ∷ pos 0 ∷ pos long ∷ pos 100 ∷ pos 2 ∷ pos 0 ∷ pos 0 ∷ pos 1 ∷ pos 0 ∷ pos further ∷ pos 100 ∷ [])

abbrev soon_done : List ℕ
soon_done = two_jobs 10 1

abbrev late_done : List ℕ
late_done = two_jobs 5 50

-- When the bus is free again after an end.
abbrev free : ℕ → ℤ
free end = pos (end + rest)

-- ---- the list

pub record Edge : Type 0 where
  pub asked : Chosen
  pub told : Chosen

abbrev edge : Chosen → Chosen → Edge
edge a b = record { asked = a; told = b }

-- Two openings at a time by each tie rule: what the sooner one says, and what the older one.
abbrev asks : List ℕ → List ℕ → ℤ → Chosen → Chosen → List Edge
asks first second t one other = edge (winner_by sooner first second t) one ∷ edge (winner_by to_first first second t) other ∷ []

abbrev pub edges : List Edge
edges =
    -- equal weight reached at once goes to the first, and to the sooner where it is not at once
    asks slow slow (free 10) (Ok First) (Ok First)
    ++ asks slow quick (free 10) (Ok Second) (Ok First)
    ++ asks quick slow (free 10) (Ok First) (Ok First)
    -- so do openings that keep nothing
    ++ asks idle early (pos 7) (Ok Second) (Ok First)
    ++ asks early idle (pos 7) (Ok First) (Ok First)
    -- the heavier wins, from the second at which it has its weight
    ++ asks slow quick (free 9) (Ok Second) (Ok Second)
    ++ asks slow quick (free 5) (Ok Second) (Ok Second)
    ++ asks slow quick (free 4) (Ok First) (Ok First)
    -- the times are those of the points by then: the last point of the first is the sooner of both
    ++ asks soon_done late_done (pos 24) (Ok Second) (Ok Second)
    ++ asks soon_done late_done (pos 25) (Ok Second) (Ok First)
    ++ asks soon_done late_done (pos 40) (Ok Second) (Ok First)
    ++ asks soon_done late_done (pos 41) (Ok First) (Ok First)
    ++ asks soon_done late_done (pos 84) (Ok First) (Ok First)
    ++ asks soon_done late_done (pos 85) (Ok First) (Ok First)
    ++ asks late_done soon_done (pos 85) (Ok Second) (Ok First)
    -- with no point an opening loses to one that has one, of weight 0
    ++ asks hopeless idle (pos 7) (Ok Second) (Ok Second)
    ++ asks idle hopeless (pos 7) (Ok First) (Ok First)
    -- 11: neither has a point yet, or ever
    ++ asks hopeless idle (pos 6) (Err (plainly 11)) (Err (plainly 11))
    ++ asks slow quick (negsuc 0) (Err (plainly 11)) (Err (plainly 11))
    ++ asks hopeless hopeless (pos 100) (Err (plainly 11)) (Err (plainly 11))

-- Every edge is where R17 has it.
pub edges-hold : map (λ (e : Edge). e.asked) edges ≡ map (λ (e : Edge). e.told) edges
unfolding decode encode number_of bytes_of record_bytes bits_to to_bits part flat each first header_word header_of count_of t0_of kind_of
    record_at job_word job_fields numbers_of job_count fields_at first_packed kind_for packed_header packed_job pack_in job_of jobs_of order_of rest
edges-hold = refl
