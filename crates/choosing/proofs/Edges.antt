-- Both sides of the edges of choosing's refusals, and openings of unlike kinds, by both tie rules: each answer with the kind of the
-- winner's records, and what the rules say of it. One statement holds of each list, by computation.
use Rattle.std.specs.Prelude.{ℕ, ◌≤◌, ◌≡◌, refl, List, [], ◌∷◌, map, ℤ, pos, length, Ok, Err}
use Rattle.std.proofs.Common.{le-ltb}
use Rattle.seconds.specs.Limits.{rest}
use Rattle.seconds.specs.Twos.{bits_to, to_bits}
use Rattle.packed.specs.Layout.{decode, encode, number_of, bytes_of, record_bytes}
use Rattle.packed.specs.Places.{part, flat, each, first}
use Rattle.packed.specs.Packed.{header_word, header_of, count_of, t0_of, kind_of, record_at, job_word, job_fields, numbers_of, job_count, fields_at}
use Rattle.packed.specs.Packed.{first_packed, kind_for, packed_header, packed_job, pack_in, job_of, jobs_of, order_of}
use Rattle.packed.specs.declared.Refusal.{Refusal}
use Rattle.packed.specs.Judge.{in_field, plainly}
use Rattle.packed.specs.Refusals.{fields_within, bad_field, first_bad, number_at, first_repeat, header_checks, job_checks, weight_checks}
use Rattle.area.specs.Area.{area}
use Rattle.ties.specs.Winning.{Chosen, TieRule, sooner, to_first}
use Rattle.ties.proofs.AsWritten.{opening, for_pack, idle}
use Rattle.ties.specs.declared.Winner.TheVariants.{First, Second}
use Rattle.choosing.specs.Choosing.{choosing_checks, chosen_of, kind_won}

-- Two that are out of range, in the length and in the weight.
abbrev too_long : List ℕ
too_long = opening 0 10 10001 10

abbrev weightless : List ℕ
weightless = opening 0 0 10 10

-- A header of 63 jobs of kind 2, and one of no jobs of kind 1.
abbrev unknown_kind : List ℕ
unknown_kind = 255 ∷ 0 ∷ 0 ∷ 2 ∷ []

abbrev needless_kind : List ℕ
needless_kind = 0 ∷ 0 ∷ 0 ∷ 1 ∷ []

-- One job of some weight that leaves the bus free at 25, in a record of kind 0, and of kind 1.
abbrev without_pack : ℕ → List ℕ
without_pack weight = opening 0 weight 10 10

abbrev with_pack : ℕ → List ℕ
with_pack weight = for_pack 3 0 weight 10 10

-- Two openings, the answer, and the kind of the winner's records.
pub record Edge : Type 0 where
  pub first : List ℕ
  pub second : List ℕ
  pub chosen : Chosen
  pub kind : ℕ

abbrev edge : List ℕ → List ℕ → Chosen → ℕ → Edge
edge a b won kind = record { first = a; second = b; chosen = won; kind = kind }

abbrev refuses : List ℕ → List ℕ → Refusal → Edge
refuses a b r = edge a b (Err r) 0

-- Without a work area.
abbrev pub edges : List Edge
edges =
    -- the first order's refusals, then the second's, then 10
    refuses unknown_kind [] (plainly 2)
    ∷ refuses idle [] (plainly 1)
    ∷ refuses idle unknown_kind (plainly 2)
    ∷ refuses needless_kind [] (plainly 19)
    ∷ refuses idle needless_kind (plainly 19)
    ∷ refuses idle idle (plainly 10)
    -- 6 with the field of the first order that is refused, and no place
    ∷ refuses too_long weightless (in_field 6 0 6)
    ∷ refuses weightless too_long (in_field 6 0 4)
    ∷ refuses idle too_long (in_field 6 0 6)
    ∷ []

-- With one.
abbrev pub unlike : List Edge
unlike =
    -- the heavier wins, and tells its own kind
    edge (without_pack 10) (with_pack 20) (Ok Second) 1
    ∷ edge (with_pack 20) (without_pack 10) (Ok First) 1
    ∷ edge (without_pack 20) (with_pack 10) (Ok First) 0
    ∷ edge (with_pack 10) (without_pack 20) (Ok Second) 0
    -- a pack gives no opening the lead
    ∷ edge (without_pack 10) (with_pack 10) (Ok First) 0
    ∷ edge (with_pack 10) (without_pack 10) (Ok First) 1
    ∷ refuses (with_pack 10) needless_kind (plainly 19)
    ∷ []

-- What choosing by a rule says of an edge at 25, and what it should.
abbrev pub said : TieRule → List ℤ → Edge → Chosen × ℕ
said rule work e =
    let won = chosen_of rule e.first e.second (pos 25) work in
    (won, kind_won won e.first e.second)

abbrev pub told : Edge → Chosen × ℕ
told e = (e.chosen, e.kind)

-- Every edge is where R24 and R25 have it, by both rules.
pub edges-hold : (map (said sooner []) edges ≡ map told edges) × (map (said to_first []) edges ≡ map told edges)
unfolding decode encode number_of bytes_of record_bytes bits_to to_bits part flat each first header_word header_of count_of t0_of kind_of
    record_at job_word job_fields numbers_of job_count fields_at first_packed kind_for packed_header packed_job pack_in job_of jobs_of order_of
    fields_within bad_field first_bad number_at first_repeat header_checks job_checks weight_checks choosing_checks
edges-hold = (refl, refl)

-- So are openings of unlike kinds, by R18.
pub unlike-hold : (work : List ℤ) → area ≤ length work
    → (map (said sooner work) unlike ≡ map told unlike) × (map (said to_first work) unlike ≡ map told unlike)
unfolding decode encode number_of bytes_of record_bytes bits_to to_bits part flat each first header_word header_of count_of t0_of kind_of
    record_at job_word job_fields numbers_of job_count fields_at first_packed kind_for packed_header packed_job pack_in job_of jobs_of order_of
    fields_within bad_field first_bad number_at first_repeat header_checks job_checks weight_checks choosing_checks rest
unlike-hold work room = rw (le-ltb (length work) area room) (refl, refl)
