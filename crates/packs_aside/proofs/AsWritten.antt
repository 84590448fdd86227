-- R44 at two jobs, as computed facts: an order in which the first job has the pack 3 and the second the pack 0, and that order
-- with its packs set to 0.
use Rattle.std.specs.Prelude.{ℕ, ◌≡◌, refl, List, [], ◌∷◌, ◌++◌, map, ℤ, pos, negsuc}
use Rattle.seconds.specs.Twos.{bits_to, to_bits}
use Rattle.packed.specs.Layout.{decode, encode, number_of, bytes_of, record_bytes}
use Rattle.packed.specs.Places.{part, flat, first}
use Rattle.packed.specs.Packed.{header_word, header_of, count_of, t0_of, kind_of, record_at, job_word, job_fields, numbers_of}
use Rattle.packed.specs.Packed.{job_count, fields_at, first_packed, kind_for, packed_header, packed_job, pack_in}
use Rattle.packs_aside.specs.PacksAside.{packs_aside, order_aside}

-- The bus is free at -600.
abbrev with_packs : List ℕ
with_packs =
    (0x0B ∷ 0xFD ∷ 0xA8 ∷ 1 ∷ [])
    ++ (0x10 ∷ 0x0E ∷ 0 ∷ 0 ∷ 0 ∷ 0x03 ∷ 0x20 ∷ 0x03 ∷ 0xE8 ∷ [])
    ++ (0x90 ∷ 0 ∷ 0x17 ∷ 0xFF ∷ 0xC4 ∷ 0x04 ∷ 0xB0 ∷ 0x03 ∷ 0xE8 ∷ [])

abbrev packs_at0 : List ℕ
packs_at0 =
    (0x0B ∷ 0xFD ∷ 0xA8 ∷ 0 ∷ [])
    ++ (0x12 ∷ 0 ∷ 0 ∷ 0 ∷ 0x03 ∷ 0x20 ∷ 0x03 ∷ 0xE8 ∷ [])
    ++ (0x90 ∷ 0x17 ∷ 0xFF ∷ 0xC4 ∷ 0x04 ∷ 0xB0 ∷ 0x03 ∷ 0xE8 ∷ [])

pub packs-set-to-0 : order_aside with_packs ≡ packs_at0
unfolding decode encode number_of bytes_of bits_to to_bits part flat first header_word header_of count_of t0_of kind_of record_bytes
    record_at job_word job_fields numbers_of job_count fields_at first_packed kind_for packed_header packed_job pack_in packs_aside
packs-set-to-0 = refl

-- The first is of kind 1, the second of kind 0.
pub both-kinds : map kind_of (with_packs ∷ packs_at0 ∷ []) ≡ 1 ∷ 0 ∷ []
unfolding decode number_of bits_to header_word header_of kind_of
both-kinds = refl

-- The numbers that they say differ in the first job's pack alone: number, pack, critical, weight, ready, length, deadline.
abbrev jobs : ℤ → List ℤ
jobs pack =
    (pos 4 ∷ pack ∷ pos 1 ∷ pos 0 ∷ pos 0 ∷ pos 200 ∷ pos 1000 ∷ [])
    ++ (pos 36 ∷ pos 0 ∷ pos 0 ∷ pos 5 ∷ negsuc 59 ∷ pos 300 ∷ pos 1000 ∷ [])

pub both-numbers : map numbers_of (with_packs ∷ packs_at0 ∷ []) ≡ jobs (pos 3) ∷ jobs (pos 0) ∷ []
unfolding decode number_of bits_to part flat header_word header_of count_of kind_of record_bytes record_at job_word job_fields numbers_of
both-numbers = refl
