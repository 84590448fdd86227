-- R51 at P1, as bytes: with job 12 of 45 seconds, other numbers and packs, and so records of the other kind, the order is easier.
use Rattle.std.specs.Prelude.{ℕ, zero, suc, ◌<◌, ◌≡◌, refl, List, [], ◌∷◌, ◌++◌, map, ℤ, pos, negsuc, get_or, ◌≤ℤ◌}
use Rattle.std.proofs.Common.{arith}
use Rattle.std.specs.Int.Signed.{≤ℤ_refl}
use Rattle.seconds.specs.Signed.{signed}
use Rattle.seconds.specs.Twos.{bits_to, to_bits}
use Rattle.packed.specs.Layout.{decode, encode, number_of, bytes_of, record_bytes}
use Rattle.packed.specs.Places.{part, flat, each, first}
use Rattle.packed.specs.Packed.{header_word, header_of, count_of, t0_of, kind_of, record_at, job_word, job_fields, numbers_of}
use Rattle.packed.specs.Packed.{job_count, fields_at, packed_header, packed_job, pack_in, pack_order, first_packed, kind_for, job_of, jobs_of}
use Rattle.packed.specs.Refusals.{fields_within, first_bad, number_at, first_repeat, header_checks, job_checks, weight_checks}
use Rattle.easier.specs.EasierBytes.{EasierFields, EasierBytes}

-- P1's jobs, each with its number and pack to be said, and job 12 with its length: critical, weight, ready, length, deadline.
abbrev morning : (ℕ → List ℤ) → ℕ → List ℤ
morning front long =
    (front 0 ++ (pos 1 ∷ pos 0 ∷ negsuc 599 ∷ pos 495 ∷ pos 0 ∷ []))
    ++ ((front 1 ++ (pos 0 ∷ pos 20 ∷ negsuc 199 ∷ pos 300 ∷ pos 250 ∷ []))
    ++ ((front 2 ++ (pos 0 ∷ pos 15 ∷ pos 0 ∷ pos long ∷ pos 300 ∷ []))
    ++ ((front 3 ++ (pos 1 ∷ pos 0 ∷ pos 100 ∷ pos 100 ∷ pos 450 ∷ []))
    ++ (front 4 ++ (pos 0 ∷ pos 15 ∷ pos 0 ∷ pos 100 ∷ pos 500 ∷ [])))))

-- P1 itself, without packs.
abbrev own : ℕ → List ℤ
own k = pos (get_or (7 ∷ 3 ∷ 12 ∷ 5 ∷ 9 ∷ []) k 0) ∷ pos 0 ∷ []

abbrev pub packed_morning : List ℕ
packed_morning = pack_order (negsuc 599) (morning own 200)

-- Numbered and given packs by place.
abbrev by_place : ℕ → List ℤ
by_place k = pos k ∷ pos (suc k) ∷ []

abbrev pub packed_shorter : List ℕ
packed_shorter = pack_order (negsuc 599) (morning by_place 45)

-- A job that is no longer, all else but number and pack as it was.
no_longer : {a b p q mark weight ready long was deadline : ℤ} → long ≤ℤ was
    → EasierFields (a ∷ p ∷ mark ∷ weight ∷ ready ∷ long ∷ deadline ∷ []) (b ∷ q ∷ mark ∷ weight ∷ ready ∷ was ∷ deadline ∷ [])
no_longer {ready = ready} {deadline = deadline} h =
    record { mark = refl; weight = refl; ready = ≤ℤ_refl ready; long = h; deadline = ≤ℤ_refl deadline }

pub shorter-bytes-easier : EasierBytes packed_shorter packed_morning
unfolding bits_to to_bits decode encode number_of bytes_of part flat each first header_word header_of count_of t0_of kind_of record_bytes
    record_at job_word job_fields numbers_of job_count fields_at packed_header packed_job pack_in first_packed kind_for job_of jobs_of fields_within
    first_bad number_at first_repeat header_checks job_checks weight_checks
shorter-bytes-easier =
    record { new-accepted = refl; old-accepted = refl; as_many = refl; t0 = ≤ℤ_refl (negsuc 599); jobs = by_place_lem }
  where
    by_place_lem : (k : ℕ) → k < 5 → EasierFields (fields_at (numbers_of packed_shorter) k) (fields_at (numbers_of packed_morning) k)
    by_place_lem zero h = no_longer (≤ℤ_refl (pos 495))
    by_place_lem (suc zero) h = no_longer (≤ℤ_refl (pos 300))
    by_place_lem (suc (suc zero)) h = no_longer (omega signed)
    by_place_lem (suc (suc (suc zero))) h = no_longer (≤ℤ_refl (pos 100))
    by_place_lem (suc (suc (suc (suc zero)))) h = no_longer (≤ℤ_refl (pos 100))
    by_place_lem (suc (suc (suc (suc (suc k))))) h = absurd (omega arith)

-- The one is of kind 0, the other of kind 1.
pub unlike-kinds : map kind_of (packed_morning ∷ packed_shorter ∷ []) ≡ 0 ∷ 1 ∷ []
unfolding bits_to to_bits decode encode number_of bytes_of part flat first header_word header_of kind_of record_bytes job_count fields_at
    packed_header packed_job pack_in first_packed kind_for
unlike-kinds = refl
