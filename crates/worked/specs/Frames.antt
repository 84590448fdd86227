-- Jobs that repeat (R41 to R43): the frame of a pump's and a fan's check, and the edges of the call. Each question as the call is asked
-- it, and what the rules say. One statement holds of the whole list, by computation.
use Rattle.std.specs.Prelude.{ℕ, zero, suc, ◌≡◌, refl, List, [], ◌∷◌, ◌++◌, map, ℤ, pos, take, replicate}
use Rattle.seconds.specs.Limits.{rest}
use Rattle.seconds.specs.Twos.{to_bits}
use Rattle.multiples.specs.Multiples.{gcd_in, gcd, lcm}
use Rattle.packed.specs.Layout.{encode, bytes_of, record_bytes}
use Rattle.packed.specs.Places.{part, flat, each, first}
use Rattle.packed.specs.Packed.{job_count, fields_at, packed_header, packed_job, pack_in, first_packed, kind_for, job_of, jobs_of}
use Rattle.packed.specs.Refusals.{weight_checks}
use Rattle.frames.specs.Frames.{may_repeat, jobs_given, given_at, first_unfit, frame_of, repeats_of, sequence_of, frame_numbers}
use Rattle.frames.specs.Frames.{given_checks, made_checks}
use Rattle.packed.specs.Judge.{refusal_of}
use Rattle.framing.specs.Answer.{framed_of, order_after, bytes_written, frame_told}

-- A repeating job by its weight, critical where that is 0, its phase, length, deadline and period.
abbrev mark : ℕ → ℤ
mark zero = pos 1
mark (suc w) = pos 0

abbrev repeating : ℕ → ℕ → ℕ → ℕ → ℕ → List ℤ
repeating weight phase long deadline period =
    mark weight ∷ pos weight ∷ pos phase ∷ pos long ∷ pos deadline ∷ pos period ∷ []

-- The README's two.
abbrev pub checks : List ℤ
checks = repeating 0 0 60 300 1200 ++ repeating 5 100 120 400 1800

-- So many alike.
abbrev several : ℕ → List ℤ → List ℤ
several zero job = []
several (suc n) job = job ++ several n job

-- Asked with room for so many bytes, each 1: refusal and place, the bytes written, the frame, and then the bytes at exit.
abbrev framed : List ℤ → ℕ → List ℕ
framed jobs room =
    let a = framed_of jobs room in
    (refusal_of a).number ∷ (refusal_of a).place ∷ bytes_written a ∷ frame_told a ∷ order_after jobs (replicate room 1)

pub record Framing : Type 0 where
  pub asked : List ℕ
  pub told : List ℕ

abbrev pub frames : List Framing
frames =
    -- the README's frame, with two bytes more than it needs
    record {
      asked = framed checks 46;
      told =
          0 ∷ 0 ∷ 44 ∷ 3600
          ∷ 20 ∷ 0 ∷ 0 ∷ 0
          ∷ 2 ∷ 0 ∷ 0 ∷ 0 ∷ 0 ∷ 240 ∷ 1 ∷ 44
          ∷ 4 ∷ 20 ∷ 0 ∷ 100 ∷ 1 ∷ 224 ∷ 1 ∷ 244
          ∷ 10 ∷ 0 ∷ 4 ∷ 176 ∷ 0 ∷ 240 ∷ 5 ∷ 220
          ∷ 12 ∷ 20 ∷ 7 ∷ 108 ∷ 1 ∷ 224 ∷ 8 ∷ 252
          ∷ 18 ∷ 0 ∷ 9 ∷ 96 ∷ 0 ∷ 240 ∷ 10 ∷ 140
          ∷ 1 ∷ 1 ∷ [];
    }
    -- room for all but one byte, and no jobs
    ∷ record { asked = take 6 (framed checks 43); told = 10 ∷ 0 ∷ 0 ∷ 0 ∷ 1 ∷ 1 ∷ [] }
    ∷ record { asked = framed [] 4; told = 0 ∷ 0 ∷ 4 ∷ 1 ∷ 0 ∷ 0 ∷ 0 ∷ 0 ∷ [] }
    -- 17 jobs, of which none may repeat; 16; and one number less
    ∷ record { asked = framed (several 17 (repeating 0 0 0 0 0)) 0; told = 3 ∷ 0 ∷ 0 ∷ 0 ∷ [] }
    ∷ record { asked = framed (several 16 (repeating 0 0 0 0 0)) 0; told = 16 ∷ 0 ∷ 0 ∷ 0 ∷ [] }
    ∷ record { asked = framed (take 95 (several 16 (repeating 0 0 0 0 0))) 0; told = 4 ∷ 0 ∷ 0 ∷ 0 ∷ [] }
    -- a second job that is late by a second, and one that is not, at a frame of a day
    ∷ record { asked = framed (repeating 1 0 10 10 86400 ++ repeating 0 0 10 86386 86400) 0; told = 16 ∷ 1 ∷ 0 ∷ 0 ∷ [] }
    ∷ record {
      asked = take 4 (framed (repeating 1 0 10 10 86400 ++ repeating 0 0 10 86385 86400) 20);
      told = 0 ∷ 0 ∷ 20 ∷ 86400 ∷ [];
    }
    -- a frame of 86,403 seconds, also where it would have too many repeats
    ∷ record { asked = framed (repeating 0 0 10 10 83 ++ repeating 0 0 10 10 1041) 0; told = 17 ∷ 0 ∷ 0 ∷ 0 ∷ [] }
    -- weights of 300 and 301: 9 comes before 10
    ∷ record { asked = framed (several 6 (repeating 50 0 1 1 16)) 0; told = 10 ∷ 0 ∷ 0 ∷ 0 ∷ [] }
    ∷ record { asked = framed (several 6 (repeating 50 0 1 1 16) ++ repeating 1 0 1 1 16) 0; told = 9 ∷ 0 ∷ 0 ∷ 0 ∷ [] }
    ∷ []

-- Every one comes out as the rules say.
pub frames-hold : map (λ (f : Framing). f.asked) frames ≡ map (λ (f : Framing). f.told) frames
unfolding rest to_bits gcd_in gcd lcm encode bytes_of part flat each first job_count fields_at packed_header packed_job pack_in first_packed kind_for record_bytes job_of jobs_of
    weight_checks may_repeat jobs_given given_at first_unfit frame_of repeats_of sequence_of frame_numbers given_checks made_checks
frames-hold = refl
