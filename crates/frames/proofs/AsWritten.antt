-- R41 to R43 at a few jobs, as computed facts: the frame of a pump's and a fan's check and its order, the sequence of repeats that
-- are ready at once, jobs whose deadlines come in another sequence, and the limits of a job that may repeat.
use Rattle.std.specs.Prelude.{ℕ, ◌≡◌, refl, true, false, List, [], ◌∷◌, ◌++◌, map, ℤ, pos, negsuc}
use Rattle.seconds.specs.Limits.{rest}
use Rattle.multiples.specs.Multiples.{gcd_in, gcd, lcm}
use Rattle.packed.specs.Judge.{at_place, plainly, refused, judge}
use Rattle.packed.specs.Places.{part, flat, each, first}
use Rattle.frames.specs.Frames.{may_repeat, jobs_given, given_at, first_unfit, frame_of, Repeat, repeats_of, sequence_of}
use Rattle.frames.specs.Frames.{frame_numbers, given_checks, made_checks, frame_checks}

-- Critical, weight, phase, length, deadline, period.
abbrev pump : List ℤ
pump = pos 1 ∷ pos 0 ∷ pos 0 ∷ pos 60 ∷ pos 300 ∷ pos 1200 ∷ []

abbrev fan : List ℤ
fan = pos 0 ∷ pos 5 ∷ pos 100 ∷ pos 120 ∷ pos 400 ∷ pos 1800 ∷ []

-- ---- the frame, and the repeats in it

pub frame-of-both : frame_of (pump ++ fan) ≡ 3600
unfolding gcd_in gcd lcm part each jobs_given given_at frame_of
frame-of-both = refl

pub frame-of-none : frame_of [] ≡ 1
unfolding each jobs_given frame_of
frame-of-none = refl

-- The place of each repeat's job, and when it is ready.
abbrev placed : Repeat → ℕ × ℕ
placed a = (a.place, a.ready)

pub sequence-of-both : map placed (sequence_of (pump ++ fan)) ≡ (0, 0) ∷ (1, 100) ∷ (0, 1200) ∷ (1, 1900) ∷ (0, 2400) ∷ []
unfolding gcd_in gcd lcm part each flat jobs_given given_at frame_of repeats_of sequence_of
sequence-of-both = refl

-- Each repeat has pack 0, and its deadline is set by its ready time.
pub order-of-both : frame_numbers (pump ++ fan)
    ≡ (pos 0 ∷ pos 0 ∷ pos 1 ∷ pos 0 ∷ pos 0 ∷ pos 60 ∷ pos 300 ∷ [])
    ++ (pos 1 ∷ pos 0 ∷ pos 0 ∷ pos 5 ∷ pos 100 ∷ pos 120 ∷ pos 500 ∷ [])
    ++ (pos 2 ∷ pos 0 ∷ pos 1 ∷ pos 0 ∷ pos 1200 ∷ pos 60 ∷ pos 1500 ∷ [])
    ++ (pos 3 ∷ pos 0 ∷ pos 0 ∷ pos 5 ∷ pos 1900 ∷ pos 120 ∷ pos 2300 ∷ [])
    ++ (pos 4 ∷ pos 0 ∷ pos 1 ∷ pos 0 ∷ pos 2400 ∷ pos 60 ∷ pos 2700 ∷ [])
unfolding gcd_in gcd lcm part each flat jobs_given given_at frame_of repeats_of sequence_of frame_numbers
order-of-both = refl

-- Three jobs of weight 1 and 10 seconds, by phase, deadline and period.
abbrev three : ℤ → ℤ → ℤ → List ℤ
three phase deadline period = pos 0 ∷ pos 1 ∷ phase ∷ pos 10 ∷ deadline ∷ period ∷ []

-- Ready at once, they stand in the sequence in which they were given.
pub given-first : map placed (sequence_of (three (pos 5) (pos 40) (pos 90) ++ three (pos 5) (pos 20) (pos 60) ++ three (pos 5) (pos 30) (pos 180)))
    ≡ (0, 5) ∷ (1, 5) ∷ (2, 5) ∷ (1, 65) ∷ (0, 95) ∷ (1, 125) ∷ []
unfolding gcd_in gcd lcm part each flat jobs_given given_at frame_of repeats_of sequence_of
given-first = refl

-- ---- the refusals

-- A deadline that leaves just the rest, and one that is late by a second; a period of 1 leaves no room for either.
pub deadline-in-time : may_repeat (three (pos 5) (pos 40) (pos 60)) ≡ true
unfolding rest may_repeat
deadline-in-time = refl

pub deadline-late : may_repeat (three (pos 5) (pos 41) (pos 60)) ≡ false
unfolding rest may_repeat
deadline-late = refl

pub period-of-1 : may_repeat (three (pos 0) (pos 1) (pos 1)) ≡ false
unfolding rest may_repeat
period-of-1 = refl

-- A phase of -1, and the greatest 32-bit number.
pub phase-outside : map may_repeat (three (negsuc 0) (pos 1) (pos 60) ∷ three (pos 2147483647) (pos 1) (pos 60) ∷ []) ≡ false ∷ false ∷ []
unfolding rest may_repeat
phase-outside = refl

-- A frame of 86,403 is too long; but a second job that may not repeat is named first.
pub frame-too-long : judge (frame_checks (three (pos 0) (pos 1) (pos 83) ++ three (pos 0) (pos 1) (pos 1041)) 400) ≡ refused (plainly 17)
unfolding rest gcd_in gcd lcm part each first may_repeat jobs_given given_at first_unfit frame_of given_checks made_checks
frame-too-long = refl

pub unfit-before-long : judge (frame_checks (three (pos 0) (pos 1) (pos 83) ++ three (pos 1026) (pos 1) (pos 1041)) 400)
    ≡ refused (at_place 16 1)
unfolding rest gcd_in gcd lcm part each first may_repeat jobs_given given_at first_unfit frame_of given_checks made_checks
unfit-before-long = refl
