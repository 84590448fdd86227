-- R4 to R6 and R34 at a few jobs, as computed facts: a job whose ready time and length pass its deadline is never kept, however
-- early the bus is free (for every such job it is shown in Late); a deadline binds the finish, while the bus is free a rest later;
-- a partner stands before its optional half, and critical jobs are numbered up to 31; and the seconds lost are those of the optional jobs left out.
use Rattle.std.specs.Prelude.{ℕ, ◌≡◌, refl, true, false, List, [], ◌∷◌, map, reverse, pos}
use Rattle.std.proofs.Math.Option.{none}
use Rattle.seconds.specs.Limits.{rest}
use Rattle.order.specs.Job.{Job, one_rate, allowed, bus_free, move}
use Rattle.order.specs.Halves.{offends_at, seconds_lost}

-- Ready 5, length 10, deadline 12.
abbrev late_job : Job
late_job = one_rate 0 false 1 (pos 5) 10 (pos 12)

-- With the bus free at 0 it must be left out.
pub late-job-left-out : allowed late_job 1 (pos 0) ≡ false
unfolding rest
late-job-left-out = refl

pub late-job-moves-nowhere : move late_job 1 (record { time = pos 0; weight = 0 }) ≡ none
unfolding rest
late-job-moves-nowhere = refl

-- P4's job: critical, ready 0, length 10, deadline 10.
abbrev timely_job : Job
timely_job = one_rate 0 true 0 (pos 0) 10 (pos 10)

-- With the bus free at 0 it may be kept, and the bus is free again at 25.
pub timely-job-kept : allowed timely_job 1 (pos 0) ≡ true
unfolding rest
timely-job-kept = refl

pub timely-job-rests : bus_free timely_job 1 (pos 0) ≡ pos 25
unfolding rest
timely-job-rests = refl

-- A check split in two: job 4, critical, and job 36, of weight 5 and 300 seconds.
abbrev halves : List Job
halves = one_rate 4 true 0 (pos 0) 200 (pos 1000) ∷ one_rate 36 false 5 (pos 0) 300 (pos 1000) ∷ []

-- In this sequence neither offends; turned round the optional half does.
pub partner-before : offends_at halves 1 ≡ false
partner-before = refl

pub partner-behind : offends_at (reverse halves) 0 ≡ true
partner-behind = refl

-- A critical job is numbered up to 31.
pub critical-to-31 : map (λ (n : ℕ). offends_at (one_rate n true 0 (pos 0) 200 (pos 1000) ∷ []) 0) (31 ∷ 32 ∷ []) ≡ false ∷ true ∷ []
critical-to-31 = refl

-- With the optional half left out its 300 seconds are lost, and with it kept none.
pub left-out-seconds : seconds_lost halves (1 ∷ 0 ∷ []) ≡ 300
left-out-seconds = refl

pub kept-seconds : seconds_lost halves (1 ∷ 1 ∷ []) ≡ 0
kept-seconds = refl
