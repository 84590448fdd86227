-- Lists and plans by lists, computed: the three cases, P1, P8, and a walk for less than the most.
use Rattle.std.specs.Prelude.{ℕ, ◌≡◌, refl, Bool, true, false, List, [], ◌∷◌, reverse, pos, negsuc}
use Rattle.std.proofs.Math.Option.{some}
use Rattle.seconds.specs.Limits.{rest}
use Rattle.order.specs.Job.{Job, Point, one_rate}
use Rattle.profile.specs.Profile.{start_point}
use Rattle.rows.specs.Row.{point}
use Rattle.points.specs.Steps.{list_step, list_after, points_by_lists}
use Rattle.points.specs.Walk.{walk_lists, plan_by_lists}

-- ---- the three cases, with the bus free at 0

abbrev from0 : List Point
from0 = point (pos 0) 0 ∷ []

-- Ready at 5, 10 seconds by 12: it can no longer start.
abbrev late : Bool → ℕ → Job
late critical weight = one_rate 0 critical weight (pos 5) 10 (pos 12)

-- The list stays as it was; if the job is critical, no point is left.
pub late-left-out : list_step (late false 10) from0 ≡ from0
late-left-out = refl

pub late-and-critical : list_step (late true 0) from0 ≡ []
late-and-critical = refl

-- With a deadline of 15 it waits until 5: one point more.
pub waits : list_step (one_rate 0 false 10 (pos 5) 10 (pos 15)) from0 ≡ point (pos 0) 0 ∷ point (pos 30) 10 ∷ []
unfolding rest
waits = refl

-- A job ready at 0, by its weight and its length, which is its deadline too: of several such jobs one fits.
abbrev at_once : ℕ → ℕ → Job
at_once weight long = one_rate 0 false weight (pos 0) long (pos long)

-- A second point of equal weight goes, at the same time or later.
pub equal-weight-goes : list_after (at_once 10 10 ∷ at_once 10 10 ∷ []) from0 ≡ point (pos 0) 0 ∷ point (pos 25) 10 ∷ []
unfolding rest
equal-weight-goes = refl

pub later-goes : list_after (at_once 10 10 ∷ at_once 10 12 ∷ []) from0 ≡ point (pos 0) 0 ∷ point (pos 25) 10 ∷ []
unfolding rest
later-goes = refl

-- Of two points at one time only the heavier stays, whichever comes first.
pub heavier-stays : list_after (at_once 7 5 ∷ at_once 9 5 ∷ []) from0 ≡ point (pos 0) 0 ∷ point (pos 20) 9 ∷ []
unfolding rest
heavier-stays = refl

pub lighter-goes : list_after (at_once 9 5 ∷ at_once 7 5 ∷ []) from0 ≡ point (pos 0) 0 ∷ point (pos 20) 9 ∷ []
unfolding rest
lighter-goes = refl

-- ---- P1

-- Five jobs, the bus free at -600.
abbrev morning : List Job
morning =
    one_rate 7 true 0 (negsuc 599) 495 (pos 0)
    ∷ one_rate 3 false 20 (negsuc 199) 300 (pos 250)
    ∷ one_rate 12 false 15 (pos 0) 200 (pos 300)
    ∷ one_rate 5 true 0 (pos 100) 100 (pos 450)
    ∷ one_rate 9 false 15 (pos 0) 100 (pos 500)
    ∷ []

-- The list after them, and 14 points in all.
pub morning-list : list_after morning (start_point (negsuc 599) ∷ [])
    ≡ point (pos 215) 0 ∷ point (pos 330) 15 ∷ point (pos 340) 20 ∷ point (pos 445) 30 ∷ point (pos 455) 35 ∷ []
unfolding rest
morning-list = refl

pub morning-points : points_by_lists morning (start_point (negsuc 599) ∷ []) ≡ 14
unfolding rest
morning-points = refl

-- ---- P8

-- A takes 4 seconds and B 2, both by 4; C is critical, ready at 40, takes 1 second, by 41.
abbrev jobs : List Job
jobs =
    one_rate 0 false 10 (pos 0) 4 (pos 4)
    ∷ one_rate 1 false 10 (pos 0) 2 (pos 4)
    ∷ one_rate 2 true 0 (pos 40) 1 (pos 41)
    ∷ []

-- After B the bus is free first, but C waits for either, so A is kept and the later B is left out.
pub plan-keeps-first : plan_by_lists (pos 0) jobs ≡ some (record { choice = 1 ∷ 0 ∷ 1 ∷ []; end = point (pos 56) 10 })
unfolding rest
plan-keeps-first = refl

-- ---- a walk for less than the most

-- Of jobs that weigh 10 and 5, a walk for 5 keeps the second alone, though 10 is there by the time.
pub walk-exact : walk_lists (reverse (at_once 10 4 ∷ at_once 5 30 ∷ [])) from0 5 (pos 60) [] ≡ some (0 ∷ 1 ∷ [])
unfolding rest
walk-exact = refl
