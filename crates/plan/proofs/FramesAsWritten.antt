-- Frames of 100 seconds as computed facts: where the last deadline leaves just the rest, two frames keep twice the weight of one,
-- and three keep it three times; a second later the bus is not free when the next frame begins, and two keep no more than one.
use Rattle.std.specs.Prelude.{ℕ, ◌+◌, ◌≡◌, refl, true, false, List, [], ◌∷◌, pos}
use mathlib.Core.List.Memᴰ
use Rattle.std.proofs.Math.Option.{some}
use Rattle.seconds.specs.Limits.{rest}
use Rattle.seconds.specs.Signed.{signed}
use Rattle.order.specs.Job.{Job, one_rate}
use Rattle.order.specs.Later.{AllInFrame}
use Rattle.plan.specs.Frames.{best_kept, two_frames, frames}

-- A critical job that must start at 0, and one of weight 7 and 30 seconds that must start when it is ready.
abbrev ready_at : ℕ → List Job
ready_at s = one_rate 0 true 0 (pos 0) 10 (pos 10) ∷ one_rate 1 false 7 (pos s) 30 (pos (s + 30)) ∷ []

-- Ready at 55, its deadline is 85, and the bus is free at 100: both jobs stand in the frame, so the laws of frames hold of them.
pub stands-in-frame : AllInFrame (pos 100) (ready_at 55)
unfolding rest
stands-in-frame j (Memᴰ.tail (Memᴰ.tail x8)) = elim x8 [ ]
stands-in-frame j (Memᴰ.head e) = rw e (record { from = omega signed; until = omega signed })
stands-in-frame j (Memᴰ.tail (Memᴰ.head e)) = rw e (record { from = omega signed; until = omega signed })

pub one-frame-keeps : best_kept (pos 0) (ready_at 55) ≡ some 7
unfolding rest
one-frame-keeps = refl

pub two-frames-keep : best_kept (pos 0) (two_frames 100 (ready_at 55)) ≡ some 14
unfolding rest
two-frames-keep = refl

pub three-frames-keep : best_kept (pos 0) (frames 2 100 (ready_at 55)) ≡ some 21
unfolding rest
three-frames-keep = refl

-- Ready at 56, one frame keeps as much, but of two frames only the last keeps it.
pub one-late-keeps : best_kept (pos 0) (ready_at 56) ≡ some 7
unfolding rest
one-late-keeps = refl

pub two-late-keep : best_kept (pos 0) (two_frames 100 (ready_at 56)) ≡ some 7
unfolding rest
two-late-keep = refl
