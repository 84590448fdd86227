-- The best weight of some jobs, and the jobs of a stand that repeats them frame by frame: the same jobs again, renumbered and a
-- frame later. Definitions only.
use Rattle.std.specs.Prelude.{ℕ, zero, suc, ◌+◌, List, ◌++◌, ℤ, pos, length}
use Rattle.std.proofs.Math.Option.{Option, none, some, map}
use Rattle.order.specs.Job.{Job}
use Rattle.order.specs.Later.{later_jobs}
use Rattle.plan.specs.Plan.{Ended, plan}

-- The weight that the plan keeps, none where nothing is feasible.
abbrev pub end_weight : Ended → ℕ
end_weight e = e.end.weight

abbrev pub best_kept : ℤ → List Job → Option ℕ
best_kept t js = map end_weight (plan t js)

-- Both weights together, if there are both.
abbrev pub both_kept : Option ℕ → Option ℕ → Option ℕ
both_kept none b = none
both_kept (some v) none = none
both_kept (some v) (some w) = some (v + w)

-- The jobs of two frames of F seconds.
abbrev pub two_frames : ℕ → List Job → List Job
two_frames F js = js ++ later_jobs (pos F) (length js) js

-- The jobs of k frames and one more.
abbrev pub frames : ℕ → ℕ → List Job → List Job
frames zero F js = js
frames (suc k) F js = js ++ later_jobs (pos F) (length js) (frames k F js)
