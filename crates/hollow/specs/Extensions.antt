-- Extensions that are not the definition's. One that handles the first job and passes the rest by is shut out by the contract
-- (R12), and by the joining law of R16. A profile that comes back unextended meets the laws of R16, and is shut out by the
-- contract alone.
use Rattle.std.specs.Prelude.{refl, ◌≢◌, List, [], ◌∷◌, length, take, drop}
use Rattle.std.proofs.Common.{ap, arith}
use Rattle.seconds.specs.Limits.{rest}
use Rattle.order.specs.Job.{Point}
use Rattle.profile.specs.Profile.{extend, start_point}
use Rattle.profile.proofs.Joining.{extend-extend, extend-better_of}
use Rattle.extending.specs.Calls.{points_written}
use Rattle.worked.specs.Examples.{morning}
use Rattle.hollow.specs.Contract.{Allowed, ShutOut}
use Rattle.hollow.specs.Promises.{ExtendInput, extending}
use Rattle.hollow.specs.Laws.{other-answer}
use Rattle.hollow.specs.Hollow.{Extension, Joins, Demand3, first_job_only, unextended, extending_by}
use Rattle.hollow.specs.Named.{extend_morning}
use Rattle.hollow.specs.Computed.{accepted}

-- ---- the definition's

-- It meets the laws of R16, and its call is allowed at every input.
pub extend-demand-3 : Demand3 extend
extend-demand-3 = record { joins = extend-extend; better-first = extend-better_of }

pub extend-allowed : (x : ExtendInput) → Allowed extending (extending_by extend) x
extend-allowed = extending.met

-- ---- any other, by P1

-- The point (-600, 0) extended by P1's jobs.
abbrev pub from_start : Extension → List Point
from_start ext = ext (start_point morning.t0 ∷ []) morning.jobs

-- With another number of points there, the call is shut out.
pub other-points : (ext : Extension) → length (from_start ext) ≢ length (from_start extend)
    → ShutOut extending (extending_by ext) extend_morning
unfolding rest
other-points ext d =
    other-answer extending (extending_by ext) extend_morning
    (λ e. d (rw (accepted.extend-morning, accepted.morning-order) at (ap points_written e)))

-- ---- the first job only

pub first-job-shut-out : ShutOut extending (extending_by first_job_only) extend_morning
unfolding rest
first-job-shut-out = other-points first_job_only (omega arith)

-- P1's second job is passed by where it comes with the first, and handled where it comes alone.
pub first-job-not-joining : Joins first_job_only → ⊥
unfolding rest
first-job-not-joining h =
    let start = start_point morning.t0 ∷ [] in
    let joined = h start (take 1 morning.jobs) (take 1 (drop 1 morning.jobs)) in
    omega (arith, ap length joined)

-- ---- unextended

pub unextended-demand-3 : Demand3 unextended
unextended-demand-3 = record { joins = λ P A B. refl; better-first = λ P Q A. refl }

-- So R16 alone does not fix the extension; the definition does.
pub unextended-shut-out : ShutOut extending (extending_by unextended) extend_morning
unfolding rest
unextended-shut-out = other-points unextended (omega arith)
