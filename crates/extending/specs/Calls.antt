-- Extending as a call: the checks, the answer, and every lent buffer at exit, for every input. Definitions only.
use Rattle.std.specs.Prelude.{ℕ, ◌≡◌, not, List, [], ◌∷◌, ◌++◌, ℤ, length, Result, Ok, Err}
use Rattle.std.proofs.Math.Option.{get_or}
use Rattle.order.specs.Job.{Point}
use Rattle.profile.specs.Profile.{extend, last_weight}
use Rattle.packed.specs.declared.Refusal.{Refusal}
use Rattle.packed.specs.Judge.{Check, Verdict, fine, refused, judge, check}
use Rattle.packed.specs.Packed.{numbers_of, order_of}
use Rattle.packed.specs.Refusals.{header_checks, job_checks, weight_checks, room_checks}
use Rattle.profiles.specs.Numbers.{most_numbers, alternating, profile_in, holds_profile, written_over}
use Rattle.area.specs.Area.{area}
use Rattle.filling.specs.After.{work_by}

-- The profile that some numbers hold; the empty one where they hold none.
abbrev pub profile_given : List ℤ → List Point
profile_given ns = get_or (profile_in ns) []

-- 8: whether some numbers hold no valid profile.
abbrev pub profile_checks : List ℤ → List Check
profile_checks ns = check 8 (not (holds_profile ns)) ∷ []

-- 1 to 7 of the order, 8 of the profile, then 9 with the profile's last weight.
unfoldable pub extend_judged : List ℤ → List ℕ → List Check
extend_judged ns bytes =
    header_checks bytes ++ job_checks (numbers_of bytes) ++ profile_checks ns
    ++ weight_checks (last_weight (profile_given ns)) (numbers_of bytes)

-- Then room for the longest profile, then room for the work area.
unfoldable pub extend_checks : List ℤ → List ℕ → List ℤ → List ℤ → List Check
extend_checks ns bytes out work =
    extend_judged ns bytes ++ room_checks most_numbers (length out) ++ room_checks area (length work)

-- The verdict of these checks.
abbrev pub extend_verdict : List ℤ → List ℕ → List ℤ → List ℤ → Verdict
extend_verdict ns bytes out work = judge (extend_checks ns bytes out work)

-- The profile that extending gives: the order's bus-free time has no part in it.
abbrev pub extension : List ℤ → List ℕ → List Point
extension ns bytes = extend (profile_given ns) (order_of bytes).jobs

-- What extending answers: a refusal, or how many points were written.
abbrev pub Extended : Type 0
Extended = Result ℕ Refusal

-- The answer by the verdict and that profile.
abbrev pub extended_by : Verdict → List Point → Extended
extended_by (refused r) ps = Err r
extended_by fine ps = Ok (length ps)

-- The numbers at exit: the profile's are written over the front.
abbrev pub out_by : Verdict → List Point → List ℤ → List ℤ
out_by (refused r) ps out = out
out_by fine ps out = written_over (alternating ps) out

-- Both of any numbers, bytes, room and work area,
abbrev pub extended_of : List ℤ → List ℕ → List ℤ → List ℤ → Extended
extended_of ns bytes out work = extended_by (extend_verdict ns bytes out work) (extension ns bytes)

abbrev pub out_after : List ℤ → List ℕ → List ℤ → List ℤ → List ℤ
out_after ns bytes out work = out_by (extend_verdict ns bytes out work) (extension ns bytes) out

-- and the work area after extending.
abbrev pub extend_work_after : List ℤ → List ℕ → List ℤ → List ℤ → List ℤ
extend_work_after ns bytes out work = work_by (extend_verdict ns bytes out work) work

-- A call of extending: its answer, and both buffers at exit.
pub record ExtendCall
    (ns : List ℤ) (bytes : List ℕ) (out work : List ℤ) (r : Extended) (out' work' : List ℤ) : Type 0 where
  pub answer : r ≡ extended_of ns bytes out work
  pub written : out' ≡ out_after ns bytes out work
  pub area : work' ≡ extend_work_after ns bytes out work

-- ---- the numbers for each case; all but those of the refusal are 0 in a refused answer (R26)

-- The points written; `refusal_of` is the answer's refusal.
abbrev pub points_written : Extended → ℕ
points_written (Err r) = 0
points_written (Ok n) = n
