-- What the answers of extending say: their numbers, that 11 is never given, what refusals name, when 6 is given, and what an
-- empty profile and the bus-free time of the order do.
use Rattle.std.specs.Prelude.{ℕ, ◌+◌, ◌≡◌, refl, not, ◌↔◌, ◌≢◌, List, [], ltb, ℤ, length}
use Rattle.std.proofs.Common.{ap, arith}
use Rattle.std.proofs.Math.Logic.Iff
use Rattle.seconds.specs.Limits.{most_weight}
use Rattle.order.specs.Job.{weight_of}
use Rattle.profile.specs.Profile.{extend, last_weight}
use Rattle.profile.proofs.Extending.{extend-empty}
use Rattle.packed.specs.declared.Refusal.{Refusal}
use Rattle.packed.specs.Judge.{in_field, no_refusal, Verdict, fine, refused, judge, refusal_of}
use Rattle.packed.specs.JudgeLaws.{never}
use Rattle.packed.specs.Packed.{numbers_of, jobs_of, order_of}
use Rattle.packed.specs.Refusals.{header_checks, job_checks, weight_checks}
use Rattle.packed.proofs.RefusalPlaces.{BadField, RefusalIs, nowhere, SixIs, six-behind, six-jobs, answer-refusal, answer-says}
use Rattle.profiles.specs.Numbers.{most_numbers, holds_profile}
use Rattle.area.specs.Area.{area}
use Rattle.judge.specs.Told.{stays, Named, holds-behind, named-check, named-rooms, named-order, six-rooms}
use Rattle.extending.specs.Calls.{profile_given, profile_checks, extend_judged, extend_checks, extend_verdict}
use Rattle.extending.specs.Calls.{extension, extended_by, extended_of, Extended, ExtendCall, points_written}
use Rattle.extending.proofs.CallLaws.{seven, eight, nine}

-- ---- the answer in numbers

module _ (ns : List ℤ) (bytes : List ℕ) (out work : List ℤ) where
  -- The answer's refusal, and the points written.
  abbrev Says : Refusal → ℕ → Type 0
  Says refusal points =
      let a = extended_of ns bytes out work in
      (refusal_of a ≡ refusal) × (points_written a ≡ points)

  -- Refused: what the first check that applies says, and no points.
  pub refused_says : {r : Refusal} → extend_verdict ns bytes out work ≡ refused r → Says r 0
  refused_says e = rw e (refl, refl)

  -- Not refused: the points of the extended profile.
  pub points-say : extend_verdict ns bytes out work ≡ fine → Says no_refusal (length (extension ns bytes))
  points-say e = rw e (refl, refl)

  -- No refusal by the checks is 11,
  checks-not-eleven : {r : Refusal} → extend_verdict ns bytes out work ≡ refused r → r.number ≢ 11
  unfolding extend_checks extend_judged header_checks job_checks weight_checks
  checks-not-eleven = never 11 (extend_checks ns bytes out work) tt

  -- so no outcome that the contract allows is refused with it.
  pub extend-never-eleven : {r : Extended} {out' work' : List ℤ} → ExtendCall ns bytes out work r out' work' → (refusal_of r).number ≢ 11
  extend-never-eleven h = rw h.answer (go (extend_verdict ns bytes out work) refl)
    where
      go : (v : Verdict) → extend_verdict ns bytes out work ≡ v → (refusal_of (extended_by v (extension ns bytes))).number ≢ 11
      go fine d e = absurd (omega arith)
      go (refused s) d e = checks-not-eleven d e

  -- A refusal by the checks names a place with 6 and 7, and a field with 6;
  extend-named : Named (numbers_of bytes) (extend_checks ns bytes out work)
  unfolding extend_checks extend_judged weight_checks
  extend-named =
      let zs = numbers_of bytes in
      let first : Named zs (seven ns bytes) = λ r e. named-order bytes r (stays (seven ns bytes) (weight_checks 0 zs) e) in
      let eighth = holds-behind (RefusalIs zs) (seven ns bytes) (profile_checks ns) first
      (named-check zs 8 (not (holds_profile ns)) refl) in
      let ninth = holds-behind (RefusalIs zs) (eight ns bytes) (nine ns bytes) eighth
      (named-check zs 9 (ltb most_weight (last_weight (profile_given ns) + weight_of (jobs_of zs))) refl) in
      named-rooms zs (extend_judged ns bytes) most_numbers (length out) area (length work) ninth

  -- 6 is given with 1 to 5 passed and a job out of range.
  extend-checks-six : SixIs (numbers_of bytes) (header_checks bytes) (extend_checks ns bytes out work)
  unfolding extend_checks extend_judged header_checks weight_checks
  extend-checks-six =
      let zs = numbers_of bytes in
      let header = header_checks bytes in
      six-rooms zs header (extend_judged ns bytes) most_numbers (length out) area (length work)
      (six-behind zs header (eight ns bytes) (nine ns bytes) tt
      (six-behind zs header (seven ns bytes) (profile_checks ns) tt (six-jobs zs header tt)))

  -- What is told by a verdict.
  abbrev told : Verdict → Refusal
  told v = refusal_of (extended_by v (extension ns bytes))

  -- So the answer's refusal names what it should,
  pub extend-refusal : RefusalIs (numbers_of bytes) (refusal_of (extended_of ns bytes out work))
  extend-refusal =
      answer-refusal (numbers_of bytes) told (λ r. refl) (nowhere {n = 0} refl) (extend_verdict ns bytes out work) extend-named

  -- and 6 is given with a place and a field exactly when 1 to 5 are passed, the first job out of range is there, and that is its
  -- first field that is.
  pub extend-six : (p f : ℕ) → refusal_of (extended_of ns bytes out work) ≡ in_field 6 p f
      ↔ ((judge (header_checks bytes) ≡ fine) × BadField (numbers_of bytes) p f)
  extend-six p f =
      Iff.trans
      (answer-says (numbers_of bytes) told (λ r. refl) (nowhere {n = 0} refl) (in_field 6 p f) (λ e. omega arith)
      (extend_verdict ns bytes out work))
      (extend-checks-six p f)

-- ---- what extending does not look at

-- Whatever its jobs, an order extends the empty profile to the empty one.
pub extend-nothing : (bytes : List ℕ) → extension [] bytes ≡ []
extend-nothing bytes = extend-empty (order_of bytes).jobs

-- Two orders with the same numbers extend alike, whatever their bus-free times.
pub extend-any-time : (ns : List ℤ) (a b : List ℕ) → numbers_of a ≡ numbers_of b → extension ns a ≡ extension ns b
unfolding order_of
extend-any-time ns a b e = ap (λ (zs : List ℤ). extend (profile_given ns) (jobs_of zs)) e
