-- The numbers of points that are pushed: in range, and what a rate adds to them.
use Rattle.std.specs.Prelude.{ℕ, ◌+◌, ◌≤◌, ◌<◌, ◌≡◌, List, ℤ, pos, ◌+ℤ◌, length, ◌≤ℤ◌}
use Rattle.std.proofs.Common.{sym, ap, ap₂, ◌∙◌, arith}
use Rattle.seconds.specs.Limits.{rest}
use Rattle.seconds.specs.Ranges.{InTime}
use Rattle.seconds.specs.RangesLaws.{rest-small, time-free}
use Rattle.seconds.specs.Signed.{signed, add_is, max-is, max_z}
use Rattle.order.specs.Job.{Point}
use Rattle.profile.proofs.Closure.{PointWithin}
use Rattle.points.specs.Steps.{waited, later_by}
use Rattle.codes.specs.Code.{code_of, code, at0}
use Rattle.codes.specs.CodeLaws.{since-is, since-few, light-is, point-back}
use Rattle.codes.specs.Held.{Held}
use Rattle.codes.specs.HeldLaws.{held-point}
use Rattle.pushing.specs.declared.Rate.{Rate}
use Rattle.pushing.specs.Pushes.{Coded, Delta, RateFits, job_rate, delta_of, waited_as}

-- The number of a point within the limits is in range,
pub coded : {p : Point} → PointWithin p → Coded (code p)
coded s = record {
  low = omega signed;
  high = omega (signed, since-few s.time);
  light = omega (arith, light-is s, s.weight);
}

-- and so is every number of a list.
pub held-coded : {l : List ℤ} {i : ℕ} {ps : List Point} → Held l i ps → (k : ℕ) → i ≤ k → k < i + length ps → Coded (at0 l k)
held-coded h k low high = let p = held-point h k low high in rw p.2 (coded p.1)

module _ {r : Rate} (f : RateFits r) where
  -- What a rate adds is in range.
  pub delta-fits : Delta (delta_of r)
  delta-fits = omega (signed, rest-small, f.least, f.most)

  -- The number of a point moved on.
  pub later-code : {p : Point} → PointWithin p → PointWithin (later_by (job_rate r) p)
      → code (later_by (job_rate r) p) ≡ code p +ℤ delta_of r
  later-code {p} s t =
      let z = since-is s.time in
      let y = since-is t.time in
      let w = t.weight in
      let l = f.least in
      omega (
        signed,
        add_is p.time (pos r.takes),
        add_is (p.time +ℤ pos r.takes) (pos rest),
        add_is (code p) (delta_of r),
      )

  -- The number of a point that waited, moved on.
  pub waited-code : {ready : ℤ} {p : Point} → InTime ready → PointWithin p → p.time ≤ℤ ready
      → PointWithin (later_by (job_rate r) (waited ready p))
      → code (later_by (job_rate r) (waited ready p)) ≡ waited_as ready (delta_of r) (code p)
  waited-code {ready} {p} i s h t =
      let is : max_z ready p.time ≡ ready = omega (signed, max-is ready p.time) in
      later-code {p = waited ready p} (record { time = rw is (time-free i); weight = s.weight }) t
      ∙ ap (λ (z : ℤ). z +ℤ delta_of r) (ap₂ code_of is (sym (ap (λ (q : Point). q.weight) (point-back s))))
