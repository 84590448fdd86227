-- The source of a job, as the code finds it: left out where the list before it gives the weight in time, else kept.
use Rattle.std.specs.Prelude.{ℕ, ◌+◌, ◌*◌, ◌-◌, ◌≤◌, ◌≡◌, refl, Bool, true, false, cond, List, leb, ℤ, pos, ◌-ℤ◌, nat_abs}
use Rattle.std.proofs.Common.{sym, ap, ◌∙◌, arith}
use Rattle.std.proofs.Math.Option.{Option, none, some, map, some-injective}
use Rattle.std.proofs.Math.Nat.{sub-zero}
use Rattle.std.specs.Int.Signed.{le_z}
use borrow.Table.Steps.{cases}
use Rattle.seconds.specs.Limits.{rest}
use Rattle.seconds.specs.Ranges.{InFree}
use Rattle.seconds.specs.Signed.{signed, min_z, min-is, sub_is, abs_is, one-zero}
use Rattle.order.specs.Job.{Job, Point, Rate, one_rate, rate_of, gain_of}
use Rattle.order.proofs.Within.{JobWithin}
use Rattle.order.proofs.Moves.{latest_at, latest_before, last_start}
use Rattle.profile.specs.Profile.{lookup}
use Rattle.packed.specs.Packed.{job_of, is_critical}
use Rattle.fields.specs.declared.Job.{Job as Numbers}
use Rattle.fields.specs.Fields.{fields_of, as_job}
use Rattle.fields.specs.Facts.{JobFacts}
use Rattle.rows.proofs.RowLaws.{nothing-there}
use Rattle.rows.specs.Walk.{Source}
use Rattle.points.specs.Walk.{leaves_by, left_out, kept_by, source_in}
use Rattle.walking.specs.declared.Trail.{Trail}
use Rattle.walking.specs.Trail.{leaves_out, last_start_of, step_back}

-- A latest time before a kept job within its limits stays in range.
latest-in-range : (j : Job) (o : Option Rate) (by e : ℤ) → JobWithin j → InFree by → latest_at j o by ≡ some e → InFree e
latest-in-range j none by e w h d = nothing-there d
latest-in-range j (some r) by e w h d = cases (le_z j.ready (last_start j r by))
    (λ a.
    let same : last_start j r by ≡ e = some-injective _ e (rw a at d) in
    omega (
      signed,
      w.ready.low,
      min-is j.deadline (by -ℤ pos rest),
      sub_is by (pos rest),
      sub_is (min_z j.deadline (by -ℤ pos rest)) (pos r.takes),
    ))
    (λ a. nothing-there (rw a at d))

-- ---- the source that is found

-- Lists with the same last point by the time give the same.
pub source-same : (j : Job) (ps qs : List Point) (w : ℕ) (by : ℤ) → lookup ps by ≡ lookup qs by
    → source_in j ps w by ≡ source_in j qs w by
source-same j ps qs w by e = rw e

-- Kept: as much weight is still wanted as the job counts, and the time is its latest.
record Kept (j : Job) (w : ℕ) (by : ℤ) (s : Source) : Type 0 where
  light : gain_of j 1 ≤ w
  last : latest_before j 1 by ≡ some s.latest
  is : s ≡ kept_by s.latest

module _ (j : Job) (list : List Point) (w : ℕ) (by : ℤ) (s : Source) (found : source_in j list w by ≡ some s) where
  -- It is left out with the time as it is,
  source-left : leaves_by j list w by ≡ true → left_out by ≡ s
  source-left e = some-injective (left_out by) s (rw e at found)

  -- or else kept.
  source-kept : leaves_by j list w by ≡ false → Kept j w by s
  source-kept e = go (leb (gain_of j 1) w) (latest_before j 1 by) refl refl (rw e at found)
    where
      go : (b : Bool) (o : Option ℤ) → leb (gain_of j 1) w ≡ b → latest_before j 1 by ≡ o
          → cond b (map kept_by o) none ≡ some s → Kept j w by s
      go true none d l f = nothing-there f
      go true (some e) d l f =
          let same : kept_by e ≡ s = some-injective (kept_by e) s f in
          let time : e ≡ s.latest = ap (λ (t : Source). t.latest) same in
          record { light = omega signed; last = l ∙ ap some time; is = rw time at (sym same) }
      go false o d l f = nothing-there f

  -- Its time is in range.
  pub source-in-range : JobWithin j → InFree by → InFree s.latest
  source-in-range within free = cases (leaves_by j list w by)
      (λ e. rw (← source-left e) free)
      (λ e. latest-in-range j (rate_of j 0) by s.latest within free (source-kept e).last)

-- ---- the step back of the code

-- The job that six numbers mean, written out.
abbrev written : Numbers → Job
written j =
    one_rate (nat_abs j.number) (is_critical (fields_of j)) (nat_abs j.weight) j.ready (nat_abs j.length) j.deadline

-- That is the job.
job-written : (j : Numbers) → as_job j ≡ written j
unfolding job_of
job-written j = refl

module _ (j : Numbers) (bit : ℕ) (list : List Point) (trail : Trail) where
  -- Left out: the trail stays.
  step_left : leaves_out (is_critical (fields_of j)) list trail.weight trail.by ≡ true
      → step_back (as_job j) bit list trail ≡ some trail
  step_left h =
      let m : trail.mask + 0 * bit ≡ trail.mask = omega arith in
      rw (job-written j, h, m, sub-zero trail.weight)

  -- The last start of the job, where it has a latest time.
  abbrev last : ℤ
  last = last_start_of (pos (nat_abs j.length)) j.deadline trail.by

  last_of : (e : ℤ) → latest_before (written j) 1 trail.by ≡ some e → e ≡ last
  last_of e h = cases (le_z j.ready last)
      (λ a. sym (some-injective last e (rw a at h)))
      (λ a. nothing-there (rw a at h))

  -- Kept: its bit is set, its weight is accounted for, and the bus must be free by its last start.
  step_kept : JobFacts j → (s : Source) → source_in (as_job j) list trail.weight trail.by ≡ some s
      → leaves_out (is_critical (fields_of j)) list trail.weight trail.by ≡ false
      → (nat_abs j.weight ≤ trail.weight)
      × (step_back (as_job j) bit list trail
      ≡ some (record {
        mask = trail.mask + bit;
        weight = trail.weight - nat_abs j.weight;
        by = last_start_of j.length j.deadline trail.by;
      }))
  step_kept f s found h =
      let there : source_in (written j) list trail.weight trail.by ≡ some s = rw (job-written j) at found in
      let kept = source-kept (written j) list trail.weight trail.by s there h in
      let m : trail.mask + 1 * bit ≡ trail.mask + bit = omega arith in
      let z = j.length in
      let long : pos (nat_abs z) ≡ z = omega (signed, abs_is z, one-zero z, f.long) in
      let is : s ≡ kept_by last = kept.is ∙ ap kept_by (last_of s.latest kept.last) in
      (kept.light, rw (job-written j, there, is, m, long))

  -- The step back by the test: each number is the one for a job left out or the one for a job kept.
  pub step-either : JobFacts j → (s : Source) → source_in (as_job j) list trail.weight trail.by ≡ some s
      → (left : Bool) → leaves_out (is_critical (fields_of j)) list trail.weight trail.by ≡ left
      → (cond left 0 (nat_abs j.weight) ≤ trail.weight)
      × (step_back (as_job j) bit list trail
      ≡ some (record {
        mask = trail.mask + cond left 0 bit;
        weight = trail.weight - cond left 0 (nat_abs j.weight);
        by = cond left trail.by (last_start_of j.length j.deadline trail.by);
      }))
  step-either f s found true h =
      let m : trail.mask + 0 ≡ trail.mask = omega arith in
      (omega arith, step_left h ∙ rw (m, sub-zero trail.weight))
  step-either f s found false h = step_kept f s found h
