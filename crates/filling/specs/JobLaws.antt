-- The job at a place as the code reads it from its bytes: its numbers are within their limits, and stepping a list by them is
-- stepping it by the job.
use Rattle.std.specs.Prelude.{ℕ, ◌+◌, ◌≤◌, ◌<◌, ◌≡◌, refl, Bool, true, false, T, eqb, ℤ, nat_abs}
use Rattle.std.proofs.Common.{sym, ap, ◌∙◌, subst, arith, Fits, to_z, of_z}
use mathlib.Core.List.{List, [], Memᴰ as In}
use Rattle.std.specs.Int.Signed.{non_neg}
use Rattle.std.specs.Int.{w32, w64}
use Rattle.std.proofs.Math.Facts.{to_z-of_z}
use Rattle.seconds.specs.Limits.{most_weight}
use Rattle.seconds.specs.RangesLaws.{time-fits}
use Rattle.seconds.specs.Signed.{signed, abs_is}
use Rattle.order.specs.Job.{Job, one_rate, Point}
use Rattle.order.proofs.Within.{JobWithin}
use Rattle.packed.specs.Packed.{count_of, job_fields, job_of, job_in}
use Rattle.packed.proofs.PackedLaws.{fields-of-numbers, numbers-count}
use Rattle.packed.proofs.RefusalLaws.{Within, within-is}
use Rattle.packed.proofs.Accepted.{OrderFine}
use Rattle.fields.specs.Fields.{fields_of}
use Rattle.fields.specs.Facts.{JobFacts, JobFits, job-facts, facts-fit, mark-bits}
use Rattle.fields.specs.declared.Job.{Job as Numbers}
use Rattle.points.specs.Steps.{list_step}
use Rattle.stepping.specs.Stepping.{stepped, CanStep, Stepped}
use Rattle.stepping.specs.Cases.{any-number}
use Rattle.sweeping.specs.declared.Stretch.{Stretch}
use Rattle.sweeping.specs.Sweep.{Carried, Listed, as-list, as-cells, Steppable, Roomy, CanSweep, Swept, Readable}
use Rattle.sweeping.specs.SweepLaws.{readable, can-step, next-listed, same-room, listed-one, by-list, by-cells}
use Rattle.codes.specs.declared.Prefix.{Prefix}
use Rattle.filling.specs.declared.Task.{Task}
use Rattle.filling.specs.Lists.{TaskIs, as_stretch, CanFillOne, FilledOne}

-- A number, as the code reads it back from its bits.
abbrev pub read : ℤ → ℤ
read z = to_z w32 (of_z w32 z)

module _ (bytes : List ℕ) (k : ℕ) (order : OrderFine bytes) (there : k < count_of bytes)
    (job : Numbers) (fields : fields_of job ≡ job_fields bytes k)
  where
    -- Its numbers are within their limits,
    within : JobFacts job
    within =
        let w : Within (job_fields bytes k) =
        rw (fields-of-numbers bytes k there) at (order.jobs.within k (omega (arith, numbers-count bytes))) in
        (job-facts job).0 ((within-is (fields_of job)).1 (rw fields w))

    fits : JobFits job
    fits = facts-fit job within

    -- and they are the job's.
    job_is : job_in bytes k
        ≡ one_rate (nat_abs job.number) (eqb (of_z w32 job.critical) 1) (nat_abs (read job.weight)) (read job.ready)
        (nat_abs (read job.length)) (read job.deadline)
    unfolding job_of
    job_is =
        rw (
          mark-bits job.critical within.critical,
          to_z-of_z fits.weight,
          to_z-of_z fits.ready,
          to_z-of_z fits.long,
          to_z-of_z fits.deadline,
        )
        (ap job_of (sym fields))

    -- Its weight can be read as an unsigned number.
    pub weight-casts : T (non_neg (read job.weight)) × Fits w64 (nat_abs (read job.weight))
    weight-casts = rw (to_z-of_z fits.weight) (omega (signed, abs_is job.weight, within.weight))

    -- and so can its length.
    pub long-casts : T (non_neg (read job.length)) × Fits w64 (nat_abs (read job.length))
    long-casts = rw (to_z-of_z fits.long) (omega (signed, abs_is job.length, within.long))

    -- So the job is told.
    pub task-is : TaskIs bytes k (record {
      terms = record { critical = eqb (of_z w32 job.critical) 1; ready = read job.ready; deadline = read job.deadline };
      rate = record { takes = nat_abs (read job.length); gain = nat_abs (read job.weight) };
    })
    task-is = record {
      number = nat_abs job.number;
      is = job_is;
      starts = rw (to_z-of_z fits.ready) within.ready;
      ends = rw (to_z-of_z fits.deadline) within.deadline;
      fits = record {
        least = rw (to_z-of_z fits.long) (omega (signed, abs_is job.length, within.long));
        most = rw (to_z-of_z fits.long) (omega (signed, abs_is job.length, within.long));
        light = rw (to_z-of_z fits.weight) (omega (signed, abs_is job.weight, within.weight));
      };
    }

-- ---- a job told

-- Its times are read back from their bits.
abbrev pub read_back : Task → Task
read_back task = record {
  terms = record { critical = task.terms.critical; ready = read task.terms.ready; deadline = read task.terms.deadline };
  rate = task.rate;
}

pub read-task : {bytes : List ℕ} {k : ℕ} {task : Task} → TaskIs bytes k task → TaskIs bytes k (read_back task)
read-task t = rw (to_z-of_z (time-fits t.starts), to_z-of_z (time-fits t.ends)) t

module _ {bytes : List ℕ} {k : ℕ} {task : Task} (t : TaskIs bytes k task) where
  weight_is : (job_in bytes k).weight ≡ task.rate.gain
  weight_is = ap (λ (j : Job). j.weight) t.is

  critical-is : (job_in bytes k).critical ≡ task.terms.critical
  critical-is = ap (λ (j : Job). j.critical) t.is

  step_is : (ps : List Point) → list_step (job_in bytes k) ps ≡ stepped task.terms task.rate ps
  step_is ps = ap (λ (j : Job). list_step j ps) t.is ∙ any-number t.number task.terms task.rate ps

  -- A profile can be stepped by it,
  task-can : (ps : List Point) → JobWithin (job_in bytes k) → ((p : Point) → In p ps → p.weight + (job_in bytes k).weight ≤ most_weight)
      → Steppable task.terms task.rate ps
  task-can ps limits light = record {
    starts = t.starts;
    ends = t.ends;
    fits = t.fits;
    light = rw (← weight_is) light;
    weighty = λ free. omega (arith, weight_is, limits.weighty (critical-is ∙ free));
    weightless = λ kept. omega (arith, weight_is, limits.weightless (critical-is ∙ kept));
  }

  module _ {from : Stretch} {celled : Bool} {work pushed row : List ℤ} (f : CanFillOne bytes k from celled work pushed row) where
    own-can : Steppable task.terms task.rate f.ps
    own-can = task-can f.ps f.limits f.light

    roomy : Roomy task.terms f.ps from.list work pushed
    roomy = record { room = f.room; room_more = λ free. f.room_more (critical-is ∙ free); buffer = f.buffer }

  -- as a list,
  module _ {from : Stretch} {work pushed : List ℤ} (f : CanFillOne bytes k from false work pushed []) where
    own-list : Listed f.ps from.list from.points work
    own-list = by-list refl f.holds

    pub list-can : CanStep task.terms task.rate from.list work pushed
    list-can = can-step own-list (own-can f) (roomy f)

    module _ {r : Prefix} {work' pushed' : List ℤ} (s : Stepped task.terms task.rate from.list work r work' pushed') where
      pub list-readable : Readable work' r
      list-readable = readable (next-listed own-list (own-can f) (roomy f) s)

      pub list-filled : FilledOne bytes k from false work [] (as_stretch r) task.rate.gain work' pushed' []
      list-filled = record {
        weighs = sym weight_is;
        size = s.size;
        stays = s.stays;
        further = s.further;
        few = rw critical-is s.few;
        buffer = s.buffer;
        next = λ ps h light.
            let l = by-list refl h in
            let n = next-listed l (task-can ps f.limits light) (same-room (listed-one own-list l) (roomy f)) s in
            as-list (subst (λ (qs : List Point). Listed qs r r.count work') (sym (step_is ps)) n);
      }

  -- and by its cells.
  module _ {from : Stretch} {work pushed row : List ℤ} (f : CanFillOne bytes k from true work pushed row) where
    pub cells-can : CanSweep task.terms task.rate from.list work pushed row
    cells-can = record { ps = f.ps; points = from.points; carried = by-cells refl f.holds; can = own-can f; roomy = roomy f }

    pub cells-filled : {r : Stretch} {work' pushed' row' : List ℤ}
        → Swept task.terms task.rate from.list from.points work row r work' pushed' row'
        → FilledOne bytes k from true work row r task.rate.gain work' pushed' row'
    cells-filled {r} {work'} {row' = row'} s = record {
      weighs = sym weight_is;
      size = s.size;
      stays = s.stays;
      further = s.further;
      few = omega (arith, s.few);
      buffer = s.buffer;
      next = λ ps h light.
          let n = s.next ps (by-cells refl h) (task-can ps f.limits light) in
          as-cells (subst (λ (qs : List Point). Carried qs r.list r.points work' row') (sym (step_is ps)) n);
    }
