-- One repeat written as a job of the order: it has room in the code's types and in the order, and it is the next of the sequence.
use Rattle.std.specs.Prelude.{ℕ, ◌+◌, ◌*◌, ◌/◌, ◌≤◌, ◌<◌, ◌≡◌, List, ℤ, pos, nat_abs, ◌+ℤ◌, length, get_or, take, drop, set}
use Rattle.std.proofs.Common.{sym, ap, ◌∙◌, arith, Fits, SFits, to_z, of_z, to_z-of_z, length-take-le}
use Rattle.std.specs.Int.{w32}
use Rattle.std.proofs.Math.Facts.{to_z_pos}
use Rattle.seconds.specs.Limits.{heaviest, longest_frame}
use Rattle.seconds.specs.Signed.{signed}
use Rattle.seconds.specs.Ranges.{same, Between}
use Rattle.packed.proofs.LayoutLaws.{bytes-old}
use Rattle.packed.specs.Packed.{has_pack}
use Rattle.packed.specs.Refusals.{fields_within}
use Rattle.packed.proofs.RefusalLaws.{within-is, weight-range}
use Rattle.fields.specs.Fields.{fields_of}
use Rattle.fields.specs.Asked.{JobRoom}
use Rattle.fields.specs.declared.Job.{Job}
use Rattle.frames.specs.Frames.{jobs_given, period_at, Repeat, numbers_for, repeat_at, made_of}
use Rattle.frames.proofs.RepeatsLaws.{at-place}
use Rattle.frames.proofs.FrameLaws.{repeat-there, made-within}
use Rattle.repeating.specs.Repeating.{numbers_in}
use Rattle.repeating.specs.RepeatingLaws.{JobRead, job_read}
use Rattle.repeating.specs.declared.Repeating.{Repeating}
use Rattle.picking.specs.Picking.{IsLeast, Reached, CanMake, CanPut}
use Rattle.picking.specs.PickingLaws.{least-front, picked, one-done}

-- ---- the job of a repeat

module _ {number ready : ℕ} {j : Repeating} (can : CanMake number ready (numbers_in j)) where
  -- Its ready time and its deadline as signed numbers.
  pub ready-is : to_z w32 ready ≡ pos ready
  ready-is = to_z_pos w32 (omega (signed, can.soon))

  pub deadline-is : to_z w32 (of_z w32 j.deadline) ≡ j.deadline
  deadline-is = to_z-of_z {w = w32} {z = j.deadline} (omega (signed, can.repeats.deadline))

  deadline-fits : SFits w32 (to_z w32 ready +ℤ to_z w32 (of_z w32 j.deadline))
  deadline-fits = omega (signed, ready-is, deadline-is, can.soon, can.repeats.deadline)

  -- The numbers that the code makes are those of the repeat.
  pub job-made : fields_of (record {
    number = to_z w32 number;
    pack = pos 0;
    critical = to_z w32 (of_z w32 j.critical);
    weight = to_z w32 (of_z w32 j.weight);
    ready = to_z w32 ready;
    length = to_z w32 (of_z w32 j.length);
    deadline = to_z w32 (of_z w32 (to_z w32 ready +ℤ to_z w32 (of_z w32 j.deadline)));
  }) ≡ made_of number ready (numbers_in j)
  job-made =
      let m = can.repeats in
      let numbered : to_z w32 number ≡ pos number = to_z_pos w32 (omega (signed, can.few)) in
      let mark : to_z w32 (of_z w32 j.critical) ≡ j.critical = to_z-of_z {w = w32} {z = j.critical} (omega (signed, m.mark)) in
      let weighed : Between (pos 0) (pos heaviest) j.weight = weight-range (same j.critical (pos 1)) j.weight m.weight in
      let weight : to_z w32 (of_z w32 j.weight) ≡ j.weight = to_z-of_z {w = w32} {z = j.weight} (omega (signed, weighed)) in
      let long : to_z w32 (of_z w32 j.length) ≡ j.length = to_z-of_z {w = w32} {z = j.length} (omega (signed, m.long)) in
      rw (to_z-of_z deadline-fits, numbered, mark, weight, ready-is, long, deadline-is)

-- ---- the next repeat

module _ {zs : List ℤ} {k : ℕ} {next order : List ℕ} (can : CanPut zs k next order) where
  -- There is a time for each job,
  pub times-there : length zs / 6 ≤ length next
  unfolding jobs_given
  times-there = can.reached.room

  -- and there is one to pick.
  pub can-pick : 1 ≤ length (take (length zs / 6) next)
  unfolding jobs_given
  can-pick =
      let r = repeat-there can.making.given k can.more in
      omega (arith, r.there, length-take-le (length zs / 6) next times-there)

  -- What is picked of them is the least.
  pub picks : (place : ℕ) → IsLeast (take (length zs / 6) next) (length (take (length zs / 6) next)) place → IsLeast next (length zs / 6) place
  picks place l = least-front next (length zs / 6) place times-there l

  module _ (place : ℕ) (least : IsLeast next (length zs / 6) place) where
    -- Its next ready time is the next repeat of the sequence,
    next-is : repeat_at zs k ≡ record { place = place; ready = get_or next place 0 }
    unfolding jobs_given
    next-is = picked can.making.given next k place can.reached can.more least

    -- which lies within the frame.
    pub next-soon : get_or next place 0 < longest_frame
    next-soon =
        let r = repeat-there can.making.given k can.more in
        let ready : (repeat_at zs k).ready ≡ get_or next place 0 = ap (λ (a : Repeat). a.ready) next-is in
        omega (arith, r.inside, can.making.short)

    module _ (j : Repeating) (read : numbers_in j ≡ take 6 (drop (6 * place) zs)) where
      -- The job that is read there is the one given.
      pub job-given : JobRead zs place j
      unfolding jobs_given
      job-given = job_read zs place j can.making.given least.there read

      pub can-make : CanMake k (get_or next place 0) (numbers_in j)
      can-make =
          record { few = omega (arith, can.more, can.making.few); soon = next-soon; repeats = job-given.may }

      made-next : made_of k (get_or next place 0) (numbers_in j) ≡ numbers_for zs k (repeat_at zs k)
      made-next =
          ap (made_of k (get_or next place 0)) job-given.is ∙ sym (ap (numbers_for zs k) next-is)

      -- Its period is added to its ready time,
      module _ (period : ℕ) (counts : period ≡ nat_abs (to_z w32 (of_z w32 j.period))) where
        period-is : period ≡ period_at zs place
        period-is = counts ∙ job-given.period.is

        pub next_fits : Fits w32 (get_or next place 0 + period)
        unfolding jobs_given
        next_fits =
            record { fits = omega (arith, next-soon, period-is, (at-place can.making.given place least.there).short) }

        pub moves-on : Reached zs (set next place (get_or next place 0 + period)) (k + 1)
        unfolding jobs_given
        moves-on = rw period-is (one-done can.making.given next k place can.reached can.more least)

      module _ (job : Job) (made : fields_of job ≡ made_of k (get_or next place 0) (numbers_in j)) where
        -- and its job is within its limits, with room in the order.
        pub job-next : fields_of job ≡ numbers_for zs k (repeat_at zs k)
        job-next = made ∙ made-next

        pub job-room : JobRoom order (4 + 8 * k) 0 job
        job-room =
            let within = (within-is (numbers_for zs k (repeat_at zs k))).1 (made-within can.making k can.more) in
            record {
              room = omega (arith, can.more, can.room, bytes-old);
              fits = record { within = ap fields_within job-next ∙ within; kinded = λ e. ap has_pack job-next };
            }
