-- The plan by the walk back and the starts: the walk from the plan's end gives the mask of its choice, and from that mask
-- come its starts and the number of jobs that it keeps.
use Rattle.std.specs.Prelude.{ℕ, ◌≤◌, ◌<◌, ◌≡◌, refl, true, List, [], ◌∷◌, ◌++◌, reverse, T, ℤ, length, drop}
use Rattle.std.proofs.Common.{◌∙◌, arith}
use Rattle.std.proofs.Math.Option.{Option, none, some, some-injective, map-eq-some_iff}
use Rattle.seconds.specs.Ranges.{InFree}
use Rattle.seconds.specs.RangesLaws.{time-free}
use Rattle.order.specs.Job.{Job, Point, jobs_within}
use Rattle.order.specs.Choice.{feasible, starts, mask, number_kept}
use Rattle.order.proofs.Runs.{run_length, run-in-range, ran}
use Rattle.packed.specs.Packed.{count_of, t0_of, jobs_in}
use Rattle.packed.proofs.Accepted.{OrderFine, jobs-fit}
use Rattle.order.proofs.OneRate.{OneRate}
use Rattle.fields.specs.Places.{jobs-count, jobs-one-rate}
use Rattle.profile.specs.Profile.{last_point, start_point}
use Rattle.plan.specs.Plan.{Ended, plan}
use Rattle.plan.proofs.PlanIs.{plan-is}
use Rattle.rows.proofs.RowLaws.{nothing-there}
use Rattle.rows.specs.Walk.{onward}
use Rattle.points.specs.Steps.{list_after}
use Rattle.points.proofs.PrefixLaws.{Singles}
use Rattle.points.specs.Walk.{walk_lists, walk_lists_from}
use Rattle.points.proofs.WalkLaws.{plan-by-lists}
use Rattle.codes.specs.declared.Prefix.{Prefix}
use Rattle.filling.specs.Lists.{Lists}
use Rattle.filling.specs.ListsLaws.{jobs-single}
use Rattle.reading.specs.declared.Found.{Found}
use Rattle.walking.specs.Trail.{Walks, walk_mask}
use Rattle.starting.specs.Picks.{picks_of, WritesStarts, starts_written}
use Rattle.starting.specs.PicksLaws.{picks-feasible, kept-of-mask}

-- ---- the plan of some jobs

module _ (t : ℤ) (js : List Job) (e : Ended) (is : plan t js ≡ some e) where
  -- The walk from the plan's end gives its choice,
  plan-walked : Singles js → walk_lists (reverse js) (start_point t ∷ []) e.end.weight e.end.time [] ≡ some e.choice
  plan-walked single = go (last_point (list_after js (start_point t ∷ []))) (plan-by-lists t js single ∙ is)
    where
      go : (o : Option Point) → onward o (walk_lists_from t js) ≡ some e
          → walk_lists (reverse js) (start_point t ∷ []) e.end.weight e.end.time [] ≡ some e.choice
      go none h = nothing-there h
      go (some p) h =
          let walked = walk_lists (reverse js) (start_point t ∷ []) p.weight p.time [] in
          let m = (map-eq-some_iff {B = Ended} (λ c. record { choice = c; end = p }) walked).0 h in
          rw (← m.2) m.1

  -- so what it answers is the mask of the plan's choice.
  pub plan-mask : Singles js → (r : ℕ) → some r ≡ walk_mask t js e.end.weight e.end.time → r ≡ mask e.choice
  plan-mask single r h = some-injective r (mask e.choice) (h ∙ rw (plan-walked single))

  -- The plan's choice is feasible, and its end is in range.
  pub plan-feasible : feasible js e.choice t ≡ true
  plan-feasible = (ran js e.choice (start_point t) ((plan-is t js e).0 is).feasible).can

  plan-free : T (jobs_within js) → InFree t → InFree e.end.time
  plan-free within free = run-in-range js e.choice (start_point t) within free ((plan-is t js e).0 is).feasible

  -- It is read back from its mask, and the ones in the mask are the jobs that it keeps.
  pub plan-picks : OneRate js → length js ≤ 64 → picks_of (length js) (mask e.choice) ≡ e.choice
  plan-picks one few = picks-feasible js e.choice t one few plan-feasible

  pub plan-kept : length js ≤ 64 → number_kept (picks_of 64 (mask e.choice)) ≡ number_kept e.choice
  plan-kept few =
      kept-of-mask e.choice (omega (arith, run_length js e.choice (start_point t) ((plan-is t js e).0 is).feasible))

-- ---- the plan of packed bytes

module _ (bytes : List ℕ) (fine : OrderFine bytes) (e : Ended) (is : plan (t0_of bytes) (jobs_in bytes) ≡ some e) where
  free : InFree (t0_of bytes)
  free = time-free fine.header.timely

  choice-back : picks_of (count_of bytes) (mask e.choice) ≡ e.choice
  choice-back =
      rw (← (jobs-count bytes))
      (plan-picks (t0_of bytes) (jobs_in bytes) e is (jobs-one-rate bytes) (omega (arith, jobs-count bytes, fine.header.few)))

  -- The walk from its end can be made,
  pub plan-walks : (n : ℕ) (end : Found) → n ≡ count_of bytes → end.weight ≡ e.end.weight → end.time ≡ e.end.time
      → (work : List ℤ) (notes : List Prefix) (used : ℕ) → Lists (start_point (t0_of bytes) ∷ []) (jobs_in bytes) n notes used work
      → used ≤ length work → n < length notes → Walks work bytes n notes end
  plan-walks n end count weighs ends work notes used lists room room_notes =
      record {
        order = fine;
        count = count;
        used = used;
        lists = lists;
        room = room;
        room_notes = room_notes;
        free = rw ends (plan-free (t0_of bytes) (jobs_in bytes) e is (jobs-fit bytes fine) free);
        choice = e.choice;
        walked = rw (weighs, ends) (plan-walked (t0_of bytes) (jobs_in bytes) e is (jobs-single bytes fine));
      }

  -- the starts that go with its mask can be written,
  pub plan-writes : (old : List ℤ) → count_of bytes ≤ length old
      → WritesStarts bytes (count_of bytes) (t0_of bytes) (mask e.choice) old
  plan-writes old room =
      record {
        order = fine;
        count = refl;
        range = free;
        may = rw choice-back (plan-feasible (t0_of bytes) (jobs_in bytes) e is);
        room = room;
      }

  -- and they are the plan's.
  pub plan-starts : (old : List ℤ) → starts_written bytes (count_of bytes) (t0_of bytes) (mask e.choice) old
      ≡ starts (jobs_in bytes) e.choice (t0_of bytes) ++ drop (count_of bytes) old
  plan-starts old = rw choice-back
