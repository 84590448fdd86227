-- The laws of planning by lists: the last point of the last list is the plan's end, and from there come the mask, the starts
-- and the figures.
use Rattle.std.specs.Prelude.{ℕ, zero, suc, ◌+◌, ◌*◌, ◌-◌, ◌≤◌, ◌≡◌, refl, ℤ, length, take, ◌≤ℤ◌, Some, None, Ok, Err}
use Rattle.std.proofs.Math.Path.{sym, ap}
use Rattle.std.proofs.Common.{ap₂, ◌∙◌, subst, arith}
use mathlib.Core.List.{List, [], ◌∷◌, Memᴰ as In}
use Rattle.std.proofs.Math.Option.{some, map, map-eq-some_iff, map-eq-none_iff}
use Rattle.seconds.specs.Limits.{latest_free, most_weight, most_points, most_jobs}
use Rattle.seconds.specs.RangesLaws.{time-free}
use Rattle.order.specs.Job.{Job, Point, weight_of}
use Rattle.order.specs.Choice.{number_kept}
use Rattle.profile.specs.Profile.{lookup, last_weight, start_point, extend, profile_after, points_up_to, point_total}
use Rattle.profile.proofs.Closure.{ValidProfile, valid-holds, valid-extend, valid-start, prefix-short}
use Rattle.plan.specs.Plan.{Ended, plan, Answer, answer_of, plan_answer}
use Rattle.plan.proofs.PlanProfile.{plan-end-last}
use Rattle.plan.proofs.Figures.{Figures as Fitting, plan-figures}
use Rattle.packed.specs.Judge.{plainly}
use Rattle.packed.specs.Packed.{count_of, t0_of, order_of, jobs_in}
use Rattle.packed.proofs.Accepted.{OrderFine, jobs-fit}
use Rattle.profiles.specs.Numbers.{written_over}
use Rattle.fields.specs.declared.Header.{Header}
use Rattle.fields.specs.Places.{jobs-count, weight-up-to}
use Rattle.codes.specs.declared.Prefix.{Prefix}
use Rattle.codes.specs.Code.{list_at, points_at}
use Rattle.codes.specs.Held.{Held}
use Rattle.codes.specs.HeldLaws.{held-read}
use Rattle.reading.specs.declared.Found.{Found}
use Rattle.reading.specs.Reading.{Stands, found}
use Rattle.reading.specs.ReadingLaws.{found_nothing, found_at, last-by-latest}
use Rattle.filling.specs.declared.Totals.{Totals}
use Rattle.filling.specs.Begin.{CanStart}
use Rattle.filling.specs.Lists.{noted, Lists, points_to, CanFill, CanFillLists, Filled}
use Rattle.filling.specs.ListsLaws.{jobs-all, jobs-single, lists-stand}
use Rattle.walking.specs.Trail.{Walks, walk_mask}
use Rattle.starting.specs.Picks.{picks_of, WritesStarts, starts_written}
use Rattle.planner.specs.Planning.{CanPlan, CanPlanOver, CanMake, MadeIn}
use Rattle.planner.specs.PlanMask.{plan-mask, plan-kept, plan-walks, plan-writes, plan-starts}

-- ---- an accepted order

module _ (bytes : List ℕ) (fine : OrderFine bytes) where
  -- There are few enough points on the way for the number that they are handed over in.
  points-few : (k : ℕ) → points_up_to k (t0_of bytes) (jobs_in bytes) ≤ most_points * k
  points-few zero = omega arith
  points-few (suc k) =
      omega (
        arith,
        points-few k,
        prefix-short (t0_of bytes) (suc k) (jobs_in bytes) (jobs-fit bytes fine),
        weight-up-to (jobs_in bytes) (suc k),
        fine.light,
      )

  pub total-few : point_total (t0_of bytes) (jobs_in bytes) ≤ most_points * most_jobs
  total-few = omega (arith, points-few (length (jobs_in bytes)), jobs-count bytes, fine.header.few)

-- ---- the plan from its mask and its end

module _ {bytes : List ℕ} {header : Header} {m : ℕ} {totals : Totals} {end : Found} {old : List ℤ} (f : CanMake bytes header m totals end old) where
  abbrev answer : Answer
  answer = answer_of (t0_of bytes) (jobs_in bytes) f.best

  few : length (jobs_in bytes) ≤ 64
  few = omega (arith, jobs-count bytes, f.order.header.few)

  fitting : Fitting (jobs_in bytes) answer
  fitting = plan-figures (t0_of bytes) (jobs_in bytes) f.best f.is (jobs-fit bytes f.order) few

  -- The weight that it keeps is no more than all weights, and the totals are small.
  pub weight-light : end.weight ≤ totals.weight
  weight-light = omega (arith, f.weighs, f.reach, fitting.weights)

  pub total-light : totals.weight ≤ most_weight
  total-light = omega (arith, f.reach, f.order.light)

  pub points-light : totals.points ≤ most_points * most_jobs
  points-light = omega (arith, f.counted, total-few bytes f.order)

  -- The starts can be written,
  pub can_write : WritesStarts bytes header.count header.t0 m old
  can_write =
      rw (f.read.count, f.read.t0, f.keeps)
      (plan-writes bytes f.order f.best f.is old (omega (arith, f.places, f.read.count)))

  -- and are the plan's.
  starts-are : starts_written bytes header.count header.t0 m old ≡ written_over answer.starts old
  starts-are =
      let long : length answer.starts ≡ count_of bytes = fitting.starts ∙ jobs-count bytes in
      rw (f.read.count, f.read.t0, f.keeps, long) (plan-starts bytes f.order f.best f.is old)

  answer-is : plan_answer (order_of bytes) ≡ some answer
  unfolding order_of
  answer-is = ap (map (answer_of (t0_of bytes) (jobs_in bytes))) f.is

  -- With the number kept, the plan is made.
  pub plan-made : (kept : ℕ) (written : List ℤ) → kept ≡ number_kept (picks_of 64 m)
      → written ≡ starts_written bytes header.count header.t0 m old
      → MadeIn bytes old
      (Ok (record {
        mask = m;
        kept = kept;
        kept_weight = end.weight;
        lost_weight = totals.weight - end.weight;
        finish = end.time;
        points = totals.points;
      })) written
  plan-made kept written k s =
      let kept-is : kept ≡ number_kept f.best.choice =
      k ∙ ap (λ (x : ℕ). number_kept (picks_of 64 x)) f.keeps ∙ plan-kept (t0_of bytes) (jobs_in bytes) f.best f.is few in
      let lost : totals.weight - end.weight ≡ answer.lost_weight = omega (arith, f.weighs, f.reach, fitting.weights) in
      record {
        answer = rw (answer-is, f.keeps, kept-is, lost, f.weighs, f.ends, f.counted);
        written = rw answer-is (s ∙ starts-are);
      }

-- ---- the plan's end, by the lists

-- The points of all lists, from one point, are the point total.
points-are : (k : ℕ) (t : ℤ) (js : List Job) → points_to (start_point t ∷ []) js k ≡ points_up_to k t js
points-are zero t js = refl
points-are (suc k) t js = ap (λ (n : ℕ). n + length (profile_after t (take (suc k) js))) (points-are k t js)

module _ {bytes : List ℕ} {header : Header} {old work : List ℤ} {notes : List Prefix} (f : CanPlanOver bytes header old work notes) where
  abbrev planning : CanPlan bytes header old work
  planning = f.planning

  abbrev n : ℕ
  n = header.count

  abbrev first : List Point
  first = start_point (t0_of bytes) ∷ []

  -- The list before the first job can be started,
  pub can-start : CanStart header.t0 work
  can-start = record { timely = rw planning.read.t0 planning.order.header.timely; room = omega (arith, planning.room) }

  module _ {begun : List ℤ} (sized : length begun ≡ length work) (started : Held begun 0 (start_point header.t0 ∷ [])) where
    first-is : list_at begun 0 1 ≡ first
    first-is = held-read started ∙ ap (λ (t : ℤ). start_point t ∷ []) planning.read.t0

    first-valid : ValidProfile first
    first-valid = valid-holds first (valid-start (t0_of bytes) (time-free planning.order.header.timely))

    -- and the lists of all jobs filled behind it.
    pub can-fill : CanFillLists bytes n begun notes
    can-fill =
        let one : CanFill bytes n 1 begun =
        record {
          order = planning.order;
          jobs = planning.read.count;
          held = rw first-is (subst (λ (t : ℤ). Held begun 0 (start_point t ∷ [])) planning.read.t0 started);
          valid = rw first-is first-valid;
          light =
              subst (λ (ps : List Point). last_weight ps + weight_of (jobs_in bytes) ≤ most_weight) (sym first-is)
              (omega (arith, planning.order.light));
          room = omega (arith, sized, planning.room);
        } in
        record { filling = rw f.first_note one; first = rw f.first_note refl; room = f.room_notes }

    module _ {totals : Totals} {notes' : List Prefix} {filled : List ℤ} (kept : length filled ≡ length begun)
        (made : Filled bytes n (noted notes 0).count begun totals notes' filled)
      where
        lists : Filled bytes n 1 begun totals notes' filled
        lists = rw f.first_note at made

        stand : Lists first (jobs_in bytes) n notes' lists.used filled
        stand = rw first-is at lists.lists

        room : lists.used ≤ length filled
        room = omega (arith, lists.small, kept, sized, planning.room)

        -- The last list is said,
        pub last-stands : Stands filled (noted notes' n).place (noted notes' n).count
        last-stands = lists-stand stand room n (omega arith)

        -- and is the order's profile.
        last-is : extend first (take n (jobs_in bytes)) ≡ profile_after (t0_of bytes) (jobs_in bytes)
        last-is = ap (extend first) (ap (λ (k : ℕ). take k (jobs_in bytes)) planning.read.count ∙ jobs-all bytes)

        early : (p : Point) → In p (profile_after (t0_of bytes) (jobs_in bytes)) → p.time ≤ℤ latest_free
        early p m =
            let order = planning.order in
            let t = time-free order.header.timely in
            ((valid-holds (profile_after (t0_of bytes) (jobs_in bytes))
            (valid-extend first (jobs_in bytes) (valid-start (t0_of bytes) t) (jobs-fit bytes order) (omega (arith, order.light)))).within p m
            ).time.high

        -- Its last point is the plan's end, if there is one.
        end-found : lookup (points_at filled (noted notes' n)) latest_free
            ≡ map (λ (e : Ended). e.end) (plan (t0_of bytes) (jobs_in bytes))
        end-found =
            (stand.stands n (omega arith)).says latest_free ∙ ap (λ (ps : List Point). lookup ps latest_free) last-is
            ∙ last-by-latest (profile_after (t0_of bytes) (jobs_in bytes)) early ∙ sym (plan-end-last (t0_of bytes) (jobs_in bytes))

        -- With none there is no feasible choice,
        pub nothing-made : None ≡ found (lookup (points_at filled (noted notes' n)) latest_free)
            → MadeIn bytes old (Err (plainly 11)) old
        unfolding order_of
        nothing-made e =
            let no_end = sym end-found ∙ found_nothing _ (sym e) in
            let no-plan = (map-eq-none_iff (λ (x : Ended). x.end) (plan (t0_of bytes) (jobs_in bytes))).0 no_end in
            record { answer = rw no-plan; written = rw no-plan }

        -- else the plan ends there.
        module _ (end : Found)
            (is : Some end ≡ found (lookup (points_at filled (noted notes' n)) latest_free))
          where
            planned : (best : Ended) × (plan (t0_of bytes) (jobs_in bytes) ≡ some best)
                × (best.end ≡ record { time = end.time; weight = end.weight })
            planned =
                (map-eq-some_iff (λ (x : Ended). x.end) (plan (t0_of bytes) (jobs_in bytes))).0
                (sym end-found ∙ found_at _ end (sym is))

            abbrev best : Ended
            best = planned.0

            weighs : end.weight ≡ best.end.weight
            weighs = ap (λ (p : Point). p.weight) (sym planned.2)

            ends : end.time ≡ best.end.time
            ends = ap (λ (p : Point). p.time) (sym planned.2)

            -- The walk back from there can be made,
            pub can-walk : length notes' ≡ length notes → Walks filled bytes n notes' end
            can-walk same-notes =
                let few : count_of bytes ≤ 48 = planning.order.header.few in
                let count = planning.read.count in
                plan-walks bytes planning.order best planned.1 n end count weighs ends filled notes' lists.used stand
                room (omega (arith, f.room_notes))

            -- and by the mask that it gives the plan can be made.
            pub can-make : (m : ℕ) → some m ≡ walk_mask (t0_of bytes) (jobs_in bytes) end.weight end.time
                → CanMake bytes header m totals end old
            can-make m walked = record {
              order = planning.order;
              read = planning.read;
              places = planning.places;
              counted =
                  lists.total
                  ∙ ap₂ (λ (ps : List Point) (k : ℕ). points_to ps (jobs_in bytes) k) first-is (planning.read.count ∙ sym (jobs-count bytes))
                  ∙ points-are (length (jobs_in bytes)) (t0_of bytes) (jobs_in bytes);
              reach = lists.weighs;
              best = best;
              is = planned.1;
              keeps =
                  plan-mask (t0_of bytes) (jobs_in bytes) best planned.1 (jobs-single bytes planning.order) m
                  (walked ∙ ap₂ (walk_mask (t0_of bytes) (jobs_in bytes)) weighs ends);
              weighs = weighs;
              ends = ends;
            }
