-- Laws of filling: the profile of each prefix from the one before, the room that the lists take, one list more, and all of them.
use Rattle.std.specs.Prelude.{ℕ, zero, suc, ◌+◌, ◌-◌, ◌*◌, ◌≤◌, ◌<◌, ◌≡◌, refl, Bool, true, false, cond, T, ℤ, nat_abs, length, get_or, set, take, drop}
use Rattle.std.proofs.Common.{sym, ap, ap₂, ◌∙◌, ⊎_elim, eq-or-lt_of_le, zero-add, add-mul, mul-add, mul-le-mul, arith, take-append-drop, length-set, take-suc, take_all, get_or-set_same, get_or-set_other}
use Rattle.std.proofs.Math.Path.{subst}
use mathlib.Core.List.Memᴰ.{head}
use mathlib.Core.List.Memᴰ.{tail}
use mathlib.Core.List.{List, [], ◌∷◌, ◌++◌, Memᴰ as In}
use mathlib.Core.List.Memᴰ.{not-nil}
use Rattle.seconds.specs.Limits.{most_weight, most_jobs}
use Rattle.order.specs.Job.{Job, Point, weight_of, jobs_within}
use Rattle.order.specs.Choice.{outcomes}
use Rattle.order.proofs.Outcomes.{outcomes-none}
use Rattle.order.proofs.Within.{JobWithin, jobs-within, weight_of-append}
use Rattle.profile.specs.Profile.{profile_of, extend, last_weight}
use Rattle.profile.proofs.Rising.{Rising}
use Rattle.profile.proofs.Points.{profile_of-rises, profile_of-rising}
use Rattle.profile.proofs.Last.{last-heaviest}
use Rattle.profile.proofs.Joining.{extend-extend}
use Rattle.profile.proofs.Closure.{rising-short, extend-light, extend-short, jobs-take}
use Rattle.points.specs.Steps.{list_step}
use Rattle.points.proofs.PrefixLaws.{Single, Singles, step_is}
use Rattle.packed.specs.Places.{each_of, each}
use Rattle.packed.specs.PlacesLaws.{get_d-each}
use Rattle.packed.specs.Packed.{the_weight, the_length, job_fields, job_of, count_of, job_in, order_of, jobs_in}
use Rattle.packed.proofs.PackedLaws.{order-jobs}
use Rattle.packed.proofs.Accepted.{OrderFine, jobs-fit}
use Rattle.fields.specs.Places.{jobs-count, weight-up-to}
use Rattle.area.specs.Area.{area}
use Rattle.codes.specs.Code.{list_at, points_at, end_of}
use Rattle.codes.specs.Held.{Held}
use Rattle.codes.specs.HeldLaws.{held-read, list_length}
use Rattle.reading.specs.Reading.{Stands, Says}
use Rattle.reading.specs.ReadingLaws.{held-says, says_stays}
use Rattle.codes.specs.declared.Prefix.{Prefix}
use Rattle.cells.specs.Cells.{reach, Cells}
use Rattle.cells.specs.CellLaws.{reach_few}
use Rattle.sweeping.specs.declared.Stretch.{Stretch}
use Rattle.stepping.specs.Stepping.{Buffer}
use Rattle.sweeping.specs.Sweep.{Holds, as-list, as-cells}
use Rattle.sweeping.specs.SweepLaws.{by-list, spread-carried, holds-few, holds-say, holds-counted}
use Rattle.filling.specs.declared.Totals.{Totals}
use Rattle.filling.specs.Lists.{noted, Lists, points_to, as_stretch, CanFillOne, FilledOne, CanFill, FilledAll, FilledLast, Filling}

-- ---- the jobs of an order

-- Each from its own bytes.
jobs-each : (bytes : List ℕ) → jobs_in bytes ≡ each (job_in bytes) 0 (count_of bytes)
unfolding order_of
jobs-each bytes = order-jobs bytes

-- The first jobs, as many as there are, are all jobs.
pub jobs-all : (bytes : List ℕ) → take (count_of bytes) (jobs_in bytes) ≡ jobs_in bytes
jobs-all bytes = take_all (count_of bytes) (jobs_in bytes) (omega (arith, jobs-count bytes))

-- One job more.
pub jobs-next : (bytes : List ℕ) (k : ℕ) → k < count_of bytes
    → take (k + 1) (jobs_in bytes) ≡ take k (jobs_in bytes) ++ (job_in bytes k ∷ [])
jobs-next bytes k h =
    let e : k + 1 ≡ suc k = omega arith in
    let one : get_or (jobs_in bytes) k (job_in bytes 0) ≡ job_in bytes k =
    rw jobs-each (get_d-each (job_in bytes) 0 (count_of bytes) k (job_in bytes 0) (omega arith) ∙ rw zero-add) in
    rw e (take-suc (jobs_in bytes) k (job_in bytes 0) (omega (arith, jobs-count bytes)) ∙ rw one)

-- A job of seven numbers is one of the rules': one rate, which counts its weight.
job-single : (zs : List ℤ) → JobWithin (job_of zs) → Single (job_of zs)
unfolding job_of
job-single zs w = record { rate = record { takes = nat_abs (the_length zs); gain = nat_abs (the_weight zs) }; only = refl; weighty = w.weighty }

-- A member of jobs within the limits is within them.
within_in : (js : List Job) → T (jobs_within js) → (j : Job) → In j js → JobWithin j
within_in [] t j x'' = elim x'' [ ]
within_in (k ∷ js) t j (head e) = rw e (jobs-within k js t).0
within_in (k ∷ js) t j (tail m) = within_in js (jobs-within k js t).1 j m

each_in : (f : ℕ → Job) (at m : ℕ) (j : Job) → In j (each_of f at m) → (k : ℕ) × (j ≡ f k)
each_in f at zero j m = absurd (not-nil m)
each_in f at (suc m) j (head e) = (at, e)
each_in f at (suc m) j (tail n) = each_in f (suc at) m j n

module _ (bytes : List ℕ) (fine : OrderFine bytes) where
  -- All jobs of an accepted order are so.
  pub jobs-single : Singles (jobs_in bytes)
  unfolding each
  jobs-single j m =
      let n : In j (each_of (job_in bytes) 0 (count_of bytes - 0)) = subst (λ (js : List Job). In j js) (jobs-each bytes) m in
      let k = each_in (job_in bytes) 0 (count_of bytes - 0) j n in
      let w = within_in (jobs_in bytes) (jobs-fit bytes fine) j m in
      rw k.1 (job-single (job_fields bytes k.0) (rw k.1 at w))

  module _ (k : ℕ) (below : k < count_of bytes) where
    job-in : In (job_in bytes k) (jobs_in bytes)
    job-in =
        let m : In (job_in bytes k) (take (k + 1) (jobs_in bytes)) = rw (jobs-next bytes k below) (in-last (take k (jobs_in bytes))) in
        subst (λ (js : List Job). In (job_in bytes k) js) (take-append-drop (k + 1) (jobs_in bytes)) (in-front _ m)
      where
        in-last : (js : List Job) → In (job_in bytes k) (js ++ (job_in bytes k ∷ []))
        in-last [] = head refl
        in-last (j ∷ js) = tail (in-last js)

        in-front : (js : List Job) → In (job_in bytes k) js → In (job_in bytes k) (js ++ drop (k + 1) (jobs_in bytes))
        in-front js (head e) = head e
        in-front js (tail m) = tail (in-front _ m)

    pub job-limits : JobWithin (job_in bytes k)
    job-limits = within_in (jobs_in bytes) (jobs-fit bytes fine) (job_in bytes k) job-in

    -- The weight with one job more.
    pub weight-next : weight_of (take (k + 1) (jobs_in bytes)) ≡ weight_of (take k (jobs_in bytes)) + (job_in bytes k).weight
    weight-next =
        omega (arith, ap weight_of (jobs-next bytes k below), weight_of-append (take k (jobs_in bytes)) (job_in bytes k ∷ []))

    -- The list after one job more is its profile.
    pub list-next : {P : List Point} → Rising P
        → list_step (job_in bytes k) (extend P (take k (jobs_in bytes))) ≡ extend P (take (k + 1) (jobs_in bytes))
    list-next {P} r =
        step_is (jobs-single (job_in bytes k) job-in) (profile_of-rises (outcomes (take k (jobs_in bytes)) P))
        ∙ extend-extend P (take k (jobs_in bytes)) (job_in bytes k ∷ [])
        ∙ ap (extend P) (sym (jobs-next bytes k below))

-- ---- the room: after k jobs, with weights up to `reach`, the lists take no more than a row of all these weights for each

-- A list of a critical job adds itself alone,
room-critical : (k reach used count : ℕ) → used ≤ (k + 1) * (reach + 1) → count ≤ reach + 1
    → used + count ≤ (k + 1 + 1) * (reach + 1)
room-critical k reach used count r h = omega (arith, add-mul (k + 1) 1 (reach + 1))

-- and that of any other a number past all too, which the earlier lists pay for: they are shorter than the weights now reached.
room-merged : (k reach weight used count : ℕ) → used ≤ (k + 1) * (reach + 1) → 1 ≤ weight → count ≤ reach + weight + 1
    → used + 1 + count ≤ (k + 1 + 1) * (reach + weight + 1)
room-merged k reach weight used count r w h =
    let m = reach + weight + 1 in
    let e : (k + 1 + 1) * m ≡ (k + 1) * m + 1 * m = add-mul (k + 1) 1 m in
    let f : (k + 1) * (reach + 1 + weight) ≡ (k + 1) * (reach + 1) + (k + 1) * weight = mul-add (k + 1) (reach + 1) weight in
    let g : reach + 1 + weight ≡ m = omega arith in
    let f' : (k + 1) * m ≡ (k + 1) * (reach + 1) + (k + 1) * weight = rw g at f in
    let a : (k + 1) * weight ≡ k * weight + 1 * weight = add-mul k 1 weight in
    omega arith

-- So they fit the area.
room_fits : (k reach used : ℕ) → used ≤ (k + 1) * (reach + 1) → k ≤ 48 → reach ≤ 300 → used ≤ area
room_fits k reach used r few light =
    let x : k + 1 ≤ 49 = omega arith in
    let y : reach + 1 ≤ 301 = omega arith in
    let a : (k + 1) * (reach + 1) ≤ 49 * 301 = mul-le-mul x y in
    omega arith

room-more : (k reach used : ℕ) → used ≤ (k + 1) * (reach + 1) → k < 48 → reach < 300 → used + 319 < area
room-more k reach used r few light =
    let x : k + 1 ≤ 48 = omega arith in
    let y : reach + 1 ≤ 300 = omega arith in
    let a : (k + 1) * (reach + 1) ≤ 48 * 300 = mul-le-mul x y in
    omega arith

-- ---- list by list

-- A profile extended by nothing is itself.
start_is : {P : List Point} → Rising P → extend P [] ≡ P
start_is {P} r = ap profile_of (outcomes-none P) ∙ profile_of-rising r

module _ {bytes : List ℕ} {n count : ℕ} {work₀ : List ℤ} (all : CanFill bytes n count work₀) where
  abbrev P : List Point
  P = list_at work₀ 0 count

  abbrev js : List Job
  js = jobs_in bytes

  P-rises : Rising P
  P-rises = all.valid.rises

  few-jobs : n ≤ 48
  few-jobs = omega (arith, all.jobs, all.order.header.few)

  -- The first list is the list of no job, and stands.
  start-held : Held work₀ 0 (extend P [])
  start-held = rw (start_is P-rises) all.held

  start-room : count ≤ 301
  start-room = omega (arith, all.valid.short, list_length work₀ 0 count)

  start-counted : count ≡ length (extend P [])
  start-counted = rw (start_is P-rises) (sym (list_length work₀ 0 count))

  -- Nothing is filled yet but the profile to start with.
  pub filling-start : {notes : List Prefix} (list : Prefix) → list.place ≡ 0 → list.count ≡ count → noted notes 0 ≡ list
      → most_jobs < length notes → Filling bytes count work₀ 0 (as_stretch list) false (record { points = 0; weight = 0 }) notes work₀ []
  filling-start list front counted is room_notes = record {
    size = refl;
    lists = record {
      stands = λ k h. let z : k ≡ 0 = omega arith in rw (z, is, front, counted) (held-says start-held start-counted);
      ends = λ k h. let z : k ≡ 0 = omega arith in rw (z, is) (omega arith);
    };
    note = is;
    holds = as-list (record {
      rises = profile_of-rises (outcomes [] P);
      held = rw front start-held;
      count = counted ∙ start-counted;
      told = counted ∙ start-counted;
      room = omega (arith, front, counted, start-room, all.room);
    });
    room = omega (arith, front, counted, rising-short (last_weight P) P-rises (last-heaviest P-rises), list_length work₀ 0 count);
    total = refl;
    weighs = refl;
    room_notes = room_notes;
  }

  module _ {k : ℕ} {last : Stretch} {celled : Bool} {totals : Totals} {notes : List Prefix} {work row : List ℤ}
      (f : Filling bytes count work₀ k last celled totals notes work row)
    where
      abbrev used : ℕ
      used = end_of last.list

      abbrev weight : ℕ
      weight = totals.weight

      abbrev here : List Point
      here = extend P (take k js)

      -- It reaches no further than the weights so far, and is said in no more numbers than it has cells.
      here-reach : reach here ≤ suc (last_weight P + weight)
      here-reach = reach_few here (suc (last_weight P + weight)) (λ p m.
          omega (arith, extend-light (take k js) P-rises (jobs-take k js (jobs-fit bytes all.order)) p m, f.weighs))

      few : last.list.count ≤ suc (last_weight P + weight)
      few = omega (arith, holds-few f.holds, here-reach)

      reach-light : last_weight P + weight ≤ 300
      reach-light = omega (arith, f.weighs, weight-up-to js k, all.light)

      -- The next job can be stepped by,
      module _ (below : k < n) where
        there : k < count_of bytes
        there = omega (arith, all.jobs)

        abbrev job : Job
        job = job_in bytes k

        next-light : last_weight P + (weight + job.weight) ≤ 300
        next-light = omega (arith, f.weighs, weight-next bytes all.order k there, weight-up-to js (k + 1), all.light)

        limits : JobWithin job
        limits = job-limits bytes all.order k there

        here-light : (p : Point) → In p here → p.weight + job.weight ≤ most_weight
        here-light p m =
            omega (arith, extend-light (take k js) P-rises (jobs-take k js (jobs-fit bytes all.order)) p m, f.weighs, next-light)

        pub next-can : {pushed : List ℤ} → Buffer pushed → CanFillOne bytes k last celled work pushed row
        next-can b = record {
          read = record { order = all.order; there = there };
          ps = here;
          holds = f.holds;
          light = here-light;
          limits = limits;
          room = omega (
            arith,
            f.size,
            all.room,
            room_fits (k + 1) (last_weight P + weight) (used + reach here)
                (room-critical k (last_weight P + weight) (used) (reach here) f.room (omega (arith, here-reach)))
                (omega (arith, few-jobs)) reach-light,
          );
          room_more = λ free. omega (
            arith,
            f.size,
            all.room,
            room-more k (last_weight P + weight) (used) f.room (omega (arith, few-jobs))
                (omega (arith, next-light, limits.weighty free)),
          );
          buffer = b;
        }

        -- and with its list there is one more.
        module _ {r : Stretch} {w : ℕ} {work' pushed' row' : List ℤ} (one : FilledOne bytes k last celled work row r w work' pushed' row') where
          abbrev used' : ℕ
          used' = end_of r.list

          abbrev count' : ℕ
          count' = r.list.count

          next-holds : Holds (extend P (take (k + 1) js)) r.list r.points work' row' celled
          next-holds =
              subst (λ (qs : List Point). Holds qs r.list r.points work' row' celled)
              (list-next bytes all.order k there P-rises) (one.next here f.holds here-light)

          next-weighs : weight + w ≡ weight_of (take (k + 1) js)
          next-weighs = omega (arith, f.weighs, one.weighs, weight-next bytes all.order k there)

          next-few : count' ≤ last_weight P + weight + w + 1
          next-few =
              omega (
                arith,
                holds-few next-holds,
                reach_few (extend P (take (k + 1) js)) (last_weight P + weight + w + 1) (λ p m.
                    omega (arith, extend-light (take (k + 1) js) P-rises (jobs-take (k + 1) js (jobs-fit bytes all.order)) p m, next-weighs)),
              )

          next-room : used' ≤ (k + 1 + 1) * (last_weight P + (weight + w) + 1)
          next-room =
              let same : last_weight P + weight + w + 1 ≡ last_weight P + (weight + w) + 1 = omega arith in
              rw (← same) (by job.critical refl)
            where
              by : (c : Bool) → job.critical ≡ c → used' ≤ (k + 1 + 1) * (last_weight P + weight + w + 1)
              by true e =
                  let none : w ≡ 0 = one.weighs ∙ limits.weightless e in
                  let more : ◌≡◌ {A = ℕ} (cond job.critical 0 1) 0 = rw e in
                  let z : last_weight P + weight + w + 1 ≡ last_weight P + weight + 1 = omega arith in
                  rw z (omega (
                    arith,
                    one.few,
                    room-critical k (last_weight P + weight) (used) count' f.room (omega (arith, next-few)),
                  ))
              by false e =
                  let more : ◌≡◌ {A = ℕ} (cond job.critical 0 1) 1 = rw e in
                  omega (
                    arith,
                    one.few,
                    room-merged k (last_weight P + weight) w (used) count' f.room
                        (omega (arith, one.weighs, limits.weighty e)) next-few,
                  )

          abbrev notes' : List Prefix
          notes' = set notes (k + 1) r.list

          abbrev totals' : Totals
          totals' = record { points = totals.points + r.points; weight = weight + w }

          new-note : (i : ℕ) → i ≡ k + 1 → noted notes' i ≡ r.list
          new-note i e = ap (noted notes') e ∙ get_or-set_same notes (k + 1) r.list _ (omega (arith, f.room_notes, few-jobs))

          old-note : (i : ℕ) → i ≤ k → noted notes' i ≡ noted notes i
          old-note i h = get_or-set_other notes (k + 1) i r.list _ (omega arith)

          lists-more : Lists P js (k + 1) notes' used' work'
          lists-more = record {
            stands = λ i h. ⊎_elim
                (λ e. rw (new-note i e, e) (holds-say next-holds))
                (λ l. old-stands i (omega arith)) (eq-or-lt_of_le h);
            ends = λ i h. ⊎_elim
                (λ e. rw (new-note i e) (omega arith))
                (λ l. old-ends i (omega arith)) (eq-or-lt_of_le h);
          }
            where
              old-ends : (i : ℕ) → i ≤ k → end_of (noted notes' i) ≤ used'
              old-ends i m = rw (old-note i m) (omega (arith, f.lists.ends i m, one.further))

              old-stands : (i : ℕ) → i ≤ k → Says work' (noted notes' i).place (noted notes' i).count (extend P (take i js))
              old-stands i m = rw (old-note i m) (says_stays used one.stays (f.lists.ends i m) (f.lists.stands i m))

          pub filling-more : Filling bytes count work₀ (k + 1) r celled totals' notes' work' row'
          filling-more =
              let e : k + 1 ≡ suc k = omega arith in
              record {
                size = one.size ∙ f.size;
                lists = lists-more;
                note = new-note (k + 1) refl;
                holds = next-holds;
                room = next-room;
                total = rw e (ap₂ ◌+◌ f.total (holds-counted next-holds ∙ ap (λ (i : ℕ). length (extend P (take i js))) e));
                weighs = next-weighs;
                room_notes = omega (arith, length-set notes (k + 1) r.list, f.room_notes);
              }

      -- A list whose cells are spread is held by them.
      pub filling-spread : celled ≡ false → {row' : List ℤ} → Cells row' (points_at work last.list)
          → Filling bytes count work₀ k last true totals notes work row'
      filling-spread e c = record {
        size = f.size;
        lists = f.lists;
        note = f.note;
        holds = as-cells (spread-carried (by-list e f.holds) c);
        room = f.room;
        total = f.total;
        weighs = f.weighs;
        room_notes = f.room_notes;
      }

      -- After all jobs the last list is held,
      pub filling-last : k ≡ n → Holds (extend P js) last.list last.points work row celled
      filling-last e =
          let every : take k js ≡ js = ap (λ (i : ℕ). take i js) (e ∙ all.jobs) ∙ jobs-all bytes in
          subst (λ (is : List Job). Holds (extend P is) last.list last.points work row celled) every f.holds

      -- and all are filled.
      pub filling-all : k ≡ n → FilledAll bytes n count work₀ totals celled notes work row
      filling-all e =
          let every : take k js ≡ js = ap (λ (i : ℕ). take i js) (e ∙ all.jobs) ∙ jobs-all bytes in
          let note_is : noted notes n ≡ last.list = rw e at f.note in
          record {
            filled = record {
              used = used;
              small = room_fits k (last_weight P + weight) used f.room (omega (arith, few-jobs)) reach-light;
              lists = rw e at f.lists;
              total = rw e at f.total;
              weighs = f.weighs ∙ ap weight_of every;
            };
            many = last.points;
            last = rw note_is (filling-last e);
          }

      -- The sums stay small.
      pub sums-small : (totals.points ≤ 301 * k) × (weight ≤ 300)
      sums-small = (rw f.total (total-few k), omega (arith, reach-light))
        where
          total-few : (i : ℕ) → points_to P js i ≤ 301 * i
          total-few zero = omega arith
          total-few (suc i) =
              omega (
                arith,
                total-few i,
                extend-short (take (suc i) js) P-rises (jobs-take (suc i) js (jobs-fit bytes all.order)),
                weight-up-to js (suc i),
                all.light,
              )

-- ---- what stands is read

-- The points of each prefix stand.
pub lists-stand : {P : List Point} {js : List Job} {n : ℕ} {notes : List Prefix} {used : ℕ} {work : List ℤ}
    → Lists P js n notes used work → used ≤ length work → (k : ℕ) → k ≤ n → Stands work (noted notes k).place (noted notes k).count
lists-stand l room k h = record { held = (l.stands k h).held; room = omega (arith, l.ends k h) }

-- A last list that is held somewhere is the profile extended by all jobs.
pub last-stands : (bytes : List ℕ) (count : ℕ) (work : List ℤ) {r : Prefix} {work' : List ℤ} → end_of r ≤ length work'
    → Held work' r.place (extend (list_at work 0 count) (jobs_in bytes)) → r.count ≡ length (extend (list_at work 0 count) (jobs_in bytes))
    → FilledLast bytes count work r work'
last-stands bytes count work {r} {work'} room h c =
    let is : list_at work' r.place r.count ≡ extend (list_at work 0 count) (jobs_in bytes) = rw c (held-read h) in
    record { list = record { held = rw is h; room = room }; is = is }
