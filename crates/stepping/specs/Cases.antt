-- The three cases over the work area: what each one leaves there is the list after the job.
use Rattle.std.specs.Prelude.{ℕ, zero, suc, ◌+◌, ◌-◌, ◌≤◌, ◌<◌, ◌≡◌, refl, Bool, true, false, cond, ℤ, pos, ◌+ℤ◌, length, set, ◌≤ℤ◌, ◌<ℤ◌}
use Rattle.std.proofs.Common.{sym, ap, ◌∙◌, subst, arith, length-set, length-append, get_or-set_same, get_or-set_other}
use mathlib.Core.List.Memᴰ
use mathlib.Core.List.Memᴰ.{head}
use mathlib.Core.List.Memᴰ.{tail}
use mathlib.Core.List.{List, [], ◌∷◌, ◌++◌, Memᴰ as In}
use Rattle.std.specs.Int.Signed.{le_z, lt_z}
use Rattle.seconds.specs.Limits.{rest, most_weight}
use Rattle.seconds.specs.Ranges.{InTime, InFree}
use Rattle.seconds.specs.Signed.{signed, max_z, max-is, add_is, sub_is}
use Rattle.order.specs.Job.{Job, one_rate, Point}
use Rattle.profile.specs.Profile.{better_of}
use Rattle.profile.proofs.Rising.{Rising, rising-front}
use Rattle.profile.proofs.Closure.{PointWithin, rising-short}
use Rattle.profiles.specs.OnePass.{below_all}
use Rattle.better.specs.Heavier.{merge, merge-better}
use Rattle.points.specs.Steps.{waited, waiting, when_ready, up_to_time, later_by, all_later, pushed_by, leaving, last_of, too_late, list_step}
use Rattle.points.proofs.StepLaws.{push-rises, push-few}
use Rattle.points.proofs.Clipping.{clip-first}
use Rattle.codes.specs.declared.Prefix.{Prefix}
use Rattle.codes.specs.Code.{code, point_of, limit_of, at0, list_at, points_at, end_of}
use Rattle.codes.specs.CodeLaws.{point-back}
use Rattle.codes.specs.Held.{Held, held_none, held_more}
use Rattle.codes.specs.HeldLaws.{held_stays, held-read, held-within, held-append, held-copied, list_length, held-point}
use Rattle.codes.specs.Cuts.{Cut, cut, cut-early, cut-late}
use Rattle.merging.specs.Joins.{CanLay, Laid, CanJoin, Joined}
use Rattle.pushing.specs.declared.Rate.{Rate}
use Rattle.pushing.specs.Pushes.{Coded, RateFits, job_rate, delta_of, waited_as, pushed_at, CanPush, Pushed}
use Rattle.pushing.specs.Numbers.{held-coded, waited-code}
use Rattle.pushing.specs.PushLaws.{later-length}
use Rattle.stepping.specs.declared.Terms.{Terms}
use Rattle.stepping.specs.declared.Moved.{Moved}
use Rattle.stepping.specs.Stepping.{job_of, stepped, last_start, Buffer, CanStep, Stepped, left_out, CanAdd, with_one, Added}
use Rattle.stepping.specs.Stepping.{CanSeek, Startable, CanPushBy, PushedBy, CanMerge}
use Rattle.stepping.specs.Before.{Finds, finds, cut-before}

-- The job's own number does not count.
pub any-number : (n : ℕ) (job : Terms) (rate : Rate) (ps : List Point)
    → list_step (one_rate n job.critical rate.gain job.ready rate.takes job.deadline) ps ≡ stepped job rate ps
any-number n job rate [] = refl
any-number n job rate (p ∷ ps) = refl

-- The front of a list, up to an end.
abbrev pub front_of : Prefix → ℕ → Prefix
front_of list end = record { place = list.place; count = end - list.place }

-- A pushed list, and the list cut behind the point that the first of it comes from.
abbrev pub moved_to : Prefix → ℕ → Moved
moved_to other end = record { list = other; cut = end + 1 - other.count }

-- ---- the tests of the cases, over numbers

-- The last point of a list at a place.
pub last-at : (l : List ℤ) (i m : ℕ) → last_of (point_of (at0 l i)) (list_at l (suc i) m) ≡ point_of (at0 l (i + m))
last-at l i zero = let e : i + 0 ≡ i = omega arith in ap (λ (k : ℕ). point_of (at0 l k)) (sym e)
last-at l i (suc m) = let e : suc i + m ≡ i + suc m = omega arith in last-at l (suc i) m ∙ ap (λ (k : ℕ). point_of (at0 l k)) e

-- The points up to a time are the front of a list that is cut there.
up_to-front : (t : ℤ) (fs bs : List Point) → ((p : Point) → In p fs → p.time ≤ℤ t) → ((p : Point) → In p bs → t <ℤ p.time)
    → up_to_time t (fs ++ bs) ≡ fs
up_to-front t [] [] e l = refl
up_to-front t [] (q ∷ bs) e l =
    let late = l q (head refl) in
    let test : le_z q.time t ≡ false = omega signed in
    rw test
up_to-front t (p ∷ fs) bs e l =
    let soon = e p (head refl) in
    let test : le_z p.time t ≡ true = omega signed in
    rw test (ap (λ (x : List Point). p ∷ x) (up_to-front t fs bs (λ q m. e q (tail m)) l))

-- A point waited and moved on stays within the limits where the job starts by its last start.
pub moved-within : (job : Terms) {rate : Rate} → InTime job.ready → InTime job.deadline → RateFits rate
    → job.ready ≤ℤ last_start job rate → {p : Point} → PointWithin p → p.time ≤ℤ last_start job rate
    → p.weight + rate.gain ≤ most_weight → PointWithin (later_by (job_rate rate) (waited job.ready p))
moved-within job {rate} s e f h {p} w l light = record {
  time =
      let t = w.time in
      let least = f.least in
      omega (
        signed,
        max-is job.ready p.time,
        sub_is job.deadline (pos rate.takes),
        add_is (max_z job.ready p.time) (pos rate.takes),
        add_is (max_z job.ready p.time +ℤ pos rate.takes) (pos rest),
      );
  weight = light;
}

-- ---- a job, and a list that has a point

module _ {job : Terms} {rate : Rate} {place m : ℕ} {work pushed : List ℤ}
    (g : CanStep job rate (record { place = place; count = suc m }) work pushed)
  where
    abbrev here : Prefix
    here = record { place = place; count = suc m }

    abbrev j : Job
    j = job_of job rate

    abbrev first : Point
    first = point_of (at0 work place)

    abbrev list : List Point
    list = list_at work place (suc m)

    abbrev last : Point
    last = point_of (at0 work (place + m))

    -- Its first and last point are the numbers'.
    last-is : last_of first (list_at work (suc place) m) ≡ last
    last-is = last-at work place m

    last-in : In last list
    last-in = subst (λ (p : Point). In p list) last-is (in-last first (list_at work (suc place) m))
      where
        in-last : (p : Point) (ps : List Point) → In (last_of p ps) (p ∷ ps)
        in-last p [] = head refl
        in-last p (q ∷ qs) = tail (in-last q qs)

    -- ---- case 1

    -- The list after the job is what is left without it.
    late_is : too_late j (job_rate rate) first ≡ true → stepped job rate list ≡ leaving j list
    late_is e = rw e

    pub late-stepped : too_late j (job_rate rate) first ≡ true
        → Stepped job rate here work (left_out job.critical (end_of here) here) work pushed
    late-stepped e = record {
      size = refl;
      stays = λ k h. refl;
      held = rw (late_is e) (go job.critical);
      counted = rw (late_is e) (counts job.critical);
      further = (ends job.critical).0;
      few = (ends job.critical).1;
      buffer = g.buffer;
    }
      where
        go : (c : Bool) → Held work (left_out c (end_of here) here).place (cond c [] list)
        go true = held_none
        go false = g.held

        counts : (c : Bool) → (left_out c (end_of here) here).count ≡ length (cond c [] list)
        counts true = refl
        counts false = sym (list_length work place (suc m))

        ends : (c : Bool) → (end_of here ≤ end_of (left_out c (end_of here) here))
            × (end_of (left_out c (end_of here) here) ≤ end_of here + (left_out c (end_of here) here).count + cond c 0 1)
        ends true = omega arith
        ends false = omega arith

    -- ---- the job can start

    module _ (can : too_late j (job_rate rate) first ≡ false) where
      in-time : (job.ready ≤ℤ last_start job rate) × (first.time ≤ℤ last_start job rate)
      in-time = omega (signed, max-is job.ready first.time)

      -- A point of the list up to the last start, waited and moved on, is within the limits.
      pub moves-within : (p : Point) → In p list → p.time ≤ℤ (last_start job rate)
          → PointWithin (later_by (job_rate rate) (waited job.ready p))
      moves-within p n l =
          moved-within job g.starts g.ends g.fits in-time.0 (held-within g.held p n) l (g.light p n)

      -- ---- case 3

      module _ (early : lt_z last.time job.ready ≡ true) where
        abbrev new : Point
        new = later_by (job_rate rate) (waited job.ready last)

        more-is : stepped job rate list ≡ leaving j list ++ (new ∷ [])
        more-is = let t : lt_z (last_of first (list_at work (suc place) m)).time job.ready ≡ true = rw last-is early in
            rw (can, t, last-is)

        -- The last point is one that waits.
        last_within : PointWithin last
        last_within = held-within g.held last last-in

        new-within : PointWithin new
        new-within = moves-within last last-in (omega (signed, in-time.0))

        last_code : code last ≡ at0 work (place + m)
        last_code =
            let f = held-point g.held (place + m) (omega arith) (omega (arith, list_length work place (suc m))) in
            ap code (ap point_of f.2 ∙ point-back f.1) ∙ sym f.2

        new-code : code new ≡ waited_as job.ready (delta_of rate) (at0 work (place + m))
        new-code =
            waited-code g.fits g.starts last_within (omega signed) new-within
            ∙ ap (waited_as job.ready (delta_of rate)) last_code

        module _ (x : ℤ) (is : x ≡ waited_as job.ready (delta_of rate) (at0 work (place + m))) where
          abbrev after : List ℤ
          after = set work (place + suc m) x

          stays : (k : ℕ) → k < place + suc m → at0 after k ≡ at0 work k
          stays k h = get_or-set_other work (place + suc m) k x (pos 0) (omega arith)

          new-held : Held after (place + suc m) (new ∷ [])
          new-held =
              held_more new-within
              (get_or-set_same work (place + suc m) x (pos 0) (omega (arith, g.room)) ∙ is ∙ sym new-code) held_none

          list_held : Held after place (list ++ (new ∷ []))
          list_held =
              held-append (place + suc m)
              (held_stays (place + suc m) stays (omega (arith, list_length work place (suc m))) g.held)
              (omega (arith, list_length work place (suc m))) new-held

          pub more-stepped : Stepped job rate here work (with_one job.critical here) after pushed
          more-stepped = record {
            size = length-set work (place + suc m) x;
            stays = stays;
            held = rw more-is (go job.critical);
            counted = rw more-is (counts job.critical);
            further = (ends job.critical).0;
            few = (ends job.critical).1;
            buffer = g.buffer;
          }
            where
              go : (c : Bool) → Held after (with_one c here).place (cond c [] list ++ (new ∷ []))
              go true = new-held
              go false = list_held

              counts : (c : Bool) → (with_one c here).count ≡ length (cond c [] list ++ (new ∷ []))
              counts true = refl
              counts false = omega (arith, length-append list (new ∷ []), list_length work place (suc m))

              ends : (c : Bool) → (end_of here ≤ end_of (with_one c here))
                  × (end_of (with_one c here) ≤ end_of here + (with_one c here).count + cond c 0 1)
              ends true = omega arith
              ends false = omega arith

      -- ---- the list pushed by the job

      pub last-free : InFree (last_start job rate)
      last-free =
          let s = g.starts in
          let e = g.ends in
          let h = in-time.0 in
          omega (signed, sub_is job.deadline (pos rate.takes))

      module _ {end : ℕ} (found : Startable job rate here work end) where
        cuts : Cut (limit_of (last_start job rate)) work place end list
        cuts =
            let e : place + suc m ≡ place + length list = omega (arith, list_length work place (suc m)) in
            cut end g.held g.rises (rw e at found)

        -- What the push finds is the list up to the last start,
        front-is : points_at work (front_of here end) ≡ cuts.front
        front-is =
            let e : end - place ≡ length cuts.front = omega (arith, cuts.count) in
            rw e (held-read cuts.held)

        front-up_to : up_to_time (last_start job rate) list ≡ cuts.front
        front-up_to =
            ap (up_to_time (last_start job rate)) cuts.whole
            ∙ up_to-front (last_start job rate) cuts.front cuts.back (cut-early last-free cuts) (cut-late last-free cuts)

        -- so what it leaves is the list pushed by the job.
        pushed-is : pushed_at work (front_of here end) job.ready rate ≡ pushed_by j (job_rate rate) list
        pushed-is =
            ap (λ (ps : List Point). all_later (job_rate rate) (when_ready job.ready ps)) (front-is ∙ sym front-up_to)
            ∙ ap (all_later (job_rate rate)) (sym (clip-first job.ready (last_start job rate) in-time.0 g.rises))

        front-in : (p : Point) → In p cuts.front → In p list
        front-in p n = subst (In p) (sym cuts.whole) (Memᴰ.append_left cuts.back n)

        front-moves : (p : Point) → In p cuts.front → PointWithin (later_by (job_rate rate) (waited job.ready p))
        front-moves p n = moves-within p (front-in p n) (cut-early last-free cuts p n)

        few-points : suc m ≤ 301
        few-points = omega (
          arith,
          rising-short most_weight g.rises (λ p n. (held-within g.held p n).weight),
          list_length work place (suc m),
        )

        pub can-push : CanPush work (front_of here end) job.ready rate pushed
        can-push = record {
          few = omega (arith, found.high, few-points);
          room = omega (arith, found.low, found.high, g.room);
          held = rw front-is cuts.held;
          rises = rw front-is (rising-front cuts.front cuts.back (rw cuts.whole at g.rises));
          starts = g.starts;
          fits = g.fits;
          within = rw front-is front-moves;
          room_pushed = omega (arith, g.buffer.room);
          past = g.buffer.past;
        }

        -- The pushed list has a point, since the first of the list is up to the last start,
        front-some : 1 ≤ length cuts.front
        front-some = go cuts.front cuts.back cuts.whole (cut-late last-free cuts)
          where
            go : (fs bs : List Point) → list ≡ fs ++ bs → ((p : Point) → In p bs → (last_start job rate) <ℤ p.time)
                → 1 ≤ length fs
            go [] bs e l =
                let late = l first (subst (λ (ps : List Point). In first ps) e (head refl)) in
                absurd (omega (signed, in-time.1))
            go (p ∷ fs) bs e l = omega arith

        waiting-some : (ps : List Point) → 1 ≤ length ps → 1 ≤ length (all_later (job_rate rate) (when_ready job.ready ps))
        waiting-some [] h = absurd (omega arith)
        waiting-some (p ∷ ps) h = go p ps
          where
            go : (p : Point) (ps : List Point) → 1 ≤ length (all_later (job_rate rate) (waiting job.ready p ps))
            go p [] = omega arith
            go p (q ∷ qs) = by (le_z q.time job.ready) (go q qs)
              where
                by : (c : Bool) → 1 ≤ length (all_later (job_rate rate) (waiting job.ready q qs))
                    → 1 ≤ length (all_later (job_rate rate) (cond c (waiting job.ready q qs) (waited job.ready p ∷ q ∷ qs)))
                by true h = h
                by false h = omega arith

        pushed-some : 1 ≤ length (pushed_at work (front_of here end) job.ready rate)
        pushed-some = waiting-some (list_at work place (end - place)) (omega (arith, list_length work place (end - place), cuts.count, front-some))

        -- and no more than the list.
        pushed-few : length (pushed_at work (front_of here end) job.ready rate) ≤ suc m
        pushed-few = omega (arith, ap length pushed-is, push-few j (job_rate rate) list, list_length work place (suc m))

        -- It comes from one point and all behind it.
        from_one : Finds job.ready cuts.front
        from_one = finds job.ready cuts.front front-some

        pushed_long : length (pushed_at work (front_of here end) job.ready rate) ≡ suc (length from_one.behind)
        pushed_long =
            ap (λ (ps : List Point). length (all_later (job_rate rate) (when_ready job.ready ps))) front-is
            ∙ later-length (job_rate rate) (when_ready job.ready cuts.front)
            ∙ ap length from_one.found

        module _ {other : Prefix} {pushed' : List ℤ} (p : Pushed work (front_of here end) job.ready rate other pushed') where
          before-one : place + length from_one.before + other.count ≡ end
          before-one =
              let sum = length-append from_one.before (from_one.first ∷ from_one.behind) in
              omega (arith, ap length from_one.whole, pushed_long, p.counted, cuts.count)

          pub cut_fits : other.count ≤ end + 1
          cut_fits = omega (arith, before-one)

          -- So it stands in the buffer.
          pub pushes-by : PushedBy job rate here work (moved_to other end) pushed'
          pushes-by = record {
            held = subst (λ (ps : List Point). Held pushed' other.place ps) pushed-is p.held;
            counted = p.counted ∙ ap length pushed-is;
            some = omega (arith, p.counted, pushed-some);
            few = omega (arith, p.counted, pushed-few);
            ends = p.ends;
            past = p.past;
            cut = cut-before here rate cuts.back g.fits.least g.held g.rises cuts.whole from_one front-moves there
                (end + 1 - other.count) (omega (arith, before-one));
          }
            where
              there : Held pushed' other.place (all_later (job_rate rate) (when_ready job.ready cuts.front))
              there =
                  subst (λ (ps : List Point). Held pushed' other.place (all_later (job_rate rate) (when_ready job.ready ps))) front-is
                  p.held

      -- ---- case 2

      module _ (not-early : lt_z last.time job.ready ≡ false) {other : Moved} {pushed' : List ℤ}
          (sized : length pushed' ≡ length pushed) (p : PushedBy job rate here work other pushed')
        where
          abbrev pushed_list : List Point
          pushed_list = pushed_by j (job_rate rate) list

          both_is : stepped job rate list ≡ cond job.critical pushed_list (merge below_all list pushed_list)
          both_is = let t : lt_z (last_of first (list_at work (suc place) m)).time job.ready ≡ false = rw last-is not-early in
              rw (can, t)

          still : Buffer pushed'
          still = record { room = omega (arith, sized, g.buffer.room); past = p.past }

          there : points_at pushed' other.list ≡ pushed_list
          there = ap (list_at pushed' other.list.place) p.counted ∙ held-read p.held

          pushes-rise : Rising pushed_list
          pushes-rise = push-rises j (job_rate rate) g.rises

          -- Of a critical job the pushed list stands behind the list.
          pub can-lay : CanLay (end_of here) pushed' other.list.place other.list.count work
          can-lay = record { inside = omega (arith, p.ends, still.room); room = omega (arith, p.few, g.room) }

          module _ (kept : job.critical ≡ true) {after : List ℤ}
              (l : Laid (end_of here) pushed' other.list.place other.list.count work after)
            where
              laid-is : stepped job rate list ≡ pushed_list
              laid-is = both_is ∙ ap (λ (c : Bool). cond c pushed_list (merge below_all list pushed_list)) kept

              pub laid-stepped : Stepped job rate here work (record { place = end_of here; count = other.list.count }) after pushed'
              laid-stepped = record {
                size = l.size;
                stays = l.before;
                held = rw laid-is (held-copied (end_of here) p.held (λ k n. l.laid k (omega (arith, p.counted))));
                counted = rw laid-is p.counted;
                further = omega arith;
                few = omega arith;
                buffer = still;
              }

          -- Of any other it is joined with the list as it was.
          pub can-join : job.critical ≡ false → CanJoin work here other.cut pushed' other.list
          can-join free = record {
            held = g.held;
            rises = g.rises;
            some = p.some;
            held_too = rw there p.held;
            rises_too = rw there pushes-rise;
            past = ap (at0 pushed') p.ends ∙ p.past;
            inside = omega (arith, p.ends, still.room);
            room = g.room_more free;
            cut = p.cut;
          }

          module _ (free : job.critical ≡ false) {r : Prefix} {after : List ℤ} (o : Joined work here pushed' other.list r after) where
            joined_is : stepped job rate list ≡ better_of list (points_at pushed' other.list)
            joined_is =
                both_is
                ∙ ap (λ (c : Bool). cond c pushed_list (merge below_all list pushed_list)) free
                ∙ merge-better g.rises pushes-rise ∙ ap (better_of list) (sym there)

            pub joined-stepped : Stepped job rate here work r after pushed'
            joined-stepped =
                let one : ◌≡◌ {A = ℕ} (cond job.critical 0 1) 1 = ap (λ (c : Bool). cond c 0 1) free in
                record {
                  size = o.size;
                  stays = o.stays;
                  held = rw joined_is o.held;
                  counted = rw joined_is o.counted;
                  further = omega (arith, o.behind);
                  few = omega (arith, o.behind);
                  buffer = still;
                }

-- ---- the cases told by any list

-- The list pushed by a job, as the code makes it: the points up to the last start are found and pushed.
pub record PushesBy (job : Terms) (rate : Rate) (list : Prefix) (work pushed : List ℤ) : Type 0 where
  pub seek : CanSeek job rate list work
  pub push : (end : ℕ) → Startable job rate list work end → CanPush work (front_of list end) job.ready rate pushed
  pub fits : (end : ℕ) (other : Prefix) (pushed' : List ℤ) → Startable job rate list work end
      → Pushed work (front_of list end) job.ready rate other pushed' → other.count ≤ end + 1
  pub gives : (end : ℕ) (other : Prefix) (pushed' : List ℤ) → Startable job rate list work end
      → Pushed work (front_of list end) job.ready rate other pushed' → PushedBy job rate list work (moved_to other end) pushed'

-- Case 2, as the code does it: the pushed list is laid behind the list, or joined with it.
pub record Merges (job : Terms) (rate : Rate) (list : Prefix) (work pushed : List ℤ) : Type 0 where
  pub lay : (other : Moved) (pushed' : List ℤ) → length pushed' ≡ length pushed → PushedBy job rate list work other pushed'
      → CanLay (end_of list) pushed' other.list.place other.list.count work
  pub laid : (other : Moved) (pushed' after : List ℤ) → length pushed' ≡ length pushed
      → PushedBy job rate list work other pushed' → job.critical ≡ true
      → Laid (end_of list) pushed' other.list.place other.list.count work after
      → Stepped job rate list work (record { place = end_of list; count = other.list.count }) after pushed'
  pub join : (other : Moved) (pushed' : List ℤ) → length pushed' ≡ length pushed → PushedBy job rate list work other pushed'
      → job.critical ≡ false → CanJoin work list other.cut pushed' other.list
  pub joined : (other : Moved) (r : Prefix) (pushed' after : List ℤ) → length pushed' ≡ length pushed
      → PushedBy job rate list work other pushed' → job.critical ≡ false → Joined work list pushed' other.list r after
      → Stepped job rate list work r after pushed'

-- The cases of a list that has a point: what the tests read, and what each case asks and gives.
pub record Starts (job : Terms) (rate : Rate) (list : Prefix) (work pushed : List ℤ) : Type 0 where
  pub first-least : pos 0 ≤ℤ at0 work list.place
  pub last-least : pos 0 ≤ℤ at0 work (end_of list - 1)
  pub late : too_late (job_of job rate) (job_rate rate) (point_of (at0 work list.place)) ≡ true
      → Stepped job rate list work (left_out job.critical (end_of list) list) work pushed
  pub add : CanAdd job rate list work
  pub added : too_late (job_of job rate) (job_rate rate) (point_of (at0 work list.place)) ≡ false
      → lt_z (point_of (at0 work (end_of list - 1))).time job.ready ≡ true
      → (r : Prefix) (work' : List ℤ) → Added job rate list work r work' → Stepped job rate list work r work' pushed
  pub merge : too_late (job_of job rate) (job_rate rate) (point_of (at0 work list.place)) ≡ false
      → lt_z (point_of (at0 work (end_of list - 1))).time job.ready ≡ false → CanMerge job rate list work pushed

module _ {job : Terms} {rate : Rate} {work pushed : List ℤ} where
  pushes-at : (place count : ℕ) → CanPushBy job rate (record { place = place; count = count }) work pushed
      → PushesBy job rate (record { place = place; count = count }) work pushed
  pushes-at place zero c = absurd (omega (arith, c.some))
  pushes-at place (suc m) c =
      let g = c.step in
      record {
        seek = record {
          told = record { ends = g.ends; most = g.fits.most };
          last = last-free g c.can;
          room = omega (arith, g.room);
        };
        push = λ end a. can-push g c.can a;
        fits = λ end other pushed' a p. cut_fits g c.can a p;
        gives = λ end other pushed' a p. pushes-by g c.can a p;
      }

  pub pushes : {list : Prefix} → CanPushBy job rate list work pushed → PushesBy job rate list work pushed
  pushes {list} c = pushes-at list.place list.count c

  merges-at : (place count : ℕ) → CanMerge job rate (record { place = place; count = count }) work pushed
      → Merges job rate (record { place = place; count = count }) work pushed
  merges-at place zero c = absurd (omega (arith, c.push.some))
  merges-at place (suc m) c =
      let g = c.push.step in
      let can = c.push.can in
      let at_last : place + suc m - 1 ≡ place + m = omega arith in
      let late : lt_z (point_of (at0 work (place + m))).time job.ready ≡ false = rw at_last at c.late in
      record {
        lay = λ other pushed' s p. can-lay g can late s p;
        laid = λ other pushed' after s p k l. laid-stepped g can late s p k l;
        join = λ other pushed' s p f. can-join g can late s p f;
        joined = λ other r pushed' after s p f o. joined-stepped g can late s p f o;
      }

  pub merges : {list : Prefix} → CanMerge job rate list work pushed → Merges job rate list work pushed
  merges {list} c = merges-at list.place list.count c

  -- An empty list stays empty.
  empty-at : (place count : ℕ) → count ≡ 0 → CanStep job rate (record { place = place; count = count }) work pushed
      → Stepped job rate (record { place = place; count = count }) work (record { place = place; count = count }) work pushed
  empty-at place (suc m) e g = absurd (omega arith)
  empty-at place zero e g = record {
    size = refl;
    stays = λ k h. refl;
    held = held_none;
    counted = refl;
    further = omega arith;
    few = omega arith;
    buffer = g.buffer;
  }

  pub empty-stepped : {list : Prefix} → list.count ≡ 0 → CanStep job rate list work pushed → Stepped job rate list work list work pushed
  empty-stepped {list} e g = empty-at list.place list.count e g

  starts-at : (place count : ℕ) → 1 ≤ count → CanStep job rate (record { place = place; count = count }) work pushed
      → Starts job rate (record { place = place; count = count }) work pushed
  starts-at place zero h g = absurd (omega arith)
  starts-at place (suc m) h g =
      let at_last : place + suc m - 1 ≡ place + m = omega arith in
      let last-coded : Coded (at0 work (place + suc m - 1)) =
      held-coded g.held (place + suc m - 1) (omega arith) (omega (arith, list_length work place (suc m))) in
      let first-coded : Coded (at0 work place) = held-coded g.held place (omega arith) (omega (arith, list_length work place (suc m))) in
      record {
        first-least = first-coded.low;
        last-least = last-coded.low;
        late = late-stepped g;
        add = record { some = h; room = omega (arith, g.room); starts = g.starts; fits = g.fits; coded = last-coded };
        added = λ can early r work' a.
            let soon : lt_z (point_of (at0 work (place + m))).time job.ready ≡ true = rw at_last at early in
            let is : waited_as job.ready (delta_of rate) (at0 work (place + suc m - 1))
            ≡ waited_as job.ready (delta_of rate) (at0 work (place + m)) =
            ap (λ (k : ℕ). waited_as job.ready (delta_of rate) (at0 work k)) at_last in
            rw (a.told, a.written) (more-stepped g can soon _ is);
        merge = λ can late. record { push = record { step = g; some = h; can = can }; late = late };
      }

  pub starts : {list : Prefix} → 1 ≤ list.count → CanStep job rate list work pushed → Starts job rate list work pushed
  starts {list} h g = starts-at list.place list.count h g
