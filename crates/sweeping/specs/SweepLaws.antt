-- A step by cells carries the profile after the job, and one by lists lets it stand.
use Rattle.std.specs.Prelude.{ℕ, zero, suc, ◌+◌, ◌-◌, ◌≤◌, ◌<◌, max, ◌≡◌, refl, Bool, true, false, cond, leb, ℤ, pos, length, ◌≤ℤ◌}
use Rattle.std.proofs.Common.{sym, ap, ap₂, ◌∙◌, subst, true≢false, ⊎_elim, arith}
use Rattle.std.proofs.lemmas.Bool.{false≢true}
use mathlib.Core.List.Memᴰ.{head}
use mathlib.Core.List.Memᴰ.{tail}
use mathlib.Core.List.{List, [], ◌∷◌, ◌++◌, Memᴰ as In}
use mathlib.Core.List.Memᴰ.{append_cases}
use mathlib.Core.List.Memᴰ.{not-nil}
use borrow.Table.Steps.{cases}
use Rattle.std.specs.Int.Signed.{le_z, lt_z}
use Rattle.seconds.specs.Limits.{latest_free, most_weight}
use Rattle.seconds.specs.Ranges.{InFree}
use Rattle.seconds.specs.Signed.{signed, min_z, max-is, sub_is}
use Rattle.order.specs.Job.{Job, Point}
use Rattle.profile.specs.Profile.{profile_of}
use Rattle.profile.proofs.Rising.{Rising, rising_none}
use Rattle.profile.proofs.Closure.{rising-short}
use Rattle.profile.proofs.Points.{profile_of-rises, profile_of-same, profile_of-member, profile_of-length}
use Rattle.points.specs.Steps.{up_to_time, pushed_by, leaving, too_late}
use Rattle.points.proofs.Pushing.{up_to-from}
use Rattle.points.proofs.StepLaws.{push-few, step-better}
use Rattle.codes.specs.declared.Prefix.{Prefix}
use Rattle.codes.specs.Code.{at0, points_at, end_of, lightness, limit_of, past_all}
use Rattle.pushing.specs.declared.Rate.{Rate}
use Rattle.pushing.specs.Pushes.{top, job_rate, delta_of}
use Rattle.stepping.specs.declared.Terms.{Terms}
use Rattle.stepping.specs.Stepping.{job_of, stepped, last_start, Buffer, Startable, CanStep, Stepped, CanSeek}
use Rattle.cells.specs.Cells.{cell_of, reach, wide, Cells, Put, CanSpread as CellsSpread, CanPushCells, PushedCells}
use Rattle.cells.specs.Laying.{rises_to, lowered, Laid, CanLower}
use Rattle.cells.specs.LayingLaws.{rises-same}
use Rattle.cells.specs.CellLaws.{Within, min-first, same-cell, same-reach, append-cell, cell-range, cell-past, in_reach, reach_few, reach-append}
use Rattle.gathering.specs.Points.{points_to, CanGather, Gathered}
use Rattle.gathering.specs.CellPoints.{points-are, points-counted, can-gather}
use Rattle.cells.specs.Spreading.{wiped}
use Rattle.sweeping.specs.Sweep.{Carried, Listed, Holds, as-list, as-cells, Steppable, Roomy, left, Wiped, start_cells, CanCount, Counted, CanSweep}
use Rattle.sweeping.specs.Sweep.{Swept, Readable}
use Rattle.codes.specs.CodeLaws.{since-is}
use Rattle.codes.specs.Held.{Held, held_none, After}
use Rattle.codes.specs.HeldLaws.{held-point, held-read, held-within, list_length}
use Rattle.reading.specs.Reading.{Says}
use Rattle.reading.specs.ReadingLaws.{held-says}
use Rattle.sweeping.specs.RowSays.{cells_say, none-reached, some-reached}
use Rattle.sweeping.specs.RowLaws.{can-push, many-few, pushed-within, pushed-cell, pushed-reach, pushed-buffer}

-- ---- the profile after a job

module _ {job : Terms} {rate : Rate} {ps : List Point} (rises : Rising ps) (within : Within ps) (can : Steppable job rate ps)
    (pushed_in : Within (pushed_by (job_of job rate) (job_rate rate) ps))
  where
    abbrev j : Job
    j = job_of job rate

    -- What is left of the profile without the job, and behind it the list pushed by the job.
    abbrev both : List Point
    both = leaving j ps ++ pushed_by j (job_rate rate) ps

    after_is : stepped job rate ps ≡ profile_of both
    after_is = step-better j (job_rate rate) refl rises can.weighty

    left-within : Within (leaving j ps)
    left-within = go job.critical
      where
        go : (c : Bool) → Within (cond c [] ps)
        go true q n = absurd (not-nil n)
        go false q n = within q n

    both-within : Within both
    both-within q n = ⊎_elim (left-within q) (pushed_in q) (append_cases (leaving j ps) n)

    new-within : Within (profile_of both)
    new-within q n = both-within q (profile_of-member both n)

    new-few : reach (profile_of both) ≤ 301
    new-few = reach_few (profile_of both) 301 (λ q n. omega (arith, (new-within q n).weight))

    new-reach : reach (profile_of both) ≡ max (reach (leaving j ps)) (reach (pushed_by j (job_rate rate) ps))
    new-reach = same-reach (profile_of-same both) ∙ reach-append (leaving j ps) (pushed_by j (job_rate rate) ps)

    -- ---- its cells: the lesser of those left and those pushed

    module _ {row mid : List ℤ} (pushed' : List ℤ) (cells : Cells row ps) (w : Wiped job.critical row mid) {far : ℕ}
        (far-is : far ≡ max (reach (leaving j ps)) (reach (pushed_by j (job_rate rate) ps)))
        (pushed-cell : (y : ℕ) → y < far → at0 pushed' y ≡ cell_of (pushed_by j (job_rate rate) ps) y)
      where
        left-cells : Cells mid (leaving j ps)
        left-cells = w.cells ps cells

        module _ {row' : List ℤ} (l : Put (lowered mid pushed') 0 far mid row') where
          both-cell : (x : ℕ) → x < wide → at0 row' x ≡ cell_of both x
          both-cell x h =
              cases (leb far x) (λ e. further (omega signed)) (λ e. inside (omega signed))
              ∙ sym (append-cell (leaving j ps) (pushed_by j (job_rate rate) ps) pushed_in x)
            where
              inside : x < far → at0 row' x ≡ min_z (cell_of (leaving j ps) x) (cell_of (pushed_by j (job_rate rate) ps) x)
              inside k = l.put x (omega arith) k ∙ ap₂ min_z (left-cells.cell x h) (pushed-cell x k)

              further : far ≤ x → at0 row' x ≡ min_z (cell_of (leaving j ps) x) (cell_of (pushed_by j (job_rate rate) ps) x)
              further k =
                  let past : cell_of (pushed_by j (job_rate rate) ps) x ≡ past_all =
                  cell-past (pushed_by j (job_rate rate) ps) x (omega (arith, far-is)) in
                  l.behind x k ∙ left-cells.cell x h
                  ∙ sym (ap (min_z (cell_of (leaving j ps) x)) past ∙ min-first (cell-range (leaving j ps) left-within x).high)

          new-cells : Cells row' (profile_of both)
          new-cells = record {
            size = l.size ∙ left-cells.size;
            cell = λ x h. both-cell x h ∙ sym (same-cell (profile_of-same both) new-within both-within x);
          }

          -- Laid at a place they say it.
          pub carried : {used : ℕ} {work work' : List ℤ} → 1 ≤ far → Laid (lowered mid pushed') 0 far used work work'
              → used + far ≤ length work → {n : ℕ} → n ≡ rises_to (lowered mid pushed') far
              → Carried (stepped job rate ps) (record { place = used; count = far }) (n + 1) work' row'
          carried {used} {work} {work'} some laid room {n} n-is =
              subst (λ (qs : List Point). Carried qs (record { place = used; count = far }) (n + 1) work' row') (sym after_is) (record {
                rises = profile_of-rises both;
                within = new-within;
                cells = new-cells;
                says = subst (λ (k : ℕ). Says work' used k (profile_of both)) (sym is)
                    (cells_say work' used (profile_of-rises both) new-within
                    (λ x h. laid.laid x (omega arith) (omega (arith, is)) ∙ sym (l.put x (omega arith) (omega (arith, is)))
                    ∙ new-cells.cell x (omega (arith, new-few))));
                few = omega (arith, is);
                counted = omega (
                  arith,
                  n-is ∙ rises-same (lowered mid pushed') (at0 row') far (λ x h. sym (l.put x (omega arith) h)),
                  ap (rises_to (at0 row')) is,
                  points-counted new-cells (profile_of-rises both) new-within new-few (omega (arith, is)),
                );
                room = omega (arith, laid.size);
              })
            where
              is : far ≡ reach (profile_of both)
              is = far-is ∙ sym new-reach

-- ---- a job that cannot start

-- Where no cell is reached by the last start the profile after the job is what is left without it.
late_is : {job : Terms} {rate : Rate} {ps : List Point} → Rising ps → Steppable job rate ps → start_cells job rate ps ≡ 0
    → stepped job rate ps ≡ cond job.critical [] ps
late_is {job} {rate} {ps} rises can z = go ps rises z
  where
    go : (qs : List Point) → Rising qs → start_cells job rate qs ≡ 0 → stepped job rate qs ≡ cond job.critical [] qs
    go [] r e = both job.critical
      where
        both : (c : Bool) → [] ≡ cond {A = List Point} c [] []
        both true = refl
        both false = refl
    go (q ∷ qs) r e = rw (cases (lt_z (last_start job rate) job.ready) unready (λ f. too-late f (rw f at e)))
      where
        unready : lt_z (last_start job rate) job.ready ≡ true → too_late (job_of job rate) (job_rate rate) q ≡ true
        unready f = omega (signed, max-is job.ready q.time)

        too-late : lt_z (last_start job rate) job.ready ≡ false → reach (up_to_time (last_start job rate) (q ∷ qs)) ≡ 0
            → too_late (job_of job rate) (job_rate rate) q ≡ true
        too-late f z = by (le_z q.time (last_start job rate)) refl z
          where
            by : (c : Bool) → le_z q.time (last_start job rate) ≡ c → reach (cond c (q ∷ up_to_time (last_start job rate) qs) []) ≡ 0
                → too_late (job_of job rate) (job_rate rate) q ≡ true
            by true d z = absurd (omega arith)
            by false d z = omega (signed, max-is job.ready q.time)

module _ {job : Terms} {rate : Rate} {list : Prefix} {points : ℕ} {work pushed row : List ℤ} (buffer : Buffer pushed) {row' : List ℤ}
    (w : Wiped job.critical row row')
  where
    -- So it is left.
    pub left-swept : ((ps : List Point) → Rising ps → Says work list.place list.count ps → start_cells job rate ps ≡ 0)
        → Swept job rate list points work row (left job.critical (end_of list) list points) work pushed row'
    left-swept none = record {
      size = refl;
      stays = λ k h. refl;
      further = (ends job.critical).0;
      few = (ends job.critical).1;
      buffer = buffer;
      next = λ ps c can.
          subst (λ (qs : List Point). Carried qs (stretch job.critical) (left job.critical (end_of list) list points).points work row')
          (sym (late_is c.rises can (none ps c.rises c.says))) (by job.critical c (w.cells ps c.cells));
    }
      where
        stretch : Bool → Prefix
        stretch c = (left c (end_of list) list points).list

        ends : (c : Bool) → (end_of list ≤ end_of (left c (end_of list) list points).list)
            × (end_of (left c (end_of list) list points).list ≤ end_of list + (left c (end_of list) list points).list.count)
        ends true = omega arith
        ends false = omega arith

        by : (c : Bool) {ps : List Point} → Carried ps list points work row → Cells row' (cond c [] ps)
            → Carried (cond c [] ps) ((left c (end_of list) list points).list)
            (left c (end_of list) list points).points work row'
        by true c cells = record {
          rises = rising_none;
          within = λ p n. absurd (not-nil n);
          cells = cells;
          says = held-says held_none refl;
          few = omega arith;
          counted = refl;
          room = omega (arith, c.room);
        }
        by false c cells = record {
          rises = c.rises;
          within = c.within;
          cells = cells;
          says = c.says;
          few = c.few;
          counted = c.counted;
          room = c.room;
        }

-- ---- how many cells a job can start from

module _ {job : Terms} {rate : Rate} {list : Prefix} {work : List ℤ} (g : CanCount job rate list work)
    (soon : job.ready ≤ℤ last_start job rate)
  where
    last-free : InFree (last_start job rate)
    last-free =
        let s = g.starts in
        let e = g.ends in
        omega (signed, sub_is job.deadline (pos rate.takes))

    -- The last of them can be looked for,
    pub can-seek : CanSeek job rate list work
    can-seek = record { told = record { ends = g.ends; most = g.fits.most }; last = last-free; room = g.room }

    module _ {e : ℕ} (a : Startable job rate list work e) where
      start_is : (ps : List Point) → start_cells job rate ps ≡ reach (up_to_time (last_start job rate) ps)
      start_is ps = let t : lt_z (last_start job rate) job.ready ≡ false = omega signed in rw t

      -- There is none,
      pub none-counted : e ≡ list.place → Counted job rate list work 0
      none-counted z ps r s = sym (start_is ps ∙ none-reached r s last-free a z)

      -- or it tells how many there are.
      pub some-counted : (e ≡ list.place → ⊥) → {many : ℕ} → many ≡ 512 - lightness (at0 work (e - 1)) → Counted job rate list work many
      some-counted n told ps r s = told ∙ sym (start_is ps ∙ some-reached r s last-free a (omega (arith, a.low)))

      pub found-least : (e ≡ list.place → ⊥) → pos 0 ≤ℤ at0 work (e - 1)
      found-least n =
          let f = held-point g.held (e - 1) (omega (arith, a.low))
          (omega (arith, a.low, a.high, list_length work list.place list.count)) in
          let z = f.2 in
          omega signed

pub unready-counted : (job : Terms) (rate : Rate) (list : Prefix) (work : List ℤ) → lt_z (last_start job rate) job.ready ≡ true
    → Counted job rate list work 0
unready-counted job rate list work t ps r s = rw t

-- A profile that is carried can be counted in.
pub can-count : {job : Terms} {rate : Rate} {list : Prefix} {work pushed row : List ℤ} → CanSweep job rate list work pushed row
    → CanCount job rate list work
can-count g = record {
  starts = g.can.starts;
  ends = g.can.ends;
  fits = g.can.fits;
  held = g.carried.says.held;
  room = g.carried.room;
}

-- A rising list has no more points than cells.
rising-few : {ps : List Point} → Rising ps → length ps ≤ reach ps
rising-few {ps = []} r = omega arith
rising-few {ps = p ∷ ps} r =
    omega (arith, rising-short (reach (p ∷ ps) - 1) r (λ q n. omega (arith, in_reach n)), in_reach {p = p} {ps = p ∷ ps} (head refl))

-- ---- the last number of a stretch

module _ {ps : List Point} {list : Prefix} {points : ℕ} {work row : List ℤ} (c : Carried ps list points work row) where
  all_up : up_to_time latest_free ps ≡ ps
  all_up = up ps c.within
    where
      up : (qs : List Point) → Within qs → up_to_time latest_free qs ≡ qs
      up [] h = refl
      up (q ∷ qs) h =
          let free = (h q (head refl)).time.high in
          let t : le_z q.time latest_free ≡ true = omega signed in
          rw t (ap (λ (rs : List Point). q ∷ rs) (up qs (λ r n. h r (tail n))))

  latest-in : InFree latest_free
  latest-in = record { low = omega signed; high = omega signed }

  all_after : After work list.place (list.place + list.count) (limit_of latest_free) (list.place + list.count)
  all_after = record {
    low = omega arith;
    high = omega arith;
    over = λ k x y. absurd (omega arith);
    under = λ l.
        let f = held-point c.says.held (list.place + list.count - 1) (omega arith)
        (omega (arith, list_length work list.place list.count)) in
        let e = f.2 in
        let t = f.1.time in
        omega (signed, since-is t, since-is latest-in);
  }

  -- A stretch that says some point has a number, and its last one tells how far the profile reaches.
  none-there : list.count ≡ 0 → reach ps ≡ 0
  none-there e = ap reach (sym all_up) ∙ none-reached c.rises c.says latest-in all_after (omega arith)

  pub carried_some : 1 ≤ reach ps → 1 ≤ list.count
  carried_some some = go list.count refl
    where
      go : (n : ℕ) → list.count ≡ n → 1 ≤ n
      go (suc n) e = omega arith
      go zero e = absurd (omega (arith, none-there e))

  pub carried_none : list.count ≡ 0 → ps ≡ []
  carried_none e = go ps (none-there e)
    where
      go : (qs : List Point) → reach qs ≡ 0 → qs ≡ []
      go [] z = refl
      go (q ∷ qs) z = absurd (omega arith)

  pub carried-reach : 1 ≤ list.count → reach ps ≡ 512 - lightness (at0 work (end_of list - 1))
  carried-reach some = ap reach (sym all_up) ∙ some-reached c.rises c.says latest-in all_after (omega arith)

  pub carried-least : 1 ≤ list.count → pos 0 ≤ℤ at0 work (end_of list - 1)
  carried-least some =
      let f = held-point c.says.held (end_of list - 1) (omega arith) (omega (arith, list_length work list.place list.count)) in
      let e = f.2 in
      omega signed

  -- The list itself can be written at the front, and then it stands.
  pub carried-few : reach ps ≤ 301
  carried-few = reach_few ps 301 (λ q n. omega (arith, (c.within q n).weight))

  module _ {far : ℕ} (some : 1 ≤ list.count) (is : far ≡ 512 - lightness (at0 work (end_of list - 1))) where
    far-is-reach : far ≡ reach ps
    far-is-reach = is ∙ sym (carried-reach some)

    pub can-settle : 301 ≤ length work → CanGather row far work
    can-settle room =
        can-gather c.cells c.rises c.within carried-few far far-is-reach work (omega (arith, rising-few c.rises, carried-few))

    pub settles : {r : ℕ} {work' : List ℤ} → Gathered row far work r work' → Held work' 0 ps × (r ≡ length ps)
    settles {r} {work'} d =
        let are = points-are c.cells c.rises c.within carried-few in
        (subst (Held work' 0) (ap (points_to row) far-is-reach ∙ are) d.held, omega (arith, d.counted, ap length (ap (points_to row) far-is-reach ∙ are)))

    pub settled-room : 301 ≤ length work → {r : ℕ} {work' : List ℤ} → Gathered row far work r work' → r ≤ length work'
    settled-room room d = omega (arith, (settles d).1, rising-few c.rises, carried-few, d.size)

  pub none-settled : list.count ≡ 0 → Held work list.place ps × (list.count ≡ length ps)
  none-settled e = let z = carried_none e in rw z (held_none, e)

-- ---- a job that can start from some cells

module _ (job : Terms) (rate : Rate) (list : Prefix) {many points : ℕ} {work row : List ℤ} (some : 1 ≤ many)
    (told : Counted job rate list work many) {ps : List Point} (c : Carried ps list points work row)
  where
    goes : (job.ready ≤ℤ last_start job rate) × (many ≡ reach (up_to_time (last_start job rate) ps))
    goes = go (lt_z (last_start job rate) job.ready) refl (told ps c.rises c.says)
      where
        go : (b : Bool) → lt_z (last_start job rate) job.ready ≡ b → many ≡ cond b 0 (reach (up_to_time (last_start job rate) ps))
            → (job.ready ≤ℤ last_start job rate) × (many ≡ reach (up_to_time (last_start job rate) ps))
        go true e d = absurd (omega arith)
        go false e d = (omega signed, d)

    front-reach : reach (up_to_time (last_start job rate) ps) ≤ reach ps
    front-reach = reach_few (up_to_time (last_start job rate) ps) (reach ps) (λ q n. in_reach (up_to-from (last_start job rate) ps q n).0)

    pub list-some : 1 ≤ list.count
    list-some = carried_some c (omega (arith, front-reach, goes.1))

    pub list-reach : reach ps ≡ 512 - lightness (at0 work (end_of list - 1))
    list-reach = carried-reach c list-some

    pub last-least : pos 0 ≤ℤ at0 work (end_of list - 1)
    last-least = carried-least c list-some

    module _ (can : Steppable job rate ps) {pushed : List ℤ} (roomy : Roomy job ps list work pushed) where
      pub can-push-row : CanPushCells row many (limit_of job.ready) (delta_of rate) rate.gain pushed
      can-push-row = can-push c.rises c.within can goes.0 c.cells roomy.buffer goes.1 some

      pub ends-few : rate.gain + many ≤ 301
      ends-few = many-few c.rises c.within can goes.0 c.cells roomy.buffer goes.1 some

      module _ {far : ℕ} (far-is : far ≡ max (cond job.critical 0 (512 - lightness (at0 work (end_of list - 1)))) (rate.gain + many)) where
        far-reach : far ≡ max (cond job.critical 0 (reach ps)) (rate.gain + many)
        far-reach = far-is ∙ ap (λ (k : ℕ). max (cond job.critical 0 k) (rate.gain + many)) (sym list-reach)

        -- All cells fit in a row, and in the work area: a critical job counts no weight here or has room for it.
        pub far-few : far ≤ 301
        far-few = go job.critical far-reach
          where
            light : reach ps ≤ 301
            light = reach_few ps 301 (λ q n. omega (arith, (c.within q n).weight))

            go : (b : Bool) → far ≡ max (cond b 0 (reach ps)) (rate.gain + many) → far ≤ 301
            go true e = omega (arith, ends-few)
            go false e = omega (arith, ends-few, light)

        far-room : end_of list + far ≤ length work
        far-room = go job.critical refl far-reach
          where
            go : (b : Bool) → job.critical ≡ b → far ≡ max (cond b 0 (reach ps)) (rate.gain + many) → end_of list + far ≤ length work
            go true e d = omega (arith, roomy.room, goes.1, front-reach, can.weightless e)
            go false e d = omega (arith, far-few, roomy.room_more e)

        -- What is left without the job reaches as far as its cells.
        left-reach : reach (leaving (job_of job rate) ps) ≡ cond job.critical 0 (reach ps)
        left-reach = go job.critical
          where
            go : (b : Bool) → reach (cond b [] ps) ≡ cond b 0 (reach ps)
            go true = refl
            go false = refl

        -- The row and the stretch carry the profile after the job.
        module _ {pushed' pushed'' : List ℤ} (p : PushedCells row many (limit_of job.ready) (delta_of rate) rate.gain pushed pushed')
            (past : Put (λ x. past_all) (rate.gain + many) far pushed' pushed'')
          where
            pub still : Buffer pushed''
            still =
                let b = pushed-buffer c.rises c.within can goes.0 c.cells roomy.buffer goes.1 some p in
                record {
                  room = omega (arith, past.size, b.room);
                  past = past.behind top (omega (arith, far-few)) ∙ b.past;
                }

            pub can-lower : {mid : List ℤ} → length mid ≡ wide → CanLower mid pushed'' far work (end_of list)
            can-lower e = record {
              size = omega (arith, far-few);
              room = omega (arith, far-few, still.room);
              few = omega (arith, far-few);
              inside = far-room;
            }

            pushes : reach (pushed_by (job_of job rate) (job_rate rate) ps) ≡ rate.gain + many
            pushes = pushed-reach c.rises c.within can goes.0 c.cells roomy.buffer goes.1 some p

            all-cells : (y : ℕ) → y < far → at0 pushed'' y ≡ cell_of (pushed_by (job_of job rate) (job_rate rate) ps) y
            all-cells y h =
                cases (leb (rate.gain + many) y)
                (λ e.
                past.put y (omega signed) h ∙ sym (cell-past (pushed_by (job_of job rate) (job_rate rate) ps) y (omega (signed, pushes))))
                (λ e.
                past.before y (omega signed)
                ∙ pushed-cell c.rises c.within can goes.0 c.cells roomy.buffer goes.1 some p y (omega signed))

            pub next-carried : {mid : List ℤ} → Wiped job.critical row mid → {row' : List ℤ} → Put (lowered mid pushed'') 0 far mid row'
                → {work' : List ℤ} → Laid (lowered mid pushed'') 0 far (end_of list) work work' → {n : ℕ} → n ≡ rises_to (lowered mid pushed'') far
                → Carried (stepped job rate ps) (record { place = end_of list; count = far }) (n + 1) work' row'
            next-carried w l laid told =
                carried c.rises c.within can (pushed-within c.rises c.within can goes.0) pushed'' c.cells w
                (omega (arith, far-reach, left-reach, pushes)) all-cells l (omega (arith, far-reach)) laid far-room told

-- ---- a row wiped, or as it was

pub wiped-row : {row row' : List ℤ} → length row ≡ wide → Put (λ x. past_all) 0 wide row row' → Wiped true row row'
wiped-row e p = record { size = p.size; cells = λ ps c. wiped e p }

pub left-row : (row : List ℤ) → Wiped false row row
left-row row = record { size = refl; cells = λ ps c. c }

-- ---- a list that stands

module _ {ps : List Point} {list : Prefix} {points : ℕ} {work : List ℤ} (l : Listed ps list points work) where
  -- It is the list that stands there.
  pub listed-is : points_at work list ≡ ps
  listed-is = rw l.count (held-read l.held)

  pub readable : Readable work list
  readable = record { held = rw listed-is l.held; room = l.room }

  -- Its cells can be spread, and then it is carried.
  pub can-spread : {row : List ℤ} → length row ≡ wide → CellsSpread work list row
  can-spread e = record { held = rw listed-is l.held; rises = rw listed-is l.rises; room = l.room; size = e }

  pub spread-carried : {row' : List ℤ} → Cells row' (points_at work list) → Carried ps list points work row'
  spread-carried c = record {
    rises = l.rises;
    within = held-within l.held;
    cells = rw listed-is at c;
    says = held-says l.held l.count;
    few = omega (arith, l.count, rising-few l.rises);
    counted = l.told;
    room = l.room;
  }

  module _ {job : Terms} {rate : Rate} (can : Steppable job rate ps) {pushed : List ℤ} (roomy : Roomy job ps list work pushed) where
    -- It can be stepped by the three cases, and then the list after the job stands.
    pub can-step : CanStep job rate list work pushed
    can-step = record {
      held = rw listed-is l.held;
      rises = rw listed-is l.rises;
      starts = can.starts;
      ends = can.ends;
      fits = can.fits;
      light = rw listed-is can.light;
      room = omega (arith, roomy.room, l.count, rising-few l.rises);
      room_more = roomy.room_more;
      buffer = roomy.buffer;
    }

    pub next-listed : {r : Prefix} {work' pushed' : List ℤ} → Stepped job rate list work r work' pushed'
        → Listed (stepped job rate ps) r r.count work'
    next-listed {r} {work'} s = record {
      rises = rw after_is (profile_of-rises (leaving (job_of job rate) ps ++ pushed_by (job_of job rate) (job_rate rate) ps));
      held = held;
      count = counted;
      told = counted;
      room = omega (arith, s.few, s.size, counted, room job.critical refl);
    }
      where
        held : Held work' r.place (stepped job rate ps)
        held = subst (λ (qs : List Point). Held work' r.place (stepped job rate qs)) listed-is s.held

        counted : r.count ≡ length (stepped job rate ps)
        counted = s.counted ∙ ap (λ (qs : List Point). length (stepped job rate qs)) listed-is

        after_is : stepped job rate ps ≡ profile_of (leaving (job_of job rate) ps ++ pushed_by (job_of job rate) (job_rate rate) ps)
        after_is = step-better (job_of job rate) (job_rate rate) refl l.rises can.weighty

        -- The list that a critical job pushes has no more points than the list.
        room : (c : Bool) → job.critical ≡ c → end_of list + length (stepped job rate ps) + cond c 0 1 ≤ length work
        room true e =
            let alone : leaving (job_of job rate) ps ≡ [] = ap (λ (c : Bool). cond c [] ps) e in
            omega (
              arith,
              ap length (after_is ∙ ap (λ (k : List Point). profile_of (k ++ pushed_by (job_of job rate) (job_rate rate) ps)) alone),
              profile_of-length (pushed_by (job_of job rate) (job_rate rate) ps),
              push-few (job_of job rate) (job_rate rate) ps,
              rising-few l.rises,
              roomy.room,
            )
        room false e =
            omega (
              arith,
              ap length after_is,
              rising-short most_weight (profile_of-rises (leaving (job_of job rate) ps ++ pushed_by (job_of job rate) (job_rate rate) ps))
                  (λ q n. (held-within held q (subst (In q) (sym after_is) n)).weight),
              roomy.room_more e,
            )

-- Two profiles that stand as the same list are one.
pub same-room : {job : Terms} {ps qs : List Point} {list : Prefix} {work pushed : List ℤ} → ps ≡ qs → Roomy job ps list work pushed
    → Roomy job qs list work pushed
same-room {job} {ps} {qs} {list} {work} {pushed} e r = subst (λ (rs : List Point). Roomy job rs list work pushed) e r

pub listed-one : {ps qs : List Point} {list : Prefix} {points more : ℕ} {work : List ℤ} → Listed ps list points work
    → Listed qs list more work → ps ≡ qs
listed-one l m = sym (listed-is l) ∙ listed-is m

-- ---- what every profile that is held tells

module _ {ps : List Point} {list : Prefix} {points : ℕ} {work row : List ℤ} where
  pub by-list : {celled : Bool} → celled ≡ false → Holds ps list points work row celled → Listed ps list points work
  by-list e (as-list l) = l
  by-list e (as-cells c) = absurd (true≢false e)

  pub by-cells : {celled : Bool} → celled ≡ true → Holds ps list points work row celled → Carried ps list points work row
  by-cells e (as-list l) = absurd (false≢true e)
  by-cells e (as-cells c) = c

  pub holds-few : {celled : Bool} → Holds ps list points work row celled → list.count ≤ reach ps
  holds-few (as-list l) = omega (arith, l.count, rising-few l.rises)
  holds-few (as-cells c) = c.few

  pub holds-say : {celled : Bool} → Holds ps list points work row celled → Says work list.place list.count ps
  holds-say (as-list l) = held-says l.held l.count
  holds-say (as-cells c) = c.says

  pub holds-counted : {celled : Bool} → Holds ps list points work row celled → points ≡ length ps
  holds-counted (as-list l) = l.told
  holds-counted (as-cells c) = c.counted
