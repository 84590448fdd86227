-- The cells of the profile pushed by a job, from the cells of the profile.
use Rattle.std.specs.Prelude.{ℕ, ◌+◌, ◌-◌, ◌≤◌, ◌<◌, ◌≡◌, refl, Bool, true, false, cond, leb, ℤ, pos, ◌+ℤ◌, length, ◌≤ℤ◌}
use Rattle.std.proofs.Common.{sym, ap, ◌∙◌, subst, arith}
use mathlib.Core.List.Memᴰ.{head}
use mathlib.Core.List.{List, [], ◌∷◌, ◌++◌, Memᴰ as In}
use Rattle.std.proofs.Math.Option.{some}
use borrow.Table.Steps.{cases}
use Rattle.std.specs.Int.Signed.{le_z}
use Rattle.seconds.specs.RangesLaws.{time-free}
use Rattle.seconds.specs.Signed.{signed, max_z, max-is, add_is, sub_is}
use Rattle.order.specs.Job.{Job, Point}
use Rattle.order.specs.Given.{Given, Same}
use Rattle.order.proofs.GivenLaws.{given-own, ⊑-by}
use Rattle.order.proofs.Moves.{kept-moves, moves-kept}
use Rattle.profile.proofs.Rising.{Rising}
use Rattle.points.specs.Steps.{up_to_time, pushed_by}
use Rattle.points.proofs.Pushing.{up_to-from, up_to-has}
use Rattle.points.proofs.StepLaws.{push-from, push-gives}
use Rattle.codes.specs.Code.{at0, code_of, limit_of}
use Rattle.codes.specs.CodeLaws.{since-few}
use Rattle.pushing.specs.declared.Rate.{Rate}
use Rattle.pushing.specs.Pushes.{top, job_rate, delta_of}
use Rattle.pushing.specs.Numbers.{delta-fits}
use Rattle.stepping.specs.declared.Terms.{Terms}
use Rattle.stepping.specs.Stepping.{job_of, last_start, Buffer}
use Rattle.stepping.specs.Cases.{moved-within as moves}
use Rattle.cells.specs.Cells.{cell_of, reach, Cells, moved_on, CanPushCells, PushedCells}
use Rattle.cells.specs.CellLaws.{Within, min-most, cell-range, same-cell, same-reach, reach_few}
use Rattle.cells.specs.RisingCells.{front-cell}
use Rattle.sweeping.specs.Sweep.{Steppable}
use Rattle.sweeping.specs.Moving.{all_moved, moved_in, moved-from, reach-moved, moved_to, moved-cell}

-- What is behind the points up to a time.
abbrev after_time : ℤ → List Point → List Point
after_time t [] = []
after_time t (p ∷ ps) = cond (le_z p.time t) (after_time t ps) (p ∷ ps)

up_to-parts : (t : ℤ) (ps : List Point) → ps ≡ up_to_time t ps ++ after_time t ps
up_to-parts t [] = refl
up_to-parts t (p ∷ ps) = go (le_z p.time t) (up_to-parts t ps)
  where
    go : (c : Bool) → ps ≡ up_to_time t ps ++ after_time t ps → p ∷ ps ≡ cond c (p ∷ up_to_time t ps) [] ++ cond c (after_time t ps) (p ∷ ps)
    go true i = ap (λ (qs : List Point). p ∷ qs) i
    go false i = refl

module _ {job : Terms} {rate : Rate} {ps : List Point} (rises : Rising ps) (within : Within ps) (can : Steppable job rate ps)
    (soon : job.ready ≤ℤ last_start job rate)
  where
    abbrev j : Job
    j = job_of job rate

    abbrev pushed_list : List Point
    pushed_list = pushed_by j (job_rate rate) ps

    -- The points from which the job can start, and those after it.
    abbrev front : List Point
    front = up_to_time (last_start job rate) ps

    abbrev moved : List Point
    moved = all_moved job.ready rate front

    front-in : (p : Point) → In p front → In p ps × (p.time ≤ℤ last_start job rate)
    front-in = up_to-from (last_start job rate) ps

    front-within : Within front
    front-within p n = within p (front-in p n).0

    moved-within : Within moved
    moved-within q n =
        let m = moved-from job.ready rate front q n in
        let f = front-in m.0 m.1 in
        rw m.2 (moves job can.starts can.ends can.fits soon (within m.0 f.0) f.1 (can.light m.0 f.0))

    -- ---- the pushed list gives what the moved points of the front give

    pushed-from : (q : Point) → In q pushed_list → In q moved
    pushed-from q m =
        let f = push-from j (job_rate rate) 0 refl rises q m in
        let k = moves-kept j 0 (job_rate rate) refl f.0 q f.2 in
        let start = k.0 in
        let early : f.0.time ≤ℤ last_start job rate = omega (signed, max-is job.ready f.0.time) in
        subst (λ (x : Point). In x moved) (sym k.1)
        (moved_in job.ready rate f.0 (up_to-has (last_start job rate) rises f.0 f.1 early))

    moved-given : (q : Point) → In q moved → Given q pushed_list
    moved-given q m =
        let f = moved-from job.ready rate front q m in
        let g = front-in f.0 f.1 in
        let early = g.1 in
        let start : max_z job.ready f.0.time ≤ℤ last_start job rate = omega (signed, max-is job.ready f.0.time) in
        push-gives j (job_rate rate) 0 refl rises f.0 q g.0 (kept-moves j 0 (job_rate rate) refl f.0 start ∙ ap some (sym f.2))

    same : Same pushed_list moved
    same = record { to = ⊑-by (λ q m. given-own (pushed-from q m)); back = ⊑-by moved-given }

    pub pushed-within : Within pushed_list
    pushed-within q n = moved-within q (pushed-from q n)

    -- ---- how far cells reach

    reach-light : rate.gain + reach front ≤ 301
    reach-light =
        let few : reach front ≤ 301 - rate.gain =
        reach_few front (301 - rate.gain) (λ p n. omega (arith, can.light p (front-in p n).0)) in
        omega (arith, few, can.fits.light)

    front-some : 1 ≤ reach front → 1 ≤ length front
    front-some = go front
      where
        go : (qs : List Point) → 1 ≤ reach qs → 1 ≤ length qs
        go [] h = absurd (omega arith)
        go (q ∷ qs) h = omega arith

    -- ---- the cells

    -- The front makes the cells as far as it reaches.
    front-makes : (x : ℕ) → x < reach front → cell_of ps x ≡ cell_of front x
    front-makes x h =
        let whole : ps ≡ front ++ after_time (last_start job rate) ps = up_to-parts (last_start job rate) ps in
        ap (λ (qs : List Point). cell_of qs x) whole
        ∙ front-cell front (after_time (last_start job rate) ps) (rw whole at rises) (rw whole at within) x h

    module _ {row pushed : List ℤ} (cells : Cells row ps) (buffer : Buffer pushed) {many : ℕ} (m-is : many ≡ reach front) (some : 1 ≤ many)
      where
        row-cell : (x : ℕ) → x < reach front → at0 row x ≡ cell_of front x
        row-cell x h = cells.cell x (omega (arith, reach-light)) ∙ front-makes x h

        pub many-few : rate.gain + many ≤ 301
        many-few = omega (arith, m-is, reach-light)

        pub can-push : CanPushCells row many (limit_of job.ready) (delta_of rate) rate.gain pushed
        can-push =
            let d = delta-fits can.fits in
            let t = since-few (time-free can.starts) in
            let l = reach-light in
            record {
              all = record {
                cells = λ x h. rw (cells.cell x (omega arith)) (cell-range ps within x);
                few = omega arith;
                light = omega (arith, can.fits.light);
                ready = record { low = omega signed; high = omega signed };
                adds = d;
                size = omega (arith, cells.size);
                room = omega (arith, buffer.room);
              };
              some = some;
              first = rw (row-cell 0 (omega arith)) (first-early front (front-some (omega arith)) front-within);
            }
          where
            first-early : (qs : List Point) → 1 ≤ length qs → Within qs → cell_of qs 0 ≤ℤ pos 200000000
            first-early [] h w = absurd (omega arith)
            first-early (q ∷ qs) h w =
                let t : leb 0 q.weight ≡ true = omega signed in
                let few = since-few (w q (head refl)).time in
                rw t (min-most {a = code_of q.time 0} (cell_of qs 0) (omega signed))

        module _ {pushed' : List ℤ} (p : PushedCells row many (limit_of job.ready) (delta_of rate) rate.gain pushed pushed') where
          -- A cell without the job is moved to the cell with it, where x and y are alike.
          from_cell : (x y : ℕ) → ((w : ℕ) → leb y (w + rate.gain) ≡ leb x w) → y ≤ 300 → x < reach front
              → (z : ℤ) → z ≡ moved_to can.starts can.fits x y (at0 row x) → z ≡ cell_of pushed_list y
          from_cell x y alike few h z is =
              is ∙ ap (moved_to can.starts can.fits x y) (row-cell x h)
              ∙ sym (moved-cell can.starts can.fits x y alike few (omega (arith, reach-light)) front front-within moved-within h)
              ∙ sym (same-cell same pushed-within moved-within y)

          pub pushed-cell : (y : ℕ) → y < rate.gain + many → at0 pushed' y ≡ cell_of pushed_list y
          pushed-cell y h = cases (leb rate.gain y) (λ e. heavy (omega signed)) (λ e. light (omega signed))
            where
              heavy : rate.gain ≤ y → at0 pushed' y ≡ cell_of pushed_list y
              heavy k =
                  let e : rate.gain + (y - rate.gain) ≡ y = omega arith in
                  let z = moved_on (limit_of job.ready) (delta_of rate) (at0 row (y - rate.gain)) (y - rate.gain) in
                  from_cell (y - rate.gain) y (λ w. same_test w k) (omega (arith, reach-light, m-is)) (omega (arith, m-is)) (at0 pushed' y)
                  (ap (at0 pushed') (sym e) ∙ p.moved (y - rate.gain) (omega arith)
                  ∙ omega (signed, add_is z (pos (rate.gain + (y - rate.gain))), sub_is (z +ℤ pos (rate.gain + (y - rate.gain))) (pos y)))
                where
                  same_test : (w : ℕ) → rate.gain ≤ y → leb y (w + rate.gain) ≡ leb (y - rate.gain) w
                  same_test w l =
                      cases (leb (y - rate.gain) w)
                      (λ e. let a : leb y (w + rate.gain) ≡ true = omega signed in a ∙ sym e)
                      (λ e. let a : leb y (w + rate.gain) ≡ false = omega signed in a ∙ sym e)

              light : y < rate.gain → at0 pushed' y ≡ cell_of pushed_list y
              light k =
                  let none : rate.gain + 0 ≡ rate.gain = omega arith in
                  from_cell 0 y (λ w. let a : leb y (w + rate.gain) ≡ true = omega signed in let b : leb 0 w ≡ true = omega signed in a ∙ sym b)
                  (omega (arith, can.fits.light)) (omega arith) (at0 pushed' y) (rw none (p.light y k))

          pub pushed-reach : reach pushed_list ≡ rate.gain + many
          pushed-reach =
              same-reach same ∙ reach-moved job.ready rate front (front-some (omega arith)) ∙ ap (λ (k : ℕ). rate.gain + k) (sym m-is)

          pub pushed-buffer : Buffer pushed'
          pushed-buffer = record {
            room = omega (arith, p.size, buffer.room);
            past = p.behind top (omega (arith, m-is, reach-light)) ∙ buffer.past;
          }
