-- What a frame of jobs does: set later, it does the same as much later; with no job ready before a time it waits for that time;
-- and with every deadline and rest in the frame it leaves the bus free by the end. So a frame and a later one are planned apart.
use Rattle.std.specs.Prelude.{ℕ, ◌+◌, ◌≡◌, refl, Bool, true, false, ◌&&◌, cond, List, [], ◌∷◌, ◌++◌, ℤ, pos, ◌+ℤ◌, ◌≤ℤ◌}
use Rattle.std.proofs.Common.{sym, ap, ap₂, ◌∙◌, ⊎_elim, arith}
use Rattle.std.proofs.Math.Bool.{and-eq-true_iff}
use Rattle.std.proofs.lemmas.Bool.{false≢true}
use mathlib.Core.List.Memᴰ
use Rattle.std.proofs.Math.Option.{none, some, map}
use Rattle.seconds.specs.Signed.{signed, add_is}
use Rattle.order.specs.Job.{Job, Point, allowed, bus_free}
use Rattle.order.specs.Choice.{Choice, feasible, finish, kept_weight, run}
use Rattle.order.specs.Later.{later, later_jobs, later_point, NoneBefore, AllDoneBy, AllInFrame}
use Rattle.order.proofs.Moves.{later-allowed, later-free, later-gain, waits-allowed, waits-free, free-by}
use Rattle.order.proofs.Runs.{Ran, ran, runs, run_join, run-split}

-- ---- the shift law: jobs set later, and the bus free as much later

module _ (d : ℤ) (n : ℕ) where
  -- The same choices are feasible,
  pub feasible-later : (js : List Job) (c : Choice) (t : ℤ) → feasible (later_jobs d n js) c (t +ℤ d) ≡ feasible js c t
  feasible-later [] [] t = refl
  feasible-later [] (x ∷ c) t = refl
  feasible-later (j ∷ js) [] t = refl
  feasible-later (j ∷ js) (x ∷ c) t =
      ap₂ ◌&&◌ (later-allowed d n j x t)
      (ap (feasible (later_jobs d n js) c) (later-free d n j x t) ∙ feasible-later js c (bus_free j x t))

  -- they leave the bus free as much later,
  pub finish-later : (js : List Job) (c : Choice) (t : ℤ) → finish (later_jobs d n js) c (t +ℤ d) ≡ finish js c t +ℤ d
  finish-later [] c t = refl
  finish-later (j ∷ js) [] t = refl
  finish-later (j ∷ js) (x ∷ c) t =
      ap (finish (later_jobs d n js) c) (later-free d n j x t) ∙ finish-later js c (bus_free j x t)

  -- and they keep the same weight.
  pub kept-later : (js : List Job) (c : Choice) → kept_weight (later_jobs d n js) c ≡ kept_weight js c
  kept-later [] c = refl
  kept-later (j ∷ js) [] = refl
  kept-later (j ∷ js) (x ∷ c) = ap₂ ◌+◌ (later-gain d n j x) (kept-later js c)

  -- So a run from a point set later is the run set later.
  pub run-later : (js : List Job) (c : Choice) (p : Point)
      → run (later_jobs d n js) c (later_point d p) ≡ map (later_point d) (run js c p)
  run-later js c p =
      rw (feasible-later js c p.time, finish-later js c p.time, kept-later js c) (either (feasible js c p.time) _)
    where
      either : (b : Bool) (q : Point)
          → cond b (some (later_point d q)) none ≡ map (later_point d) (cond b (some q) none)
      either true q = refl
      either false q = refl

-- ---- jobs none of which is ready before a time

-- From any earlier bus-free time the same choices are feasible as from that time.
pub feasible-waits : (s : ℤ) (js : List Job) → NoneBefore s js → (c : Choice) (t : ℤ) → t ≤ℤ s
    → feasible js c t ≡ feasible js c s
feasible-waits s [] from [] t h = refl
feasible-waits s [] from (x ∷ c) t h = refl
feasible-waits s (j ∷ js) from [] t h = refl
feasible-waits s (j ∷ js) from (x ∷ c) t h =
    let ready = from j (Memᴰ.head refl) in
    let f : ℤ → Bool = feasible js c in
    let ih = feasible-waits s js (λ k m. from k (Memᴰ.tail m)) c t h in
    ap₂ ◌&&◌ (waits-allowed j ready h x)
    (⊎_elim (λ e. ap f e) (λ e. ap f e.0 ∙ ih ∙ ap f (sym e.1)) (waits-free j ready h x))

-- ---- jobs whose deadlines and rests are past by a time

-- A feasible choice leaves the bus free by that time.
pub finish-by : (F : ℤ) (js : List Job) → AllDoneBy F js → (c : Choice) (t : ℤ) → t ≤ℤ F → feasible js c t ≡ true
    → finish js c t ≤ℤ F
finish-by F [] done c t h a = h
finish-by F (j ∷ js) done [] t h a = absurd (false≢true a)
finish-by F (j ∷ js) done (x ∷ c) t h a =
    let both = (and-eq-true_iff (allowed j x t) (feasible js c (bus_free j x t))).0 a in
    let free = free-by j x (done j (Memᴰ.head refl)) h both.0 in
    finish-by F js (λ k m. done k (Memᴰ.tail m)) c (bus_free j x t) free both.1

-- ---- which jobs stand so

-- Jobs in a frame are ready at 0 or later, and leave the bus free by its end.
pub frame-from : {F : ℤ} {js : List Job} → AllInFrame F js → NoneBefore (pos 0) js
frame-from all j m = (all j m).from

pub frame-until : {F : ℤ} {js : List Job} → AllInFrame F js → AllDoneBy F js
frame-until all j m = (all j m).until

-- Set later, jobs are ready as much later.
pub later-none-before : (d : ℤ) (n : ℕ) (s : ℤ) (js : List Job) → NoneBefore s js → NoneBefore (s +ℤ d) (later_jobs d n js)
later-none-before d n s js from j m =
    let o = Memᴰ.of_map (later d n) js m in
    rw (← o.2) (omega (signed, from o.0 o.1, add_is s d, add_is o.0.ready d))

-- None of joined jobs is ready before a time before which none of both is.
pub join-none-before : (s : ℤ) (js ks : List Job) → NoneBefore s js → NoneBefore s ks → NoneBefore s (js ++ ks)
join-none-before s js ks f g j m = ⊎_elim (f j) (g j) (Memᴰ.append_cases js m)

-- ---- jobs js from a time t, and jobs ks a frame later: a choice for both is one for each

-- With the bus free by the frame's end, the later jobs run as from 0 in a frame of their own.
pub later-alone : (F : ℤ) (n : ℕ) (ks : List Job) → NoneBefore (pos 0) ks → (c : Choice) (s : ℤ) → s ≤ℤ F
    → feasible (later_jobs F n ks) c s ≡ feasible ks c (pos 0)
later-alone F n ks from c s h =
    let by : s ≤ℤ (pos 0 +ℤ F) = omega (signed, add_is (pos 0) F) in
    feasible-waits (pos 0 +ℤ F) (later_jobs F n ks) (later-none-before F n (pos 0) ks from) c s by
    ∙ feasible-later F n ks c (pos 0)

-- A feasible choice for both, taken apart: the later jobs' part is feasible from 0 in a frame of its own.
pub record Apart (F : ℤ) (n : ℕ) (js ks : List Job) (t : ℤ) (e : Choice) : Type 0 where
  pub front : Choice
  pub back : Choice
  pub whole : e ≡ front ++ back
  pub first : feasible js front t ≡ true
  pub then : feasible ks back (pos 0) ≡ true
  pub keeps : kept_weight (js ++ later_jobs F n ks) e ≡ kept_weight js front + kept_weight ks back

module _ (F : ℤ) (n : ℕ) (js ks : List Job) (done : AllDoneBy F js) (from : NoneBefore (pos 0) ks) (t : ℤ) (h : t ≤ℤ F) where
  abbrev start : Point
  start = record { time = t; weight = 0 }

  -- A feasible choice for each, joined, is feasible and keeps both weights,
  pub frames-join : (c d : Choice) → feasible js c t ≡ true → feasible ks d (pos 0) ≡ true
      → (feasible (js ++ later_jobs F n ks) (c ++ d) t ≡ true)
      × (kept_weight (js ++ later_jobs F n ks) (c ++ d) ≡ kept_weight js c + kept_weight ks d)
  frames-join c d a b =
      let both = run_join js (later_jobs F n ks) c d start (runs js c start first) (runs (later_jobs F n ks) d middle then) in
      let r = ran (js ++ later_jobs F n ks) (c ++ d) start both in
      (r.can, omega (arith, r.sum))
    where
      middle : Point
      middle = record { time = finish js c t; weight = kept_weight js c }

      end : Point
      end = record { time = finish (later_jobs F n ks) d (finish js c t); weight = kept_weight js c + kept_weight ks d }

      first : Ran js c start middle
      first = record { can = a; free = refl; sum = omega arith }

      then : Ran (later_jobs F n ks) d middle end
      then =
          record {
            can = later-alone F n ks from d (finish js c t) (finish-by F js done c t h a) ∙ b;
            free = refl;
            sum = ap (λ (w : ℕ). kept_weight js c + w) (sym (kept-later F n ks d));
          }

  -- and every feasible choice is such a one.
  pub frames-apart : (e : Choice) → feasible (js ++ later_jobs F n ks) e t ≡ true → Apart F n js ks t e
  frames-apart e a =
      let s = run-split js (later_jobs F n ks) e start (runs (js ++ later_jobs F n ks) e start both) in
      let first = ran js s.front start s.first in
      let then = ran (later_jobs F n ks) s.back s.middle s.then in
      let in-time : s.middle.time ≤ℤ F = rw first.free (finish-by F js done s.front t h first.can) in
      record {
        front = s.front;
        back = s.back;
        whole = s.whole;
        first = first.can;
        then = sym (later-alone F n ks from s.back s.middle.time in-time) ∙ then.can;
        keeps = omega (arith, first.sum, then.sum, kept-later F n ks s.back);
      }
    where
      end : Point
      end = record { time = finish (js ++ later_jobs F n ks) e t; weight = kept_weight (js ++ later_jobs F n ks) e }

      both : Ran (js ++ later_jobs F n ks) e start end
      both = record { can = a; free = refl; sum = omega arith }
