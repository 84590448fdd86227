-- The laws of repeating jobs as the code judges and counts them: the tests of one job, the search for one that may not repeat, the
-- frame period by period, and the repeats job by job.
use Rattle.std.specs.Prelude.{ℕ, suc, ◌+◌, ◌*◌, ◌/◌, ◌%◌, ◌^◌, ◌≤◌, ◌<◌, ◌≡◌, refl, Bool, true, false, not, cond, ◌&&◌, List, [], ◌∷◌, T, ltb, eqb, ℤ, pos, negsuc, nat_abs, ◌+ℤ◌, ◌-ℤ◌, length, get_or, take, drop, ◌≤ℤ◌, Some, None}
use Rattle.std.proofs.Common.{sym, ap, ap₂, ◌∙◌, mul-le-mul, div-le_self, arith, to_z-of_z}
use Rattle.std.specs.Int.Signed.{le_z, non_neg, mag}
use Rattle.std.specs.Int.{w32}
use mir.Val.{Fits, SFits, to_z, of_z, hbits}
use Rattle.seconds.specs.Limits.{rest, longest, heaviest, longest_frame}
use Rattle.seconds.specs.Signed.{signed, same_test, add_is, sub_is, abs_is, mag_is}
use Rattle.seconds.specs.Ranges.{same, Between, is_between}
use Rattle.seconds.specs.RangesLaws.{between-true, same-is}
use Rattle.multiples.specs.Multiples.{lcm, lcm_from, AllPositive}
use Rattle.multiples.specs.MultiplesLaws.{lcm-above, from-positive, from_more}
use Rattle.packed.specs.Places.{part, each, first, found_below}
use Rattle.packed.specs.PlacesLaws.{run-read, each-end, each_more, first_on, first-here, first-end, found-there, found-none}
use Rattle.packed.specs.Judge.{plainly, at_place, fine, refused, judge}
use Rattle.packed.specs.Refusals.{weight_test}
use Rattle.packed.proofs.RefusalLaws.{all-at, weight-range}
use Rattle.frames.specs.Frames.{the_weight, the_phase, the_deadline, the_period, may_repeat, jobs_given, given_at, weight_at, phase_at, period_at}
use Rattle.frames.specs.Frames.{unfit_at, first_unfit, frame_of, times_at, given_checks}
use Rattle.judge.specs.Gathering.{kept}
use Rattle.frames.specs.Facts.{MayRepeat, GivenFine}
use Rattle.frames.proofs.RepeatsLaws.{of-each, at-place, total}
use Rattle.frames.proofs.FrameLaws.{count-total, weight-total}
use Rattle.repeating.specs.Repeating.{numbers_in, range_tests, in_range, in_period, Grown, whole, past}
use Rattle.repeating.specs.Repeating.{CanWeigh, Weighs, CanCount, Counts}
use Rattle.repeating.specs.declared.Repeating.{Repeating}
use Rattle.repeating.specs.declared.Totals.{Totals}

-- ---- one job

-- Each number of a job is an i32, and so it is what its bits say.
pub record RepeatingFits (j : Repeating) : Type 0 where
  pub critical : SFits w32 j.critical
  pub weight : SFits w32 j.weight
  pub phase : SFits w32 j.phase
  pub long : SFits w32 j.length
  pub deadline : SFits w32 j.deadline
  pub period : SFits w32 j.period

-- The bounds of the six say so.
pub bounds-fit : (j : Repeating) → mag j.critical < 2 ^ hbits w32 → mag j.weight < 2 ^ hbits w32
    → mag j.phase < 2 ^ hbits w32 → mag j.length < 2 ^ hbits w32 → mag j.deadline < 2 ^ hbits w32
    → mag j.period < 2 ^ hbits w32 → RepeatingFits j
bounds-fit j critical weight phase long deadline period =
    record {
      critical = record { sfits = critical };
      weight = record { sfits = weight };
      phase = record { sfits = phase };
      long = record { sfits = long };
      deadline = record { sfits = deadline };
      period = record { sfits = period };
    }

-- A job made anew from the bits of its numbers,
abbrev pub from_bits : Repeating → Repeating
from_bits j =
    record {
      critical = to_z w32 (of_z w32 j.critical);
      weight = to_z w32 (of_z w32 j.weight);
      phase = to_z w32 (of_z w32 j.phase);
      length = to_z w32 (of_z w32 j.length);
      deadline = to_z w32 (of_z w32 j.deadline);
      period = to_z w32 (of_z w32 j.period);
    }

-- is the job.
pub numbers-kept : (j : Repeating) → RepeatingFits j → numbers_in (from_bits j) ≡ numbers_in j
numbers-kept j f =
    rw (to_z-of_z f.critical, to_z-of_z f.weight, to_z-of_z f.phase, to_z-of_z f.long, to_z-of_z f.deadline, to_z-of_z f.period)

-- Its six numbers at a place of a list, read one by one.
pub six-read : (l : List ℤ) (at : ℕ) → at + 6 ≤ length l
    → get_or l at (pos 0) ∷ get_or l (at + 1) (pos 0) ∷ get_or l (at + 2) (pos 0) ∷ get_or l (at + 3) (pos 0) ∷ get_or l (at + 4) (pos 0)
    ∷ get_or l (at + 5) (pos 0) ∷ [] ≡ take 6 (drop at l)
unfolding each
six-read l at h = let here : at + 0 ≡ at = omega arith in rw here at (run-read (pos 0) 6 l at h)

-- A number of it that is not negative, as the code casts it.
pub count-casts : (z : ℤ) → SFits w32 z → pos 0 ≤ℤ z
    → T (non_neg (to_z w32 (of_z w32 z))) × Fits w32 (nat_abs (to_z w32 (of_z w32 z)))
count-casts z f low = rw (to_z-of_z f) (omega (signed, f.sfits, mag_is z, low, abs_is z))

-- The mark is compared as its bits.
mark-tested : (mark weight : ℤ)
    → (is_between (pos 0) (pos 1) mark && weight_test (eqb (of_z w32 mark) 1) weight)
    ≡ (is_between (pos 0) (pos 1) mark && weight_test (same mark (pos 1)) weight)
mark-tested (pos n) weight = rw (same-is n 1)
mark-tested (negsuc n) weight = refl

-- Six tests in the code's nesting, and a seventh behind six.
six : (a b c d e f : Bool) → (((((a && b) && c) && d) && e) && f) ≡ (a && (b && (c && (d && (e && (f && true))))))
six false b c d e f = refl
six true false c d e f = refl
six true true false d e f = refl
six true true true false e f = refl
six true true true true false f = refl
six true true true true true false = refl
six true true true true true true = refl

seven : (a b c d e f g : Bool)
    → (a && (b && (c && (d && (e && (f && (g && true))))))) ≡ ((a && (b && (c && (d && (e && (f && true)))))) && g)
seven false b c d e f g = refl
seven true false c d e f g = refl
seven true true false d e f g = refl
seven true true true false e f g = refl
seven true true true true false f g = refl
seven true true true true true false g = refl
seven true true true true true true false = refl
seven true true true true true true true = refl

-- The code's six tests together.
pub range-tested : (j : Repeating)
    → (((((is_between (pos 0) (pos 1) j.critical && weight_test (eqb (of_z w32 j.critical) 1) j.weight)
    && le_z (pos 0) j.phase)
    && is_between (pos 1) (pos longest) j.length)
    && is_between (pos 1) (pos longest_frame) j.deadline)
    && is_between (pos 1) (pos longest_frame) j.period)
    ≡ in_range j
unfolding in_range
range-tested j =
    let behind : Bool → Bool = λ t. (((t && le_z (pos 0) j.phase) && is_between (pos 1) (pos longest) j.length)
    && is_between (pos 1) (pos longest_frame) j.deadline) && is_between (pos 1) (pos longest_frame) j.period in
    ap behind (mark-tested j.critical j.weight)
    ∙ six (is_between (pos 0) (pos 1) j.critical) (weight_test (same j.critical (pos 1)) j.weight) (le_z (pos 0) j.phase)
    (is_between (pos 1) (pos longest) j.length) (is_between (pos 1) (pos longest_frame) j.deadline)
    (is_between (pos 1) (pos longest_frame) j.period)

-- A job may repeat if it passes them and leaves the bus free by the end of its period.
pub may-is : (j : Repeating) → may_repeat (numbers_in j) ≡ (in_range j && in_period j)
unfolding may_repeat in_range in_period
may-is j =
    seven (is_between (pos 0) (pos 1) j.critical) (weight_test (same j.critical (pos 1)) j.weight) (le_z (pos 0) j.phase)
    (is_between (pos 1) (pos longest) j.length) (is_between (pos 1) (pos longest_frame) j.deadline)
    (is_between (pos 1) (pos longest_frame) j.period) (le_z ((j.phase +ℤ j.deadline) +ℤ pos rest) j.period)

-- Past the six, the deadline and the period are so small that no difference which in_period makes overflows.
pub record InRange (j : Repeating) : Type 0 where
  pub deadline : Between (pos 1) (pos longest_frame) j.deadline
  pub period : Between (pos 1) (pos longest_frame) j.period

pub in-range : (j : Repeating) → in_range j ≡ true → InRange j
unfolding in_range
in-range j e =
    record {
      deadline = (between-true _ _ _).0 (all-at (range_tests j) 4 e);
      period = (between-true _ _ _).0 (all-at (range_tests j) 5 e);
    }

-- What is left of a period behind a deadline and a time of rest.
pub left_is : (n : ℕ) (phase deadline period : ℤ)
    → le_z phase ((period -ℤ pos n) -ℤ deadline) ≡ le_z ((phase +ℤ deadline) +ℤ pos n) period
left_is n phase deadline period =
    same_test (le_z phase ((period -ℤ pos n) -ℤ deadline)) (le_z ((phase +ℤ deadline) +ℤ pos n) period)
    (omega (
      signed,
      add_is phase deadline,
      add_is (phase +ℤ deadline) (pos n),
      sub_is period (pos n),
      sub_is (period -ℤ pos n) deadline,
    ))

-- ---- the job that was read at a place

-- Its numbers are those given there.
pub read-given : (zs : List ℤ) (p : ℕ) (j : Repeating) → numbers_in j ≡ take 6 (drop (6 * p) zs) → numbers_in j ≡ given_at zs p
unfolding given_at part
read-given zs p j r = r

-- It may not repeat, and the search ends; or it may, and the search goes on.
module _ (zs : List ℤ) (p count : ℕ) (j : Repeating) (b : p < count) (r : numbers_in j ≡ take 6 (drop (6 * p) zs)) where
  unfit-is : (t : Bool) → may_repeat (numbers_in j) ≡ t → unfit_at zs p ≡ not t
  unfit-is t e = ap (λ (job : List ℤ). not (may_repeat job)) (sym (read-given zs p j r)) ∙ ap not e

  pub unfit-here : may_repeat (numbers_in j) ≡ false → first (unfit_at zs) p count ≡ p
  unfit-here e = first-here (unfit_at zs) p count b (unfit-is false e)

  pub unfit-on : may_repeat (numbers_in j) ≡ true → first (unfit_at zs) p count ≡ first (unfit_at zs) (p + 1) count
  unfit-on e = first_on (unfit_at zs) p count b (unfit-is true e)

  -- The search so far is the search from here on.
  module _ (so_far : first (unfit_at zs) 0 count ≡ first (unfit_at zs) p count) where
    pub unfit-found : may_repeat (numbers_in j) ≡ false → Some p ≡ found_below count (first (unfit_at zs) 0 count)
    unfit-found e = rw (so_far ∙ unfit-here e) (found-there count p b)

    pub unfit-passed : may_repeat (numbers_in j) ≡ true → first (unfit_at zs) 0 count ≡ first (unfit_at zs) (p + 1) count
    unfit-passed e = so_far ∙ unfit-on e

-- Each may.
pub none-unfit : (zs : List ℤ) (p count : ℕ) → p ≡ count → first (unfit_at zs) 0 count ≡ first (unfit_at zs) p count
    → None ≡ found_below count (first (unfit_at zs) 0 count)
none-unfit zs p count e so_far =
    let found : first (unfit_at zs) 0 count ≡ count = so_far ∙ ap (λ q. first (unfit_at zs) q count) e ∙ first-end (unfit_at zs) count in
    rw found (found-none count count (omega arith))

-- 3, 4 and 16, one after the other.
pub given-judge : (zs : List ℤ) → judge (given_checks zs)
    ≡ cond (ltb 96 (length zs)) (refused (plainly 3))
    (cond (not (eqb (length zs % 6) 0)) (refused (plainly 4))
    (cond (ltb (first (unfit_at zs) 0 (length zs / 6)) (length zs / 6))
    (refused (at_place 16 (first (unfit_at zs) 0 (length zs / 6)))) fine))
unfolding given_checks first_unfit jobs_given
given-judge zs = refl

-- As many as there are six numbers.
pub jobs-are : (zs : List ℤ) → length zs / 6 ≡ jobs_given zs
unfolding jobs_given
jobs-are zs = refl

-- A number of a job as the code counts with it: it is not negative, and it is so much.
pub record IsCount (z : ℤ) (n : ℕ) : Type 0 where
  pub low : pos 0 ≤ℤ to_z w32 (of_z w32 z)
  pub is : nat_abs (to_z w32 (of_z w32 z)) ≡ n

is-count : (z : ℤ) → Between (pos 0) (pos longest_frame) z → IsCount z (nat_abs z)
is-count z b = let same : to_z w32 (of_z w32 z) ≡ z = kept longest_frame z b (omega arith) in record { low = rw same b.low; is = ap nat_abs same }

-- A job that was read from jobs that may repeat: the one given at its place, and its numbers that are counts.
pub record JobRead (zs : List ℤ) (p : ℕ) (j : Repeating) : Type 0 where
  pub is : numbers_in j ≡ given_at zs p
  pub may : MayRepeat (numbers_in j)
  pub weight : IsCount j.weight (weight_at zs p)
  pub phase : IsCount j.phase (phase_at zs p)
  pub deadline : IsCount j.deadline (nat_abs (the_deadline (given_at zs p)))
  pub period : IsCount j.period (period_at zs p)
  pub runs : 1 ≤ period_at zs p
  pub light : weight_at zs p ≤ heaviest

pub job_read : (zs : List ℤ) (p : ℕ) (j : Repeating) → GivenFine zs → p < jobs_given zs → numbers_in j ≡ take 6 (drop (6 * p) zs)
    → JobRead zs p j
job_read zs p j g h r =
    let e : numbers_in j ≡ given_at zs p = read-given zs p j r in
    let m : MayRepeat (numbers_in j) = rw e (g.repeat p h) in
    let w = weight-range (same j.critical (pos 1)) j.weight m.weight in
    let phase : j.phase ≤ℤ pos longest_frame =
    omega (signed, m.timely, m.period, m.deadline, add_is j.phase j.deadline, add_is (j.phase +ℤ j.deadline) (pos rest)) in
    record {
      is = e;
      may = m;
      weight = rw (weight-of e) (is-count j.weight (omega (signed, w)));
      phase = rw (phase-of e) (is-count j.phase (record { low = m.phase; high = phase }));
      deadline = rw (deadline-of e) (is-count j.deadline (omega (signed, m.deadline)));
      period = rw (period-of e) (is-count j.period (omega (signed, m.period)));
      runs = (at-place g p h).runs;
      light = omega (signed, w, abs_is j.weight, weight-of e);
    }
  where
    weight-of : numbers_in j ≡ given_at zs p → weight_at zs p ≡ nat_abs j.weight
    weight-of e = ap (λ (job : List ℤ). nat_abs (the_weight job)) (sym e)

    phase-of : numbers_in j ≡ given_at zs p → phase_at zs p ≡ nat_abs j.phase
    phase-of e = ap (λ (job : List ℤ). nat_abs (the_phase job)) (sym e)

    deadline-of : numbers_in j ≡ given_at zs p → nat_abs (the_deadline (given_at zs p)) ≡ nat_abs j.deadline
    deadline-of e = ap (λ (job : List ℤ). nat_abs (the_deadline job)) (sym e)

    period-of : numbers_in j ≡ given_at zs p → period_at zs p ≡ nat_abs j.period
    period-of e = ap (λ (job : List ℤ). nat_abs (the_period job)) (sym e)

-- ---- the frame

-- Of the first p jobs.
abbrev pub frame_to : List ℤ → ℕ → ℕ
frame_to zs p = lcm_from 1 (each (period_at zs) 0 p)

-- What is found on the way.
pub record GrownTo (zs : List ℤ) (p frame : ℕ) : Type 0 where
  pub some : 1 ≤ frame
  pub grown : Grown (frame_to zs p) frame

-- It starts at 1.
pub frame-starts : (zs : List ℤ) → GrownTo zs 0 1
frame-starts zs = record { some = omega arith; grown = whole (sym (ap (lcm_from 1) (each-end (period_at zs) 0))) }

-- One period more; where both are past the longest frame, both stay past it.
grown-more : (frame found p r : ℕ) → 1 ≤ frame → 1 ≤ found → 1 ≤ p → Grown frame found → Grown (lcm found p) r → Grown (lcm frame p) r
grown-more frame found p r a b c (whole e) g = rw e at g
grown-more frame found p r a b c (past x y) (whole e) =
    past (omega (arith, lcm-above found p b c)) (omega (arith, lcm-above frame p a c))
grown-more frame found p r a b c (past x y) (past u v) = past u (omega (arith, lcm-above frame p a c))

grown-positive : (frame found : ℕ) → 1 ≤ frame → Grown frame found → 1 ≤ found
grown-positive frame found a (whole e) = omega arith
grown-positive frame found a (past x y) = omega arith

module _ {zs : List ℤ} (g : GivenFine zs) where
  all-run : (p : ℕ) → p ≤ jobs_given zs → AllPositive (each (period_at zs) 0 p)
  all-run p h d m =
      let r = of-each (period_at zs) p m in
      rw r.2 (at-place g r.0 (omega (arith, r.1))).runs

  some_to : (p : ℕ) → p ≤ jobs_given zs → 1 ≤ frame_to zs p
  some_to p h = from-positive 1 (each (period_at zs) 0 p) (omega arith) (all-run p h)

  frame_on : (p : ℕ) → frame_to zs (p + 1) ≡ lcm (frame_to zs p) (period_at zs p)
  frame_on p = ap (lcm_from 1) (each_more (period_at zs) 0 p (omega arith)) ∙ from_more 1 (each (period_at zs) 0 p) (period_at zs p)

  pub frame-grows : (p frame period r : ℕ) → p < jobs_given zs → period ≡ period_at zs p → GrownTo zs p frame → Grown (lcm frame period) r
      → GrownTo zs (p + 1) r
  frame-grows p frame period r h e t k =
      let runs : 1 ≤ period_at zs p = (at-place g p h).runs in
      let grown : Grown (lcm (frame_to zs p) (period_at zs p)) r =
      grown-more (frame_to zs p) frame (period_at zs p) r (some_to p (omega arith)) t.some runs t.grown (rw e at k) in
      let next : Grown (frame_to zs (p + 1)) r = rw (frame_on p) grown in
      record { some = grown-positive (frame_to zs (p + 1)) r (some_to (p + 1) (omega arith)) next; grown = next }

-- Behind the last job it is the frame.
pub frame-ends : (zs : List ℤ) (p frame : ℕ) → p ≡ jobs_given zs → GrownTo zs p frame → Grown (frame_of zs) frame
unfolding frame_of
frame-ends zs p frame e t = rw e at t.grown

-- What is found past the longest frame says that the frame is past it, and what is not past it is the frame.
pub found-past : {frame found : ℕ} → Grown frame found → longest_frame < found → longest_frame < frame
found-past (whole e) l = omega arith
found-past (past x y) l = y

pub found-whole : {frame found : ℕ} → Grown frame found → found ≤ longest_frame → found ≡ frame
found-whole (whole e) l = e
found-whole (past x y) l = absurd (omega arith)

-- ---- the repeats

-- Those of one job weigh no more than the longest frame allows.
pub weighed-light : (times weight : ℕ) → CanWeigh times weight → times * weight ≤ longest_frame * heaviest
weighed-light times weight h = mul-le-mul h.few h.light

-- The repeats of the first p jobs are counted, and weighed.
pub record CountedTo (zs : List ℤ) (p count weight : ℕ) : Type 0 where
  pub counted : count ≡ total (times_at zs) p
  pub weighed : weight ≡ total (λ q. times_at zs q * weight_at zs q) p
  pub few : count ≤ longest_frame * p
  pub light : weight ≤ longest_frame * heaviest * p

-- Before the first there are none.
pub count-starts : (zs : List ℤ) → CountedTo zs 0 0 0
count-starts zs = record { counted = refl; weighed = refl; few = omega arith; light = omega arith }

module _ {zs : List ℤ} {frame : ℕ} (can : CanCount zs frame) where
  -- A job repeats at most once a second of the frame.
  pub times-few : (period : ℕ) → frame / period ≤ longest_frame
  times-few period = omega (arith, div-le_self frame period, can.short)

  -- One job more.
  pub count-on : {p : ℕ} {j : Repeating} → JobRead zs p j → (period weight more count sum : ℕ)
      → period ≡ period_at zs p → weight ≡ weight_at zs p
      → Weighs (frame / period) weight more → CountedTo zs p count sum → CountedTo zs (p + 1) (count + frame / period) (sum + more)
  count-on {p} {j} read period weight more count sum e f w t =
      let times : frame / period ≡ times_at zs p = ap₂ ◌/◌ can.is e in
      let next : p + 1 ≡ suc p = omega arith in
      record {
        counted = rw next (ap₂ ◌+◌ t.counted times);
        weighed = rw next (ap₂ ◌+◌ t.weighed (w.is ∙ ap₂ ◌*◌ times f));
        few = omega (arith, t.few, times-few period);
        light = omega (arith, t.light, w.light);
      }

-- Behind the last job all are.
pub count-ends : (zs : List ℤ) (p : ℕ) (totals : Totals) → p ≡ jobs_given zs → CountedTo zs p totals.count totals.weight
    → Counts zs totals
count-ends zs p totals e t =
    record {
      count = t.counted ∙ ap (total (times_at zs)) e ∙ sym (count-total zs);
      weight = t.weighed ∙ ap (total (λ q. times_at zs q * weight_at zs q)) e ∙ sym (weight-total zs);
    }
