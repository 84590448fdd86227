-- The jobs that are given: what it is that one may repeat, and what it is to pass 3, 4 and 16.
use Rattle.std.specs.Prelude.{ℕ, ◌+◌, ◌%◌, ◌≤◌, ◌≡◌, true, ◌↔◌, List, ℤ, pos, nat_abs, ◌+ℤ◌, length}
use Rattle.std.proofs.Math.Path.{ap}
use Rattle.std.proofs.Math.Bool.{not}
use Rattle.std.proofs.Common.{arith}
use Rattle.std.specs.Int.Signed.{le_z}
use borrow.Author.Tests.{ltb-false, le-ltb, eqb-true, eq-eqb, not-false}
use Rattle.seconds.specs.Limits.{rest, longest_frame}
use Rattle.seconds.specs.Signed.{signed, add_is, abs_is}
use Rattle.seconds.specs.RangesLaws.{between-true}
use Rattle.packed.specs.Judge.{fine, judge}
use Rattle.packed.specs.JudgeLaws.{judge-at}
use Rattle.packed.specs.PlacesLaws.{IsFirst, first-is, first-none}
use Rattle.packed.specs.Refusals.{all_true}
use Rattle.packed.proofs.RefusalLaws.{all-at, test-is}
use Rattle.frames.specs.Frames.{the_phase, the_deadline, the_period, repeating_tests, may_repeat}
use Rattle.frames.specs.Facts.{MayRepeat, GivenFine}
use Rattle.frames.specs.Frames.{jobs_given, given_at, unfit_at, phase_at, period_at, first_unfit, given_checks}

-- ---- one job

-- The tests say so.
pub may-repeat : (job : List ℤ) → may_repeat job ≡ true ↔ MayRepeat job
unfolding may_repeat
may-repeat job = (there, back)
  where
    there : all_true (repeating_tests job) ≡ true → MayRepeat job
    there e =
        let phase = all-at (repeating_tests job) 2 e in
        let timely = all-at (repeating_tests job) 6 e in
        record {
          mark = (between-true _ _ _).0 (all-at (repeating_tests job) 0 e);
          weight = all-at (repeating_tests job) 1 e;
          phase = omega signed;
          long = (between-true _ _ _).0 (all-at (repeating_tests job) 3 e);
          deadline = (between-true _ _ _).0 (all-at (repeating_tests job) 4 e);
          period = (between-true _ _ _).0 (all-at (repeating_tests job) 5 e);
          timely = omega signed;
        }

    back : MayRepeat job → all_true (repeating_tests job) ≡ true
    back m =
        let phase : le_z (pos 0) (the_phase job) ≡ true = omega (signed, m.phase) in
        let timely : le_z ((the_phase job +ℤ the_deadline job) +ℤ pos rest) (the_period job) ≡ true = omega (signed, m.timely) in
        rw (test-is m.mark, m.weight, phase, test-is m.long, test-is m.deadline, test-is m.period, timely)

-- What they are as counts.
pub record Counted (zs : List ℤ) (p : ℕ) : Type 0 where
  pub runs : 1 ≤ period_at zs p
  pub short : period_at zs p ≤ longest_frame
  pub due : 1 ≤ nat_abs (the_deadline (given_at zs p))
  pub timely : phase_at zs p + nat_abs (the_deadline (given_at zs p)) + rest ≤ period_at zs p

pub counted : (zs : List ℤ) (p : ℕ) → MayRepeat (given_at zs p) → Counted zs p
counted zs p m =
    let job = given_at zs p in
    record {
      runs = omega (signed, m.period, abs_is (the_period job));
      short = omega (signed, m.period, abs_is (the_period job));
      due = omega (signed, m.deadline, abs_is (the_deadline job));
      timely =
          omega (
            signed,
            m.timely,
            m.phase,
            m.deadline,
            m.period,
            abs_is (the_phase job),
            abs_is (the_deadline job),
            abs_is (the_period job),
            add_is (the_phase job) (the_deadline job),
            add_is (the_phase job +ℤ the_deadline job) (pos rest),
          );
    }

-- ---- all jobs

-- The place of 16 is the first whose job may not repeat.
pub unfit-is-first : (zs : List ℤ) → IsFirst (unfit_at zs) 0 (jobs_given zs) (first_unfit zs)
unfolding first_unfit
unfit-is-first zs = first-is (unfit_at zs) 0 (jobs_given zs) (omega arith)

-- The checks say so.
pub given-fine : (zs : List ℤ) → judge (given_checks zs) ≡ fine ↔ GivenFine zs
unfolding given_checks jobs_given
given-fine zs = (there, back)
  where
    there : judge (given_checks zs) ≡ fine → GivenFine zs
    there e =
        let at = judge-at (given_checks zs) e in
        let few : length zs ≤ 96 = ltb-false _ _ (at 0) in
        let whole : length zs % 6 ≡ 0 = eqb-true _ _ (not-false _ (at 1)) in
        let all : jobs_given zs ≤ first_unfit zs = ltb-false _ _ (at 2) in
        let f = unfit-is-first zs in
        record {
          few = omega arith;
          whole = omega arith;
          repeat = λ p h. (may-repeat (given_at zs p)).0 (not-false _ (f.before p (omega arith) (omega arith)));
        }

    back : GivenFine zs → judge (given_checks zs) ≡ fine
    back g =
        let none : first_unfit zs ≡ jobs_given zs =
        unfold first_unfit in
        first-none (unfit_at zs) 0 (jobs_given zs) (omega arith)
        (λ p a b. ap not ((may-repeat (given_at zs p)).1 (g.repeat p b))) in
        rw (
          le-ltb 96 (length zs) (omega (arith, g.few, g.whole)),
          eq-eqb (length zs % 6) 0 (omega (arith, g.whole)),
          none,
          le-ltb (jobs_given zs) (jobs_given zs) (omega arith),
        )
