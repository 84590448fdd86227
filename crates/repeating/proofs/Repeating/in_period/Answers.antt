-- `repeating::Repeating::in_period` meets its contract: with the numbers in range no difference overflows, and the rest of the code
-- is the rest of the definitions. No other proof of this crate opens it. Assumes nothing.
use lib.IntN.{ℤ, pos, ◌-ℤ◌}
use mir.Syntax.{w32}
use mir.Val.{SFits, to_z, of_z}
use mir.Facts.{to_z-of_z}
use borrow.Author.Rules.{rules}
use Rattle.seconds.specs.Limits.{rest}
use Rattle.seconds.specs.Signed.{signed}
use Rattle.repeating.specs.Repeating.{in_period}
use Rattle.repeating.specs.RepeatingLaws.{RepeatingFits, InRange, in-range, left_is}
use Rattle.repeating.specs.declared.Repeating.{Repeating}
use Rattle.repeating.proofs.Repeating.in_period.Goals as goal
use Rattle.repeating.proofs.Repeating.in_period.Goals.{Start}

-- Each number of the job is an i32.
fits : (c : Start) → RepeatingFits c.args.self
fits c =
    record {
      critical = search rules;
      weight = search rules;
      phase = search rules;
      long = search rules;
      deadline = search rules;
      period = search rules;
    }

-- What is left of the period behind the rest, and behind the deadline too.
module _ (j : Repeating) (f : RepeatingFits j) (r : InRange j) where
  abbrev left : ℤ
  left = to_z w32 (of_z w32 j.period) -ℤ pos 15

  left-fits : SFits w32 left
  left-fits = omega (signed, r.period, f.period)

  behind-fits : SFits w32 (to_z w32 (of_z w32 left) -ℤ to_z w32 (of_z w32 j.deadline))
  behind-fits = omega (signed, r.period, r.deadline, f.period, f.deadline, left-fits)

pub overflow_sub-result : goal.overflow_sub-result
overflow_sub-result c = left-fits c.args.self (fits (goal.at.overflow_sub-result c).Start) (in-range c.args.self c.requires)

pub overflow_sub-result-2 : goal.overflow_sub-result-2
overflow_sub-result-2 c = behind-fits c.args.self (fits (goal.at.overflow_sub-result-2 c).Start) (in-range c.args.self c.requires)

pub returns : goal.returns
unfolding in_period rest
returns c =
    let j : Repeating = c.args.self in
    let f : RepeatingFits c.args.self = fits (goal.at.returns c).Start in
    let r : InRange c.args.self = in-range j c.requires in
    rw (
      to_z-of_z (behind-fits j f r),
      to_z-of_z (left-fits j f r),
      to_z-of_z f.phase,
      to_z-of_z f.deadline,
      to_z-of_z f.period,
    )
    (left_is rest j.phase j.deadline j.period)
