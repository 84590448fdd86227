-- `starting::take_turn` meets its contract: the start is the greater of the two times, and the bus is free a rest after the end.
-- Assumes nothing.
use Rattle.std.proofs.Common.{ℕ, ◌≡◌, sym, ap, ap₂, ◌∙◌, refl, cond, true, ℤ, pos, ◌+ℤ◌, rules, w32, to_z, of_z, to_z-of_z}
use mir.Val.{SFits}
use Rattle.seconds.specs.Limits.{rest}
use Rattle.seconds.specs.Ranges.{InTime, max_z}
use Rattle.seconds.specs.RangesLaws.{time-fits}
use Rattle.fields.specs.Fields.{as_job}
use Rattle.fields.specs.Facts.{JobFacts, job-facts, JobFits, facts-fit}
use Rattle.starting.specs.Picks.{turn_of}
use Rattle.starting.specs.StartsLaws.{turn-kept}
use Rattle.starting.proofs.take_turn.Goals as goal
use Rattle.starting.proofs.take_turn.Goals.{After-greater-start}

-- A kept job: its start, its end and the bus-free time.
module _ (c : After-greater-start) where
  abbrev start : ℤ
  start = max_z c.args.job.ready c.args.free

  abbrev end : ℤ
  end = start +ℤ c.args.job.length

  facts : JobFacts c.args.job
  facts = (job-facts c.args.job).0 c.requires.within

  fitting : JobFits c.args.job
  fitting = facts-fit c.args.job facts

  one : cond {A = ℕ} c.args.kept 1 0 ≡ 1
  one = let e : c.args.kept ≡ true = c.if-not-kept.false in rw e refl

  turn : InTime end
      × (turn_of (as_job c.args.job) (cond c.args.kept 1 0) c.args.free
      ≡ record { start = start; free = end +ℤ pos rest })
  turn =
      turn-kept c.args.job (cond c.args.kept 1 0) c.args.free facts
      one c.requires.may

  start_is : to_z w32 (of_z w32 c.greater-start.result) ≡ start
  start_is =
      let f : SFits w32 c.greater-start.result = search rules in
      to_z-of_z f ∙ c.greater-start.ensures ∙ ap₂ max_z (to_z-of_z fitting.ready) (to_z-of_z c.ranges.free)

  end_is : to_z w32 (of_z w32 c.greater-start.result) +ℤ to_z w32 (of_z w32 c.args.job.length) ≡ end
  end_is = ap₂ ◌+ℤ◌ start_is (to_z-of_z fitting.long)

  end_fits : SFits w32 (to_z w32 (of_z w32 c.greater-start.result) +ℤ to_z w32 (of_z w32 c.args.job.length))
  end_fits = rw end_is (time-fits turn.0)

pub overflow_add-start : goal.overflow_add-start
overflow_add-start c = end_fits (goal.at.overflow_add-start c).After-greater-start

pub rested-requires : goal.rested-requires
rested-requires c =
    let called = (goal.at.rested-requires c).After-greater-start in
    rw (to_z-of_z (end_fits called), end_is called) (turn called).0

pub returns : goal.returns
returns c =
    let called = (goal.at.returns c).After-greater-start in
    let f : SFits w32 c.rested.result = search rules in
    let end-back = to_z-of_z (end_fits called) ∙ end_is called in
    let free = to_z-of_z f ∙ c.rested.ensures ∙ ap (λ (z : ℤ). z +ℤ pos rest) end-back in
    rw (start_is called, free) (sym (turn called).1)
