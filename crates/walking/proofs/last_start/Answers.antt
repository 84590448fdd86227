-- `walking::last_start` meets its contract: the lesser of the deadline and the end that leaves a rest, less the length.
-- Assumes nothing.
use mathlib.Core.Path.{◌≡◌, ap₂, ◌∙◌}
use lib.IntN.{ℤ, pos, ◌-ℤ◌}
use mir.Syntax.{w32}
use mir.Val.{SFits, to_z, of_z}
use mir.Facts.{to_z-of_z}
use borrow.Author.Rules.{rules}
use Rattle.seconds.specs.Limits.{rest}
use Rattle.seconds.specs.RangesLaws.{rest-small}
use Rattle.seconds.specs.Signed.{signed, add_is, sub_is, min_z, min-is}
use Rattle.walking.proofs.last_start.Goals as goal
use Rattle.walking.proofs.last_start.Goals.{After-lesser, After-rested, Start}

pub rested-requires : goal.rested-requires
rested-requires c = omega signed

-- The end that leaves a rest.
module _ (c : After-rested) where
  end_is : to_z w32 (of_z w32 c.args.by) -ℤ to_z w32 (of_z w32 c.rested.result) ≡ c.args.by -ℤ pos rest
  end_is =
      let f : SFits w32 c.rested.result = search rules in
      let r : to_z w32 (of_z w32 c.rested.result) ≡ pos rest = omega (signed, c.rested.ensures, add_is (pos 0) (pos rest)) in
      ap₂ (λ x y. x -ℤ y) (to_z-of_z c.ranges.by) r

  end_fits : SFits w32 (to_z w32 (of_z w32 c.args.by) -ℤ to_z w32 (of_z w32 c.rested.result))
  end_fits = rw end_is (omega (signed, c.requires.free, rest-small))

pub overflow_sub-end : goal.overflow_sub-end
overflow_sub-end c = end_fits c

-- The lesser of the two ends, less the length.
module _ (c : After-lesser) where
  abbrev entry : Start
  entry = (goal.at.After-lesser c).Start

  abbrev end : ℤ
  end = entry.args.by -ℤ pos rest

  last-is : to_z w32 (of_z w32 c.lesser.result) ≡ min_z entry.args.deadline end
  last-is =
      to_z-of_z {w = w32} {z = c.lesser.result} (search rules)
      ∙ c.lesser.ensures
      ∙ ap₂ min_z (to_z-of_z entry.ranges.deadline) (to_z-of_z (end_fits (goal.at.After-lesser c).After-rested) ∙ end_is (goal.at.After-lesser c).After-rested)

  start_is : to_z w32 (of_z w32 c.lesser.result) -ℤ to_z w32 (of_z w32 entry.args.long)
      ≡ min_z entry.args.deadline end -ℤ entry.args.long
  start_is = ap₂ (λ x y. x -ℤ y) last-is (to_z-of_z entry.ranges.long)

  start_fits : SFits w32 (to_z w32 (of_z w32 c.lesser.result) -ℤ to_z w32 (of_z w32 entry.args.long))
  start_fits =
      rw start_is
      (omega (signed, entry.requires, rest-small, min-is entry.args.deadline end, sub_is entry.args.by (pos rest)))

pub overflow_sub-result : goal.overflow_sub-result
overflow_sub-result c = start_fits c

pub returns : goal.returns
returns c = to_z-of_z (start_fits c) ∙ start_is c
