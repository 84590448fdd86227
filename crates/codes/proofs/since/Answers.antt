-- `codes::since` meets its contract. Assumes nothing.
use mathlib.Core.Path.{◌≡◌, ap, ◌∙◌}
use lib.IntN.{ℤ, pos, nat_abs, ◌+ℤ◌}
use mir.Syntax.{w32}
use mir.Val.{SFits, to_z, of_z}
use mir.Facts.{to_z-of_z}
use Rattle.seconds.specs.RangesLaws.{rest-small}
use Rattle.seconds.specs.Signed.{signed, add_is, abs_is}
use Rattle.codes.proofs.since.Goals as goal
use Rattle.codes.proofs.since.Goals.{Start}

module _ (c : Start) where
  sum_is : to_z w32 (of_z w32 c.args.time) +ℤ pos 100000 ≡ c.args.time +ℤ pos 100000
  sum_is = ap (λ (z : ℤ). z +ℤ pos 100000) (to_z-of_z c.ranges.time)

  sum_fits : SFits w32 (to_z w32 (of_z w32 c.args.time) +ℤ pos 100000)
  sum_fits = let f = c.requires in rw sum_is (omega (signed, rest-small))

  sum_back : to_z w32 (of_z w32 (to_z w32 (of_z w32 c.args.time) +ℤ pos 100000)) ≡ c.args.time +ℤ pos 100000
  sum_back = to_z-of_z sum_fits ∙ sum_is

pub overflow_add-result : goal.overflow_add-result
overflow_add-result c = sum_fits c

pub overflow_cast-result : goal.overflow_cast-result
overflow_cast-result c =
    let f = c.requires in
    let x = c.args.time in
    rw (sum_back c)
    (omega (signed, add_is x (pos 100000)), omega (signed, rest-small, add_is x (pos 100000), abs_is (x +ℤ pos 100000)))

pub returns : goal.returns
returns c = ap nat_abs (sum_back c)
