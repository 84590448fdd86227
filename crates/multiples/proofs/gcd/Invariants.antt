-- `multiples::gcd` meets its contract. The invariant: the two numbers at hand have the divisor that is asked for. The measure is the
-- second of them. Assumes nothing.
use mathlib.Core.Path.{◌≡◌}
use Rattle.multiples.specs.Multiples.{gcd}
use Rattle.multiples.proofs.gcd.Given as goal

abbrev pub invariant-loop-y : goal.invariant-loop-y
invariant-loop-y l = gcd l.x l.y ≡ gcd l.a l.b

abbrev pub decreases-loop-y : goal.decreases-loop-y
decreases-loop-y l = l.y
