-- `multiples::gcd` meets its contract. The invariant: the two numbers at hand have the divisor that is asked for. The measure is the
-- second of them. Assumes nothing.
use mathlib.Core.Path.{◌≡◌, sym, ◌∙◌}
use native.Mathlib.Omega.{arith}
use Rattle.multiples.specs.Multiples.{gcd}
use Rattle.multiples.specs.MultiplesLaws.{gcd-zero, gcd-step}
use Rattle.multiples.proofs.gcd.Goals as goal
use Rattle.multiples.proofs.gcd.Goals.{At-loop-y}

pub loop-y-preserved : goal.loop-y-preserved
loop-y-preserved c = sym (gcd-step c.loop-y.x c.loop-y.y (omega arith)) ∙ c.loop-y.invariant

pub returns : goal.returns
returns c =
    let l : At-loop-y = c.before in
    let end : l.loop-y.y ≡ 0 = omega arith in
    let found : gcd l.loop-y.x 0 ≡ gcd l.args.a l.args.b = rw end at l.loop-y.invariant in
    sym (gcd-zero l.loop-y.x) ∙ found
