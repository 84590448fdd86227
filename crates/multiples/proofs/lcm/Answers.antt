-- `multiples::lcm` meets its contract: the divisor is not 0, and two factors of 32 bits have a product of 64.
-- Assumes nothing.
use mathlib.Core.Path.{◌≡◌, ap}
use Prim.Native.Nat.{◌*◌, ◌/◌}
use Rattle.multiples.specs.Multiples.{gcd, lcm}
use Rattle.multiples.specs.MultiplesLaws.{gcd-positive}
use Rattle.multiples.proofs.lcm.Goals as goal

pub nonzero_div-result : goal.nonzero_div-result
nonzero_div-result c = rw c.gcd-common.ensures (gcd-positive c.args.a _ c.requires.first)

pub returns : goal.returns
unfolding lcm
returns c =
    let a = c.args.a in
    let b = c.args.b in
    let common : c.gcd-common.result ≡ gcd a b = c.gcd-common.ensures in
    ap (λ d. a / d * b) common
