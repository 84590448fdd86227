-- `fractions::lowest_terms` meets its contract: the divisor is not 0, since the lower number is not.
-- Assumes nothing.
use Prim.Native.Nat.{◌/◌}
use mathlib.Core.Path.{◌≡◌, ap}
use Rattle.multiples.specs.Multiples.{gcd}
use Rattle.multiples.specs.MultiplesLaws.{gcd-some}
use Rattle.fractions.specs.Fractions.{lowest_of}
use Rattle.fractions.proofs.lowest_terms.Goals as goal

pub nonzero_div-result : goal.nonzero_div-result
nonzero_div-result c = rw c.gcd-common.ensures (gcd-some _ c.args.b c.requires)

pub nonzero_div-result-2 : goal.nonzero_div-result-2
nonzero_div-result-2 c = rw c.gcd-common.ensures (gcd-some _ c.args.b c.requires)

pub returns : goal.returns
unfolding lowest_of
returns c =
    let a = c.args.a in
    let b = c.args.b in
    let common : c.gcd-common.result ≡ gcd a b = c.gcd-common.ensures in
    ap (λ g. record { upper = a / g; lower = b / g }) common
