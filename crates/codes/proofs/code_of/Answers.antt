-- `codes::code_of` meets its contract. Assumes nothing.
use Prim.Native.Nat.{ℕ, ◌+◌, ◌-◌, ◌*◌, ◌≤◌}
use mathlib.Core.Path.{◌≡◌, ap, ◌∙◌}
use native.Mathlib.Omega.{arith}
use lib.IntN.{pos}
use mir.Syntax.{w32}
use mir.Facts.{to_z-of_z, to_z_pos}
use Rattle.seconds.specs.Signed.{signed}
use Rattle.codes.specs.Code.{since, per_second, most_light}
use Rattle.codes.specs.CodeLaws.{since-few}
use Rattle.codes.proofs.code_of.Goals as goal
use Rattle.codes.proofs.code_of.Goals.{After-since}

module _ (c : After-since) where
  is : c.since.result ≡ since c.args.time
  is = c.since.ensures ∙ ap since (to_z-of_z c.ranges.time)

  few : c.since.result ≤ 201000
  few = omega (arith, is, since-few c.requires.0)

pub overflow_cast-result : goal.overflow_cast-result
overflow_cast-result c = let h = few c in omega signed

pub returns : goal.returns
returns c =
    let h = few c in
    to_z_pos w32 (omega signed) ∙ ap (λ (n : ℕ). pos (n * per_second + (most_light - c.args.weight))) (is c)
