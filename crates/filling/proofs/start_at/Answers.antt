-- `filling::start_at` meets its contract. Assumes nothing.
use borrow.Author.Rules.{rules}
use mathlib.Core.Path.{◌≡◌, ap, ◌∙◌}
use lib.IntN.{ℤ}
use mir.Syntax.{w32}
use mir.Val.{SFits, to_z, of_z}
use mir.Facts.{to_z-of_z}
use Rattle.codes.specs.Code.{code_of}
use Rattle.filling.specs.BeginLaws.{started}
use Rattle.filling.proofs.start_at.Goals as goal

pub returns : goal.returns
returns c =
    let f : SFits w32 c.code_of.result = search rules in
    let is : to_z w32 (of_z w32 c.code_of.result) ≡ code_of c.args.t0 0 =
    to_z-of_z f ∙ c.code_of.ensures ∙ ap (λ (t : ℤ). code_of t 0) (to_z-of_z c.ranges.t0) in
    rw is (started c.requires)
