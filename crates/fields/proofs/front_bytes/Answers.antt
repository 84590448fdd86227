-- `fields::front_bytes` meets its contract: four bytes in kind 0, else five.
-- Assumes nothing.
use mathlib.Core.Path.{◌≡◌, ◌∙◌, sym, ap}
use native.Mathlib.Omega.{arith}
use Rattle.packed.specs.Layout.{front_bytes}
use Rattle.fields.specs.Bits.{front-old, front-new}
use Rattle.fields.proofs.front_bytes.Goals as goal

pub returns-then-kind-eq0 : goal.returns-then-kind-eq0
returns-then-kind-eq0 c =
    let e : c.args.kind ≡ 0 = omega arith in
    sym (ap front_bytes e ∙ front-old)

pub returns : goal.returns
returns c = sym (front-new c.args.kind (omega arith))
