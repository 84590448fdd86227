-- `best_plan::keeps` meets its contract: the bit of a place stands so many places from the last.
-- Assumes nothing.
use Prim.Native.Nat.{ℕ, suc, ◌-◌, ◌/◌, ◌%◌, ◌^◌}
use mathlib.Core.Path.{◌≡◌, ap}
use mathlib.Core.Bool.{not}
use native.Mathlib.Omega.{arith}
use lib.Dec.{eqb}
use Rattle.best_plan.proofs.keeps.Goals as goal

pub returns : goal.returns
returns c =
    let same : 47 - c.args.place ≡ 48 - suc c.args.place = omega (arith, c.requires) in
    ap (λ (k : ℕ). not (eqb (c.args.mask / 2 ^ k % 2) 0)) same
