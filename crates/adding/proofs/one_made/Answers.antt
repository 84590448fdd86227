-- `adding::one_made` meets its contract: the figures are set one by one. Assumes nothing.
use mathlib.Core.Path.{ap}
use mathlib.Core.List.{List}
use Prim.Native.Nat.{ℕ, ◌+◌}
use lib.ListN.{set}
use Rattle.sheet.specs.Sheet.{no_sheet, one_order}
use Rattle.adding.proofs.one_made.Goals as goal

pub returns : goal.returns
unfolding no_sheet one_order
returns c =
    let f = c.args.figures in
    ap
    (λ (l : List ℕ). set (set (set (set (set (set l 0 1) 20 1) 21 (f.kept_weight + f.lost_weight)) 22 f.kept_weight) 23 f.kept) 24 (f.points + 1))
    c.none-one.ensures
