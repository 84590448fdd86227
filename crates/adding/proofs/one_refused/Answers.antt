-- `adding::one_refused` meets its contract: one order, and one refused by its number. Assumes nothing.
use mathlib.Core.Path.{ap₂, ◌∙◌}
use mathlib.Core.List.{List}
use Prim.Native.Nat.{ℕ}
use lib.ListN.{set}
use Rattle.sheet.specs.Sheet.{no_sheet}
use Rattle.adding.specs.AddingLaws.{refused-numbers}
use Rattle.adding.proofs.one_refused.Goals as goal

pub returns : goal.returns
unfolding no_sheet
returns c =
    ap₂ (λ (l : List ℕ) (k : ℕ). set (set l 0 1) k 1) c.none-one.ensures c.number.ensures ∙ refused-numbers c.args.refusal c.requires
