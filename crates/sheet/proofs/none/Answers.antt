-- `sheet::none` meets its contract: all numbers of the sheet of no order are 0. Assumes nothing.
use mathlib.Core.Path.{refl}
use Rattle.sheet.specs.Sheet.{no_sheet}
use Rattle.sheet.proofs.none.Goals as goal

pub returns : goal.returns
unfolding no_sheet
returns c = refl
