-- `feeding::is_state` meets its contract: a sheet's figures, and what has come of an entry. Assumes nothing.
use mathlib.Core.Path.{sym, ◌∙◌}
use Rattle.streams.specs.Stream.{is_state}
use Rattle.feeding.proofs.is_state.Goals as goal

pub returns-then-is_sheet : goal.returns-then-is_sheet
unfolding is_state
returns-then-is_sheet c = rw (sym c.is_sheet.ensures ∙ c.if-is_sheet.true) c.part_fits.ensures

pub returns-else-is_sheet : goal.returns-else-is_sheet
unfolding is_state
returns-else-is_sheet c = rw (sym c.is_sheet.ensures ∙ c.if-is_sheet.false) c.if-is_sheet.false
