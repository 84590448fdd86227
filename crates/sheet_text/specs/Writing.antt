-- What the functions that write a sheet's text ask of the numbers and of the buffer. Definitions only.
use Rattle.std.specs.Prelude.{ℕ, ◌+◌, ◌*◌, ◌≤◌, ◌≡◌, true, List, length}
use Rattle.sheet.specs.Sheet.{sum_count, figure_count, sheet_in, is_sheet}
use Rattle.text.specs.declared.Writer.{Writer}
use Rattle.sheet_text.specs.SheetText.{sheet_room}

-- The sums can be listed: they are there, and there is room for a line of each.
pub record CanList (figures : List ℕ) (text : Writer) : Type 0 where
  pub numbers : sum_count ≤ length figures
  pub room : text.at + 11 * sum_count ≤ length text.out.now

-- A text can be put: the numbers are a sheet's, and there is room.
pub record CanPut (figures out : List ℕ) : Type 0 where
  pub numbers : figure_count ≤ length figures
  pub room : sheet_room ≤ length out
  pub sheet : is_sheet (sheet_in figures) ≡ true
