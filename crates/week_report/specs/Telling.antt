-- What telling of a stream asks, and what is known at its end. Definitions only.
use Rattle.std.specs.Prelude.{ℕ, ◌≤◌, ◌≡◌, true, List, ℤ, length}
use Rattle.area.specs.Area.{area}
use Rattle.sheet.specs.Sheet.{figure_count, no_sheet, numbers_of, sheet_in, fits}
use Rattle.sheet_text.specs.SheetText.{sheet_room}
use Rattle.streams.specs.Stream.{front_room, edge, run}
use Rattle.feeding.specs.Feeding.{seen, Sound}
use Rattle.feeding.specs.declared.Part.{Part}
use Rattle.week_report.specs.WeekText.{week_text}

-- The figures fit together, and there is room for a text.
pub record CanTell (figures out : List ℕ) : Type 0 where
  pub long : figure_count ≤ length figures
  pub fitting : fits (sheet_in figures) ≡ true
  pub room : sheet_room ≤ length out

-- Reading can begin: the figures are those of no order, and there is room for a front and a work area.
pub record CanRead (figures front : List ℕ) (work : List ℤ) : Type 0 where
  pub none : figures ≡ numbers_of no_sheet
  pub wide : front_room ≤ length front
  pub space : area ≤ length work

-- Some bytes have come, and the numbers hold their state; the front held anything before them.
pub record Reached (p : Part) (figures front : List ℕ) : Type 0 where
  pub sound : Sound p figures front
  pub lent : List ℕ
  pub wide : front_room ≤ length lent
  pub stream : List ℕ
  pub state : seen p figures front ≡ run (edge no_sheet lent) stream

-- A text is that of some stream.
pub record Says (text : List ℕ) : Type 0 where
  pub stream : List ℕ
  pub is : text ≡ week_text stream
