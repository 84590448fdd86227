-- The text that the program prints for a stream, and for what is held of one (R50). Definitions only.
use Rattle.std.specs.Prelude.{ℕ, cond, List, ltb}
use Rattle.packed.specs.Judge.{plainly}
use Rattle.report.specs.Report.{refusal_line}
use Rattle.sheet.specs.Sheet.{Sheet}
use Rattle.sheet_text.specs.SheetText.{sheet_text}
use Rattle.streams.specs.Entries.{is_cut, too_many, stream_sheet}
use Rattle.streams.specs.Stream.{over}

-- The text of its sheet; with more than 10,000 whole entries the line of refusal 18.
unfoldable pub week_text : List ℕ → List ℕ
week_text stream = cond (too_many stream) (refusal_line (plainly 18)) (sheet_text (stream_sheet stream) (is_cut stream))

-- By the figures held, and how many bytes of a further length have come.
unfoldable pub held_text : Sheet → ℕ → List ℕ
held_text d known = cond (over d) (refusal_line (plainly 18)) (sheet_text d (ltb 0 known))
