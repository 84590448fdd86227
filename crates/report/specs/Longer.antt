-- Input past 436 bytes, the longest order: a program that reads more than 436 bytes of it has read enough.
use Rattle.std.specs.Prelude.{ℕ, ◌<◌, ◌≡◌, List, take}
use Rattle.planner.specs.Calls.{longest_order}
use Rattle.planner.specs.Longer.{front-enough}
use Rattle.report.specs.Report.{refusal_line, text_of, report_of}

-- The first bytes of any input, if they are more than the longest order has, have the text of the whole input.
pub read-enough : (size : ℕ) → longest_order < size → (input : List ℕ) → report_of (take size input) ≡ report_of input
unfolding report_of text_of
read-enough = front-enough report_of refusal_line (λ bytes r e. rw e)
