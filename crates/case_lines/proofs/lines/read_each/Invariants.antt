-- `case_lines::lines::read_each` is safe and ends: no more is read than the buffer holds. Assumes nothing.
use Rattle.std.proofs.Common.{◌≤◌}
use Rattle.case_lines.proofs.lines.read_each.Given as goal

abbrev pub invariant-loop-place : goal.invariant-loop-place
invariant-loop-place g l = l.count ≤ l.place-index
