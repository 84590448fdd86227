-- `point_records::lookup_records` meets its contract: turn by turn one record more is laid out, and as many as are read decide the
-- answer. Assumes nothing.
use Rattle.point_records.specs.RecordLaws.{Laid}
use Rattle.point_records.proofs.lookup_records.Given as goal

-- The numbers of i records are written.
abbrev pub invariant-loop-i : goal.invariant-loop-i
invariant-loop-i l = Laid l.points l.count l.i l.numbers l.initial.numbers
