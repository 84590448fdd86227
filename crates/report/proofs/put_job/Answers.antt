-- `report::put_job` meets its contract: the number, the start, and the end of the line.
-- Assumes nothing.
use mathlib.Core.List.{append_assoc}
use mir.Facts.{to_z-of_z}
use Rattle.text.specs.WritingLaws.{writes-more}
use Rattle.report.specs.Report.{job_line}
use Rattle.report.proofs.put_job.Goals as goal

pub returns : goal.returns
unfolding job_line
returns c =
    let both = writes-more c.figure.ensures (rw (to_z-of_z c.ranges.start) at c.put_start.ensures) in
    simp append_assoc at (writes-more both c.byte.ensures)
