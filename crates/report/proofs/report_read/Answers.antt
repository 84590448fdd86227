-- `report::report_read` meets its contract: so many bytes of the buffer, or all of it, are reported.
-- Assumes nothing.
use mathlib.Core.Path.{sym}
use native.Mathlib.Omega.{arith}
use lib.Seq.{take_all, length-take-le}
use Rattle.report.proofs.report_read.Goals as goal

pub slice_bounds-report-end : goal.slice_bounds-report-end
slice_bounds-report-end c =
    let a = c.args in
    sym (length-take-le a.count a.input.now (omega arith))

pub returns : goal.returns
returns c =
    let reported = c.report-2 in
    let a = c.args in
    rw (take_all a.count a.input.now (omega arith)) reported.ensures
