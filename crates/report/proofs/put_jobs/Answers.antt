-- `report::put_jobs` meets its contract. The loop's invariant: the lines of the jobs passed are written, and each has at most
-- 23 bytes. Assumes nothing.
use borrow.Author.Rules.{rules}
use mir.Facts.{to_z-of_z}
use Prim.Native.Nat.{◌<◌}
use native.Mathlib.Omega.{arith}
use lib.IntN.{pos}
use lib.ListN.{length, get_or}
use mir.Syntax.{w32}
use Rattle.packed.specs.Packed.{count_of, job_in}
use Rattle.text.specs.Writing.{Writes}
use Rattle.text.specs.WritingLaws.{writes-none, writes-more, writes-wider}
use Rattle.report.specs.Report.{job_line}
use Rattle.report.specs.WritingLaws.{number-casts, number_is, listed-none, listed_more}
use Rattle.report.proofs.put_jobs.Goals as goal

pub loop-place-init : goal.loop-place-init
loop-place-init c = rw (listed-none c.args.records.bytes.now c.args.starts.now) (writes-none (omega (arith, c.requires.room)))

pub overflow_cast-job : goal.overflow_cast-job
overflow_cast-job c =
    let below : c.loop-place.place < count_of c.args.records.bytes.now = omega (arith, c.loop-place-test.true, c.requires.count) in
    number-casts c.args.records.bytes.now c.requires.order c.loop-place.place below c.job_at-job.result c.job_at-job.ensures

pub loop-place-preserved : goal.loop-place-preserved
loop-place-preserved c =
    let bytes = c.args.records.bytes.now in
    let starts = c.args.starts.now in
    let place = c.loop-place.place in
    let below : c.loop-place.place < count_of c.args.records.bytes.now = omega (arith, c.loop-place-test.true, c.requires.count) in
    let room : c.loop-place.place < length c.args.starts.now = omega (arith, c.loop-place-test.true, c.requires.places) in
    let number = number_is bytes c.requires.order place below c.job_at-job.result c.job_at-job.ensures in
    let start_back = to_z-of_z {w = w32} {z = (get_or starts place (pos 0))} (search rules) in
    let next : Writes (job_line (job_in bytes place).number (get_or starts place (pos 0))) 23 _ _ = rw (number, start_back) at c.put_job.ensures in
    rw (listed_more bytes starts place room) (writes-wider (omega arith) (writes-more c.loop-place.invariant next))
