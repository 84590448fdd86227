-- `report::put_jobs` meets its contract. The loop's invariant: the lines of the jobs passed are written, and each has at most
-- 23 bytes. Assumes nothing.
use Prim.Native.Nat.{◌*◌}
use Rattle.text.specs.Writing.{Writes}
use Rattle.report.specs.Writing.{listed}
use Rattle.report.proofs.put_jobs.Given as goal

abbrev pub invariant-loop-place : goal.invariant-loop-place
invariant-loop-place l = Writes (listed l.records.bytes.now l.starts l.place) (23 * l.place) l.initial.text l.text
