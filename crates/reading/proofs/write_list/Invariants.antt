-- `reading::write_list` meets its contract: the first k points are written. Assumes nothing.
use Rattle.reading.specs.Listing.{Listing}
use Rattle.reading.proofs.write_list.Given as goal

abbrev pub invariant-loop-k : goal.invariant-loop-k
invariant-loop-k l = Listing l.work l.fn.list.place l.fn.list.count l.k l.out l.initial.out
