-- `filling::fill_by_cells` meets its contract. The loop's invariant is `Filling`, from every work area from which the lists so far
-- are filled: the lists of the first k jobs are said, and the row has the cells of the last. Assumes nothing.
use Rattle.std.proofs.Common.{arith, refl}
use Rattle.sweeping.specs.SweepLaws.{by-list, can-spread}
use Rattle.filling.specs.ListsLaws.{filling-spread, next-can, filling-more, filling-all, sums-small}
use Rattle.filling.proofs.fill_by_cells.Goals as goal

pub spread-requires : goal.spread-requires
spread-requires c = can-spread (by-list refl c.requires.filled.filling.holds) c.requires.size

pub loop-k-init : goal.loop-k-init
loop-k-init c = record {
  filling = λ count first can sofar. filling-spread can sofar.filling refl c.spread.ensures;
  buffer = c.buffer-pushed.ensures;
}

-- The next job can be stepped by.
pub cells_one-next-requires : goal.cells_one-next-requires
cells_one-next-requires c =
    let g = c.requires in
    let own = c.loop-k.invariant.filling g.count g.work₀ g.can g.filled in
    next-can g.can own c.loop-k-test.true c.loop-k.invariant.buffer

-- With its list there is one more, and the sums stay small.
pub overflow_add-totals : goal.overflow_add-totals
overflow_add-totals c =
    let g = c.requires in
    let own = c.loop-k.invariant.filling g.count g.work₀ g.can g.filled in
    let more = filling-more g.can own c.loop-k-test.true c.cells_one-next.ensures in
    omega (arith, (sums-small g.can more).0, c.loop-k-test.true, g.can.jobs, g.can.order.header.few)

pub overflow_add-totals-in-loop-k : goal.overflow_add-totals-in-loop-k
overflow_add-totals-in-loop-k c =
    let g = c.requires in
    let own = c.loop-k.invariant.filling g.count g.work₀ g.can g.filled in
    let more = filling-more g.can own c.loop-k-test.true c.cells_one-next.ensures in
    omega (arith, (sums-small g.can more).1)

pub loop-k-preserved : goal.loop-k-preserved
loop-k-preserved c = record {
  filling = λ count first can sofar.
      filling-more can (c.loop-k.invariant.filling count first can sofar) c.loop-k-test.true c.cells_one-next.ensures;
  buffer = c.cells_one-next.ensures.buffer;
}

pub returns : goal.returns
returns c count first can sofar =
    filling-all can (c.loop-k.invariant.filling count first can sofar) (omega (arith, sofar.order, c.loop-k-test.false))
