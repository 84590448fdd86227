-- `filling::fill_by_lists` meets its contract. The loop's invariant is `Filling`: the lists of the first k jobs stand.
-- Assumes nothing.
use Prim.Native.Nat.{◌+◌}
use mathlib.Core.Path.{refl}
use mathlib.Core.Bool.{false}
use mathlib.Core.List.{[]}
use native.Mathlib.Omega.{arith}
use lib.ListN.{set}
use Rattle.filling.specs.Lists.{noted, as_stretch, Filling}
use Rattle.filling.specs.ListsLaws.{filling-start, next-can, filling-more, sums-small}
use Rattle.filling.proofs.fill_by_lists.Goals as goal
use Rattle.filling.proofs.fill_by_lists.Goals.{After-list_one-next}

pub loop-k-init : goal.loop-k-init
loop-k-init c = record {
  filling = filling-start c.requires.filling (noted c.args.notes.now 0) c.requires.first refl refl c.requires.room;
  buffer = c.buffer-pushed.ensures;
}

-- The next job can be stepped by, and with its list there is one more.
pub list_one-next-requires : goal.list_one-next-requires
list_one-next-requires c = next-can c.requires.filling c.loop-k.invariant.filling c.loop-k-test.true c.loop-k.invariant.buffer

one_more : (c : After-list_one-next)
    → Filling c.args.records.bytes.now (noted c.args.notes.now 0).count c.args.work.now (c.loop-k.k + 1) (as_stretch c.list_one-next.result.list) false
    (record {
      points = c.loop-k.totals.points + c.list_one-next.result.list.count;
      weight = c.loop-k.totals.weight + c.list_one-next.result.weight;
    })
    (set c.loop-k.notes (c.loop-k.k + 1) c.list_one-next.result.list) c.list_one-next.new.work []
one_more c = filling-more c.requires.filling c.loop-k.invariant.filling c.loop-k-test.true c.list_one-next.ensures

-- The sums stay small.
pub overflow_add-totals : goal.overflow_add-totals
overflow_add-totals c =
    let f : After-list_one-next = (goal.at.overflow_add-totals c).After-list_one-next in
    let g = c.requires.filling in
    omega (arith, (sums-small g (one_more f)).0, c.loop-k-test.true, g.jobs, g.order.header.few)

pub overflow_add-totals-in-loop-k : goal.overflow_add-totals-in-loop-k
overflow_add-totals-in-loop-k c =
    let f : After-list_one-next = (goal.at.overflow_add-totals-in-loop-k c).After-list_one-next in
    omega (arith, (sums-small c.requires.filling (one_more f)).1)

pub returns-then-next : goal.returns-then-next
returns-then-next c = record { order = omega arith; filling = one_more (goal.at.returns-then-next c).After-list_one-next }

pub loop-k-preserved : goal.loop-k-preserved
loop-k-preserved c = record { filling = one_more (goal.at.loop-k-preserved c).After-list_one-next; buffer = c.list_one-next.ensures.buffer }
