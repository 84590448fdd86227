-- `filling::fill_lists` meets its contract: all are filled as lists, or the others by cells. Assumes nothing.
use native.Mathlib.Omega.{arith}
use Rattle.filling.specs.ListsLaws.{filling-all}
use Rattle.filling.proofs.fill_lists.Goals as goal

pub returns : goal.returns
returns c =
    let e = c.fill_by_lists-sofar.ensures in
    (filling-all c.requires.filling e.filling (omega (arith, e.order, c.if-sofar-records.false))).filled
