-- `feeding::settle` meets its contract: a whole entry is counted by its front, and another goes on. Assumes nothing.
use Rattle.feeding.specs.FeedingLaws.{settle-whole}
use Rattle.feeding.proofs.settle.Goals as goal

pub returns-then-got-size : goal.returns-then-got-size
returns-then-got-size c =
    let a = c.args in
    let t = c.add_into in
    settle-whole a.figures.now a.front.now a.size a.got a.work.now c.requires c.if-got-size.true c.min.result c.min.ensures t.result
    t.new.figures t.new.work t.auto.figures t.ensures
