-- `fields::put_word` meets its contract. The loop's invariant: with the bytes that are still to come, the rest is as it shall be.
-- Assumes nothing.
use mathlib.Core.Path.{◌≡◌}
use native.Mathlib.Omega.{arith}
use Rattle.fields.specs.Words.{Writing, writing-on, writing-ends}
use Rattle.fields.proofs.put_word.Goals as goal

pub loop-i-preserved : goal.loop-i-preserved
loop-i-preserved c =
    writing-on c.args.bytes.now c.args.at c.args.count c.args.word c.requires.room.room c.loop-i.bytes
    c.loop-i.left c.loop-i.i c.loop-i-test.true c.loop-i.invariant

pub returns : goal.returns
returns c =
    let e : c.loop-i.i ≡ 0 = omega arith in
    let w : Writing c.args.bytes.now c.args.at c.args.count c.args.word c.loop-i.bytes c.loop-i.left 0 =
    rw (← e) c.loop-i.invariant in
    writing-ends c.args.bytes.now c.args.at c.args.count c.args.word c.requires.room.room c.loop-i.bytes
    c.loop-i.left w
