-- `pushing::push` meets its contract. The loop's invariant is `Pushing`: the numbers from `i` on are past the limit, and stand
-- moved on from `p` to the top. Assumes nothing.
use Rattle.codes.specs.Code.{end_of}
use Rattle.pushing.specs.Places.{Pushing}
use Rattle.pushing.proofs.push.Given as goal

abbrev pub invariant-loop-i : goal.invariant-loop-i
invariant-loop-i l =
    Pushing l.work l.fn.list.place (end_of l.fn.list) l.limit l.delta l.initial.pushed l.pushed l.i l.p
