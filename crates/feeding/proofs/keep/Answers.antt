-- `feeding::keep` meets its contract: as many bytes are copied as there is room for, and a full front stays. Assumes nothing.
use mathlib.Core.Path.{◌≡◌, sym, ap, ◌∙◌}
use native.Mathlib.Omega.{arith}
use Prim.Native.Nat.{◌+◌}
use lib.ListN.{length, take, get_or, set}
use Rattle.std.proofs.Common.{take_all}
use Rattle.streams.proofs.Kept.{kept_in, kept_full, kept-length}
use Rattle.feeding.specs.FeedingLaws.{copy_step, keep-least}
use Rattle.feeding.proofs.keep.Goals as goal

pub bounds-front-got : goal.bounds-front-got
bounds-front-got c =
    let a = c.args in
    let same : length c.loop-i.front ≡ length a.front.now =
    ap length c.loop-i.invariant ∙ kept-length a.front.now a.got (take c.loop-i.i a.bytes.now) in
    omega (arith, c.min-n.ensures, c.requires)

pub loop-i-preserved : goal.loop-i-preserved
loop-i-preserved c =
    let a = c.args in
    let i = c.loop-i.i in
    let here : i ≡ 0 + i = omega arith in
    ap (λ k. set c.loop-i.front (a.got + i) (get_or a.bytes.now k 0)) here
    ∙ copy_step a.front.now a.got a.bytes.now 0 i c.loop-i.front c.loop-i.invariant (omega (arith, c.min-n.ensures))
    (omega (arith, c.min-n.ensures))

pub returns-after-loop-i : goal.returns-after-loop-i
returns-after-loop-i c =
    let a = c.args in
    let n = c.min-n.result in
    let all : c.loop-i.i ≡ n = omega arith in
    c.loop-i.invariant
    ∙ ap (λ k. kept_in a.front.now a.got (take k a.bytes.now)) all
    ∙ keep-least a.front.now a.got a.bytes.now (length a.bytes.now) n (omega arith) c.if-got-lt-FRONT.true c.min-n.ensures
    ∙ ap (kept_in a.front.now a.got) (take_all (length a.bytes.now) a.bytes.now (omega arith))

pub returns-else-got-lt-FRONT : goal.returns-else-got-lt-FRONT
returns-else-got-lt-FRONT c = sym (kept_full c.args.front.now c.args.got c.args.bytes.now c.if-got-lt-FRONT.false)
