-- `plan_bytes::put_plan` meets its contract: the starts written are those of the jobs kept at the places passed.
-- Assumes nothing.
use mathlib.Core.Path.{◌≡◌, ap, ◌∙◌}
use mathlib.Core.List.{◌++◌}
use native.Mathlib.Omega.{arith}
use lib.ListN.{length, drop, get_or}
use lib.IntN.{pos}
use mir.Syntax.{w32}
use mir.Facts.{to_z-of_z}
use borrow.Author.Rules.{rules}
use Rattle.packed_plan.specs.Plan.{plan_bytes, pack_plan, starts_kept}
use Rattle.plan_bytes.specs.Asks.{PlanRoom}
use Rattle.plan_bytes.specs.Plans.{mask-put, mask-room, mask-behind}
use Rattle.plan_bytes.specs.Plans.{writing-starts, writing-long, writing-all, kept-room, writing-on}
use Rattle.plan_bytes.proofs.put_plan.Goals as goal
use Rattle.plan_bytes.proofs.put_plan.Goals.{After-loop-start, After-put_kept-kept, After-put_word, At-loop-start, In-loop-start, Start}

-- Where the code starts.
abbrev entry : After-put_word → Start
entry c = c.before.before.before

-- Behind the mask there is room for the starts.
room : (c : After-put_word) → let s = entry c in
    PlanRoom c.put_word.new.bytes s.args.mask (starts_kept s.args.starts.now)
room c =
    let s = entry c in
    mask-room s.args.bytes.now c.put_word.new.bytes s.args.mask c.put_word.ensures s.requires

pub loop-start-init : goal.loop-start-init
loop-start-init c =
    let w : After-put_word = (goal.at.loop-start-init c).After-put_word in
    let s = entry w in
    writing-starts w.put_word.new.bytes s.args.mask s.args.starts.now (room w)
    (mask-put s.args.bytes.now w.put_word.new.bytes s.args.mask w.put_word.ensures)

pub put_kept-kept-requires : goal.put_kept-kept-requires
put_kept-kept-requires c =
    let l : At-loop-start = (goal.at.put_kept-kept-requires c).At-loop-start in
    let w : After-put_word = (goal.at.At-loop-start l).After-put_word in
    let s = entry w in
    rw (to_z-of_z {w = w32} {z = get_or c.args.starts.now c.loop-start.start-index (pos 0)} (search rules))
    (kept-room w.put_word.new.bytes s.args.mask s.args.starts.now (room w) l.loop-start.bytes l.loop-start.kept l.loop-start.start-index
    l.loop-start.invariant c.loop-start-test.true)

pub loop-start-preserved : goal.loop-start-preserved
loop-start-preserved c =
    let k : After-put_kept-kept = (goal.at.loop-start-preserved c).After-put_kept-kept in
    let turn : In-loop-start = (goal.at.After-put_kept-kept k).In-loop-start in
    let l : At-loop-start = (goal.at.After-put_kept-kept k).At-loop-start in
    let w : After-put_word = (goal.at.At-loop-start l).After-put_word in
    let s = entry w in
    writing-on w.put_word.new.bytes s.args.mask s.args.starts.now (room w) l.loop-start.bytes l.loop-start.kept l.loop-start.start-index
    l.loop-start.invariant turn.loop-start-test.true k.put_kept-kept.new.bytes k.put_kept-kept.result
    (rw (to_z-of_z {w = w32} {z = get_or c.args.starts.now c.loop-start.start-index (pos 0)} (search rules)) at k.put_kept-kept.ensures.counts)
    (rw (to_z-of_z {w = w32} {z = get_or c.args.starts.now c.loop-start.start-index (pos 0)} (search rules)) at k.put_kept-kept.ensures.writes)

pub plan_bytes-requires : goal.plan_bytes-requires
plan_bytes-requires c =
    let l = c.before in
    let s : Start = (goal.at.plan_bytes-requires c).Start in
    omega (arith, l.loop-start.invariant.few, s.requires.few)

pub shape_of-bytes : goal.shape_of-bytes
shape_of-bytes c =
    let l : At-loop-start = (goal.at.shape_of-bytes c).At-loop-start in
    let w : After-put_word = (goal.at.At-loop-start l).After-put_word in
    let s = entry w in
    omega (
      arith,
      writing-long w.put_word.new.bytes s.args.mask s.args.starts.now (room w) l.loop-start.bytes l.loop-start.kept
          l.loop-start.start-index l.loop-start.invariant,
    )

-- All are written.
all : (c : After-loop-start) → let w : After-put_word = (goal.at.After-loop-start c).After-put_word in let s = entry w in
    let kept = starts_kept s.args.starts.now in
    (c.loop-start.kept ≡ length kept)
    × (c.loop-start.bytes ≡ pack_plan s.args.mask kept ++ drop (plan_bytes (length kept)) w.put_word.new.bytes)
all c =
    let l = c.before in
    let w : After-put_word = (goal.at.After-loop-start c).After-put_word in
    let s = entry w in
    writing-all w.put_word.new.bytes s.args.mask s.args.starts.now (room w) l.loop-start.bytes l.loop-start.kept l.loop-start.start-index
    l.loop-start.invariant c.loop-start-test.false

pub returns : goal.returns
returns c =
    let l = (goal.at.returns c).After-loop-start in
    let w = (goal.at.returns c).After-put_word in
    let s = entry w in
    let kept = starts_kept s.args.starts.now in (record {
      counts = c.plan_bytes.ensures ∙ ap plan_bytes (all (goal.at.returns c).After-loop-start).0;
      writes = (all (goal.at.returns c).After-loop-start).1
          ∙ ap (λ b. pack_plan s.args.mask kept ++ b)
          (mask-behind s.args.bytes.now w.put_word.new.bytes s.args.mask w.put_word.ensures (length kept));
    })
