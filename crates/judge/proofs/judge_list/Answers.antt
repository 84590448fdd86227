-- `judge::judge_list` meets its contract: the tests are those of the checks, one after the other.
-- Assumes nothing.
use mathlib.Core.Path.{◌≡◌, ◌∙◌, ap}
use mathlib.Core.Bool.{Bool, cond, not}
use mathlib.Core.List.{List}
use Prim.Native.Nat.{◌%◌, ◌≤◌}
use lib.IntN.{ℤ}
use lib.ListN.{length}
use mir.Syntax.{w32}
use mir.Val.{SFits, to_z, of_z}
use mir.Facts.{to_z-of_z}
use borrow.Author.Tests.{lt-ltb, le-ltb, eq-eqb, ne_eqb}
use Rattle.seconds.specs.Ranges.{is_time}
use Rattle.packed.specs.Judge.{plainly, fine, refused, judge}
use Rattle.packed.specs.Refusals.{list_checks}
use Rattle.packed.proofs.Steps.{list-judge}
use Rattle.judge.proofs.judge_list.Goals as goal

pub returns-then-given : goal.returns-then-given
returns-then-given c =
    let zs = c.args.given.now in
    rw (c.into.ensures, list-judge c.args.t0 zs, lt-ltb 336 (length zs) c.if-given.true)

pub returns-then-given-ne0 : goal.returns-then-given-ne0
returns-then-given-ne0 c =
    let zs = c.args.given.now in
    rw (
      c.into-then-given-ne0.ensures,
      list-judge c.args.t0 zs,
      le-ltb 336 (length zs) c.if-given.false,
      ne_eqb (length zs % 7) 0 c.if-given-ne0.true,
    )

-- The bus-free time has been tested, and only that check is left.
left : (t0 : ℤ) (zs : List ℤ) (timely : Bool) → SFits w32 t0 → length zs ≤ 336 → length zs % 7 ≡ 0
    → timely ≡ is_time (to_z w32 (of_z w32 t0))
    → judge (list_checks t0 zs) ≡ cond (not timely) (refused (plainly 5)) fine
left t0 zs timely fits few whole time =
    rw (
      list-judge t0 zs,
      le-ltb 336 (length zs) few,
      eq-eqb (length zs % 7) 0 whole,
      time ∙ ap is_time (to_z-of_z fits),
    )

pub returns-then-not-is_time : goal.returns-then-not-is_time
returns-then-not-is_time c =
    let l = left c.args.t0 c.args.given.now c.is_time.result c.ranges.t0 c.if-given.false c.if-given-ne0.false c.is_time.ensures in
    rw (c.into-then-not-is_time.ensures, l, c.if-not-is_time.true)

pub returns : goal.returns
returns c =
    let l = left c.args.t0 c.args.given.now c.is_time.result c.ranges.t0 c.if-given.false c.if-given-ne0.false c.is_time.ensures in
    rw (l, c.if-not-is_time.false)
