-- `gathering::gather` meets its contract: between turns the points of the cells before x are written. Assumes nothing.
use mir.Syntax.{w32}
use mir.Val.{SFits}
use mir.Facts.{to_z-of_z}
use borrow.Author.Rules.{rules}
use Prim.Native.Nat.{◌+◌}
use native.Mathlib.Omega.{arith}
use Rattle.codes.specs.Code.{at0}
use Rattle.gathering.specs.PointsLaws.{gather_none, gather-room, gather-more}
use Rattle.gathering.proofs.gather.Goals as goal

pub loop-x-init : goal.loop-x-init
loop-x-init c = gather_none _ _

pub keep-n-requires : goal.keep-n-requires
keep-n-requires c = gather-room c.requires c.loop-x.invariant c.loop-x-test.true

pub loop-x-preserved : goal.loop-x-preserved
loop-x-preserved c =
    let a-fits : SFits w32 (at0 c.args.row.now c.loop-x.x) = search rules in
    let b-fits : SFits w32 (at0 c.args.row.now (c.loop-x.x + 1)) = search rules in
    gather-more c.requires c.loop-x.invariant c.loop-x-test.true (c.loop-x.x + 1) (omega arith) _ _ (to_z-of_z a-fits) (to_z-of_z b-fits)
    _ _ c.keep-n.ensures.place c.keep-n.ensures.written
