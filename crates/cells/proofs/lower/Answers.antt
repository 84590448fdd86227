-- `cells::lower` meets its contract: between turns the cells before x are lowered, laid and counted. Assumes nothing.
use borrow.Author.Rules.{rules}
use Prim.Native.Nat.{ℕ, suc, ◌+◌}
use mathlib.Core.Path.{◌≡◌, sym, ap, ◌∙◌}
use native.Mathlib.Omega.{arith}
use lib.IntN.{ℤ}
use mir.Syntax.{w32}
use mir.Val.{SFits, to_z, of_z}
use mir.Facts.{to_z-of_z}
use Rattle.seconds.specs.Signed.{read_back_lem}
use Rattle.codes.specs.Code.{at0}
use Rattle.cells.specs.Laying.{before, rises_to, lowered}
use Rattle.cells.specs.LayingLaws.{laid_more, one-if, rises-more, rises-few}
use Rattle.cells.specs.Putting.{put-more}
use Rattle.cells.proofs.Lesser.{lesser-is}
use Rattle.cells.proofs.lower.Goals as goal
use Rattle.cells.proofs.lower.Goals.{After-from-n}

-- The lesser is made, and counted.
module _ (c : After-from-n) where
  abbrev all : ℕ → ℤ
  all = lowered c.args.row.now c.args.pushed.now

  cell-is : to_z w32 (of_z w32 c.min-cell.result) ≡ all c.loop-x.x
  cell-is =
      let a-fits : SFits w32 (at0 c.loop-x.row c.loop-x.x) = search rules in
      let b-fits : SFits w32 (at0 c.args.pushed.now c.loop-x.x) = search rules in
      let same = c.loop-x.invariant.row.behind c.loop-x.x (omega arith) in
      read_back_lem _ c.min-cell.type_inv ∙ lesser-is (to_z-of_z a-fits ∙ same) (to_z-of_z b-fits) c.min-cell.ensures.value

  more : c.loop-x.n + c.from-n.result ≡ rises_to all (c.loop-x.x + 1)
  more =
      let i = c.loop-x.invariant in
      rises-more all c.loop-x.x i.counted (c.loop-x.x + 1) (omega arith) _ _ i.told cell-is _
      (ap (λ (k : ℕ). c.loop-x.n + k) (c.from-n.ensures ∙ one-if _))

pub overflow_add-n : goal.overflow_add-n
overflow_add-n c = omega (arith, more c, rises-few (all c) (c.loop-x.x + 1), c.requires.few)

pub loop-x-preserved : goal.loop-x-preserved
loop-x-preserved c =
    let i = c.loop-x.invariant in
    let next : c.loop-x.x + 1 ≡ suc c.loop-x.x = omega arith in
    record {
      row = put-more i.row (omega arith) (omega (arith, c.requires.size)) _ (cell-is c);
      laid = laid_more i.laid (omega arith) (omega (arith, c.requires.inside)) _ (cell-is c);
      counted = more c;
      told = cell-is c ∙ ap (before (all c)) (sym next);
    }

pub returns-clause-counted : goal.returns-clause-counted
returns-clause-counted c =
    let all : c.loop-x.x ≡ c.args.end = omega (arith, c.loop-x-test.false) in rw all at c.loop-x.invariant.counted
