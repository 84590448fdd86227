-- `merging::copy` meets its contract: the first k numbers are copied, as far as they stand before their copy. Assumes nothing.
use Prim.Native.Nat.{ℕ, ◌+◌, ◌≤◌}
use mathlib.Core.Path.{◌≡◌, refl}
use mathlib.Core.List.{List}
use lib.IntN.{ℤ}
use lib.ListN.{length}
use native.Mathlib.Omega.{arith}
use Rattle.merging.specs.Joins.{CanCopyFour, CopiedOver}
use Rattle.merging.specs.Laying.{over_none, over-more, over-all}
use Rattle.merging.proofs.copy.Goals as goal
use Rattle.merging.proofs.copy.Goals.{After-copy_four, After-copy_four-in-loop-k, After-copy_four-in-loop-k-2, After-copy_four-in-loop-k-3, In-loop-k, Start}

pub loop-k-init : goal.loop-k-init
loop-k-init c = over_none _ _ _

-- Sixteen numbers have room on both sides, whatever was copied so far.
module _ (c : In-loop-k) where
  abbrev start : Start
  start = (goal.at.In-loop-k c).Start

  abbrev k : ℕ
  k = c.loop-k.k

  abbrev Over : ℕ → List ℤ → Type 0
  Over n work = CopiedOver start.args.from start.args.at (k + n) start.args.work.now work

  four-fits : (n : ℕ) (work : List ℤ) → n + 4 ≤ 16 → length work ≡ length start.args.work.now
      → CanCopyFour (start.args.from + k + n) (start.args.at + k + n) work
  four-fits n work h e = record {
    inside = omega (arith, start.requires.apart, start.requires.room, c.loop-k-test.true);
    room = omega (arith, start.requires.room, c.loop-k-test.true);
  }

-- Four by four.
module _ (c : After-copy_four) where
  over-four : Over (goal.at.After-copy_four c).In-loop-k 4 c.copy_four.new.work
  over-four = over-more c.loop-k.invariant refl refl c.copy_four.ensures

module _ (c : After-copy_four-in-loop-k) where
  abbrev first : After-copy_four
  first = (goal.at.After-copy_four-in-loop-k c).After-copy_four

  over-eight : Over first.before.before 8 c.copy_four-in-loop-k.new.work
  over-eight =
      let so_far : k first.before.before + 4 + 4 ≡ k first.before.before + 8 = omega arith in
      rw so_far at (over-more (over-four first) (omega arith) (omega arith) c.copy_four-in-loop-k.ensures)

module _ (c : After-copy_four-in-loop-k-2) where
  abbrev second : After-copy_four-in-loop-k
  second = (goal.at.After-copy_four-in-loop-k-2 c).After-copy_four-in-loop-k

  abbrev turn : In-loop-k
  turn = (first second).before.before

  over-twelve : Over turn 12 c.copy_four-in-loop-k-2.new.work
  over-twelve =
      let so_far : k turn + 8 + 4 ≡ k turn + 12 = omega arith in
      rw so_far at (over-more (over-eight second) (omega arith) (omega arith) c.copy_four-in-loop-k-2.ensures)

module _ (c : After-copy_four-in-loop-k-3) where
  abbrev third : After-copy_four-in-loop-k-2
  third = (goal.at.After-copy_four-in-loop-k-3 c).After-copy_four-in-loop-k-2

  over-sixteen : Over (turn third) 16 c.copy_four-in-loop-k-3.new.work
  over-sixteen =
      let so_far : k (turn third) + 12 + 4 ≡ k (turn third) + 16 = omega arith in
      rw so_far at (over-more (over-twelve third) (omega arith) (omega arith) c.copy_four-in-loop-k-3.ensures)

pub copy_four-requires : goal.copy_four-requires
copy_four-requires c =
    let t = c.before in
    record { inside = omega (arith, (start (goal.at.copy_four-requires c).In-loop-k).requires.apart, (start (goal.at.copy_four-requires c).In-loop-k).requires.room, t.loop-k.invariant.size); room = omega (arith, (start (goal.at.copy_four-requires c).In-loop-k).requires.room, t.loop-k.invariant.size) }

pub copy_four-requires-in-loop-k : goal.copy_four-requires-in-loop-k
copy_four-requires-in-loop-k c = four-fits (goal.at.copy_four-requires-in-loop-k c).In-loop-k 4 _ (omega arith) (over-four (goal.at.copy_four-requires-in-loop-k c).After-copy_four).size

pub copy_four-requires-in-loop-k-2 : goal.copy_four-requires-in-loop-k-2
copy_four-requires-in-loop-k-2 c = four-fits (first (goal.at.copy_four-requires-in-loop-k-2 c).After-copy_four-in-loop-k).before.before 8 _ (omega arith) (over-eight (goal.at.copy_four-requires-in-loop-k-2 c).After-copy_four-in-loop-k).size

pub copy_four-requires-in-loop-k-3 : goal.copy_four-requires-in-loop-k-3
copy_four-requires-in-loop-k-3 c = four-fits (turn (goal.at.copy_four-requires-in-loop-k-3 c).After-copy_four-in-loop-k-2) 12 _ (omega arith) (over-twelve (goal.at.copy_four-requires-in-loop-k-3 c).After-copy_four-in-loop-k-2).size

pub loop-k-preserved : goal.loop-k-preserved
loop-k-preserved c = over-sixteen (goal.at.loop-k-preserved c).After-copy_four-in-loop-k-3

pub returns : goal.returns
returns c = over-all c.loop-k.invariant (omega arith) c.requires.apart

-- The last sixteen reach the end.
pub returns-2 : goal.returns-2
returns-2 c = over-all (over-sixteen (goal.at.returns-2 c).After-copy_four-in-loop-k-3) (omega arith) c.requires.apart
