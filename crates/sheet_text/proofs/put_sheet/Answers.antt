-- `sheet_text::put_sheet` meets its contract: the lines, one behind the other. The sum and the difference are in range, since the
-- numbers are a sheet's. Assumes nothing.
use Prim.Native.Nat.{ℕ, ◌+◌, ◌-◌}
use native.Mathlib.Omega.{arith}
use lib.ListN.{get_or}
use borrow.Author.Rules.{rules}
use Rattle.text.specs.Buffer.{Wrote}
use Rattle.text.specs.Writing.{Writes}
use Rattle.text.specs.WritingLaws.{writes-more}
use Rattle.sheet.specs.Sheet.{sheet_in}
use Rattle.sheet_text.specs.SheetText.{top_line, fraction_line, sheet_text}
use Rattle.sheet_text.specs.WritingLaws.{text_of, all_small, kept-offered}
use Rattle.sheet_text.proofs.put_sheet.Goals as goal

-- That all orders are few is listed too: an edit sums them, and is refused for what it tells.
pub overflow_add-able : goal.overflow_add-able
overflow_add-able c =
    let small = all_small c.args.figures.now c.requires.numbers c.requires.sheet in
    omega (arith, small 0 (omega arith), small 11 (omega arith), small 20 (omega arith))

pub overflow_sub-lost : goal.overflow_sub-lost
overflow_sub-lost c = omega (arith, kept-offered c.args.figures.now c.requires.numbers c.requires.sheet)

pub returns : goal.returns
returns c =
    let figures = c.args.figures.now in
    let at : ℕ → ℕ = λ k. get_or c.args.figures.now k 0 in
    let top : Writes (top_line (at 24) (at 25)) 22 _ _ = c.put_top.ensures in
    let ability : Writes (fraction_line (at 20) (at 20 + at 11)) 22 _ _ = c.put_fraction.ensures in
    let loss : Writes (fraction_line (at 21 - at 22) (at 21)) 22 _ _ = c.put_fraction-2.ensures in
    let all = writes-more (writes-more (writes-more (writes-more c.put_sums.ensures top) ability) loss) c.put_last.ensures in
    let told : Wrote c.args.out.now 0 (sheet_text (sheet_in c.args.figures.now) c.args.cut) c.put_last.new.text.out.now c.put_last.new.text.at =
    rw (text_of figures c.args.cut) all.wrote in
    let same = all.same in
    search rules
