-- `week_report::tell_held` meets its contract: too many, or the text of the sheet. Assumes nothing.
use mathlib.Core.Path.{sym, ◌∙◌}
use Rattle.sheet_text.specs.TellLaws.{tells, told_wrote}
use Rattle.week_report.specs.TellingLaws.{can-refuse, many-told-by, few-sheet, sheet-wrote}
use Rattle.week_report.proofs.tell_held.Goals as goal

pub put_refusal-requires : goal.put_refusal-requires
put_refusal-requires c = can-refuse c.into.result c.args.out.now c.into.ensures c.requires.room

pub returns-then-is_over : goal.returns-then-is_over
returns-then-is_over c =
    let a = c.args in
    many-told-by a.figures.now a.out.now a.known c.requires c.into.result c.into.ensures (sym c.is_over.ensures ∙ c.if-is_over.true)
    c.put_refusal.ensures

pub unwrap-requires : goal.unwrap-requires
unwrap-requires c =
    let a = c.args in
    let few = few-sheet a.figures.now a.out.now a.known c.requires (sym c.is_over.ensures ∙ c.if-is_over.false) in
    tells a.figures.now _ a.out.now few c.tell.ensures

pub returns : goal.returns
returns c =
    let a = c.args in
    let o = sym c.is_over.ensures ∙ c.if-is_over.false in
    let few = few-sheet a.figures.now a.out.now a.known c.requires o in
    sheet-wrote a.figures.now a.out.now a.known c.requires o
    (told_wrote a.figures.now _ a.out.now few (rw c.unwrap.ensures at c.tell.ensures) c.tell.auto.text)
