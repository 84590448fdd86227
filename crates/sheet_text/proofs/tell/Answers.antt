-- `sheet_text::tell` meets its contract: too few numbers, too little room, no sheet, or the text.
-- Assumes nothing.
use mathlib.Core.Path.{sym, ◌∙◌}
use native.Mathlib.Omega.{arith}
use Rattle.sheet_text.specs.TellLaws.{few-numbers, little-room, no-sheet, text-told}
use Rattle.sheet_text.proofs.tell.Goals as goal
use Rattle.sheet_text.proofs.tell.Goals.{then-figures-lt-FIGURES-via-then-figures-lt-FIGURES, then-figures-lt-FIGURES-via-else-figures-lt-FIGURES+then-text-lt-ROOM}

pub returns-then-figures-lt-FIGURES : goal.returns-then-figures-lt-FIGURES
returns-then-figures-lt-FIGURES c =
    let a = c.args in
    elim c.then-figures-lt-FIGURES.branch [
      | then-figures-lt-FIGURES-via-then-figures-lt-FIGURES w ↦ few-numbers a.figures.now a.cut a.text.now w.if-figures-lt-FIGURES.true
      | then-figures-lt-FIGURES-via-else-figures-lt-FIGURES+then-text-lt-ROOM w ↦
          little-room a.figures.now a.cut a.text.now w.if-text-lt-ROOM.true
    ]

pub returns-then-not-is_sheet : goal.returns-then-not-is_sheet
returns-then-not-is_sheet c =
    no-sheet c.args.figures.now c.args.cut c.args.text.now c.if-figures-lt-FIGURES.false c.if-text-lt-ROOM.false
    (sym c.is_sheet.ensures ∙ c.if-not-is_sheet.true)

pub put_sheet-requires : goal.put_sheet-requires
put_sheet-requires c =
    record { numbers = omega arith; room = omega arith; sheet = sym c.is_sheet.ensures ∙ c.if-not-is_sheet.false }

pub returns : goal.returns
returns c =
    text-told c.args.figures.now c.args.cut c.args.text.now
    (record { numbers = omega arith; room = omega arith; sheet = sym c.is_sheet.ensures ∙ c.if-not-is_sheet.false })
    c.put_sheet.ensures
