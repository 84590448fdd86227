-- `sheet::join` meets its contract: too short, no sheet, or the two joined. Assumes nothing.
use mathlib.Core.Path.{sym, ◌∙◌}
use Rattle.sheet.specs.FitsLaws.{first_short, second_short, join-refused, joins-can, join-done}
use Rattle.sheet.proofs.join.Goals as goal
use Rattle.sheet.proofs.join.Goals.{then-figures-lt-FIGURES-via-then-figures-lt-FIGURES, then-figures-lt-FIGURES-via-else-figures-lt-FIGURES+then-more-lt-FIGURES}

pub returns-then-figures-lt-FIGURES : goal.returns-then-figures-lt-FIGURES
returns-then-figures-lt-FIGURES c = elim c.then-figures-lt-FIGURES.branch [
  | then-figures-lt-FIGURES-via-then-figures-lt-FIGURES w ↦ first_short c.args.figures.now c.args.more.now w.if-figures-lt-FIGURES.true
  | then-figures-lt-FIGURES-via-else-figures-lt-FIGURES+then-more-lt-FIGURES w ↦ second_short c.args.figures.now c.args.more.now w.if-more-lt-FIGURES.true
]

pub returns-then-not-can_join : goal.returns-then-not-can_join
returns-then-not-can_join c =
    join-refused c.args.figures.now c.args.more.now c.if-figures-lt-FIGURES.false c.if-more-lt-FIGURES.false (sym c.can_join.ensures ∙ c.if-not-can_join.true)

pub join_into-requires : goal.join_into-requires
join_into-requires c =
    joins-can c.args.figures.now c.args.more.now c.if-figures-lt-FIGURES.false c.if-more-lt-FIGURES.false (sym c.can_join.ensures ∙ c.if-not-can_join.false)

pub returns : goal.returns
returns c =
    join-done c.args.figures.now c.args.more.now c.if-figures-lt-FIGURES.false c.if-more-lt-FIGURES.false (sym c.can_join.ensures ∙ c.if-not-can_join.false) c.join_into.new.to c.join_into.ensures
