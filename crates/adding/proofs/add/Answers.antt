-- `adding::add` meets its contract: too short, no sheet that takes one, or the order is counted. Assumes nothing.
use mathlib.Core.Path.{sym, ◌∙◌}
use Rattle.adding.specs.AddingLaws.{figures-short, work-short, takes-says, add-refused, add_done}
use Rattle.adding.proofs.add.Goals as goal
use Rattle.adding.proofs.add.Goals.{then-figures-lt-FIGURES-via-then-figures-lt-FIGURES, then-figures-lt-FIGURES-via-else-figures-lt-FIGURES+then-work-lt-AREA}

pub returns-then-figures-lt-FIGURES : goal.returns-then-figures-lt-FIGURES
returns-then-figures-lt-FIGURES c =
    let a = c.args in
    elim c.then-figures-lt-FIGURES.branch [
      | then-figures-lt-FIGURES-via-then-figures-lt-FIGURES w ↦
          figures-short a.figures.now a.bytes.now a.work.now w.if-figures-lt-FIGURES.true
      | then-figures-lt-FIGURES-via-else-figures-lt-FIGURES+then-work-lt-AREA w ↦
          work-short a.figures.now a.bytes.now a.work.now w.if-work-lt-AREA.true
    ]

pub returns-then-not-takes_one : goal.returns-then-not-takes_one
returns-then-not-takes_one c =
    let a = c.args in
    add-refused a.figures.now a.bytes.now a.work.now c.if-figures-lt-FIGURES.false c.if-work-lt-AREA.false
    (sym c.takes_one.ensures ∙ c.if-not-takes_one.true)

pub add_cleared-requires : goal.add_cleared-requires
add_cleared-requires c =
    takes-says c.args.figures.now c.args.work.now c.if-figures-lt-FIGURES.false c.if-work-lt-AREA.false
    (sym c.takes_one.ensures ∙ c.if-not-takes_one.false)

pub returns : goal.returns
returns c =
    let a = c.args in
    let d = c.add_cleared in
    add_done a.figures.now a.bytes.now a.work.now c.if-figures-lt-FIGURES.false c.if-work-lt-AREA.false
    (sym c.takes_one.ensures ∙ c.if-not-takes_one.false) d.new.figures d.ensures.counts d.new.work d.ensures.clears
