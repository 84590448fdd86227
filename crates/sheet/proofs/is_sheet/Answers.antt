-- `sheet::is_sheet` meets its contract: each part is a test of the definition. Assumes nothing.
use mathlib.Core.Path.{◌≡◌, refl, sym, ap, ◌∙◌}
use mathlib.Core.Bool.{Bool, true, false, ◌&&◌}
use lib.Dec.{eqb}
use lib.ListN.{get_or}
use borrow.Author.Rules.{rules}
use borrow.Author.Tests.{lt-leb}
use Rattle.sheet.specs.NumbersLaws.{is-sheet-by}
use Rattle.sheet.proofs.is_sheet.Goals as goal
use Rattle.sheet.proofs.is_sheet.Goals.{then-many-le-MOST, else-many-le-MOST, then-judged-many, else-judged-many}

-- One part that fails is enough.
first : {a : Bool} (b : Bool) → a ≡ false → (a && b) ≡ false
first b e = rw e

later : (a : Bool) {b : Bool} → b ≡ false → (a && b) ≡ false
later true e = e
later false e = refl

pub returns-then-weights_fit : goal.returns-then-weights_fit
returns-then-weights_fit c = rw (← is-sheet-by c.args.figures.now _ _ _ refl refl refl) (search rules)

pub returns-else-weights_fit : goal.returns-else-weights_fit
returns-else-weights_fit c =
    c.if-weights_fit.false ∙ sym (sym (is-sheet-by c.args.figures.now _ _ _ refl refl refl) ∙ elim c.if-judged-many.branch [
      | then-judged-many w ↦ later _ (later _ (first _ (sym w.weights_fit.ensures ∙ sym w.value-is ∙ c.if-weights_fit.false)))
      | else-judged-many w ↦ elim c.if-many-le-MOST.branch [
        | then-many-le-MOST v ↦ later _ (first _ (ap (λ n. eqb n (get_or c.args.figures.now 0 0)) (sym v.judged.ensures) ∙ sym v.value-is ∙ w.if-judged-many.false))
        | else-many-le-MOST v ↦ first _ (lt-leb _ _ v.if-many-le-MOST.false)
      ]
    ])
