-- `plan_answers::plan_answer` meets its contract: each arm is a case of the answer.
-- Assumes nothing.
use mathlib.Core.Path.{sym, ap, ◌∙◌}
use lib.IntN.{ℤ, pos}
use mir.Syntax.{w32}
use mir.Val.{SFits}
use mir.Facts.{to_z-of_z}
use borrow.Author.Rules.{rules}
use Rattle.std.proofs.Common.{Ok}
use Rattle.planner.specs.declared.Figures.{Figures}
use Rattle.plan_answers.specs.Numbers.{plan_figures}
use Rattle.plan_answers.proofs.plan_answer.Goals as goal

pub returns-in-Err : goal.returns-in-Err
returns-in-Err c =
    (λ i. record {
      refusal = c.number.ensures i;
      place = c.place.ensures i;
      field = c.figure.ensures i;
      mask = 0;
      kept = 0;
      kept_weight = 0;
      lost_weight = 0;
      finish = pos 0;
      points = 0;
    })
    ∙ sym (ap plan_figures c.in-Err.is)

-- The figures with another finish.
abbrev ended : Figures → ℤ → Figures
ended f t =
    record {
      mask = f.mask;
      kept = f.kept;
      kept_weight = f.kept_weight;
      lost_weight = f.lost_weight;
      finish = t;
      points = f.points;
    }

pub returns-in-Ok : goal.returns-in-Ok
returns-in-Ok c =
    let f : Figures = c.in-Ok.figures in
    let fits : SFits w32 f.finish = search rules in
    ap (λ (t : ℤ). plan_figures (Ok (ended f t))) (to_z-of_z fits) ∙ sym (ap plan_figures c.in-Ok.is)
