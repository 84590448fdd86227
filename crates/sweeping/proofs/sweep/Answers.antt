-- `sweeping::sweep` meets its contract: a job that cannot start leaves what is left without it, and any other is started.
-- Assumes nothing.
use mathlib.Core.Path.{sym, ◌∙◌}
use Rattle.sweeping.specs.SweepLaws.{left-swept}
use Rattle.sweeping.proofs.sweep.Goals as goal

pub returns-then-many-eq0 : goal.returns-then-many-eq0
returns-then-many-eq0 c =
    rw c.leave.ensures
    (left-swept c.requires.roomy.buffer c.wipe_if.ensures (λ ps r says. sym (c.startable_cells-many.ensures ps r says) ∙ c.if-many-eq0.true))

pub returns : goal.returns
returns c = c.sweep_started.ensures c.args.from.points
