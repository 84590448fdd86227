-- `kinds::kind_for` meets its contract: kind 1 where a pack is found.
-- Assumes nothing.
use mathlib.Core.Path.{refl, sym, ◌∙◌}
use Rattle.packed.specs.Packed.{job_count}
use Rattle.kinds.specs.KindsLaws.{kind-one, kind-none}
use Rattle.kinds.proofs.kind_for.Goals as goal

pub returns-in-Some : goal.returns-in-Some
returns-in-Some g c =
    let zs = g.J.Jobs.numbers c.args.jobs.now in
    kind-one zs (job_count zs) refl (sym c.in-Some.is ∙ c.first_packed.ensures)

pub returns-in-None : goal.returns-in-None
returns-in-None g c =
    let zs = g.J.Jobs.numbers c.args.jobs.now in
    kind-none zs (job_count zs) refl (sym c.in-None.is ∙ c.first_packed.ensures)
