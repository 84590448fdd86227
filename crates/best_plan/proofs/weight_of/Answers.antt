-- `best_plan::weight_of` meets its contract: a job that is kept counts its weight. Assumes nothing.
use mir.Facts.{to_z-of_z}
use Rattle.seconds.specs.Signed.{signed, abs_is}
use Rattle.fields.specs.Facts.{job-facts, facts-fit}
use Rattle.best_plan.specs.WeightLaws.{weight-kept}
use Rattle.best_plan.proofs.weight_of.Goals as goal

pub overflow_cast-result : goal.overflow_cast-result
overflow_cast-result c =
    let f = (job-facts c.args.job).0 c.requires in
    rw (to_z-of_z (facts-fit c.args.job f).weight)
    (omega (signed, f.weight), omega (signed, f.weight, abs_is c.args.job.weight))

pub returns-then-kept : goal.returns-then-kept
returns-then-kept c = rw c.if-kept.true (weight-kept c.args.job c.requires)
