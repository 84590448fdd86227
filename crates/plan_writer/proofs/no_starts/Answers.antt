-- `plan_writer::no_starts` meets its contract: 48 places, none of them kept. Assumes nothing.
use mathlib.Core.Path.{refl}
use Rattle.plan_writer.proofs.no_starts.Goals as goal

pub returns : goal.returns
returns c = record { long = refl; none = refl }
