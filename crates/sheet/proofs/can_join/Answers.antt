-- `sheet::can_join` meets its contract: the orders of two sheets are few, so their sum fits. Assumes nothing.
use Rattle.std.proofs.Common.{arith}
use Rattle.std.proofs.lemmas.Grind.{common_steps}
use Rattle.sheet.specs.FitsLaws.{sheet-few}
use Rattle.sheet.proofs.can_join.Goals as goal

pub overflow_add-result : goal.overflow_add-result
overflow_add-result c = grind (arith, common_steps, sheet-few)
