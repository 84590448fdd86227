-- What the contract of the heat-up call says of every outcome that it allows: the answer is the one that the call gave when
-- it read the table, so nothing changed for a caller.
use mathlib.Core.Path.{◌≡◌, ◌∙◌}
use Rattle.std.specs.Prelude.{ℕ, Result}
use contract.Lifetimes.{Lfts}
use denote.Triple.Clauses.{AtExit}
use denote.Triple.Entry.{Args}
use Rattle.heat.specs.Table.{tabled}
use Rattle.heat.proofs.TableLaws.{unchanged}
use Rattle.refusals.specs.declared.Reason.{Reason}
use Rattle.heat.specs.contracts.heat_up as heat-up
use Rattle.heat.proofs.heat_up.Reads as reads

module _ (κs : Lfts 0) (a : Args heat-up.signature κs) (r : Result ℕ Reason) (x : AtExit heat-up.ended κs) (h : reads.Post κs a r x) where
  pub outcome-unchanged : r ≡ tabled a.0
  outcome-unchanged = h ∙ unchanged a.0
