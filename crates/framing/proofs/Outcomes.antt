-- What the contract of framing says of every outcome that it allows: what its refusal names, when it is 16, and that what it writes
-- is an order of kind 0 that planning accepts (1 to 7, 9 and 19 never apply).
use Prim.Native.Nat.{ℕ}
use mathlib.Core.Path.{◌≡◌, sym, ◌∙◌}
use mathlib.Core.Logic.{◌↔◌}
use lib.ListN.{length}
use contract.Lifetimes.{Lfts}
use denote.Triple.Clauses.{AtExit}
use denote.Triple.Entry.{Args}
use Rattle.std.proofs.Common.{Ok}
use Rattle.packed.specs.Judge.{at_place, refusal_of}
use Rattle.framing.specs.Answer.{Framed}
use Rattle.framing.specs.AnswerSays.{FrameRefusal, frame-refusal, Unfit, sixteen-is, FrameWritten, frame-written}
use Rattle.framing.specs.declared.FrameOrder.{FrameOrder}
use Rattle.framing.specs.contracts.frame as frame
use Rattle.framing.proofs.frame.Reads as reads

module _ (κs : Lfts 2) (a : Args frame.signature κs) (r : Framed) (x : AtExit frame.ended κs) (h : reads.Post κs a r x) where
  pub outcome-refusal : FrameRefusal a.0.now (refusal_of r)
  outcome-refusal = rw h.0 (frame-refusal a.0.now (length a.1.0.now))

  pub outcome-sixteen : (p : ℕ) → refusal_of r ≡ at_place 16 p ↔ Unfit a.0.now p
  outcome-sixteen p = rw h.0 (sixteen-is a.0.now (length a.1.0.now) p)

  pub outcome-written : (made : FrameOrder) → r ≡ Ok made → FrameWritten a.0.now x.1.0.now made
  outcome-written made e = frame-written a.0.now a.1.0.now x.1.0.now made (sym h.0 ∙ e) h.1
