-- The contract of each call determines its outcome, for every input: two outcomes that it allows are equal. Of opening, in the
-- answer and in all that can be seen of the reader; of a step and of reading from a place, in the whole.
use mathlib.Core.Path.{◌≡◌, refl, sym, ◌∙◌}
use seplogic.Ra.Ura.{Ura}
use base.Logic.{SProp}
use prog.Memory.{Memory}
use prog.Routine.{Routine}
use types.Logic.{Logic}
use contract.Lifetimes.{Lfts}
use contract.Monad.{Fun, fact}
use denote.Triple.Clauses.{AtExit}
use denote.Triple.Entry.{Args}
use Rattle.reader.specs.Reading.{open_of}
use Rattle.reader_struct.specs.Standing.{seen, begun_over, stepped_of}
use Rattle.reader_struct.specs.declared.Begun.{Begun}
use Rattle.reader_struct.specs.declared.Stepped.{Stepped}
use Rattle.reader_struct.specs.declared.Reading.{Reading}
use Rattle.reader_struct.specs.contracts.Reader.open as opens
use Rattle.reader_struct.specs.contracts.Reader.step as step
use Rattle.reader_struct.specs.contracts.read_at as read_at
use Rattle.reader_struct.proofs.read_at.Reads as read-at-reads

-- What the contract of `open` says of an outcome, as a claim.
abbrev pub Opens : (κs : Lfts 1) → Args opens.signature κs → Begun → Type 0
Opens κs a r = (r.answer ≡ open_of a.0.now) × (seen r.reader ≡ begun_over a.0)

-- And that of `step`.
abbrev pub Steps : (κs : Lfts 1) → Args step.signature κs → Stepped → Type 0
Steps κs a r = r ≡ stepped_of a.0

-- The claims are what the contracts ensure.
module _ {M : Type 1} {𝓤 : Ura M} (𝓛 : Logic 𝓤) (mem : Memory → SProp 𝓤) (run : Routine → Fun 𝓤) (κs : Lfts 1) where
  pub opens-is : (a : Args opens.signature κs) (r : Begun) (x : AtExit opens.ended κs)
      → (opens.clauses 𝓛 mem run κs a).ensures tt r x ≡ fact 𝓤 (Opens κs a r)
  opens-is a r x = refl

  pub steps-is : (a : Args step.signature κs) (r : Stepped) (x : AtExit step.ended κs)
      → (step.clauses 𝓛 mem run κs a).ensures tt r x ≡ fact 𝓤 (Steps κs a r)
  steps-is a r x = refl

-- Opening.
pub open-determined : (κs : Lfts 1) (a : Args opens.signature κs) (r s : Begun) → Opens κs a r → Opens κs a s
    → (r.answer ≡ s.answer) × (seen r.reader ≡ seen s.reader)
open-determined κs a r s h k = (h.0 ∙ sym k.0, h.1 ∙ sym k.1)

-- A step.
pub step-determined : (κs : Lfts 1) (a : Args step.signature κs) (r s : Stepped) → Steps κs a r → Steps κs a s → r ≡ s
step-determined κs a r s h k = h ∙ sym k

-- Reading from a place.
pub read-at-determined : (κs : Lfts 1) (a : Args read_at.signature κs) (r s : Reading) (x y : AtExit read_at.ended κs)
    → read-at-reads.Post κs a r x → read-at-reads.Post κs a s y → r ≡ s
read-at-determined κs a r s x y h k = h ∙ sym k
