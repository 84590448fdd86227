-- The contract of the lookup over records, written out as a claim.
use mathlib.Core.Path.{◌≡◌, refl}
use seplogic.Ra.Ura.{Ura}
use base.Logic.{SProp}
use prog.Memory.{Memory}
use prog.Routine.{Routine}
use types.Logic.{Logic}
use contract.Lifetimes.{Lfts}
use contract.Monad.{Fun, fact}
use denote.Triple.Clauses.{AtExit}
use denote.Triple.Entry.{Args}
use Rattle.profiles.specs.Answer.{lookup_of}
use Rattle.point_records.specs.Records.{flattened}
use Rattle.plan_answers.specs.Numbers.{lookup_numbers}
use Rattle.plan_answers.specs.declared.LookupAnswer.{LookupAnswer}
use Rattle.leafanchor.specs.contracts.leafanchor_lookup_records as records

-- What the contract says of an answer, as a claim;
abbrev pub RecordsPost : (κs : Lfts 1) → Args records.signature κs → LookupAnswer → AtExit records.ended κs → Type 0
RecordsPost κs a r x = r ≡ lookup_numbers (lookup_of (flattened a.0.now) a.1.0)

-- it is what the contract ensures.
pub records-post-is : {M : Type 1} {𝓤 : Ura M} (𝓛 : Logic 𝓤) (mem : Memory → SProp 𝓤) (run : Routine → Fun 𝓤)
    (κs : Lfts 1) (a : Args records.signature κs) (r : LookupAnswer) (x : AtExit records.ended κs)
    → (records.clauses 𝓛 mem run κs a).ensures tt r x ≡ fact 𝓤 (RecordsPost κs a r x)
records-post-is 𝓛 mem run κs a r x = refl
