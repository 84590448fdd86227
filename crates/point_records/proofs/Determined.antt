-- The contracts of the two lookups over records determine their answers, for every input.
use mathlib.Core.Path.{◌≡◌, refl}
use lib.ListN.{take}
use seplogic.Ra.Ura.{Ura}
use base.Logic.{SProp}
use prog.Memory.{Memory}
use prog.Routine.{Routine}
use types.Logic.{Logic}
use contract.Lifetimes.{Lfts}
use contract.Monad.{Fun, fact}
use denote.Triple.Clauses.{AtExit}
use denote.Triple.Entry.{Args}
use Rattle.profiles.specs.Answer.{Finding, lookup_of}
use Rattle.seconds.specs.Determined.{Determines, determined}
use Rattle.point_records.specs.Records.{flattened}
use Rattle.point_records.specs.contracts.lookup_records as lookup-records
use Rattle.point_records.specs.contracts.lookup_among as lookup-among

-- What the contract says of an answer, as a claim.
abbrev pub Post : (κs : Lfts 1) → Args lookup-records.signature κs → Finding → AtExit lookup-records.ended κs → Type 0
Post κs a r x = r ≡ lookup_of (flattened a.0.now) a.1.0

-- It is what the contract ensures.
pub post_is : {M : Type 1} {𝓤 : Ura M} (𝓛 : Logic 𝓤) (mem : Memory → SProp 𝓤) (run : Routine → Fun 𝓤) (κs : Lfts 1)
    (a : Args lookup-records.signature κs) (r : Finding) (x : AtExit lookup-records.ended κs)
    → (lookup-records.clauses 𝓛 mem run κs a).ensures tt r x ≡ fact 𝓤 (Post κs a r x)
post_is 𝓛 mem run κs a r x = refl

-- Two answers that it allows for the same records and time are equal.
pub lookup-records-determined : (κs : Lfts 1) → Determines (Post κs) (λ r x. r)
lookup-records-determined κs = determined (Post κs) (λ r x. r) (λ a. lookup_of (flattened a.0.now) a.1.0) (λ a r x h. h)

-- What the contract over records that are passed by value says of an answer.
abbrev pub AmongPost : (κs : Lfts 0) → Args lookup-among.signature κs → Finding → AtExit lookup-among.ended κs → Type 0
AmongPost κs a r x = r ≡ lookup_of (flattened (take a.1.0 a.0)) a.1.1.0

-- It is what that contract ensures,
pub among-post-is : {M : Type 1} {𝓤 : Ura M} (𝓛 : Logic 𝓤) (mem : Memory → SProp 𝓤) (run : Routine → Fun 𝓤)
    (κs : Lfts 0) (a : Args lookup-among.signature κs) (r : Finding) (x : AtExit lookup-among.ended κs)
    → (lookup-among.clauses 𝓛 mem run κs a).ensures tt r x ≡ fact 𝓤 (AmongPost κs a r x)
among-post-is 𝓛 mem run κs a r x = refl

-- and two answers that it allows for the same records, count and time are equal.
pub lookup-among-determined : (κs : Lfts 0) → Determines (AmongPost κs) (λ r x. r)
lookup-among-determined κs =
    determined (AmongPost κs) (λ r x. r) (λ a. lookup_of (flattened (take a.1.0 a.0)) a.1.1.0) (λ a r x h. h)
