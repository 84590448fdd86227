-- Better-of: the shortest profile that gives at each time the greater of the two weights.
use Rattle.std.specs.Prelude.{◌≡◌, refl, List, [], ◌++◌, ℕ, ℤ}
use Rattle.std.proofs.Common.{sym, ap₂, ◌∙◌}
use Rattle.std.proofs.Math.Option.{Option}
use Rattle.order.specs.Job.{Point}
use Rattle.profile.specs.Profile.{greater, worth, better_of}
use Rattle.profile.proofs.Rising.{Rising}
use Rattle.profile.proofs.Worth.{worth-append, lookup_weight, lookup-worth, ShortestProfile, profile_of-is}

-- The greater of what two lists of points are worth.
abbrev pub GreaterOf : List Point → List Point → ℤ → Option ℕ → Type 0
GreaterOf P Q t o = o ≡ greater (worth P t) (worth Q t)

-- Better-of gives the shortest profile of it.
pub better_of-is : (P Q : List Point) → ShortestProfile (GreaterOf P Q) (better_of P Q)
better_of-is P Q = profile_of-is (GreaterOf P Q) (λ t a b g h. g ∙ sym h) (P ++ Q) (worth-append P Q)

-- Of two profiles, it is at each time the greater of what their lookups find.
pub better_of-lookup : {P Q : List Point} → Rising P → Rising Q → (t : ℤ)
    → lookup_weight (better_of P Q) t ≡ greater (lookup_weight P t) (lookup_weight Q t)
better_of-lookup {P} {Q} r s t =
    (better_of-is P Q).finds t ∙ ap₂ greater (sym (lookup-worth r t)) (sym (lookup-worth s t))

-- Of two empty profiles it is empty.
pub better_of-empty : better_of [] [] ≡ []
better_of-empty = refl
