-- What an answer of lookup says in numbers, for every input: without a valid profile refusal 8 and all else 0; else no
-- refusal, and the last point by the time as found with its weight, or nothing found and weight 0.
use Rattle.std.specs.Prelude.{ℕ, ◌≡◌, refl, List, ℤ}
use Rattle.std.proofs.Math.Option.{none, some}
use Rattle.order.specs.Job.{Point}
use Rattle.profile.specs.Profile.{lookup}
use Rattle.profiles.specs.Numbers.{profile_in}
use Rattle.profiles.specs.Answer.{lookup_of, lookup_refusal, found_of, weight_found}

module _ (ns : List ℤ) (t : ℤ) where
  -- The answer's refusal number, found and weight.
  abbrev Says : ℕ → ℕ → ℕ → Type 0
  Says refusal found weight =
      (lookup_refusal (lookup_of ns t) ≡ refusal) × (found_of (lookup_of ns t) ≡ found) × (weight_found (lookup_of ns t) ≡ weight)

  -- No valid profile.
  pub not-valid-says : profile_in ns ≡ none → Says 8 0 0
  not-valid-says e = rw e (refl, refl, refl)

  module _ (ps : List Point) (there : profile_in ns ≡ some ps) where
    -- A point by the time,
    pub found-says : (p : Point) → lookup ps t ≡ some p → Says 0 1 p.weight
    found-says p e = rw (there, e) (refl, refl, refl)

    -- or none.
    pub not-found-says : lookup ps t ≡ none → Says 0 0 0
    not-found-says e = rw (there, e) (refl, refl, refl)
