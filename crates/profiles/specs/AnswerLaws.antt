-- What the code of lookup learns on its way, as the answer of the call.
use Rattle.std.specs.Prelude.{ℕ, suc, ◌≡◌, refl, true, false, List, ℤ, pos, get_or, Ok, Err, Some, None}
use Rattle.std.proofs.Common.{ap, ◌∙◌}
use Rattle.std.proofs.Math.Option.{Option, none, some, none-ne-some}
use Rattle.refusals.specs.declared.Reason.TheVariants.{ProfileNotValid}
use Rattle.order.specs.Job.{Point}
use Rattle.profile.specs.Profile.{lookup}
use Rattle.profile.proofs.Closure.{valid-holds}
use Rattle.profiles.specs.Numbers.{holds_profile}
use Rattle.profiles.specs.Places.{points_of}
use Rattle.profiles.specs.NumbersLaws.{held, profile-there, profile-not}
use Rattle.profiles.specs.ByTime.{count_by, number_before, weight_number}
use Rattle.profiles.specs.ByTimeLaws.{lookup-by}
use Rattle.profiles.specs.Answer.{finding_of, finding_in, lookup_of}

-- No valid profile.
pub lookup-refused : (ns : List ℤ) (t : ℤ) → holds_profile ns ≡ false → lookup_of ns t ≡ Err ProfileNotValid
lookup-refused ns t e = ap (λ (o : Option (List Point)). finding_in o t) (profile-not ns e)

module _ (ns : List ℤ) (t : ℤ) (valid : holds_profile ns ≡ true) where
  -- The lookup is one in the points of the numbers,
  looked : lookup_of ns t ≡ finding_of (lookup (points_of ns) t)
  looked = ap (λ (o : Option (List Point)). finding_in o t) (profile-there ns valid)

  -- whose weight stands before the first later point.
  counted : weight_number (lookup (points_of ns) t) ≡ number_before ns (count_by t ns)
  counted =
      let h = held ns valid in
      rw h.numbers at (lookup-by t (valid-holds (points_of ns) h.valid).rises)

  -- Nothing is counted: no point is by the time.
  pub lookup-nothing : count_by t ns ≡ 0 → lookup_of ns t ≡ Ok None
  lookup-nothing e = looked ∙ go (lookup (points_of ns) t) (counted ∙ ap (number_before ns) e)
    where
      go : (o : Option Point) → weight_number o ≡ none → finding_of o ≡ Ok None
      go none f = refl
      go (some p) f = cc

  -- Else the last number counted is the weight found.
  pub lookup-found : (k : ℕ) → count_by t ns ≡ suc k
      → (w : ℕ) × (get_or ns k (pos 0) ≡ pos w) × (lookup_of ns t ≡ Ok (Some w))
  lookup-found k e = go (lookup (points_of ns) t) refl (counted ∙ ap (number_before ns) e)
    where
      go : (o : Option Point) → lookup (points_of ns) t ≡ o → weight_number o ≡ some (get_or ns k (pos 0))
          → (w : ℕ) × (get_or ns k (pos 0) ≡ pos w) × (lookup_of ns t ≡ Ok (Some w))
      go none g f = absurd (none-ne-some (get_or ns k (pos 0)) f)
      go (some p) g f = (p.weight, cc, looked ∙ ap finding_of g)
