-- What merging must not keep, as computed facts.
use Rattle.std.specs.Prelude.{◌≡◌, refl, [], ◌∷◌, ℕ, ℤ, pos}
use Rattle.order.specs.Job.{Point}
use Rattle.profile.specs.Profile.{profile_of}

abbrev point : ℤ → ℕ → Point
point t w = record { time = t; weight = w }

-- A later point of equal weight goes, from either side.
pub equal-weight-goes : profile_of (point (pos 5) 7 ∷ point (pos 20) 7 ∷ []) ≡ point (pos 5) 7 ∷ []
equal-weight-goes = refl

pub equal-weight-goes-too : profile_of (point (pos 20) 7 ∷ point (pos 5) 7 ∷ []) ≡ point (pos 5) 7 ∷ []
equal-weight-goes-too = refl

-- Of two points at one time only the heavier stays.
pub heavier-stays : profile_of (point (pos 5) 3 ∷ point (pos 5) 7 ∷ []) ≡ point (pos 5) 7 ∷ []
heavier-stays = refl
