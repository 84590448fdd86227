-- Profiles compared (R51): one is no worse than another if at every time its lookup finds at least the weight that the other's
-- finds, nothing being the least. Definitions only.
use Rattle.std.specs.Prelude.{ℕ, ◌≤◌, List, ℤ}
use Rattle.std.proofs.Math.Option.{Option, none, some, map}
use Rattle.order.specs.Job.{Point}
use Rattle.profile.specs.Profile.{lookup}

-- The weight of the point that a lookup finds.
abbrev pub lookup_weight : List Point → ℤ → Option ℕ
lookup_weight ps t = map (λ (p : Point). p.weight) (lookup ps t)

-- The first is at least the second; nothing is the least.
abbrev pub AtLeast : Option ℕ → Option ℕ → Type 0
AtLeast v none = Unit {0}
AtLeast none (some w) = ⊥
AtLeast (some v) (some w) = w ≤ v

abbrev pub NoWorse : List Point → List Point → Type 0
NoWorse new old = (t : ℤ) → AtLeast (lookup_weight new t) (lookup_weight old t)
