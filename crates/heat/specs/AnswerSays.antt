-- What an answer of the heat-up call says in numbers, for every byte: below -30 degrees refusal 12 and no length; else no
-- refusal, and the length of the two slopes.
use Rattle.std.specs.Prelude.{ℕ, ◌≡◌, negsuc, ◌≤ℤ◌, ◌<ℤ◌}
use Rattle.std.proofs.Common.{ap}
use Rattle.heat.specs.Heat.{degree_of, heat_at}
use Rattle.heat.specs.Answer.{heating_of, refusal_of, length_of}
use Rattle.heat.specs.Degree.{heating-cold, heating-else}

module _ (b : ℕ) where
  -- The answer's refusal number and length.
  abbrev Says : ℕ → ℕ → Type 0
  Says refusal length = (refusal_of (heating_of b) ≡ refusal) × (length_of (heating_of b) ≡ length)

  -- Too cold,
  pub cold-says : degree_of b <ℤ negsuc 29 → Says 12 0
  cold-says h = (ap refusal_of (heating-cold b h), ap length_of (heating-cold b h))

  -- or not.
  pub seconds-say : negsuc 29 ≤ℤ degree_of b → Says 0 (heat_at (degree_of b))
  seconds-say h = (ap refusal_of (heating-else b h), ap length_of (heating-else b h))
