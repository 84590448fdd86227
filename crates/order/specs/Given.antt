-- Points compared: one covers another if it is no later and no lighter, and a list gives a point if one of its own
-- covers it. All laws of profiles are stated over these. Definitions only.
use Rattle.std.specs.Prelude.{List, ◌∷◌, ◌≤◌, ◌≤ℤ◌}
use Rattle.order.specs.Job.{Point}

-- p is no later and no lighter than q.
pub record Covers (p q : Point) : Type 0 where
  pub soon : p.time ≤ℤ q.time
  pub heavy : q.weight ≤ p.weight

-- Some point of the list covers q.
pub data Given (q : Point) : List Point → Type 0 where
  here : {p : Point} {ps : List Point} → Covers p q → Given q (p ∷ ps)
  there : {p : Point} {ps : List Point} → Given q ps → Given q (p ∷ ps)

-- All that the first list gives, the second gives; and both ways.
infix 50 ◌⊑◌
abbrev pub ◌⊑◌ : List Point → List Point → Type 0
ps ⊑ qs = (r : Point) → Given r ps → Given r qs

pub record Same (ps qs : List Point) : Type 0 where
  pub to : ps ⊑ qs
  pub back : qs ⊑ ps
