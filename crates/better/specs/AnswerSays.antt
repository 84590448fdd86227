-- What an answer of better-of says in numbers (R14, R26), for every input: unless both are valid profiles refusal 8, with too
-- little room refusal 10, and no points either way; else no refusal, and the points of the better of both.
use Rattle.std.specs.Prelude.{ℕ, ◌≤◌, ◌<◌, ◌≡◌, refl, List, ℤ, length}
use Rattle.std.proofs.Math.Option.{Option, none, some}
use Rattle.std.proofs.Common.{lt-ltb, le-ltb}
use Rattle.order.specs.Job.{Point}
use Rattle.profile.specs.Profile.{better_of}
use Rattle.profiles.specs.Numbers.{most_numbers, profile_in}
use Rattle.better.specs.Answer.{better_in, joined_in, joined_of, join_refusal, points_written}

module _ (p q out : List ℤ) where
  -- The answer's refusal number and points.
  abbrev Says : ℕ → ℕ → Type 0
  Says refusal points = (join_refusal (joined_of p q out) ≡ refusal) × (points_written (joined_of p q out) ≡ points)

  -- The first is no valid profile,
  pub first-not-says : profile_in p ≡ none → Says 8 0
  first-not-says e = rw e (refl, refl)

  -- or the second is none.
  pub second-not-says : profile_in q ≡ none → Says 8 0
  second-not-says e = rw e (go (profile_in p))
    where
      go : (o : Option (List Point))
          → (join_refusal (joined_in (better_in o none) (length out)) ≡ 8)
          × (points_written (joined_in (better_in o none) (length out)) ≡ 0)
      go none = (refl, refl)
      go (some ps) = (refl, refl)

  module _ (ps qs : List Point) (first : profile_in p ≡ some ps) (second : profile_in q ≡ some qs) where
    -- Both are, with too little room,
    pub no-room-says : length out < most_numbers → Says 10 0
    no-room-says h = rw (first, second, lt-ltb (length out) most_numbers h) (refl, refl)

    -- or with enough.
    pub points-say : most_numbers ≤ length out → Says 0 (length (better_of ps qs))
    points-say h = rw (first, second, le-ltb (length out) most_numbers h) (refl, refl)
