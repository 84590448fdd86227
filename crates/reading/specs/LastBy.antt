-- What the search from the back finds in a list that stands at a place: the last point by a time.
use Rattle.std.specs.Prelude.{ℕ, ◌+◌, ◌-◌, ◌<◌, ◌≡◌, refl, Bool, true, false, ℤ, pos, length, ◌≤ℤ◌, ◌<ℤ◌}
use Rattle.std.proofs.Common.{◌∙◌, arith}
use mathlib.Core.List.Memᴰ.{head}
use mathlib.Core.List.Memᴰ.{tail}
use mathlib.Core.List.{List, [], ◌∷◌, Memᴰ as In}
use mathlib.Core.List.Memᴰ.{not-nil}
use Rattle.std.proofs.Math.Option.{none, some}
use Rattle.std.specs.Int.Signed.{le_z}
use Rattle.seconds.specs.Limits.{earliest, latest_free}
use Rattle.seconds.specs.Ranges.{min_z, InFree}
use Rattle.seconds.specs.Signed.{signed, min-is}
use Rattle.order.specs.Job.{Point}
use Rattle.profile.specs.Profile.{lookup}
use Rattle.codes.specs.Code.{point_of, limit_of, at0, list_at}
use Rattle.codes.specs.Held.{After}
use Rattle.codes.specs.HeldLaws.{held-within, list_length}
use Rattle.codes.specs.Cuts.{lookup-front}
use Rattle.reading.specs.Reading.{Stands}
use Rattle.reading.specs.ReadingLaws.{lookup-over, lookup-after, number-there}

-- The time that is asked for: the earlier of a time and the last second of all points.
abbrev pub asked : ℤ → ℤ
asked t = min_z t latest_free

-- From the earliest time on it is one that a point may have.
pub asked-free : {t : ℤ} → earliest ≤ℤ t → InFree (asked t)
asked-free {t} h = omega (signed, min-is t latest_free)

-- Two times that the same points are by have the same lookup.
lookup-same : (t u : ℤ) (ps : List Point) → ((p : Point) → In p ps → p.time ≤ℤ t → p.time ≤ℤ u)
    → ((p : Point) → In p ps → p.time ≤ℤ u → p.time ≤ℤ t) → lookup ps t ≡ lookup ps u
lookup-same t u [] to from = refl
lookup-same t u (p ∷ ps) to from =
    go (le_z p.time t) (le_z p.time u) refl refl (lookup-same t u ps (λ q m. to q (tail m)) (λ q m. from q (tail m)))
  where
    go : (a b : Bool) → le_z p.time t ≡ a → le_z p.time u ≡ b → lookup ps t ≡ lookup ps u
        → lookup (p ∷ ps) t ≡ lookup (p ∷ ps) u
    go true true d e same = rw (d, e, same)
    go false false d e same = rw (d, e, same)
    go true false d e same = absurd (omega (signed, to p (head refl) (omega signed)))
    go false true d e same = absurd (omega (signed, from p (head refl) (omega signed)))

module _ {work : List ℤ} {place count : ℕ} (s : Stands work place count) where
  -- No point is before the earliest time.
  pub none_before : (t : ℤ) → t <ℤ earliest → lookup (list_at work place count) t ≡ none
  none_before t h = lookup-front t [] (list_at work place count) (λ p m. absurd (not-nil m)) late
    where
      late : (p : Point) → In p (list_at work place count) → t <ℤ p.time
      late p m = omega (signed, (held-within s.held p m).time)

  -- None is past the last second of all, so a time is asked for as the earlier of both.
  as-asked : (t : ℤ) → lookup (list_at work place count) t ≡ lookup (list_at work place count) (asked t)
  as-asked t = lookup-same t (asked t) (list_at work place count)
      (λ p m. omega (signed, (held-within s.held p m).time, min-is t latest_free))
      (λ p m. omega (signed, min-is t latest_free))

  module _ {t : ℤ} (h : earliest ≤ℤ t) {e : ℕ} (a : After work place (place + count) (limit_of (asked t)) e) where
    -- The place found is one for the list's length.
    searched : After work place (place + length (list_at work place count)) (limit_of (asked t)) e
    searched = let n = list_length work place count in rw n a

    -- At the front of the list there is none,
    pub none_found : e ≡ place → lookup (list_at work place count) t ≡ none
    none_found d = as-asked t ∙ lookup-over (asked-free h) s.held (λ k l m. searched.over k (omega arith) m)

    module _ (more : place < e) where
      -- else the number before the place is a point's,
      pub found_number : pos 0 ≤ℤ at0 work (e - 1)
      found_number =
          let k : place + (e - 1 - place) ≡ e - 1 = omega arith in
          let number = number-there count s.held (e - 1 - place) (omega (arith, a.high)) in
          rw k at number

      -- and it is that point.
      pub last_found : lookup (list_at work place count) t ≡ some (point_of (at0 work (e - 1)))
      last_found = as-asked t ∙ lookup-after (asked-free h) e s.held searched more
