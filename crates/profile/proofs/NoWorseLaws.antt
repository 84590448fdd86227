-- Easier jobs, behind a profile that is no worse, give a profile that is no worse (R51): one profile is no worse than another
-- exactly when it gives all that the other gives, and that the moves of easier jobs keep.
use Rattle.std.specs.Prelude.{ℕ, ◌<◌, ◌≡◌, refl, List, [], ◌∷◌, ◌++◌, ◌↔◌, ◌⊎◌, ℤ, ◌≤ℤ◌}
use Rattle.std.proofs.Common.{subst, arith}
use Rattle.std.proofs.Math.Option.{Option, none, some}
use Rattle.seconds.specs.Signed.{signed}
use Rattle.order.specs.Job.{Job, Order, Point}
use Rattle.order.specs.Choice.{outcomes}
use Rattle.order.specs.Easier.{NoLower, EasierJobs, EasierOrder}
use Rattle.order.specs.Given.{Covers, Given, here, ◌⊑◌}
use Rattle.order.proofs.GivenLaws.{given-own, given-left, ⊑_trans, easier-outcomes}
use Rattle.profile.specs.Profile.{worth, profile_of, extend, better_of, start_point, order_profile, last_point}
use Rattle.profile.specs.NoWorse.{AtLeast, NoWorse}
use Rattle.profile.proofs.Rising.{Rising, rising-one}
use Rattle.profile.proofs.Points.{given-none, profile_of-rises, profile_of-same}
use Rattle.profile.proofs.Last.{last_none, last-member, last-covers-given}
use Rattle.profile.proofs.Greatest.{Greatest, nothing, greatest, Under}
use Rattle.profile.proofs.Worth.{worth-greatest, given-under, under-given, lookup-worth}

-- ---- lookups, and what a list gives

-- A family that another reaches has no greater greatest, and back.
greatest-least : {W X : ℕ → Type 0} {a b : Option ℕ} → Greatest W a → Greatest X b → Under W X ↔ AtLeast b a
greatest-least (nothing f) (nothing g) = (λ h. tt, λ h w p. absurd (f w p))
greatest-least (nothing f) (greatest q g) = (λ h. tt, λ h w p. absurd (f w p))
greatest-least (greatest {w = w} p f) (nothing g) = (λ h. g (h w p).0 (h w p).1, λ h. absurd h)
greatest-least (greatest {w = w} p f) (greatest {w = x} q g) =
    (λ h. omega (arith, (h w p).2, g (h w p).0 (h w p).1), λ h v r. (x, q, omega (arith, f v r)))

-- A list gives all that another gives exactly when at every time it is worth at least as much,
worth-least : (new old : List Point) → old ⊑ new ↔ ((t : ℤ) → AtLeast (worth new t) (worth old t))
worth-least new old = (
  λ h t. (greatest-least (worth-greatest old t) (worth-greatest new t)).0 (given-under h t),
  λ h. under-given (λ t. (greatest-least (worth-greatest old t) (worth-greatest new t)).1 (h t)),
)

-- and a rising one exactly when it is no worse.
pub no-worse-gives : {new old : List Point} → Rising new → Rising old → NoWorse new old ↔ old ⊑ new
no-worse-gives {new} {old} r s =
    let least = worth-least new old in (
      λ h. least.1 (λ t. rw (lookup-worth r t, lookup-worth s t) at (h t)),
      λ h t. rw (lookup-worth r t, lookup-worth s t) (least.0 h t),
    )

-- ---- made profiles

-- Of two lists of which one gives all that the other gives, the profile of the one is no worse.
pub profile_of-no-worse : (new old : List Point) → old ⊑ new → NoWorse (profile_of new) (profile_of old)
profile_of-no-worse new old h =
    (no-worse-gives (profile_of-rises new) (profile_of-rises old)).1
    (⊑_trans (profile_of-same old).to (⊑_trans h (profile_of-same new).back))

-- Extending by easier jobs a profile that is no worse.
pub extend-no-worse : {new old : List Job} {P Q : List Point} → EasierJobs NoLower new old → Rising P → Rising Q → NoWorse P Q
    → NoWorse (extend P new) (extend Q old)
extend-no-worse {new} {old} {P} {Q} e r s h =
    profile_of-no-worse (outcomes new P) (outcomes old Q) (easier-outcomes e ((no-worse-gives r s).0 h))

-- The better of two profiles is no worse than the first.
pub better_of-no-worse : {P : List Point} (Q : List Point) → Rising P → NoWorse (better_of P Q) P
better_of-no-worse {P} Q r =
    (no-worse-gives (profile_of-rises (P ++ Q)) r).1 (λ q g. (profile_of-same (P ++ Q)).back q (given-left Q g))

-- ---- orders

-- With the bus free no later, its point is no worse,
pub start-no-worse : {s t : ℤ} → s ≤ℤ t → NoWorse (start_point s ∷ []) (start_point t ∷ [])
start-no-worse {s} {t} h = (no-worse-gives (rising-one (start_point s)) (rising-one (start_point t))).1 sooner
  where
    sooner : start_point t ∷ [] ⊑ start_point s ∷ []
    sooner r (Rattle.order.specs.Given.there x3) = elim x3 [ ]
    sooner r (here c) = here {p = start_point s} (record { soon = omega (signed, h, c.soon); heavy = c.heavy })

-- so an easier order's profile is no worse.
pub order-no-worse : {new old : Order} → EasierOrder NoLower new old → NoWorse (order_profile new) (order_profile old)
order-no-worse {new} {old} e =
    extend-no-worse e.jobs (rising-one (start_point new.t0)) (rising-one (start_point old.t0)) (start-no-worse e.t0)

-- ---- the last point

-- Where the old one has a last point, so has the new one: it is heavier, or as heavy and no later.
pub record LastNoWorse (new : List Point) (was : Point) : Type 0 where
  pub last : Point
  pub is : last_point new ≡ some last
  pub better : Covers last was ⊎ (was.weight < last.weight)

pub last-no-worse : {new old : List Point} {r : Point} → Rising new → Rising old → NoWorse new old → last_point old ≡ some r
    → LastNoWorse new r
last-no-worse {new} {old} {r} s u h e = go (last_point new) refl ((no-worse-gives s u).0 h r (given-own (last-member old e)))
  where
    go : (o : Option Point) → last_point new ≡ o → Given r new → LastNoWorse new r
    go none d g = absurd (given-none (subst (Given r) (last_none new d) g))
    go (some q) d g = record { last = q; is = d; better = last-covers-given s d g }
