-- Which points wait until a time: the last one of those up to it, and none of the later ones.
use Rattle.std.specs.Prelude.{◌≡◌, refl, true, false, ℤ, ◌≤ℤ◌, ◌<ℤ◌}
use Rattle.std.proofs.Common.{ap}
use mathlib.Core.List.Memᴰ.{head}
use mathlib.Core.List.Memᴰ.{tail}
use mathlib.Core.List.{List, [], ◌∷◌, ◌++◌, Memᴰ as In}
use Rattle.std.specs.Int.Signed.{le_z}
use Rattle.seconds.specs.Signed.{signed, max-is}
use Rattle.order.specs.Job.{Point}
use Rattle.order.proofs.Moves.{point-path}
use Rattle.points.specs.Steps.{waited, when_ready, last_of}

module _ {t : ℤ} where
  -- A point past the time does not wait.
  pub no-wait : {p : Point} → t <ℤ p.time → waited t p ≡ p
  no-wait {p} h = point-path (omega (signed, max-is t p.time)) refl

  -- None waits where all are past the time,
  pub none-waits : (bs : List Point) → ((p : Point) → In p bs → t <ℤ p.time) → when_ready t bs ≡ bs
  none-waits [] late = refl
  none-waits (p ∷ []) late = ap (λ (x : Point). x ∷ []) (no-wait (late p (head refl)))
  none-waits (p ∷ q ∷ qs) late =
      let next = late q (tail (head refl)) in
      let test : le_z q.time t ≡ false = omega signed in
      rw test (ap (λ (x : Point). x ∷ q ∷ qs) (no-wait (late p (head refl))))

  -- else the last of those up to it does.
  pub one-waits : (p : Point) (fs bs : List Point) → ((q : Point) → In q (p ∷ fs) → q.time ≤ℤ t)
      → ((q : Point) → In q bs → t <ℤ q.time) → when_ready t (p ∷ (fs ++ bs)) ≡ waited t (last_of p fs) ∷ bs
  one-waits p [] [] early late = refl
  one-waits p [] (q ∷ bs) early late =
      let next = late q (head refl) in
      let test : le_z q.time t ≡ false = omega signed in
      rw test
  one-waits p (q ∷ fs) bs early late =
      let soon = early q (tail (head refl)) in
      let test : le_z q.time t ≡ true = omega signed in
      rw test (one-waits q fs bs (λ x m. early x (tail m)) late)

-- The last of points up to a time is one.
pub last-early : {t : ℤ} (p : Point) (fs : List Point) → ((q : Point) → In q (p ∷ fs) → q.time ≤ℤ t) → (last_of p fs).time ≤ℤ t
last-early p [] early = early p (head refl)
last-early p (q ∷ fs) early = last-early q fs (λ x m. early x (tail m))
