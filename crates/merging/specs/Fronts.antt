-- The front of a rising list that goes before all of another: merging keeps it as it is, and goes on from its last weight.
use Rattle.std.specs.Prelude.{◌+◌, ◌≤◌, ◌≡◌, refl, true, ℤ, pos, length, ◌<ℤ◌}
use Rattle.std.proofs.Common.{ap, ◌∙◌}
use mathlib.Core.List.Memᴰ.{head}
use mathlib.Core.List.Memᴰ.{tail}
use mathlib.Core.List.{List, [], ◌∷◌, ◌++◌, Memᴰ as In}
use Rattle.std.specs.Int.Signed.{lt_z}
use Rattle.seconds.specs.Limits.{most_weight}
use Rattle.seconds.specs.Signed.{signed, up, dn}
use Rattle.order.specs.Job.{Point}
use Rattle.profile.proofs.Rising.{BelowAll, below-member, Rising, rising_none, rising-more}
use Rattle.profile.proofs.Closure.{PointWithin}
use Rattle.better.specs.InTurn.{first_goes, turn-first}
use Rattle.better.specs.Heavier.{heavier, merge}

-- ---- the last weight

-- The weight of the last point, or the one before.
abbrev pub last_after : ℤ → List Point → ℤ
last_after w [] = w
last_after w (p ∷ ps) = last_after (pos p.weight) ps

-- Every point is heavier than this.
abbrev pub AllAbove : ℤ → List Point → Type 0
AllAbove w fs = (p : Point) → In p fs → w <ℤ pos p.weight

below-above : {p : Point} {fs : List Point} → BelowAll p fs → AllAbove (pos p.weight) fs
below-above b x m = let l = below-member b m in omega signed

-- It is at most the most,
pub last-light : (w : ℤ) (fs : List Point) → ((p : Point) → In p fs → PointWithin p) → up w ≤ most_weight
    → up (last_after w fs) ≤ most_weight
last-light w [] f h = h
last-light w (p ∷ fs) f h = last-light (pos p.weight) fs (λ q m. f q (tail m)) (f p (head refl)).weight

-- and each point of a rising list adds to it.
pub last-few : (w : ℤ) {fs : List Point} → Rising fs → AllAbove w fs
    → length fs + (up w + dn (last_after w fs)) ≤ up (last_after w fs) + dn w
last-few w rising_none h = omega signed
last-few w (rising-more {p = p} b r) h =
    let above = h p (head refl) in
    let ih = last-few (pos p.weight) r (below-above b) in
    omega signed

-- ---- the front is kept

pub front_kept : (w : ℤ) {fs : List Point} (bs qs : List Point) → Rising fs → AllAbove w fs
    → ((p : Point) → In p fs → (ps : List Point) → first_goes (p ∷ ps) qs ≡ true)
    → merge w (fs ++ bs) qs ≡ fs ++ merge (last_after w fs) bs qs
front_kept w bs qs rising_none h f = refl
front_kept w bs qs (rising-more {p = p} {ps = fs} b r) h f =
    let above = h p (head refl) in
    let heavy : lt_z w (pos p.weight) ≡ true = omega signed in
    let ih = front_kept (pos p.weight) bs qs r (below-above b) (λ q m. f q (tail m)) in
    ap (heavier w) (turn-first p (fs ++ bs) qs (f p (head refl) (fs ++ bs))) ∙ rw heavy (ap (λ (l : List Point). p ∷ l) ih)
