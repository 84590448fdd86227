-- A rising list pushed rises, and has the moves of the job from every point of the list.
use Rattle.std.specs.Prelude.{suc, ◌≤◌, ◌≡◌, refl, Bool, true, false, cond, ℤ, pos, ◌+ℤ◌, length, ◌≤ℤ◌, ◌<ℤ◌}
use Rattle.std.proofs.Common.{sym, ap, ◌∙◌, arith}
use mathlib.Core.List.Memᴰ.{head}
use mathlib.Core.List.Memᴰ.{tail}
use mathlib.Core.List.{List, [], ◌∷◌, Memᴰ as In}
use mathlib.Core.List.Memᴰ.{not-nil}
use Rattle.std.specs.Int.Signed.{le_z}
use Rattle.seconds.specs.Limits.{rest}
use Rattle.seconds.specs.Signed.{signed, max-is, add_is}
use Rattle.order.specs.Job.{Rate, Point}
use Rattle.order.specs.Given.{Covers, Given, here, there}
use Rattle.order.proofs.GivenLaws.{given-own, given-covered, covers-refl}
use Rattle.order.proofs.Moves.{point-path}
use Rattle.profile.proofs.Rising.{Below, BelowAll, below_none, below_more, below-further, below-member, Rising, rising_none, rising-more}
use Rattle.points.specs.Steps.{waited, waiting, up_to_time, later_by, all_later}

-- ---- waiting

-- A point after the ready time does not wait.
no-wait : (r : ℤ) (p : Point) → r <ℤ p.time → waited r p ≡ p
no-wait r p h = point-path (omega (signed, max-is r p.time)) refl

-- What waits for a time before a later point is below that one.
waits-below : (r : ℤ) {p q : Point} → r <ℤ q.time → Below p q → Below (waited r p) q
waits-below r {p} {q} h b = omega (signed, max-is r p.time)

-- The points as the job finds them rise.
pub waiting-rises : (r : ℤ) (p : Point) {ps : List Point} → BelowAll p ps → Rising ps → Rising (waiting r p ps)
waiting-rises r p below_none rising_none = rising-more below_none rising_none
waiting-rises r p (below_more {q = q} {qs = qs} b bs) (rising-more c s) =
    go (le_z q.time r) refl (waiting-rises r q c s)
  where
    go : (t : Bool) → le_z q.time r ≡ t → Rising (waiting r q qs)
        → Rising (cond t (waiting r q qs) (waited r p ∷ q ∷ qs))
    go true e i = i
    go false e i = let w : Below (waited r p) q = waits-below r (omega signed) b in
        rising-more (below_more w (below-further w c)) (rising-more c s)

-- They are no more than the list's.
pub waiting_few : (r : ℤ) (p : Point) (ps : List Point) → length (waiting r p ps) ≤ suc (length ps)
waiting_few r p [] = omega arith
waiting_few r p (q ∷ qs) = go (le_z q.time r) (waiting_few r q qs)
  where
    go : (t : Bool) → length (waiting r q qs) ≤ suc (length qs)
        → length (cond t (waiting r q qs) (waited r p ∷ q ∷ qs)) ≤ suc (suc (length qs))
    go true i = omega (arith, i)
    go false i = omega arith

-- Each of them is a point of the list that waited.
pub record Waited (r : ℤ) (ps : List Point) (x : Point) : Type 0 where
  pub from : Point
  pub listed : In from ps
  pub is : x ≡ waited r from

pub waiting-from : (r : ℤ) (p : Point) {ps : List Point} → Rising ps → (x : Point) → In x (waiting r p ps) → Waited r (p ∷ ps) x
waiting-from r p rising_none x m = only m
  where
    only : In x (waited r p ∷ []) → Waited r (p ∷ []) x
    only (head e) = record { from = p; listed = head refl; is = e }
    only (tail n) = absurd (not-nil n)
waiting-from r p (rising-more {p = q} {ps = qs} c s) x m = go (le_z q.time r) refl (waiting-from r q s x) m
  where
    further : Waited r (q ∷ qs) x → Waited r (p ∷ q ∷ qs) x
    further w = record { from = w.from; listed = tail w.listed; is = w.is }

    go : (t : Bool) → le_z q.time r ≡ t → (In x (waiting r q qs) → Waited r (q ∷ qs) x)
        → In x (cond t (waiting r q qs) (waited r p ∷ q ∷ qs)) → Waited r (p ∷ q ∷ qs) x
    go true e i n = further (i n)
    go false e i (head f) = record { from = p; listed = head refl; is = f }
    go false e i (tail (head f)) = record { from = q; listed = tail (head refl); is = f ∙ sym (no-wait r q (omega signed)) }
    go false e i (tail (tail n)) =
        let b = below-member c n in
        record { from = x; listed = tail (tail n); is = sym (no-wait r x (omega signed)) }

-- And they give every point of the list as it waits.
pub waiting-gives : (r : ℤ) (p : Point) {ps : List Point} → BelowAll p ps → Rising ps → (x : Point) → In x (p ∷ ps)
    → Given (waited r x) (waiting r p ps)
waiting-gives r p below_none rising_none x (head e) = rw e (here (covers-refl (waited r p)))
waiting-gives r p below_none rising_none x (tail n) = absurd (not-nil n)
waiting-gives r p (below_more {q = q} {qs = qs} b bs) (rising-more c s) x m =
    go (le_z q.time r) refl (waiting-gives r q c s) m
  where
    go : (t : Bool) → le_z q.time r ≡ t → ((y : Point) → In y (q ∷ qs) → Given (waited r y) (waiting r q qs))
        → In x (p ∷ q ∷ qs) → Given (waited r x) (cond t (waiting r q qs) (waited r p ∷ q ∷ qs))
    go true e i (head f) =
        let cov : Covers (waited r q) (waited r x) =
        rw f (record { soon = omega (signed, max-is r p.time, max-is r q.time); heavy = omega signed }) in
        given-covered (i q (head refl)) cov
    go true e i (tail n) = i x n
    go false e i (head f) = rw f (here (covers-refl (waited r p)))
    go false e i (tail (head f)) = rw (f, no-wait r q (omega signed)) (there (here (covers-refl q)))
    go false e i (tail (tail n)) =
        let b = below-member c n in
        rw (no-wait r x (omega signed)) (there (there (given-own n)))

-- ---- the points up to a time

up_to-below : (t : ℤ) {p : Point} {ps : List Point} → BelowAll p ps → BelowAll p (up_to_time t ps)
up_to-below t below_none = below_none
up_to-below t {p} (below_more {q = q} {qs = qs} b bs) = go (le_z q.time t) (up_to-below t bs)
  where
    go : (c : Bool) → BelowAll p (up_to_time t qs) → BelowAll p (cond c (q ∷ up_to_time t qs) [])
    go true i = below_more b i
    go false i = below_none

pub up_to-rises : (t : ℤ) {ps : List Point} → Rising ps → Rising (up_to_time t ps)
up_to-rises t rising_none = rising_none
up_to-rises t (rising-more {p = p} {ps = ps} b s) = go (le_z p.time t) (up_to-rises t s)
  where
    go : (c : Bool) → Rising (up_to_time t ps) → Rising (cond c (p ∷ up_to_time t ps) [])
    go true i = rising-more (up_to-below t b) i
    go false i = rising_none

pub up_to-few : (t : ℤ) (ps : List Point) → length (up_to_time t ps) ≤ length ps
up_to-few t [] = omega arith
up_to-few t (p ∷ ps) = go (le_z p.time t) (up_to-few t ps)
  where
    go : (c : Bool) → length (up_to_time t ps) ≤ length ps → length (cond c (p ∷ up_to_time t ps) []) ≤ suc (length ps)
    go true i = omega (arith, i)
    go false i = omega arith

pub up_to-from : (t : ℤ) (ps : List Point) (x : Point) → In x (up_to_time t ps) → In x ps × (x.time ≤ℤ t)
up_to-from t [] x m = absurd (not-nil m)
up_to-from t (p ∷ ps) x m = go (le_z p.time t) refl (up_to-from t ps x) m
  where
    go : (c : Bool) → le_z p.time t ≡ c → (In x (up_to_time t ps) → In x ps × (x.time ≤ℤ t))
        → In x (cond c (p ∷ up_to_time t ps) []) → In x (p ∷ ps) × (x.time ≤ℤ t)
    go true e i (head f) = (head f, rw f (omega signed))
    go true e i (tail n) = let k = i n in (tail k.0, k.1)
    go false e i n = absurd (not-nil n)

pub up_to-has : (t : ℤ) {ps : List Point} → Rising ps → (x : Point) → In x ps → x.time ≤ℤ t → In x (up_to_time t ps)
up_to-has t rising_none x m h = absurd (not-nil m)
up_to-has t (rising-more {p = p} {ps = ps} b s) x m h = go (le_z p.time t) refl (λ n. up_to-has t s x n h) m
  where
    go : (c : Bool) → le_z p.time t ≡ c → (In x ps → In x (up_to_time t ps)) → In x (p ∷ ps)
        → In x (cond c (p ∷ up_to_time t ps) [])
    go true e i (head f) = head f
    go true e i (tail n) = tail (i n)
    go false e i (head f) = let g = ap (λ (q : Point). q.time) f in absurd (omega signed)
    go false e i (tail n) = let k = below-member b n in absurd (omega signed)

-- ---- all later

pub later-below : (r : Rate) {p q : Point} → Below p q → Below (later_by r p) (later_by r q)
later-below r {p} {q} b =
    omega (
      signed,
      add_is p.time (pos r.takes),
      add_is q.time (pos r.takes),
      add_is (p.time +ℤ pos r.takes) (pos rest),
      add_is (q.time +ℤ pos r.takes) (pos rest),
    )

later-all-below : (r : Rate) {p : Point} {ps : List Point} → BelowAll p ps
    → BelowAll (later_by r p) (all_later r ps)
later-all-below r below_none = below_none
later-all-below r (below_more b bs) = below_more (later-below r b) (later-all-below r bs)

pub later-rises : (r : Rate) {ps : List Point} → Rising ps → Rising (all_later r ps)
later-rises r rising_none = rising_none
later-rises r (rising-more b s) = rising-more (later-all-below r b) (later-rises r s)

pub later-length : (r : Rate) (ps : List Point) → length (all_later r ps) ≡ length ps
later-length r [] = refl
later-length r (p ∷ ps) = ap suc (later-length r ps)

pub later-from : (r : Rate) (ps : List Point) (x : Point) → In x (all_later r ps)
    → (p : Point) × In p ps × (x ≡ later_by r p)
later-from r [] x m = absurd (not-nil m)
later-from r (p ∷ ps) x (head e) = (p, head refl, e)
later-from r (p ∷ ps) x (tail n) = let k = later-from r ps x n in (k.0, tail k.1, k.2)

later-put : (r : Rate) (p : Point) {ps : List Point} → In p ps → In (later_by r p) (all_later r ps)
later-put r p (head e) = head (ap (later_by r) e)
later-put r p (tail n) = tail (later-put r p n)

pub later-in : (r : Rate) {ps : List Point} (p : Point) → In p ps → In (later_by r p) (all_later r ps)
later-in r p x = later-put r p x
