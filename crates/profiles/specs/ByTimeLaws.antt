-- The laws of lookup from the front: in a rising profile the points by a time stand before all others, so the last of them is
-- the one before the first later point.
use Rattle.std.specs.Prelude.{ℕ, zero, suc, ◌+◌, ◌≤◌, ◌<◌, ◌≡◌, refl, Bool, true, false, cond, List, [], ◌∷◌, ℤ, pos, length, drop, ◌≤ℤ◌, ◌<ℤ◌}
use Rattle.std.proofs.Common.{sym, ap, ◌∙◌, arith, length-drop}
use Rattle.std.proofs.Math.Option.{Option, none, some}
use Rattle.std.specs.Int.Signed.{le_z}
use Rattle.seconds.specs.Signed.{signed}
use Rattle.order.specs.Job.{Point}
use Rattle.profile.specs.Profile.{lookup, or_else}
use Rattle.profile.proofs.Rising.{BelowAll, below_none, below_more, Rising, rising_none, rising-more}
use Rattle.profiles.specs.Numbers.{alternating}
use Rattle.profiles.specs.Places.{time_at}
use Rattle.profiles.specs.NumbersLaws.{next-two}
use Rattle.profiles.specs.ByTime.{count_by, number_before, weight_number}

-- No point of a list is by a time that is before them all.
lookup-before : {p : Point} {ps : List Point} {t : ℤ} → t <ℤ p.time → BelowAll p ps → lookup ps t ≡ none
lookup-before h below_none = refl
lookup-before {t = t} h (below_more {q = q} b bs) =
    let e : le_z q.time t ≡ false = omega signed in
    rw (lookup-before h bs, e)

-- A lookup finds the weight that stands before the first later point.
pub lookup-by : (t : ℤ) {ps : List Point} → Rising ps
    → weight_number (lookup ps t) ≡ number_before (alternating ps) (count_by t (alternating ps))
lookup-by t rising_none = refl
lookup-by t (rising-more {p = p} {ps = ps} b r) =
    go (le_z p.time t) refl (lookup ps t) (count_by t (alternating ps)) refl (lookup-by t r)
  where
    go : (c : Bool) → le_z p.time t ≡ c → (o : Option Point) (k : ℕ) → lookup ps t ≡ o
        → weight_number o ≡ number_before (alternating ps) k
        → weight_number (or_else o (cond c (some p) none))
        ≡ number_before (p.time ∷ pos p.weight ∷ alternating ps) (cond c (suc (suc k)) 0)
    go true e none zero f i = refl
    go true e none (suc k) f i = cc
    go true e (some q) zero f i = cc
    go true e (some q) (suc k) f i = i
    go false e o k f i = let n : o ≡ none = sym f ∙ lookup-before (omega signed) b in rw n

-- ---- place by place

-- A point by the time is counted with what follows it,
pub count-on : (t : ℤ) (ns : List ℤ) (i : ℕ) → i + 1 < length ns → time_at ns i ≤ℤ t
    → count_by t (drop i ns) ≡ 2 + count_by t (drop (i + 2) ns)
count-on t ns i more h =
    let e : le_z (time_at ns i) t ≡ true = omega signed in
    ap (count_by t) (next-two ns i more) ∙ rw e (omega arith)

-- and a later one ends the count,
pub count-stops : (t : ℤ) (ns : List ℤ) (i : ℕ) → i + 1 < length ns → t <ℤ time_at ns i → count_by t (drop i ns) ≡ 0
count-stops t ns i more h =
    let e : le_z (time_at ns i) t ≡ false = omega signed in
    ap (count_by t) (next-two ns i more) ∙ rw e

-- as the end of the numbers does.
count-short : (t : ℤ) (ns : List ℤ) → length ns ≤ 1 → count_by t ns ≡ 0
count-short t [] h = refl
count-short t (x ∷ []) h = refl
count-short t (x ∷ y ∷ ns) h = absurd (omega arith)

pub count-ends : (t : ℤ) (ns : List ℤ) (i : ℕ) → length ns ≤ i + 1 → count_by t (drop i ns) ≡ 0
count-ends t ns i h = count-short t (drop i ns) (rw (length-drop i ns) (omega arith))

-- No more are counted than there are.
pub count-within : (t : ℤ) (ns : List ℤ) → count_by t ns ≤ length ns
count-within t [] = omega arith
count-within t (x ∷ []) = omega arith
count-within t (x ∷ y ∷ ns) = go (le_z x t) (count-within t ns)
  where
    go : (b : Bool) → count_by t ns ≤ length ns → cond b (suc (suc (count_by t ns))) 0 ≤ suc (suc (length ns))
    go true i = omega arith
    go false i = omega arith
