-- A row's heaviest cell by a time is the last point by then of the profile of the points that the row says.
use Rattle.std.specs.Prelude.{ℕ, zero, suc, ◌<◌, ◌≡◌, refl, Bool, true, false, cond, List, ◌↔◌, ℤ}
use Rattle.std.proofs.Common.{sym, ap, ◌∙◌, ⊎_elim, eq-or-lt_of_le, le_of_suc-le-suc, arith}
use Rattle.std.proofs.lemmas.Bool.{false≢true}
use Rattle.std.proofs.Math.Option.{Option, none, some, map, some-injective}
use Rattle.std.specs.Int.Signed.{le_z}
use Rattle.seconds.specs.Signed.{signed}
use Rattle.order.specs.Job.{Point}
use Rattle.order.proofs.Moves.{point-path}
use Rattle.profile.specs.Profile.{worth, lookup, profile_of}
use Rattle.profile.proofs.Greatest.{Greatest, nothing, greatest, greatest-same}
use Rattle.profile.proofs.Worth.{WeightBy, worth-is, lookup-profile_of, lookup-by}
use Rattle.rows.specs.Row.{Row, point, By, Cell, Says, NonePast}
use Rattle.rows.proofs.RowLaws.{nothing-there, by-later}
use Rattle.rows.proofs.Reach.{says-none-past}
use Rattle.rows.proofs.ReadLaws.{profile-point}
use Rattle.rows.specs.ByTime.{is_by, heaviest_by, weight_by}

-- The test of a cell, in words.
pub is-by : (cell : Option ℤ) (u : ℤ) → is_by cell u ≡ true ↔ By cell u
is-by none u = (λ e. absurd (false≢true e), λ b. nothing-there b.is)
is-by (some t) u = (λ e. record { time = t; is = refl; soon = omega signed }, back)
  where
    back : By (some t) u → le_z t u ≡ true
    back b = let same = some-injective t b.time b.is in omega (signed, b.soon)

-- A weight below n that has a cell by the time.
abbrev CellBy : Row → ℤ → ℕ → ℕ → Type 0
CellBy row u n w = (w < n) × By (row w) u

-- The heaviest such cell has the greatest of those weights.
by-greatest : (row : Row) (u : ℤ) (n : ℕ) → Greatest (CellBy row u n) (weight_by row u n)
by-greatest row u zero = nothing (λ w h. omega arith)
by-greatest row u (suc n) = go (is_by (row n) u) refl (by-greatest row u n)
  where
    -- Where there is none at n, those below n are all.
    below : (By (row n) u → ⊥) → (w : ℕ) → CellBy row u n w ↔ CellBy row u (suc n) w
    below not-here w = (λ h. (omega arith, h.1), λ h. (less h, h.1))
      where
        less : CellBy row u (suc n) w → w < n
        less h =
            ⊎_elim (λ e. absurd (not-here (rw e at h.1))) (λ k. k) (eq-or-lt_of_le (le_of_suc-le-suc h.0))

    go : (b : Bool) → is_by (row n) u ≡ b → Greatest (CellBy row u n) (weight_by row u n)
        → Greatest (CellBy row u (suc n)) (weight_by row u (suc n))
    go true e ih =
        let by = (is-by (row n) u).0 e in
        rw (e, by.is) (greatest {w = n} (omega arith, by) (λ x h. omega arith))
    go false e ih = rw e (greatest-same (below (λ b. false≢true (sym e ∙ (is-by (row n) u).1 b))) ih)

-- So its weight is what the points that the row says are worth at the time.
weight-worth : {row : Row} {ps : List Point} (top : ℕ) → Says row ps → NonePast top row → (u : ℤ)
    → weight_by row u (suc top) ≡ worth ps u
weight-worth {row} {ps} top s n u =
    sym ((worth-is ps u (weight_by row u (suc top))).1 (greatest-same (λ w. (from w, to w)) (by-greatest row u (suc top))))
  where
    from : (w : ℕ) → CellBy row u (suc top) w → WeightBy ps u w
    from w h =
        let b = h.1 in
        record { point = point b.time w; member = s.listed (point b.time w) b.is; by = b.soon; weighs = refl }

    to : (w : ℕ) → WeightBy ps u w → CellBy row u (suc top) w
    to w h =
        let light = (says-none-past s).0 n h.point h.member in
        let b = by-later (s.earliest h.point h.member) h.by in
        (omega (arith, h.weighs), rw h.weighs at b)

-- ---- the cell itself

-- It is a cell of the row.
heaviest-cell : (row : Row) (u : ℤ) (n : ℕ) {p : Point} → heaviest_by row u n ≡ some p → Cell row p
heaviest-cell row u zero e = nothing-there e
heaviest-cell row u (suc n) {p} e = go (row n) refl (λ f. heaviest-cell row u n f) e
  where
    go : (cell : Option ℤ) → row n ≡ cell → (heaviest_by row u n ≡ some p → Cell row p)
        → cond (is_by cell u) (map (λ (t : ℤ). point t n) cell) (heaviest_by row u n) ≡ some p → Cell row p
    go none d further f = further f
    go (some t) d further f = by (le_z t u) f
      where
        by : (b : Bool) → cond b (some (point t n)) (heaviest_by row u n) ≡ some p → Cell row p
        by true g = let same = some-injective (point t n) p g in rw (← same) d
        by false g = further g

-- Two cells of the same weight are one.
cells-one : (row : Row) {p q : Point} → Cell row p → Cell row q → p.weight ≡ q.weight → p ≡ q
cells-one row {p} {q} c d e =
    point-path (some-injective p.time q.time (sym c ∙ (ap row e ∙ d))) e

-- So it is the point that is looked up in the profile.
pub heaviest-lookup : {row : Row} {ps : List Point} (top : ℕ) → Says row ps → NonePast top row → (u : ℤ)
    → heaviest_by row u (suc top) ≡ lookup (profile_of ps) u
heaviest-lookup {row} {ps} top s n u =
    go (heaviest_by row u (suc top)) refl (lookup (profile_of ps) u) refl (weight-worth top s n u ∙ sym (lookup-profile_of ps u))
  where
    weights : Option Point → Option ℕ
    weights = map (λ (p : Point). p.weight)

    go : (a : Option Point) → heaviest_by row u (suc top) ≡ a → (b : Option Point) → lookup (profile_of ps) u ≡ b
        → weights a ≡ weights b → a ≡ b
    go none d none e h = refl
    go none d (some q) e h = nothing-there h
    go (some p) d none e h = nothing-there (sym h)
    go (some p) d (some q) e h =
        let found = (profile-point s q).0 (lookup-by (profile_of ps) u e).0 in
        ap some (cells-one row (heaviest-cell row u (suc top) d) found.0 (some-injective _ _ h))
