-- Laws of cells: lists that give the same have the same cells, a joined list has the lesser of both, and how far cells reach.
use Rattle.std.specs.Prelude.{ℕ, ◌≤◌, ◌<◌, max, ◌≡◌, refl, Bool, true, false, cond, leb, ℤ, pos, ◌≤ℤ◌}
use Rattle.std.proofs.Common.{sym, ap, ◌∙◌, arith}
use mathlib.Core.List.Memᴰ.{head}
use mathlib.Core.List.Memᴰ.{tail}
use mathlib.Core.List.{List, [], ◌∷◌, ◌++◌, Memᴰ as In}
use Rattle.seconds.specs.Ranges.{Between}
use Rattle.seconds.specs.Signed.{signed, min_z, min-is}
use Rattle.order.specs.Job.{Point}
use Rattle.order.specs.Given.{Covers, Given, here, there, Same}
use Rattle.order.proofs.GivenLaws.{given-own, giver}
use Rattle.profile.proofs.Closure.{PointWithin}
use Rattle.codes.specs.Code.{code_of, past_all}
use Rattle.codes.specs.CodeLaws.{since-is, since-few}
use Rattle.cells.specs.Cells.{cell_by, cell_of, reach}

-- All points of a list are within the limits.
abbrev pub Within : List Point → Type 0
Within ps = (p : Point) → In p ps → PointWithin p

-- ---- numbers

pub min-most : {a m : ℤ} (l : ℤ) → a ≤ℤ m → min_z a l ≤ℤ m
min-most {a} l h = omega (signed, min-is a l)

min-least : {a l m : ℤ} → m ≤ℤ a → m ≤ℤ l → m ≤ℤ min_z a l
min-least {a} {l} h k = omega (signed, min-is a l)

pub min-rest : {l m : ℤ} (a : ℤ) → l ≤ℤ m → min_z a l ≤ℤ m
min-rest {l} a h = omega (signed, min-is a l)

min_assoc : (a b l : ℤ) → min_z a (min_z b l) ≡ min_z (min_z a b) l
min_assoc a b l = omega (signed, min-is a (min_z b l), min-is b l, min-is (min_z a b) l, min-is a b)

pub min-first : {a l : ℤ} → a ≤ℤ l → min_z a l ≡ a
min-first {a} {l} h = omega (signed, min-is a l)

pub min-second : {a l : ℤ} → l ≤ℤ a → min_z a l ≡ l
min-second {a} {l} h = omega (signed, min-is a l)

-- ---- the cells of points

-- What a point gives is a number up to past all.
pub by-range : {p : Point} → PointWithin p → (x : ℕ) → Between (pos 0) past_all (cell_by p x)
by-range {p} s x = go (leb x p.weight)
  where
    go : (c : Bool) → Between (pos 0) past_all (cond c (code_of p.time x) past_all)
    go true = record { low = omega signed; high = omega (signed, since-few s.time) }
    go false = record { low = omega signed; high = omega signed }

pub cell-range : (ps : List Point) → Within ps → (x : ℕ) → Between (pos 0) past_all (cell_of ps x)
cell-range [] h x = record { low = omega signed; high = omega signed }
cell-range (p ∷ ps) h x =
    let b = by-range (h p (head refl)) x in
    let i = cell-range ps (λ q n. h q (tail n)) x in
    record { low = min-least b.low i.low; high = min-most (cell_of ps x) b.high }

-- A point that covers another gives no more than it.
covers-cell : {p q : Point} → PointWithin p → PointWithin q → Covers p q → (x : ℕ) → cell_by p x ≤ℤ cell_by q x
covers-cell {p} {q} s t c x = go (leb x p.weight) (leb x q.weight) refl refl
  where
    go : (a b : Bool) → leb x p.weight ≡ a → leb x q.weight ≡ b
        → cond a (code_of p.time x) past_all ≤ℤ cond b (code_of q.time x) past_all
    go true true e f = let soon = c.soon in omega (signed, since-is s.time, since-is t.time)
    go true false e f = omega (signed, since-few s.time)
    go false true e f = absurd (omega (signed, c.heavy))
    go false false e f = omega signed

-- So a list's cell is no more than what a point gives that it gives,
given-cell : {q : Point} {ps : List Point} → Within ps → PointWithin q → Given q ps → (x : ℕ) → cell_of ps x ≤ℤ cell_by q x
given-cell h t (here {p = p} {ps = ps} c) x = min-most (cell_of ps x) (covers-cell (h p (head refl)) t c x)
given-cell h t (there {p = p} g) x = min-rest (cell_by p x) (given-cell (λ r n. h r (tail n)) t g x)

-- and the cells of what gives more are no more.
more-cell : {ps : List Point} (qs : List Point) → Within ps → Within qs → ((q : Point) → In q qs → Given q ps) → (x : ℕ)
    → cell_of ps x ≤ℤ cell_of qs x
more-cell {ps} [] h k f x = (cell-range ps h x).high
more-cell (q ∷ qs) h k f x =
    min-least (given-cell h (k q (head refl)) (f q (head refl)) x)
    (more-cell qs h (λ r n. k r (tail n)) (λ r n. f r (tail n)) x)

-- Lists that give the same have the same cells.
pub same-cell : {ps qs : List Point} → Same ps qs → Within ps → Within qs → (x : ℕ) → cell_of ps x ≡ cell_of qs x
same-cell {ps} {qs} s h k x =
    let a = more-cell qs h k (λ q n. s.back q (given-own n)) x in
    let b = more-cell ps k h (λ q n. s.to q (given-own n)) x in
    omega signed

-- A joined list has the lesser of both.
pub append-cell : (ps qs : List Point) → Within qs → (x : ℕ) → cell_of (ps ++ qs) x ≡ min_z (cell_of ps x) (cell_of qs x)
append-cell [] qs h x = sym (min-second (cell-range qs h x).high)
append-cell (p ∷ ps) qs h x = ap (min_z (cell_by p x)) (append-cell ps qs h x) ∙ min_assoc (cell_by p x) (cell_of ps x) (cell_of qs x)

-- ---- how far cells reach

pub cell-past : (ps : List Point) (x : ℕ) → reach ps ≤ x → cell_of ps x ≡ past_all
cell-past [] x h = refl
cell-past (p ∷ ps) x h =
    let t : leb x p.weight ≡ false = omega (signed, h) in
    let i : cell_of ps x ≡ past_all = cell-past ps x (omega (arith, h)) in
    rw (t, i) refl

pub in_reach : {p : Point} {ps : List Point} → In p ps → p.weight < reach ps
in_reach {p} {ps} (head e) = let same = ap (λ (q : Point). q.weight) e in omega arith
in_reach {p} {ps} (tail n) = let i = in_reach n in omega arith

-- A list whose points are all lighter reaches no further.
pub reach_few : (ps : List Point) (x : ℕ) → ((p : Point) → In p ps → p.weight < x) → reach ps ≤ x
reach_few [] x h = omega arith
reach_few (p ∷ ps) x h = omega (arith, h p (head refl), reach_few ps x (λ q n. h q (tail n)))

pub reach-append : (ps qs : List Point) → reach (ps ++ qs) ≡ max (reach ps) (reach qs)
reach-append [] qs = omega arith
reach-append (p ∷ ps) qs = omega (arith, reach-append ps qs)

-- Lists that give the same reach as far.
given-reach : {q : Point} {ps : List Point} → Given q ps → q.weight < reach ps
given-reach g = let k = giver g in omega (arith, in_reach k.1, k.2.heavy)

pub same-reach : {ps qs : List Point} → Same ps qs → reach ps ≡ reach qs
same-reach {ps} {qs} s =
    let a = reach_few ps (reach qs) (λ q n. given-reach (s.to q (given-own n))) in
    let b = reach_few qs (reach ps) (λ q n. given-reach (s.back q (given-own n))) in
    omega arith
