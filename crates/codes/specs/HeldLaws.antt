-- Laws of lists at a place: how they stay, are read back, joined and copied.
use Rattle.std.specs.Prelude.{ℕ, zero, suc, ◌+◌, ◌≤◌, ◌<◌, ◌≡◌, refl, ℤ, length}
use Rattle.std.proofs.Common.{sym, ap, ap₂, ◌∙◌, ⊎_elim, eq-or-lt_of_le, arith}
use mathlib.Core.List.Memᴰ.{head}
use mathlib.Core.List.Memᴰ.{tail}
use mathlib.Core.List.{List, ◌∷◌, ◌++◌, Memᴰ as In}
use Rattle.order.specs.Job.{Point}
use Rattle.profile.proofs.Closure.{PointWithin}
use Rattle.codes.specs.Code.{code, point_of, at0, list_at}
use Rattle.codes.specs.CodeLaws.{point-back}
use Rattle.codes.specs.Held.{Held, held_none, held_more}

-- A list stays where the numbers before an end stay.
pub held_stays : {l m : List ℤ} {i : ℕ} {ps : List Point} (n : ℕ) → ((k : ℕ) → k < n → at0 m k ≡ at0 l k) → i + length ps ≤ n
    → Held l i ps → Held m i ps
held_stays n f h held_none = held_none
held_stays n f h (held_more {i = i} s e k) = held_more s (f i (omega arith) ∙ e) (held_stays n f (omega arith) k)

-- It is read back, and its points are within the limits.
pub held-read : {l : List ℤ} {i : ℕ} {ps : List Point} → Held l i ps → list_at l i (length ps) ≡ ps
held-read held_none = refl
held-read {l} (held_more {i = i} s e h) = ap₂ ◌∷◌ (ap point_of e ∙ point-back s) (held-read h)

pub held-within : {l : List ℤ} {i : ℕ} {ps : List Point} → Held l i ps → (p : Point) → In p ps → PointWithin p
held-within {l = l} (held_none {i = i}) p x4 = elim x4 [ ]
held-within (held_more s e h) p (head d) = rw d s
held-within (held_more s e h) p (tail m) = held-within h p m

-- One list behind another is one list.
pub held-append : {l : List ℤ} {i : ℕ} {fs : List Point} (j : ℕ) {bs : List Point} → Held l i fs → i + length fs ≡ j → Held l j bs
    → Held l i (fs ++ bs)
held-append {i = i} j held_none e k = let same : i ≡ j = omega arith in rw same k
held-append j (held_more s d h) e k = held_more s d (held-append j h (omega arith) k)

-- The same numbers at another place hold the same points.
pub held-copied : {l m : List ℤ} {i : ℕ} {fs : List Point} (j : ℕ) → Held l i fs
    → ((k : ℕ) → k < length fs → at0 m (j + k) ≡ at0 l (i + k)) → Held m j fs
held-copied j held_none h = held_none
held-copied {l} {m} j (held_more {i = i} {p = p} {ps = fs} s d k) h =
    let j0 : j + 0 ≡ j = omega arith in
    let i0 : i + 0 ≡ i = omega arith in
    let first : at0 m j ≡ at0 l i = rw (j0, i0) at (h 0 (omega arith)) in
    held_more s (first ∙ d) (held-copied (suc j) k further)
  where
    further : (n : ℕ) → n < length fs → at0 m (suc j + n) ≡ at0 l (suc i + n)
    further n x =
        let a : suc j + n ≡ j + suc n = omega arith in
        let b : suc i + n ≡ i + suc n = omega arith in
        rw (a, b) (h (suc n) (omega arith))

-- A list at a place has as many points as are asked for.
pub list_length : (l : List ℤ) (i n : ℕ) → length (list_at l i n) ≡ n
list_length l i zero = refl
list_length l i (suc n) = ap suc (list_length l (suc i) n)

-- Every number of a list is a point's.
pub held-point : {l : List ℤ} {i : ℕ} {ps : List Point} → Held l i ps → (k : ℕ) → i ≤ k → k < i + length ps
    → (p : Point) × PointWithin p × (at0 l k ≡ code p)
held-point held_none k a b = absurd (omega arith)
held-point {l} (held_more {i = i} {p = p} s e h) k a b =
    ⊎_elim (λ d. (p, s, ap (at0 l) (sym d) ∙ e)) (λ d. held-point h k d (omega arith)) (eq-or-lt_of_le a)
