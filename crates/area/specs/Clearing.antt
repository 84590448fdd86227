-- Laws of clearing: number by number, and that the cleared area depends on what is behind it alone.
use Rattle.std.specs.Prelude.{ℕ, zero, suc, ◌+◌, ◌≤◌, ◌<◌, ◌≡◌, refl, List, [], ◌∷◌, ◌++◌, ℤ, pos, length, take, drop, set, replicate}
use Rattle.std.proofs.Common.{ap, arith, length-append, length-take-le, drop_at}
use Rattle.std.proofs.lemmas.List.{length-replicate}
use Rattle.area.specs.Area.{area, cleared_to, cleared}

-- All on which the cleared area depends is behind it.
pub cleared-same : (old new : List ℤ) → drop area new ≡ drop area old → cleared new ≡ cleared old
unfolding cleared cleared_to
cleared-same old new e = ap (λ (l : List ℤ). replicate area (pos 0) ++ l) e

-- Clearing leaves what is behind, and there is a work area then; so clearing twice is clearing once.
cleared-to : (n : ℕ) (l : List ℤ) → (drop n (cleared_to n l) ≡ drop n l) × (n ≤ length (cleared_to n l))
unfolding cleared_to
cleared-to n l = (
  drop_at (replicate n (pos 0)) (drop n l) n (length-replicate n (pos 0)),
  omega (arith, length-append (replicate n (pos 0)) (drop n l), length-replicate n (pos 0)),
)

pub cleared-behind : (l : List ℤ) → drop area (cleared l) ≡ drop area l
unfolding cleared
cleared-behind l = (cleared-to area l).0

pub cleared-long : (l : List ℤ) → area ≤ length (cleared l)
unfolding cleared
cleared-long l = (cleared-to area l).1

pub cleared-twice : (l : List ℤ) → cleared (cleared l) ≡ cleared l
cleared-twice l = cleared-same l (cleared l) (cleared-behind l)

-- Zeros in front, one more.
zeros-next : (k : ℕ) (l : List ℤ) → k < length l
    → set (replicate k (pos 0) ++ drop k l) k (pos 0) ≡ replicate (suc k) (pos 0) ++ drop (suc k) l
zeros-next k [] h = absurd (omega arith)
zeros-next zero (x ∷ l) h = refl
zeros-next (suc k) (x ∷ l) h = ap (λ (m : List ℤ). pos 0 ∷ m) (zeros-next k l (omega arith))

-- None is cleared yet,
pub cleared-none : (l : List ℤ) → l ≡ cleared_to 0 l
unfolding cleared_to
cleared-none l = refl

-- one more is,
pub cleared-next : (k : ℕ) (l : List ℤ) → k < length l → set (cleared_to k l) k (pos 0) ≡ cleared_to (k + 1) l
unfolding cleared_to
cleared-next k l h = let e : k + 1 ≡ suc k = omega arith in rw e (zeros-next k l h)

-- and all are.
pub cleared-all : (k : ℕ) (l : List ℤ) → k ≡ area → cleared_to k l ≡ cleared l
unfolding cleared
cleared-all k l e = ap (λ (n : ℕ). cleared_to n l) e

-- Zeros for the front of an area clear it.
pub cleared-front : (front l : List ℤ) → area ≤ length l → front ≡ replicate (length (take area l)) (pos 0)
    → front ++ drop area l ≡ cleared l
unfolding cleared cleared_to
cleared-front front l h e = rw (e, length-take-le area l h)
