-- The greatest of a family of weights, if it has any, and when two families have the same greatest.
use Rattle.std.specs.Prelude.{ℕ, ◌≤◌, max, ◌≡◌, refl, ◌⊎◌, ◌↔◌}
use Rattle.std.proofs.Common.{ap, ⊎_elim, arith}
use Rattle.std.proofs.Math.Option.{Option, none, some}
use Rattle.std.proofs.Math.Nat.{max-eq_right}
use Rattle.std.proofs.Math.Decide.{dec_le}
use Rattle.profile.specs.Profile.{greater}

-- None if the family is empty, else a weight of it that no other passes.
pub data Greatest (W : ℕ → Type 0) : Option ℕ → Type 0 where
  nothing : ((w : ℕ) → W w → ⊥) → Greatest W none
  greatest : {w : ℕ} → W w → ((x : ℕ) → W x → x ≤ w) → Greatest W (some w)

-- Every weight of the first family is reached in the second.
abbrev pub Under : (ℕ → Type 0) → (ℕ → Type 0) → Type 0
Under W X = (w : ℕ) → W w → (x : ℕ) × X x × (w ≤ x)

module _ {W X : ℕ → Type 0} where
  -- Families that reach each other have the same greatest,
  pub greatest-equal : {a b : Option ℕ} → Under W X → Under X W → Greatest W a → Greatest X b → a ≡ b
  greatest-equal h k (nothing f) (nothing g) = refl
  greatest-equal h k (nothing f) (greatest {w = x} q g) = let m = k x q in absurd (f m.0 m.1)
  greatest-equal h k (greatest {w = w} p f) (nothing g) = let m = h w p in absurd (g m.0 m.1)
  greatest-equal h k (greatest {w = w} p f) (greatest {w = x} q g) =
      let m = h w p in
      let n = k x q in
      ap some (omega (arith, g m.0 m.1, f n.0 n.1, m.2, n.2))

  -- and families with the same greatest reach each other.
  pub greatest-under : {o : Option ℕ} → Greatest W o → Greatest X o → Under W X
  greatest-under (nothing f) (nothing g) w p = absurd (f w p)
  greatest-under (greatest q f) (greatest {w = x} r g) w p = (x, r, f w p)

-- So a family has one greatest.
pub greatest-one : {W : ℕ → Type 0} {a b : Option ℕ} → Greatest W a → Greatest W b → a ≡ b
greatest-one {W} g h = greatest-equal (greatest-under g g) (greatest-under g g) g h

-- Families with the same weights have the same greatest.
pub greatest-same : {W X : ℕ → Type 0} {o : Option ℕ} → ((w : ℕ) → W w ↔ X w) → Greatest W o → Greatest X o
greatest-same e (nothing f) = nothing (λ w q. f w ((e w).1 q))
greatest-same e (greatest {w = w} p f) = greatest ((e w).0 p) (λ x q. f x ((e x).1 q))

-- The greatest of two families together is the greater of both.
pub greatest-greater : {W X Y : ℕ → Type 0} {a b : Option ℕ}
    → ((w : ℕ) → Y w → W w ⊎ X w) → ((w : ℕ) → W w → Y w) → ((w : ℕ) → X w → Y w)
    → Greatest W a → Greatest X b → Greatest Y (greater a b)
greatest-greater split l r (nothing f) (nothing g) = nothing (λ w y. ⊎_elim (f w) (g w) (split w y))
greatest-greater split l r (nothing f) (greatest q g) =
    greatest (r _ q) (λ x y. ⊎_elim (λ h. absurd (f x h)) (g x) (split x y))
greatest-greater split l r (greatest p f) (nothing g) =
    greatest (l _ p) (λ x y. ⊎_elim (f x) (λ h. absurd (g x h)) (split x y))
greatest-greater {W} {X} {Y} split l r (greatest {w = w} p f) (greatest {w = x} q g) =
    greatest {w = max w x} (go (dec_le w x))
    (λ z y. ⊎_elim (λ (h : W z). omega (arith, f z h)) (λ (h : X z). omega (arith, g z h)) (split z y))
  where
    go : Dec (w ≤ x) → Y (max w x)
    go (yes h) = rw (max-eq_right h) (r x q)
    go (no h) = let e : max w x ≡ w = omega arith in rw e (l w p)
