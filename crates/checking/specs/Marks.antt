-- The bits of a plan's mask: which jobs they keep, raised to a mask of 64 bits and read from its highest bit on, and how many
-- they are.
use Prim.Native.Nat.{ℕ, zero, suc, ◌+◌, ◌*◌, ◌-◌, ◌/◌, ◌%◌, ◌^◌, ◌≤◌, ◌<◌}
use Rattle.std.specs.Prelude.{◌≡◌, refl, not, List, [], ◌∷◌, eqb, length, get_or}
use Rattle.std.proofs.Common.{sym, ap, ap₂, ◌∙◌, pow-suc, arith, pow_pos, pow-add}
use Rattle.std.proofs.Math.Bool.{false}
use Rattle.std.proofs.Math.Nat.{mul-div-mul_right}
use Rattle.std.proofs.Math.Arith.{digits_mod}
use Rattle.std.specs.Int.Count.{ones, ones-le}
use Rattle.std.proofs.lemmas.Nat.{ones_cat}
use Rattle.std.proofs.Math.Pow.{split, mod-mod-pow}
use Rattle.std.proofs.Math.Seq.{ext_get_or}
use Rattle.order.specs.Choice.{Choice}
use Rattle.packed.proofs.LayoutLaws.{AreBytes, part-lt}
use Rattle.packed.specs.Places.{each}
use Rattle.packed.specs.PlacesLaws.{length-each, get_d-each}
use Rattle.starting.specs.Picks.{picks_of}
use Rattle.starting.specs.PicksLaws.{picks-none, picks_more, length-picks, pick-is-bit}
use Rattle.packed_plan.specs.Plan.{mask_in, count_in, kept_at, kept_in}
use Rattle.packed_plan.proofs.PlanLaws.{ones-raised}
use Rattle.legal.specs.Legal.{kept_of}
use Rattle.checking.specs.Turns.{kept_by}

-- ---- one bit after the other

pub kept-none : (m : ℕ) → kept_by 0 m ≡ []
kept-none m = ap kept_of (picks-none m)

pub kept_more : (n m : ℕ) → kept_by (suc n) m ≡ not (eqb (m / 2 ^ 63) 0) ∷ kept_by n (m % 2 ^ 63 * 2)
kept_more n m = ap kept_of (picks_more n m)

-- Low bits that are zero stay so when the others move up.
pub zeros-up : (m d : ℕ) → d ≤ 63 → m % 2 ^ d ≡ 0 → m % 2 ^ 63 * 2 % 2 ^ suc d ≡ 0
zeros-up m d h e =
    let x = m % 2 ^ 63 in
    let r : (63 - d) + d ≡ 63 = omega arith in
    let low : x % 2 ^ d ≡ 0 = ap (λ k. m % 2 ^ k % 2 ^ d) (sym r) ∙ mod-mod-pow m (63 - d) d ∙ e in
    let whole : x ≡ x / 2 ^ d * 2 ^ d = sym (split x d) ∙ omega (arith, low) in
    let twice : x * 2 ≡ x / 2 ^ d * 2 ^ suc d + 0 = rw (pow-suc 2 d) (omega (arith, whole)) in
    ap (λ y. y % 2 ^ suc d) twice ∙ digits_mod (x / 2 ^ d) (pow_pos (suc d))

-- ---- how many ones

one-digit : (x : ℕ) → x ≤ 1 → ones x ≡ x
unfolding ones
one-digit zero l = refl
one-digit (suc zero) l = refl
one-digit (suc (suc x)) l = absurd (omega arith)

-- Those of a mask are its highest bit and those of the others, moved up.
pub ones-left : (m : ℕ) → m < 2 ^ 64 → ones m ≡ m / 2 ^ 63 + ones (m % 2 ^ 63 * 2)
ones-left m h =
    let top : ones (m / 2 ^ 63) ≡ m / 2 ^ 63 = one-digit (m / 2 ^ 63) (omega arith) in
    let below : m % 2 ^ 63 < 2 ^ 63 = omega arith in
    ap ones (sym (split m 63)) ∙ ones_cat 63 (m / 2 ^ 63) (m % 2 ^ 63) below
    ∙ ap₂ (λ x y. x + y) top (sym (ones-raised (m % 2 ^ 63) 1))

-- ---- the mask of a plan

module _ (plan : List ℕ) (all : AreBytes plan) where
  -- It has 48 bits, so no more ones;
  pub mask-small : mask_in plan < 2 ^ 48
  unfolding mask_in
  mask-small = part-lt plan all 6 0

  pub count_small : count_in plan ≤ 48
  unfolding count_in
  count_small = ones-le 48 (mask_in plan) mask-small

  pub raised-fits : mask_in plan * 2 ^ 16 < 2 ^ 64
  raised-fits = omega (arith, mask-small)

  -- raised to 64 bits it has as many, and none behind so many jobs if it had none there;
  pub raised-count : ones (mask_in plan * 2 ^ 16) ≡ count_in plan
  unfolding count_in
  raised-count = ones-raised (mask_in plan) 16

  pub raised-none : (n : ℕ) → n ≤ 48 → mask_in plan % 2 ^ (48 - n) ≡ 0 → mask_in plan * 2 ^ 16 % 2 ^ (64 - n) ≡ 0
  raised-none n few none =
      let d = 48 - n in
      let m = mask_in plan in
      let up : 64 - n ≡ d + 16 = omega arith in
      let whole : m ≡ m / 2 ^ d * 2 ^ d = sym (split m d) ∙ omega (arith, none) in
      let raised : m * 2 ^ 16 ≡ m / 2 ^ d * (2 ^ d * 2 ^ 16) + 0 = omega (arith, whole) in
      rw (up, pow-add 2 d 16) (ap (λ x. x % (2 ^ d * 2 ^ 16)) raised ∙ digits_mod (m / 2 ^ d) (omega (arith, pow_pos d)))

  -- and it keeps the same jobs.
  bit-raised : (m i : ℕ) → i < 48 → m * 2 ^ 16 / 2 ^ (63 - i) ≡ m / 2 ^ (48 - suc i)
  bit-raised m i h =
      let e : 63 - i ≡ (48 - suc i) + 16 = omega arith in
      rw (e, pow-add 2 (48 - suc i) 16) (mul-div-mul_right m (2 ^ (48 - suc i)) (omega arith))

  pub kept-raised : (n : ℕ) → n ≤ 48 → kept_by n (mask_in plan * 2 ^ 16) ≡ kept_in n plan
  unfolding kept_in
  kept-raised n few =
      ext_get_or false (kept_by n M) (each (kept_at (mask_in plan)) 0 n) same_length same
    where
      M : ℕ
      M = mask_in plan * 2 ^ 16

      length-kept : (c : Choice) → length (kept_of c) ≡ length c
      length-kept [] = refl
      length-kept (x ∷ c) = ap suc (length-kept c)

      get_d_kept : (c : Choice) (i : ℕ) → i < length c → get_or (kept_of c) i false ≡ not (eqb (get_or c i 0) 0)
      get_d_kept [] i h = absurd (omega arith)
      get_d_kept (x ∷ c) zero h = refl
      get_d_kept (x ∷ c) (suc i) h = get_d_kept c i (omega arith)

      same_length : length (kept_by n M) ≡ length (each (kept_at (mask_in plan)) 0 n)
      same_length = omega (arith, length-kept (picks_of n M), length-picks n M, length-each (kept_at (mask_in plan)) 0 n)

      same : (i : ℕ) → i < length (kept_by n M) → get_or (kept_by n M) i false ≡ get_or (each (kept_at (mask_in plan)) 0 n) i false
      same i h =
          let below : i < n = omega (arith, length-kept (picks_of n M), length-picks n M) in
          let here : i < length (picks_of n M) = omega (arith, length-picks n M) in
          let place : 0 + i ≡ i = omega arith in
          get_d_kept (picks_of n M) i here
          ∙ ap (λ x. not (eqb x 0)) (pick-is-bit n M i below (omega arith) raised-fits ∙ ap (λ x. x % 2) (bit-raised (mask_in plan) i (omega arith)))
          ∙ sym (get_d-each (kept_at (mask_in plan)) 0 n i false (omega arith) ∙ ap (kept_at (mask_in plan)) place)
