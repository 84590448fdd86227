-- The laws of packed plans.
use Prim.Native.Nat.{ℕ, suc, ◌+◌, ◌*◌, ◌-◌, ◌/◌, ◌%◌, ◌^◌, ◌≤◌, ◌<◌}
use Rattle.std.specs.Prelude.{◌≡◌, refl, List, [], ◌∷◌, ◌++◌, ℤ, pos, length, replicate, get_or, take, drop}
use Rattle.std.proofs.Common.{sym, ◌∙◌, subst, append_assoc, pow_pos, shr-shr, length-append, length-drop, get_or-drop}
use Rattle.std.proofs.Math.Path.{ap}
use native.Mathlib.Omega.{arith}
use Rattle.std.specs.Int.Count.{ones}
use Rattle.std.proofs.lemmas.Nat.{ones_cat}
use Rattle.std.proofs.Math.Pow.{field, mod-mod-pow}
use Rattle.std.proofs.lemmas.List.{length-replicate, replicate-append-replicate}
use Rattle.seconds.specs.Twos.{bits_to}
use Rattle.seconds.proofs.TwosLaws.{InBits}
use Rattle.packed.specs.Layout.{Field, plain, twos, decode, number_of}
use Rattle.packed.proofs.LayoutLaws.{AreBytes, number_of-lt}
use Rattle.packed_plan.specs.Plan.{plan_bytes, pad_bits, front_layout, plan_layout, plan_fields}
use Rattle.packed.proofs.Appended.{bits, bits-append, bits-replicate, decode-at, number_behind, number-front}

-- ---- how many ones

pub ones-0 : ones 0 ≡ 0
unfolding ones
ones-0 = refl

-- Moved up by some places they are as many.
pub ones-raised : (m k : ℕ) → ones (m * 2 ^ k) ≡ ones m
ones-raised m k =
    let e : m * 2 ^ k ≡ m * 2 ^ k + 0 = omega arith in
    ap ones e ∙ ones_cat k m 0 (pow_pos k) ∙ omega (arith, ones-0)

-- ---- starts

-- Starts that have room in 18 bits.
abbrev pub Starts : List ℤ → Type 0
Starts ss = (i : ℕ) → InBits 18 (get_or ss i (pos 0))

-- ---- how many bits

pub front-bits : (n : ℕ) → bits (front_layout n) ≡ 48 + 18 * n
front-bits n = rw (bits-replicate n (twos 18)) (omega arith)

pub plan-bits : (n : ℕ) → bits (plan_layout n) ≡ 8 * plan_bytes n
plan-bits n = rw (bits-append (front_layout n) (plain (pad_bits n) ∷ []), front-bits n) (omega arith)

pub plan-length : (n : ℕ) → length (plan_layout n) ≡ suc (suc n)
plan-length n =
    length-append (front_layout n) (plain (pad_bits n) ∷ []) ∙ omega (arith, length-replicate n (twos 18))

-- ---- the fields by place

-- The layout seen from the start at a place.
plan-from : (n k : ℕ) → k < n
    → plan_layout n ≡ front_layout k ++ (twos 18 ∷ (replicate (n - suc k) (twos 18) ++ (plain (pad_bits n) ∷ [])))
plan-from n k h =
    let e : k + suc (n - suc k) ≡ n = omega arith in
    let r : replicate n (twos 18) ≡ replicate k (twos 18) ++ (twos 18 ∷ replicate (n - suc k) (twos 18)) =
    rw e at (sym (replicate-append-replicate k (suc (n - suc k)) (twos 18))) in
    ap (λ fs. plain 48 ∷ (fs ++ (plain (pad_bits n) ∷ []))) r
    ∙ ap (λ fs. plain 48 ∷ fs) (append_assoc (replicate k (twos 18)) (twos 18 ∷ replicate (n - suc k) (twos 18)) (plain (pad_bits n) ∷ []))

-- The start at a place of a plan's numbers.
pub field-there : (n k : ℕ) {w : ℕ} → k < n → w < 2 ^ bits (plan_layout n)
    → get_or (decode (plan_layout n) w) (suc k) (pos 0) ≡ bits_to 18 (w / 2 ^ (18 * (n - suc k) + pad_bits n) % 2 ^ 18)
field-there n k {w} h b =
    let gs : List Field = replicate (n - suc k) (twos 18) ++ (plain (pad_bits n) ∷ []) in
    let g : bits gs ≡ 18 * (n - suc k) + pad_bits n =
    bits-append (replicate (n - suc k) (twos 18)) (plain (pad_bits n) ∷ []) ∙ omega (arith, bits-replicate (n - suc k) (twos 18)) in
    ap (λ fs. get_or (decode fs w) (suc k) (pos 0)) (plan-from n k h)
    ∙ decode-at (front_layout k) (twos 18) gs (suc k) (ap suc (length-replicate k (twos 18))) (subst (λ fs. w < 2 ^ bits fs) (plan-from n k h) b)
    ∙ ap (λ e. bits_to 18 (w / 2 ^ e % 2 ^ 18)) g

-- ---- three bytes

-- The bits of 18 that stand above so many others are found in three bytes.
pub eighteen-bits : (w c r t : ℕ) → t + r ≡ 6
    → w / 2 ^ (8 * c) % 2 ^ 24 / 2 ^ t % 2 ^ 18 ≡ w / 2 ^ (8 * c + t) % 2 ^ 18
eighteen-bits w c r t e =
    let split : 24 ≡ (r + 18) + t = omega arith in
    let x = w / 2 ^ (8 * c) in
    ap (λ m. x % 2 ^ m / 2 ^ t % 2 ^ 18) split
    ∙ ap (λ y. y % 2 ^ 18) (field x (r + 18) t)
    ∙ mod-mod-pow (x / 2 ^ t) r 18
    ∙ ap (λ y. y % 2 ^ 18) (shr-shr w (8 * c) t)

module _ (bs : List ℕ) (h : AreBytes bs) where
  -- Three bytes at a place.
  pub three-bytes : (a : ℕ) → a + 3 ≤ length bs
      → number_of (take 3 (drop a bs)) ≡ number_of bs / 2 ^ (8 * (length bs - (a + 3))) % 2 ^ 24
  three-bytes a l =
      let ds = drop a bs in
      let c = length bs - (a + 3) in
      let dh : AreBytes ds = λ i. rw (get_or-drop a bs i 0) (h (a + i)) in
      let m : 8 * length ds ≡ 24 + 8 * c = omega (arith, length-drop a bs) in
      let n : 8 * length (drop 3 ds) ≡ 8 * c = omega (arith, length-drop 3 ds, length-drop a bs) in
      number-front ds dh 3 ∙ ap (λ e. number_of ds / 2 ^ e) n
      ∙ ap (λ x. x / 2 ^ (8 * c)) (number_behind bs h a ∙ ap (λ e. number_of bs % 2 ^ e) m)
      ∙ field (number_of bs) 24 (8 * c)

  module _ (n : ℕ) (long : length bs ≡ plan_bytes n) where
    pub whole-lt : number_of bs < 2 ^ bits (plan_layout n)
    whole-lt = rw (plan-bits n, ← long) (number_of-lt bs h)

    -- A start is read from the last three bytes of the plan that ends with it, above that plan's padding.
    pub start-there : (k : ℕ) → k < n → get_or (plan_fields n bs) (suc k) (pos 0)
        ≡ bits_to 18 (number_of (take 3 (drop (plan_bytes (suc k) - 3) bs)) / 2 ^ pad_bits (suc k) % 2 ^ 18)
    unfolding plan_fields
    start-there k l =
        let a = plan_bytes (suc k) - 3 in
        let c = plan_bytes n - (a + 3) in
        let room : a + 3 ≤ plan_bytes n = omega arith in
        let e : 18 * (n - suc k) + pad_bits n ≡ 8 * c + pad_bits (suc k) = omega arith in
        let r = 6 - pad_bits (suc k) in
        field-there n k l whole-lt
        ∙ ap (λ x. bits_to 18 (number_of bs / 2 ^ x % 2 ^ 18)) e
        ∙ ap (bits_to 18) (sym (eighteen-bits (number_of bs) c r (pad_bits (suc k)) (omega arith)))
        ∙ ap (λ x. bits_to 18 (x / 2 ^ pad_bits (suc k) % 2 ^ 18))
        (sym (three-bytes a (rw long room) ∙ ap (λ l. number_of bs / 2 ^ (8 * (l - (a + 3))) % 2 ^ 24) long))
