-- The padding is in the last byte; and all starts as they are read one by one.
use Prim.Native.Nat.{ℕ, zero, suc, ◌+◌, ◌*◌, ◌-◌, ◌%◌, ◌^◌, ◌≤◌, ◌<◌}
use Rattle.std.specs.Prelude.{◌≡◌, refl, ℤ}
use Rattle.std.proofs.Common.{sym, ap₂, ◌∙◌, div-one, drop-cons}
use Rattle.std.proofs.Math.Path.{ap}
use mathlib.Core.List.{List, [], ◌∷◌}
use native.Mathlib.Omega.{arith}
use Rattle.std.proofs.Math.Pow.{mod-mod-pow}
use Rattle.std.proofs.Math.IntN.{pos}
use lib.ListN.{length, get_or, take, drop, length-drop, length-replicate}
use Rattle.packed.specs.Layout.{plain, twos, number_of}
use Rattle.packed.specs.Places.{each_of}
use Rattle.packed.proofs.LayoutLaws.{AreBytes, number_of-snoc}
use Rattle.packed_plan.specs.Plan.{plan_bytes, pad_bits, front_layout, plan_fields}
use Rattle.packed.proofs.Appended.{decode-at, number_behind}
use Rattle.packed_plan.proofs.PlanLaws.{whole-lt}

module _ (bs : List ℕ) (h : AreBytes bs) (n : ℕ) (long : length bs ≡ plan_bytes n) where
  -- The last byte is the number's remainder.
  last_byte : get_or bs (length bs - 1) 0 ≡ number_of bs % 2 ^ 8
  last_byte =
      let a = length bs - 1 in
      let one : length (drop a bs) ≡ 1 = omega (arith, length-drop a bs) in
      let e : drop a bs ≡ get_or bs a 0 ∷ drop (suc a) bs = drop-cons bs a 0 (omega arith) in
      let none : drop (suc a) bs ≡ [] = lib.ListN.drop_of_length-le bs {i = suc a} (omega arith) in
      let n1 : number_of (drop a bs) ≡ get_or bs a 0 = ap number_of (e ∙ ap (λ l. get_or bs a 0 ∷ l) none) ∙ single (get_or bs a 0) in
      sym n1 ∙ number_behind bs h a ∙ ap (λ l. number_of bs % 2 ^ (8 * l)) one
    where
      single : (b : ℕ) → number_of (b ∷ []) ≡ b
      single b = number_of-snoc [] b ∙ unfold number_of in omega arith

  -- The bits behind the last start.
  pub pad-there : get_or (plan_fields n bs) (suc n) (pos 0) ≡ pos (get_or bs (length bs - 1) 0 % 2 ^ pad_bits n)
  unfolding plan_fields
  pad-there =
      let p = pad_bits n in
      let small : (8 - p) + p ≡ 8 = omega arith in
      decode-at (front_layout n) (plain p) [] (suc n) (ap suc (length-replicate n (twos 18))) (whole-lt bs h n long)
      ∙ ap (λ x. pos (x % 2 ^ p)) (div-one (number_of bs))
      ∙ ap pos (sym (mod-mod-pow (number_of bs) (8 - p) p) ∙ ap (λ e. number_of bs % 2 ^ e % 2 ^ p) small)
      ∙ ap (λ x. pos (x % 2 ^ p)) (sym last_byte)

-- Some numbers of a list from a place on, as a function of the place gives them.
pub each-is : (f : ℕ → ℤ) (zs : List ℤ) (m k : ℕ) → k + m ≤ length zs → ((i : ℕ) → i < k + m → get_or zs i (pos 0) ≡ f i)
    → take m (drop k zs) ≡ each_of f k m
each-is f zs zero k l h = refl
each-is f zs (suc m) k l h =
    let e : drop k zs ≡ get_or zs k (pos 0) ∷ drop (suc k) zs = drop-cons zs k (pos 0) (omega arith) in
    ap (take (suc m)) e ∙ ap₂ (λ x xs. x ∷ xs) (h k (omega arith)) (each-is f zs m (suc k) (omega arith) (λ i b. h i (omega arith)))
