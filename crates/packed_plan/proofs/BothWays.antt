-- Packed plans go both ways without loss.
use Rattle.std.specs.Prelude.{ℕ, suc, ◌*◌, ◌^◌, ◌<◌, ◌≡◌, ℤ, pos, length, replicate, get_or, drop}
use Rattle.std.proofs.Common.{sym, ◌∙◌, arith}
use Rattle.std.proofs.Math.Path.{ap, ap₂, subst}
use mathlib.Core.List.{List, [], ◌∷◌, ◌++◌}
use Rattle.std.specs.Int.Count.{ones}
use Rattle.std.proofs.Math.IntN.{nat_abs}
use Rattle.std.proofs.Math.ListN.{take, length-drop}
use lib.Seq.{length-take-le, take-append_seam, get_or-append_seam, take-suc}
use Rattle.seconds.specs.Signed.{signed, abs_is}
use Rattle.packed.specs.Layout.{Field, plain, twos, number_of}
use Rattle.packed.proofs.LayoutLaws.{Held, no_field, held, HeldBy, AreBytes, decode-cons, length-decode, read-written, written_read}
use Rattle.packed.proofs.LayoutLaws.{encode-lt, bytes_of-bytes, length-bytes_of}
use Rattle.packed_plan.specs.Plan.{plan_bytes, pad_bits, plan_layout, plan_number, pack_plan, mask_in, count_in, plan_fields, starts_in, pad_in}
use Rattle.packed.proofs.Appended.{bits, number-front}
use Rattle.packed_plan.proofs.PlanLaws.{Starts, plan-bits, plan-length}

-- ---- the mask

-- The mask is the number of the first six bytes.
pub mask-there : (bs : List ℕ) → AreBytes bs → (n : ℕ) → length bs ≡ plan_bytes n
    → get_or (plan_fields n bs) 0 (pos 0) ≡ pos (mask_in bs)
unfolding plan_fields mask_in
mask-there bs h n l =
    let gs : List Field = replicate n (twos 18) ++ (plain (pad_bits n) ∷ []) in
    let b : bits gs ≡ 8 * length (drop 6 bs) = omega (arith, plan-bits n, length-drop 6 bs) in
    rw (decode-cons (plain 48) gs (number_of bs), b) (ap pos (sym (number-front bs h 6)))

-- ---- written, and read

starts-held : (ss : List ℤ) (g : Field) → HeldBy g (pos 0) → Starts ss
    → Held (replicate (length ss) (twos 18) ++ (g ∷ [])) (ss ++ (pos 0 ∷ []))
starts-held [] g p h = held p no_field
starts-held (s ∷ ss) g p h = held (h 0) (starts-held ss g p (λ i. h (suc i)))

pub plan-held : (mask : ℕ) (ss : List ℤ) → mask < 2 ^ 48 → Starts ss
    → Held (plan_layout (length ss)) ((pos mask ∷ ss) ++ (pos 0 ∷ []))
plan-held mask ss m h = held m (starts-held ss (plain (pad_bits (length ss))) (lib.Pow.pow_pos (pad_bits (length ss))) h)

module _ (mask : ℕ) (ss : List ℤ) (m : mask < 2 ^ 48) (h : Starts ss) where
  abbrev n : ℕ
  n = length ss

  pub number_lt : plan_number mask ss < 2 ^ (8 * plan_bytes n)
  unfolding plan_number
  number_lt = subst (λ e. plan_number mask ss < 2 ^ e) (plan-bits n) (encode-lt (plan-held mask ss m h))

  pub packed-bytes : AreBytes (pack_plan mask ss)
  unfolding pack_plan
  packed-bytes = bytes_of-bytes (plan_bytes n) number_lt

  pub packed-length : length (pack_plan mask ss) ≡ plan_bytes n
  unfolding pack_plan
  packed-length = length-bytes_of (plan_bytes n) (plan_number mask ss)

  -- All numbers of the plan.
  pub packed-fields : plan_fields n (pack_plan mask ss) ≡ (pos mask ∷ ss) ++ (pos 0 ∷ [])
  unfolding plan_fields pack_plan plan_number
  packed-fields = read-written (plan_bytes n) (plan-bits n) (plan-held mask ss m h)

  pub packed-mask : mask_in (pack_plan mask ss) ≡ mask
  packed-mask =
      let e : pos (mask_in (pack_plan mask ss)) ≡ pos mask =
      sym (mask-there (pack_plan mask ss) packed-bytes n packed-length) ∙ ap (λ zs. get_or zs 0 (pos 0)) packed-fields in
      ap nat_abs e

  module _ (many : ones mask ≡ length ss) where
    pub packed-count : count_in (pack_plan mask ss) ≡ length ss
    unfolding count_in
    packed-count = ap ones packed-mask ∙ many

    pub packed-starts : starts_in (pack_plan mask ss) ≡ ss
    unfolding starts_in
    packed-starts = rw (packed-count, packed-fields) (take-append_seam ss (pos 0 ∷ []))

    pub packed-pad : pad_in (pack_plan mask ss) ≡ 0
    unfolding pad_in
    packed-pad = rw (packed-count, packed-fields) (ap nat_abs (get_or-append_seam ss (pos 0) [] (pos 0)))

-- ---- read, and written

-- A number that counts nothing is 0.
no_size : (z : ℤ) → nat_abs z ≡ 0 → z ≡ pos 0
no_size z e = omega (signed, abs_is z)

-- A list of one, some, and one more.
split : (n : ℕ) (zs : List ℤ) → length zs ≡ suc (suc n)
    → zs ≡ (get_or zs 0 (pos 0) ∷ take n (drop 1 zs)) ++ (get_or zs (suc n) (pos 0) ∷ [])
split n [] e = absurd (omega arith)
split n (z ∷ zs) e =
    let l : length zs ≡ suc n = omega arith in
    ap (λ xs. z ∷ xs) (sym (lib.Seq.take_all (suc n) zs (omega arith)) ∙ take-suc zs n (pos 0) (omega arith))

module _ (bs : List ℕ) (h : AreBytes bs) (l : length bs ≡ plan_bytes (count_in bs)) where
  fields-long : length (plan_fields (count_in bs) bs) ≡ suc (suc (count_in bs))
  unfolding plan_fields
  fields-long = length-decode (plan_layout (count_in bs)) (number_of bs) ∙ plan-length (count_in bs)

  pub starts-count : length (starts_in bs) ≡ count_in bs
  unfolding starts_in
  starts-count =
      length-take-le (count_in bs) (drop 1 (plan_fields (count_in bs) bs))
      (omega (arith, fields-long, length-drop 1 (plan_fields (count_in bs) bs)))

  fields-are : pad_in bs ≡ 0 → plan_fields (count_in bs) bs ≡ (pos (mask_in bs) ∷ starts_in bs) ++ (pos 0 ∷ [])
  unfolding starts_in pad_in
  fields-are p =
      split (count_in bs) (plan_fields (count_in bs) bs) fields-long
      ∙ ap₂ (λ x y. (x ∷ take (count_in bs) (drop 1 (plan_fields (count_in bs) bs))) ++ (y ∷ [])) (mask-there bs h (count_in bs) l)
      (no_size (get_or (plan_fields (count_in bs) bs) (suc (count_in bs)) (pos 0)) p)

  -- Accepted plan bytes are those of what they say.
  pub reads-packed : pad_in bs ≡ 0 → pack_plan (mask_in bs) (starts_in bs) ≡ bs
  unfolding pack_plan plan_number
  reads-packed p =
      rw (starts-count, ← (fields-are p))
      (unfold plan_fields in written_read (plan_layout (count_in bs)) (plan_bytes (count_in bs)) bs (plan-bits (count_in bs)) l h)
