-- The field that refusal 6 names: the first test of the list of tests that is not passed. Over bytes only the weight and what
-- stands behind it can be out of range; over numbers every field can.
use Rattle.std.specs.Prelude.{ℕ, zero, suc, ◌+◌, ◌*◌, ◌-◌, ◌/◌, ◌%◌, ◌^◌, ◌≤◌, ◌<◌, ◌≡◌, refl, Bool, true, false, not, ◌≢◌, List, [], ◌∷◌, eqb, ℤ, pos, length, get_or, take, drop}
use Rattle.std.proofs.Common.{sym, ap, subst, ◌∙◌, true≢false, arith, ne_eqb}
use Rattle.seconds.specs.Signed.{signed}
use Rattle.seconds.specs.Ranges.{is_between}
use Rattle.seconds.specs.RangesLaws.{between-true}
use Rattle.packed.specs.Layout.{decode, number_of, job_layout, record_bytes}
use Rattle.packed.proofs.LayoutLaws.{AreBytes, part-lt, job-decode}
use Rattle.packed.specs.PlacesLaws.{IsFirst, first_found, first-skips, first-unique}
use Rattle.packed.specs.Packed.{kind_of, job_fields}
use Rattle.packed.proofs.PackedLaws.{fields-is, word-is}
use Rattle.packed.specs.Refusals.{field_tests, all_true, fields_within, first_failed, bad_field}

-- ---- the first test that is not passed

-- The test at a place of a list, the first counted as so much, is not passed.
abbrev fails_from : ℕ → List Bool → ℕ → Bool
fails_from at bs k = not (get_or bs (k - at) true)

-- None is named exactly when all are passed.
none-failed : (at : ℕ) (bs : List Bool) → eqb (first_failed (suc at) bs) 0 ≡ all_true bs
none-failed at [] = refl
none-failed at (true ∷ bs) = none-failed (suc at) bs
none-failed at (false ∷ bs) = ne_eqb (suc at) 0 (omega arith)

-- Else it is the first that is not.
failed-first : (at : ℕ) (bs : List Bool) → all_true bs ≡ false
    → IsFirst (fails_from at bs) at (at + length bs) (first_failed at bs) × (first_failed at bs < at + length bs)
failed-first at [] e = absurd (true≢false e)
failed-first at (false ∷ bs) e =
    let here : at - at ≡ 0 = omega arith in
    (first_found (fails_from at (false ∷ bs)) at (at + suc (length bs)) (omega arith) (λ h. rw here), omega arith)
failed-first at (true ∷ bs) e =
    let here : at - at ≡ 0 = omega arith in
    let later = failed-first (suc at) bs e in
    let end : suc at + length bs ≡ at + suc (length bs) = omega arith in
    let same : (k : ℕ) → suc at ≤ k → fails_from at (true ∷ bs) k ≡ fails_from (suc at) bs k =
    λ k h. let s : k - at ≡ suc (k - suc at) = omega arith in rw s in
    let f = later.0 in (
      first-skips (fails_from at (true ∷ bs)) at (at + suc (length bs)) (first_failed (suc at) bs) (rw here)
          (record {
            from = f.from;
            to = omega (arith, f.to);
            passes = λ h. same _ f.from ∙ f.passes (omega arith);
            before = λ k a b. same k a ∙ f.before k a b;
          }),
      omega (arith, later.1),
    )

-- ---- the field of a job

-- Whether the field with a figure is out of range.
abbrev pub out_of_range : List ℤ → ℕ → Bool
out_of_range zs f = not (get_or (field_tests zs) (f - 1) true)

-- The figure is that of the first field of a job that is out of range, of so many as there are tests.
abbrev past_last : List ℤ → ℕ
past_last zs = 1 + length (field_tests zs)

pub record FieldIs (zs : List ℤ) (f : ℕ) : Type 0 where
  pub first : IsFirst (out_of_range zs) 1 (past_last zs) f
  pub named : f < past_last zs

-- There is only one.
pub field-unique : (zs : List ℤ) (f g : ℕ) → FieldIs zs f → FieldIs zs g → f ≡ g
field-unique zs f g a b = first-unique (out_of_range zs) 1 (past_last zs) f g a.first b.first

-- No field is named exactly when the job is within its limits.
pub no-field-within : (zs : List ℤ) → eqb (bad_field zs) 0 ≡ fields_within zs
unfolding bad_field fields_within
no-field-within zs = none-failed 0 (field_tests zs)

-- Else the first that is out of range is.
pub bad-field-is : (zs : List ℤ) → fields_within zs ≡ false → FieldIs zs (bad_field zs)
unfolding bad_field fields_within
bad-field-is zs e = let f = failed-first 1 (field_tests zs) e in record { first = f.0; named = f.1 }

-- ---- over bytes

-- The bits of a record hold no number, pack and mark that is out of range, so the field is one of those behind them.
within : (most n : ℕ) → n ≤ most → is_between (pos 0) (pos most) (pos n) ≡ true
within most n h = (between-true (pos 0) (pos most) (pos n)).1 (omega signed)

front-within : (kind n : ℕ) → n < 2 ^ (8 * record_bytes kind)
    → (out_of_range (decode (job_layout kind) n) 1 ≡ false) × (out_of_range (decode (job_layout kind) n) 2 ≡ false)
    × (out_of_range (decode (job_layout kind) n) 3 ≡ false)
unfolding record_bytes
front-within zero n h =
    let number = within 63 (n / 2 ^ 58) (omega arith) in
    let pack = within 255 (n % 2 ^ 58 / 2 ^ 58) (omega arith) in
    let mark = within 1 (n % 2 ^ 58 % 2 ^ 58 / 2 ^ 57) (omega arith) in
    rw (job-decode 0 n, number, pack, mark) (refl, refl, refl)
front-within (suc kind) n h =
    let number = within 63 (n / 2 ^ 66) (omega arith) in
    let pack = within 255 (n % 2 ^ 66 / 2 ^ 58) (omega arith) in
    let mark = within 1 (n % 2 ^ 66 % 2 ^ 58 / 2 ^ 57) (omega arith) in
    rw (job-decode (suc kind) n, number, pack, mark) (refl, refl, refl)

module _ (bytes : List ℕ) (all : AreBytes bytes) (k : ℕ) where
  pub bytes-field : (f : ℕ) → FieldIs (job_fields bytes k) f → (4 ≤ f) × (f ≤ 7)
  bytes-field f h = (behind, omega (arith, h.named))
    where
      size : ℕ
      size = record_bytes (kind_of bytes)

      fields : decode (job_layout (kind_of bytes)) (number_of (take size (drop (4 + size * k) bytes))) ≡ job_fields bytes k
      fields = sym (fields-is bytes k ∙ ap (decode (job_layout (kind_of bytes))) (word-is bytes k))

      front : (out_of_range (job_fields bytes k) 1 ≡ false) × (out_of_range (job_fields bytes k) 2 ≡ false)
          × (out_of_range (job_fields bytes k) 3 ≡ false)
      front = subst (λ zs. (out_of_range zs 1 ≡ false) × (out_of_range zs 2 ≡ false) × (out_of_range zs 3 ≡ false)) fields
          (front-within (kind_of bytes) _ (part-lt bytes all size (4 + size * k)))

      not-front : (g : ℕ) → out_of_range (job_fields bytes k) g ≡ false → f ≢ g
      not-front g within e =
          true≢false (sym (h.first.passes h.named) ∙ ap (out_of_range (job_fields bytes k)) e ∙ within)

      behind : 4 ≤ f
      behind = omega (arith, h.first.from, not-front 1 front.0, not-front 2 front.1, not-front 3 front.2)
