-- The bits of a job's numbers, as the code makes them, and the record that they make together.
use Rattle.std.specs.Prelude.{ℕ, zero, suc, ◌+◌, ◌*◌, ◌^◌, ◌≤◌, ◌<◌, ◌≡◌, refl, true, [], ◌∷◌, ◌++◌, ℤ, pos, negsuc, ◌+ℤ◌, nat_abs, ◌≤ℤ◌, ◌<ℤ◌}
use Rattle.std.proofs.Common.{sym, ap, ◌∙◌, lt_of_lt_of_le, arith, pow-add, pow_mono, to_z, of_z, to_z-of_z}
use Rattle.std.proofs.lemmas.Bool.{not-false}
use Rattle.std.specs.Int.{w32}
use Rattle.seconds.specs.Signed.{signed, add_is, abs_is, one-zero}
use Rattle.seconds.specs.RangesLaws.{same-yes}
use Rattle.seconds.specs.Twos.{to_bits}
use Rattle.packed.specs.Layout.{encode, bytes_of, job_layout, pack_bits, front_layout, back_layout, front_bytes, record_bytes}
use Rattle.packed.proofs.LayoutLaws.{Held, no_field, held, encode-lt, front-bits, record-front}
use Rattle.packed.proofs.Appended.{encode-split}
use Rattle.packed.specs.Refusals.{fields_within}
use Rattle.packed.proofs.RefusalLaws.{within-is, job-held}
use Rattle.fields.specs.Fields.{fields_of}
use Rattle.fields.specs.Asked.{front_of, back_of, HeadFits, JobFor}
use Rattle.fields.specs.Facts.{job-facts, facts-fit}
use Rattle.fields.specs.declared.Job.{Job}

-- ---- the bits of a time

-- Below 0 its value and 262,144.
pub bits_below : (z : ℤ) → negsuc 131071 ≤ℤ z → z <ℤ pos 0 → nat_abs (z +ℤ pos 262144) ≡ to_bits 18 z
unfolding to_bits
bits_below (pos n) l h = absurd (omega signed)
bits_below (negsuc n) l h =
    omega (signed, add_is (negsuc n) (pos 262144), abs_is (negsuc n +ℤ pos 262144), one-zero (negsuc n +ℤ pos 262144))

-- Else its value.
pub bits-from : (z : ℤ) → pos 0 ≤ℤ z → nat_abs z ≡ to_bits 18 z
unfolding to_bits
bits-from (pos n) h = refl
bits-from (negsuc n) h = absurd (omega signed)

-- ---- the bits of a job

front-encode : (kind : ℕ) (a b c d e : ℤ) → encode (front_layout kind) (a ∷ b ∷ c ∷ d ∷ e ∷ [])
    ≡ nat_abs a * 2 ^ (pack_bits kind + 26) + (nat_abs b * 2 ^ 26 + (nat_abs c * 2 ^ 25 + (nat_abs d * 2 ^ 18 + to_bits 18 e)))
unfolding encode
front-encode kind a b c d e = omega arith

back-encode : (a b : ℤ) → encode back_layout (a ∷ b ∷ []) ≡ nat_abs a * 2 ^ 18 + to_bits 18 b
unfolding encode
back-encode a b = omega arith

-- The bits of each number of a record's front.
pub record FrontBits (j : Job) (number pack critical weight ready : ℕ) : Type 0 where
  pub number_is : number ≡ nat_abs (to_z w32 (of_z w32 j.number))
  pub pack-is : pack ≡ nat_abs (to_z w32 (of_z w32 j.pack))
  pub critical-is : critical ≡ nat_abs (to_z w32 (of_z w32 j.critical))
  pub weight_is : weight ≡ nat_abs (to_z w32 (of_z w32 j.weight))
  pub ready-is : ready ≡ to_bits 18 (to_z w32 (of_z w32 j.ready))

-- Joined they are the front's number.
pub front-joined : (j : Job) (kind number pack critical weight ready : ℕ) → fields_within (fields_of j) ≡ true
    → FrontBits j number pack critical weight ready
    → (number * 2 ^ pack_bits kind + pack) * 2 ^ 26 + (critical * 2 ^ 25 + (weight * 2 ^ 18 + ready))
    ≡ encode (front_layout kind) (front_of j)
front-joined j kind number pack critical weight ready e b =
    let f = facts-fit j ((job-facts j).0 e) in
    let low : ℕ = critical * 2 ^ 25 + (weight * 2 ^ 18 + ready) in
    let apart : (number * 2 ^ pack_bits kind + pack) * 2 ^ 26 + low ≡ number * 2 ^ (pack_bits kind + 26) + (pack * 2 ^ 26 + low) =
    rw (pow-add 2 (pack_bits kind) 26) (omega arith) in
    apart
    ∙ rw (
      b.number_is ∙ ap nat_abs (to_z-of_z f.number),
      b.pack-is ∙ ap nat_abs (to_z-of_z f.pack),
      b.critical-is ∙ ap nat_abs (to_z-of_z f.critical),
      b.weight_is ∙ ap nat_abs (to_z-of_z f.weight),
      b.ready-is ∙ ap (to_bits 18) (to_z-of_z f.ready),
    )
    (sym (front-encode kind j.number j.pack j.critical j.weight j.ready))

-- The same of the back.
pub back-joined : (j : Job) (long deadline : ℕ) → fields_within (fields_of j) ≡ true → long ≡ nat_abs (to_z w32 (of_z w32 j.length))
    → deadline ≡ to_bits 18 (to_z w32 (of_z w32 j.deadline)) → long * 2 ^ 18 + deadline ≡ encode back_layout (back_of j)
back-joined j long deadline e l d =
    let f = facts-fit j ((job-facts j).0 e) in
    rw (l ∙ ap nat_abs (to_z-of_z f.long), d ∙ ap (to_bits 18) (to_z-of_z f.deadline)) (sym (back-encode j.length j.deadline))

-- ---- by kind

-- The bytes of the front.
pub front-old : front_bytes 0 ≡ 4
unfolding front_bytes
front-old = refl

pub front-new : (kind : ℕ) → 0 < kind → front_bytes kind ≡ 5
unfolding front_bytes
front-new zero h = absurd (omega arith)
front-new (suc kind) h = refl

-- The head.
pub head-old : (number pack kind : ℕ) → HeadFits number pack kind → kind ≡ 0 → number ≡ number * 2 ^ pack_bits kind + pack
head-old number pack kind f e = rw e (omega (arith, f.without e))

pub head-new : (number pack kind : ℕ) → 0 < kind → number * 256 + pack ≡ number * 2 ^ pack_bits kind + pack
head-new number pack zero h = absurd (omega arith)
head-new number pack (suc kind) h = refl

-- ---- a job of a kind

split-held : (kind : ℕ) (j : Job) → Held (job_layout kind) (fields_of j) → Held (front_layout kind) (front_of j) × Held back_layout (back_of j)
split-held kind j (held a (held b (held c (held d (held e r))))) = (held a (held b (held c (held d (held e no_field)))), r)

-- A job within its limits, of a kind that has its pack, is held by its record's front and back.
pub parts_held : (j : Job) (kind : ℕ) → JobFor j kind → Held (front_layout kind) (front_of j) × Held back_layout (back_of j)
parts_held j kind f =
    split-held kind j (job-held kind (fields_of j) refl ((within-is (fields_of j)).0 f.within) f.kinded)

-- Their numbers are of whole bytes.
pub front-small : (j : Job) (kind : ℕ) → JobFor j kind → encode (front_layout kind) (front_of j) < 2 ^ (8 * front_bytes kind)
front-small j kind f = rw (← (front-bits kind)) (encode-lt (parts_held j kind f).0)

pub front-least : (kind : ℕ) → front_bytes kind ≤ 5
unfolding front_bytes
front-least zero = omega arith
front-least (suc kind) = omega arith

pub front-under : (j : Job) (kind : ℕ) → JobFor j kind → encode (front_layout kind) (front_of j) < 2 ^ 40
front-under j kind f =
    let short : 8 * front_bytes kind ≤ 40 = omega (arith, front-least kind) in
    lt_of_lt_of_le (front-small j kind f) (pow_mono short)

pub back-small : (j : Job) → fields_within (fields_of j) ≡ true → encode back_layout (back_of j) < 2 ^ 32
back-small j e = encode-lt (parts_held j 1 (record { within = e; kinded = λ z. absurd (omega arith) })).1

-- The pack of a job of kind 0, and the head of its record.
pub head-fits : (j : Job) (kind number pack : ℕ) → JobFor j kind → number ≡ nat_abs (to_z w32 (of_z w32 j.number))
    → pack ≡ nat_abs (to_z w32 (of_z w32 j.pack)) → HeadFits number pack kind
head-fits j kind number pack f n p =
    let facts = (job-facts j).0 f.within in
    let fits = facts-fit j facts in
    let its : number ≡ nat_abs j.number = n ∙ ap nat_abs (to_z-of_z fits.number) in
    let one : pack ≡ nat_abs j.pack = p ∙ ap nat_abs (to_z-of_z fits.pack) in
    record {
      few = omega (signed, facts.number, abs_is j.number);
      small = omega (signed, facts.pack, abs_is j.pack);
      without = λ k. one ∙ ap nat_abs ((same-yes j.pack (pos 0)).0 (not-false _ (f.kinded k)));
    }

-- The front, then the back, are the record's bytes.
pub record-parts : (j : Job) (kind : ℕ) → JobFor j kind
    → bytes_of (front_bytes kind) (encode (front_layout kind) (front_of j)) ++ bytes_of 4 (encode back_layout (back_of j))
    ≡ bytes_of (record_bytes kind) (encode (job_layout kind) (fields_of j))
record-parts j kind f =
    let h = parts_held j kind f in
    rw (record-front kind) (sym (encode-split (front_bytes kind) 4 h.0 h.1 (front-bits kind) refl))
