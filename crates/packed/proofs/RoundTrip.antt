-- Both ways without loss: unpacking what was packed gives the bus-free time and the numbers again, and packing what was
-- unpacked gives the bytes again, for everything that is accepted.
use Prim.Native.Nat.{ℕ, ◌+◌, ◌*◌, ◌^◌, ◌<◌}
use Rattle.std.specs.Prelude.{◌≡◌, List, [], ◌∷◌, ℤ, pos, take}
use Rattle.std.proofs.Math.Path.{refl, ap}
use Rattle.std.proofs.Common.{sym, ap₂, ◌∙◌, arith, take-append-drop, length-take-le, take_at, drop_at}
use Rattle.std.proofs.Math.ListN.{length}
use Rattle.seconds.proofs.TwosLaws.{time-in}
use Rattle.packed.specs.Layout.{decode, encode, number_of, bytes_of, header_layout, job_layout, record_bytes}
use Rattle.packed.proofs.LayoutLaws.{Held, no_field, held, AreBytes, part_bytes, read-written, written_read, record-bits}
use Rattle.packed.specs.Places.{flat}
use Rattle.packed.specs.PlacesLaws.{part-flat, flat-cong}
use Rattle.packed.specs.Packed.{header_word, header_of, count_of, t0_of, kind_of, record_at, job_word}
use Rattle.packed.specs.Packed.{job_fields, numbers_of, job_count, fields_at, packed_header, packed_job, pack_in, pack_order, kind_for}
use Rattle.packed.proofs.PackedLaws.{header-says, record_is, length-record, flat-records}
use Rattle.packed.proofs.PackedLaws.{numbers-count, fields-of-numbers, length-fields_at, flat-fields_at}
use Rattle.packed.proofs.PackedLaws.{length-packed_header, length-packed_job, length-packed, kind-few, kind-old}
use Rattle.packed.specs.Judge.{fine, judge}
use Rattle.packed.specs.Refusals.{order_checks, number_checks}
use Rattle.packed.proofs.RefusalLaws.{HeaderFine, job-held}
use Rattle.packed.proofs.Accepted.{NumbersFine, numbers-fine, OrderFine, order-fine, order-numbers}

-- ---- packed, then unpacked

module _ (t0 : ℤ) (zs : List ℤ) (ok : NumbersFine t0 zs) where
  abbrev kind : ℕ
  kind = kind_for zs

  abbrev n : ℕ
  n = job_count zs

  header-held : Held header_layout (pos n ∷ t0 ∷ pos kind ∷ [])
  header-held =
      let few : n < 2 ^ 6 = omega (arith, ok.list.few) in
      let known : kind < 2 ^ 8 = omega (arith, kind-few zs) in
      held few (held (time-in ok.list.timely) (held known no_field))

  -- The header says what was packed into it.
  header-back : header_of (pack_order t0 zs) ≡ pos n ∷ t0 ∷ pos kind ∷ []
  unfolding header_of header_word pack_in
  header-back =
      rw (take_at (packed_header kind n t0) (flat (packed_job kind zs) n) 4 (length-packed_header kind n t0))
      (unfold packed_header in read-written 4 refl header-held)

  count-back : count_of (pack_order t0 zs) ≡ n
  unfolding count_of
  count-back = rw header-back

  t0-back : t0_of (pack_order t0 zs) ≡ t0
  unfolding t0_of
  t0-back = rw header-back

  kind-back : kind_of (pack_order t0 zs) ≡ kind
  unfolding kind_of
  kind-back = rw header-back

  -- Each job's bytes say its numbers.
  record-back : (k : ℕ) → k < n → record_at (pack_order t0 zs) k ≡ packed_job kind zs k
  unfolding record_at
  record-back k h =
      rw kind-back
      (unfold pack_in in
      rw (drop_at (packed_header kind n t0) (flat (packed_job kind zs) n) 4 (length-packed_header kind n t0))
      (part-flat (record_bytes kind) (packed_job kind zs) (length-packed_job kind zs) n k h))

  fields_back : (k : ℕ) → k < n → job_fields (pack_order t0 zs) k ≡ fields_at zs k
  unfolding job_fields job_word packed_job
  fields_back k h =
      let seven : length (fields_at zs k) ≡ 7 = length-fields_at zs n ok.list.whole k h in
      ap (λ b. decode (job_layout (kind_of (pack_order t0 zs))) (number_of b)) (record-back k h)
      ∙ ap (λ d. decode (job_layout d) (number_of (packed_job kind zs k))) kind-back
      ∙ read-written (record_bytes kind) (record-bits kind)
      (job-held kind (fields_at zs k) seven (ok.jobs.within k h) (λ e. (kind-old zs).0 e k h))

  numbers-back : numbers_of (pack_order t0 zs) ≡ zs
  unfolding numbers_of
  numbers-back =
      rw (count-back, flat-cong (job_fields (pack_order t0 zs)) (fields_at zs) n fields_back)
      (flat-fields_at zs n ok.list.whole)

  -- What was packed is an order.
  packed-fine : OrderFine (pack_order t0 zs)
  packed-fine =
      record {
        header =
            record {
              long = omega (arith, length-packed kind t0 zs);
              known = rw kind-back (kind-few zs);
              few = rw count-back ok.list.few;
              whole = rw (count-back, kind-back) (length-packed kind t0 zs);
              timely = rw t0-back ok.list.timely;
              kinded = ap kind_for numbers-back ∙ sym kind-back;
            };
        jobs = rw numbers-back ok.jobs;
        light = rw numbers-back ok.light;
      }

-- Accepted numbers, packed: the bytes are accepted, and say the same bus-free time and numbers.
pub unpack-pack : (t0 : ℤ) (zs : List ℤ) → judge (number_checks t0 zs) ≡ fine
    → (judge (order_checks (pack_order t0 zs)) ≡ fine) × (t0_of (pack_order t0 zs) ≡ t0) × (numbers_of (pack_order t0 zs) ≡ zs)
unpack-pack t0 zs e =
    let ok = (numbers-fine t0 zs).0 e in
    ((order-fine (pack_order t0 zs)).1 (packed-fine t0 zs ok), t0-back t0 zs ok, numbers-back t0 zs ok)

-- Their kind is 0 exactly when every pack is.
pub pack-kind : (t0 : ℤ) (zs : List ℤ) → judge (number_checks t0 zs) ≡ fine → kind_of (pack_order t0 zs) ≡ kind_for zs
pack-kind t0 zs e = kind-back t0 zs ((numbers-fine t0 zs).0 e)

-- ---- unpacked, then packed

module _ (bytes : List ℕ) (all : AreBytes bytes) (ok : HeaderFine bytes) where
  abbrev its : ℕ
  its = kind_of bytes

  -- The header is made again from what it says, and each record from its numbers.
  header-bytes : packed_header its (count_of bytes) (t0_of bytes) ≡ take 4 bytes
  unfolding packed_header
  header-bytes =
      rw (← (header-says bytes))
      (unfold header_of header_word in
      written_read header_layout 4 (take 4 bytes) refl (length-take-le 4 bytes ok.long) (part_bytes bytes all 4 0))

  record-bytes : (k : ℕ) → k < count_of bytes → packed_job its (numbers_of bytes) k ≡ record_at bytes k
  unfolding packed_job job_fields job_word
  record-bytes k h =
      let size : ℕ = record_bytes its in
      let long : length (record_at bytes k) ≡ size = length-record bytes (count_of bytes) ok.whole k h in
      let are : AreBytes (record_at bytes k) = rw (record_is bytes k) (part_bytes bytes all size (4 + size * k)) in
      ap (λ z. bytes_of size (encode (job_layout its) z)) (fields-of-numbers bytes k h)
      ∙ written_read (job_layout its) size (record_at bytes k) (record-bits its) long are

  bytes_back : pack_order (t0_of bytes) (numbers_of bytes) ≡ bytes
  bytes_back =
      rw ok.kinded
      (unfold pack_in in
      rw (
        numbers-count bytes,
        header-bytes,
        flat-cong (packed_job its (numbers_of bytes)) (record_at bytes) (count_of bytes) record-bytes,
        flat-records bytes (count_of bytes) ok.whole,
      )
      (take-append-drop 4 bytes))

-- Accepted bytes, unpacked: the numbers are accepted, and packed they are the same bytes.
pub pack-unpack : (bytes : List ℕ) → AreBytes bytes → judge (order_checks bytes) ≡ fine
    → (judge (number_checks (t0_of bytes) (numbers_of bytes)) ≡ fine) × (pack_order (t0_of bytes) (numbers_of bytes) ≡ bytes)
pack-unpack bytes all e =
    let ok = (order-fine bytes).0 e in
    ((numbers-fine (t0_of bytes) (numbers_of bytes)).1 (order-numbers bytes ok), bytes_back bytes all ok.header)

-- Each order has one packed form: accepted bytes that say the same bus-free time and numbers are the same bytes.
pub one_form : (a b : List ℕ) → AreBytes a → AreBytes b → judge (order_checks a) ≡ fine → judge (order_checks b) ≡ fine
    → t0_of a ≡ t0_of b → numbers_of a ≡ numbers_of b → a ≡ b
one_form a b all-a all-b fine-a fine-b t zs =
    sym (pack-unpack a all-a fine-a).1 ∙ ap₂ pack_order t zs ∙ (pack-unpack b all-b fine-b).1
