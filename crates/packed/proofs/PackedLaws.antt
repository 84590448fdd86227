-- The laws of orders in bytes and in numbers: each definition written out, how long each list is, and what stands at a place.
use Rattle.std.specs.Prelude.{ℕ, ◌+◌, ◌*◌, ◌/◌, ◌%◌, ◌^◌, ◌≤◌, ◌<◌, ◌↔◌, ltb, ◌≡◌, List, [], ◌∷◌, ◌++◌, ℤ, pos, nat_abs, length, get_or, take, drop}
use Rattle.std.proofs.Math.Bool.{false}
use borrow.Author.Tests.{ltb-false, le-ltb}
use borrow.Table.Steps.{cases}
use Rattle.std.proofs.Math.Path.{refl, ap, ap₂}
use Rattle.std.proofs.Common.{◌∙◌, arith, length-drop, take-suc}
use Rattle.std.proofs.Math.ListN.{length-append}
use Rattle.std.proofs.Math.Seq.{drop-drop, take_all}
use Rattle.seconds.specs.Twos.{bits_to}
use Rattle.order.specs.Job.{one_rate}
use Rattle.packed.specs.Layout.{decode, encode, number_of, header_layout, job_layout, record_bytes}
use Rattle.packed.proofs.LayoutLaws.{header-decode, job-decode, length-decode, length-bytes_of, number_of-snoc}
use Rattle.packed.specs.Places.{part, flat, each}
use Rattle.packed.specs.PlacesLaws.{IsFirst, first-is, first-none, part-below, length_part, part-first, part-second, part-flat, flat-part}
use Rattle.packed.specs.PlacesLaws.{length-flat, each-cong, each_append, each-shift}
use Rattle.packed.specs.Packed.{header_word, header_of, count_of, t0_of, kind_of, record_at, job_word, job_fields, numbers_of}
use Rattle.packed.specs.Packed.{job_count, fields_at, packed_header, packed_job, pack_in, first_packed, kind_for, has_pack, job_of, job_at, job_in, jobs_of}
use Rattle.packed.specs.Packed.{order_of, the_number, the_weight, the_ready, the_length, the_deadline, is_critical}

-- ---- the header

module _ (bytes : List ℕ) where
  -- What the header says, in one list.
  header_is : header_of bytes ≡ pos (header_word bytes / 2 ^ 26)
      ∷ bits_to 18 (header_word bytes % 2 ^ 26 / 2 ^ 8) ∷ pos (header_word bytes % 2 ^ 26 % 2 ^ 8) ∷ []
  unfolding header_of
  header_is = header-decode (header_word bytes)

  -- The count.
  pub count-is : count_of bytes ≡ header_word bytes / 2 ^ 26
  unfolding count_of
  count-is = rw header_is

  -- The bus-free time.
  pub t0-is : t0_of bytes ≡ bits_to 18 (header_word bytes % 2 ^ 26 / 2 ^ 8)
  unfolding t0_of
  t0-is = rw header_is

  -- The kind of the records.
  pub kind-is : kind_of bytes ≡ header_word bytes % 2 ^ 26 % 2 ^ 8
  unfolding kind_of
  kind-is = rw header_is

  -- It is the header's last byte.
  last_byte : 4 ≤ length bytes → header_word bytes ≡ number_of (take 3 bytes) * 256 + get_or bytes 3 0
  unfolding header_word
  last_byte h = ap number_of (take-suc bytes 3 0 (omega arith)) ∙ number_of-snoc (take 3 bytes) (get_or bytes 3 0)

  pub kind-byte : 4 ≤ length bytes → get_or bytes 3 0 < 256 → kind_of bytes ≡ get_or bytes 3 0
  kind-byte h small = kind-is ∙ omega (arith, last_byte h)

  -- The header is what it says.
  pub header-says : header_of bytes ≡ pos (count_of bytes) ∷ t0_of bytes ∷ pos (kind_of bytes) ∷ []
  header-says = rw (count-is, t0-is, kind-is, header_is)

  -- ---- the jobs, in bytes

  -- The bytes of a record.
  abbrev size : ℕ
  size = record_bytes (kind_of bytes)

  -- The bytes of the job at a place.
  pub record_is : (k : ℕ) → record_at bytes k ≡ take size (drop (4 + size * k) bytes)
  unfolding record_at part
  record_is k = rw drop-drop

  -- The number that they make.
  pub word-is : (k : ℕ) → job_word bytes k ≡ number_of (take size (drop (4 + size * k) bytes))
  unfolding job_word
  word-is k = ap number_of (record_is k)

  -- The numbers that it says.
  pub fields-is : (k : ℕ) → job_fields bytes k ≡ decode (job_layout (kind_of bytes)) (job_word bytes k)
  unfolding job_fields
  fields-is k = refl

  -- They are seven.
  pub length_fields : (k : ℕ) → length (job_fields bytes k) ≡ 7
  unfolding job_fields
  length_fields k = length-decode (job_layout (kind_of bytes)) (job_word bytes k)

  -- In kind 0 there is no pack.
  pub fields-unpacked : kind_of bytes ≡ 0 → (k : ℕ) → has_pack (job_fields bytes k) ≡ false
  fields-unpacked e k =
      let n : ℕ = job_word bytes k in
      let none : n % 2 ^ 58 / 2 ^ 58 ≡ 0 = omega arith in
      rw (fields-is k, e, job-decode 0 n, none)

  -- The numbers of all jobs.
  pub numbers-is : numbers_of bytes ≡ flat (job_fields bytes) (count_of bytes)
  unfolding numbers_of
  numbers-is = refl

  -- They are seven a job.
  pub length-numbers : length (numbers_of bytes) ≡ 7 * count_of bytes
  unfolding numbers_of
  length-numbers = length-flat 7 (job_fields bytes) length_fields (count_of bytes)

  -- They are the numbers of as many jobs as the header says.
  pub numbers-count : job_count (numbers_of bytes) ≡ count_of bytes
  unfolding job_count
  numbers-count = rw length-numbers (omega arith)

  -- Among them, those of the job at a place.
  pub fields-of-numbers : (k : ℕ) → k < count_of bytes → fields_at (numbers_of bytes) k ≡ job_fields bytes k
  unfolding fields_at numbers_of
  fields-of-numbers k h = part-flat 7 (job_fields bytes) length_fields (count_of bytes) k h

  -- ---- the order

  -- Its jobs are each from its own bytes.
  pub order-jobs : (order_of bytes).jobs ≡ each (job_in bytes) 0 (count_of bytes)
  unfolding order_of jobs_of
  order-jobs =
      rw numbers-count
      (each-cong (job_at (numbers_of bytes)) (job_in bytes) 0 (count_of bytes) (λ k a b. ap job_of (fields-of-numbers k b)))

-- ---- a header and n whole records

module _ (bytes : List ℕ) (n : ℕ) (whole : length bytes ≡ 4 + record_bytes (kind_of bytes) * n) where
  -- Their bytes together.
  pub records-length : length (drop 4 bytes) ≡ record_bytes (kind_of bytes) * n
  records-length = rw length-drop (omega arith)

  -- Each record has the bytes of its kind.
  pub length-record : (k : ℕ) → k < n → length (record_at bytes k) ≡ record_bytes (kind_of bytes)
  unfolding record_at
  length-record k h =
      length_part (record_bytes (kind_of bytes)) (drop 4 bytes) k
      (omega (arith, records-length, part-below (record_bytes (kind_of bytes)) h))

  -- Together they are all but the header.
  pub flat-records : flat (record_at bytes) n ≡ drop 4 bytes
  unfolding record_at
  flat-records =
      flat-part (record_bytes (kind_of bytes)) (drop 4 bytes) n
      ∙ take_all (record_bytes (kind_of bytes) * n) (drop 4 bytes) (omega (arith, records-length))

-- ---- the jobs, in numbers

-- The job of its numbers.
pub job_is : (zs : List ℤ) → job_of zs
    ≡ one_rate (nat_abs (the_number zs)) (is_critical zs) (nat_abs (the_weight zs)) (the_ready zs) (nat_abs (the_length zs)) (the_deadline zs)
unfolding job_of
job_is zs = refl

-- The numbers of n whole jobs.
module _ (zs : List ℤ) (n : ℕ) (whole : length zs ≡ 7 * n) where
  -- They are of n jobs.
  pub whole-count : job_count zs ≡ n
  unfolding job_count
  whole-count = rw whole (omega arith)

  -- Each job has seven.
  pub length-fields_at : (k : ℕ) → k < n → length (fields_at zs k) ≡ 7
  unfolding fields_at
  length-fields_at k h = length_part 7 zs k (omega arith)

  -- Together they are the list.
  pub flat-fields_at : flat (fields_at zs) n ≡ zs
  unfolding fields_at
  flat-fields_at = flat-part 7 zs n ∙ take_all (7 * n) zs (omega arith)

-- Two lists put together, the first of n whole jobs.
module _ (front back : List ℤ) (n : ℕ) (whole : length front ≡ 7 * n) where
  fields-first : (k : ℕ) → k < n → fields_at (front ++ back) k ≡ fields_at front k
  unfolding fields_at
  fields-first k h = part-first 7 front back k (omega arith)

  fields-second : (k : ℕ) → fields_at (front ++ back) (n + k) ≡ fields_at back k
  unfolding fields_at
  fields-second k = part-second 7 front back n k whole

  -- The counts add up.
  pub count-append : job_count (front ++ back) ≡ n + job_count back
  unfolding job_count
  count-append = rw length-append (omega arith)

  jobs-second : each (job_at (front ++ back)) n (n + job_count back) ≡ each (job_at back) 0 (job_count back)
  jobs-second =
      let z : n + 0 ≡ n = omega arith in
      rw z at (each-shift (job_at (front ++ back)) n 0 (job_count back))
      ∙ each-cong (λ k. job_at (front ++ back) (n + k)) (job_at back) 0 (job_count back) (λ k a b. ap job_of (fields-second k))

  -- The jobs are those of the first, then those of the second.
  pub jobs-append : jobs_of (front ++ back) ≡ jobs_of front ++ jobs_of back
  unfolding jobs_of
  jobs-append =
      rw (count-append, whole-count front n whole)
      (each_append (job_at (front ++ back)) 0 n (n + job_count back) (omega arith) (omega arith)
      ∙ ap₂ (λ a b. a ++ b)
      (each-cong (job_at (front ++ back)) (job_at front) 0 n (λ k a b. ap job_of (fields-first k b)))
      jobs-second)

-- ---- the kind of some numbers

-- The kind is 0 or 1.
pub kind-few : (zs : List ℤ) → kind_for zs ≤ 1
unfolding kind_for
kind-few zs = cases (ltb (first_packed zs) (job_count zs)) (λ e. rw e (omega arith)) (λ e. rw e (omega arith))

module _ (zs : List ℤ) where
  packed-first : IsFirst (λ k. has_pack (fields_at zs k)) 0 (job_count zs) (first_packed zs)
  unfolding first_packed
  packed-first = first-is (λ k. has_pack (fields_at zs k)) 0 (job_count zs) (omega arith)

  -- It is 0 exactly when every pack is 0.
  pub kind-old : kind_for zs ≡ 0 ↔ ((k : ℕ) → k < job_count zs → has_pack (fields_at zs k) ≡ false)
  unfolding kind_for first_packed
  kind-old = (there, back)
    where
      there : kind_for zs ≡ 0 → (k : ℕ) → k < job_count zs → has_pack (fields_at zs k) ≡ false
      there e k h = cases (ltb (first_packed zs) (job_count zs))
          (λ y. absurd (let o : 1 ≡ 0 = rw y at e in omega arith))
          (λ n. packed-first.before k (omega arith) (omega (arith, ltb-false (first_packed zs) (job_count zs) n)))

      back : ((k : ℕ) → k < job_count zs → has_pack (fields_at zs k) ≡ false) → kind_for zs ≡ 0
      back h =
          rw (first-none (λ k. has_pack (fields_at zs k)) 0 (job_count zs) (omega arith) (λ k a b. h k b), le-ltb (job_count zs) (job_count zs) (omega arith))

-- What bytes of kind 0 say has it.
pub kind-unpacked : (bytes : List ℕ) → kind_of bytes ≡ 0 → kind_for (numbers_of bytes) ≡ 0
kind-unpacked bytes e =
    (kind-old (numbers_of bytes)).1
    (λ k h. ap has_pack (fields-of-numbers bytes k (omega (arith, numbers-count bytes))) ∙ fields-unpacked bytes e k)

-- ---- the bytes of some numbers

-- A packed header has four bytes.
pub length-packed_header : (kind n : ℕ) (t0 : ℤ) → length (packed_header kind n t0) ≡ 4
unfolding packed_header
length-packed_header kind n t0 = length-bytes_of 4 (encode header_layout (pos n ∷ t0 ∷ pos kind ∷ []))

-- A packed job has those of its kind.
pub length-packed_job : (kind : ℕ) (zs : List ℤ) (k : ℕ) → length (packed_job kind zs k) ≡ record_bytes kind
unfolding packed_job
length-packed_job kind zs k = length-bytes_of (record_bytes kind) (encode (job_layout kind) (fields_at zs k))

-- A packed order.
pub packed-is : (kind : ℕ) (t0 : ℤ) (zs : List ℤ)
    → pack_in kind t0 zs ≡ packed_header kind (job_count zs) t0 ++ flat (packed_job kind zs) (job_count zs)
unfolding pack_in
packed-is kind t0 zs = refl

-- It has four bytes and those of its kind a job.
pub length-packed : (kind : ℕ) (t0 : ℤ) (zs : List ℤ) → length (pack_in kind t0 zs) ≡ 4 + record_bytes kind * job_count zs
unfolding pack_in
length-packed kind t0 zs =
    rw (length-append, length-packed_header, length-flat (record_bytes kind) (packed_job kind zs) (length-packed_job kind zs) (job_count zs))
