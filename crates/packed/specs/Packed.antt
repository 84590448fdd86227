-- An order in bytes and in numbers: what the bytes say, the bytes of some numbers, and the order that either means.
-- Definitions only.
use Rattle.std.specs.Prelude.{ℕ, ◌/◌, Bool, not, cond, List, [], ◌∷◌, ◌++◌, ltb, ℤ, pos, nat_abs, length, take, drop, get_or}
use Rattle.seconds.specs.Ranges.{same}
use Rattle.order.specs.Job.{Job, Order, one_rate}
use Rattle.packed.specs.Layout.{decode, encode, number_of, bytes_of, header_layout}
use Rattle.packed.specs.Layout.{job_layout, header_bytes, record_bytes, job_numbers}
use Rattle.packed.specs.Places.{part, flat, each, first}

-- ---- a job's numbers by name, in the sequence of the layout

abbrev pub the_number : List ℤ → ℤ
the_number zs = get_or zs 0 (pos 0)

abbrev pub the_pack : List ℤ → ℤ
the_pack zs = get_or zs 1 (pos 0)

abbrev pub the_mark : List ℤ → ℤ
the_mark zs = get_or zs 2 (pos 0)

abbrev pub the_weight : List ℤ → ℤ
the_weight zs = get_or zs 3 (pos 0)

abbrev pub the_ready : List ℤ → ℤ
the_ready zs = get_or zs 4 (pos 0)

abbrev pub the_length : List ℤ → ℤ
the_length zs = get_or zs 5 (pos 0)

abbrev pub the_deadline : List ℤ → ℤ
the_deadline zs = get_or zs 6 (pos 0)

-- The mark of a critical job is 1.
abbrev pub is_critical : List ℤ → Bool
is_critical zs = same (the_mark zs) (pos 1)

-- A pack other than 0.
abbrev pub has_pack : List ℤ → Bool
has_pack zs = not (same (the_pack zs) (pos 0))

-- ---- what the bytes say

-- The number of the header's bytes.
unfoldable pub header_word : List ℕ → ℕ
header_word bytes = number_of (take header_bytes bytes)

-- The header's numbers.
unfoldable pub header_of : List ℕ → List ℤ
header_of bytes = decode header_layout (header_word bytes)

-- How many jobs.
unfoldable pub count_of : List ℕ → ℕ
count_of bytes = nat_abs (get_or (header_of bytes) 0 (pos 0))

-- The bus-free time.
unfoldable pub t0_of : List ℕ → ℤ
t0_of bytes = get_or (header_of bytes) 1 (pos 0)

-- The kind of the records.
unfoldable pub kind_of : List ℕ → ℕ
kind_of bytes = nat_abs (get_or (header_of bytes) 2 (pos 0))

-- The bytes of the job at a place.
unfoldable pub record_at : List ℕ → ℕ → List ℕ
record_at bytes k = part (record_bytes (kind_of bytes)) (drop header_bytes bytes) k

-- The number that they make.
unfoldable pub job_word : List ℕ → ℕ → ℕ
job_word bytes k = number_of (record_at bytes k)

-- The numbers of that job.
unfoldable pub job_fields : List ℕ → ℕ → List ℤ
job_fields bytes k = decode (job_layout (kind_of bytes)) (job_word bytes k)

-- The numbers of all jobs.
unfoldable pub numbers_of : List ℕ → List ℤ
numbers_of bytes = flat (job_fields bytes) (count_of bytes)

-- ---- the bytes of a bus-free time and the numbers of all jobs

-- How many jobs have all their numbers.
unfoldable pub job_count : List ℤ → ℕ
job_count zs = length zs / job_numbers

-- The numbers of the job at a place.
unfoldable pub fields_at : List ℤ → ℕ → List ℤ
fields_at zs k = part job_numbers zs k

-- The place of the first job with a pack other than 0; behind all jobs if there is none.
unfoldable pub first_packed : List ℤ → ℕ
first_packed zs = first (λ k. has_pack (fields_at zs k)) 0 (job_count zs)

-- The kind that jobs are packed in: 0 exactly when every pack is 0.
unfoldable pub kind_for : List ℤ → ℕ
kind_for zs = cond (ltb (first_packed zs) (job_count zs)) 1 0

-- The header's bytes.
unfoldable pub packed_header : ℕ → ℕ → ℤ → List ℕ
packed_header kind n t0 = bytes_of header_bytes (encode header_layout (pos n ∷ t0 ∷ pos kind ∷ []))

-- The bytes of the job at a place.
unfoldable pub packed_job : ℕ → List ℤ → ℕ → List ℕ
packed_job kind zs k = bytes_of (record_bytes kind) (encode (job_layout kind) (fields_at zs k))

-- All bytes, in a kind,
unfoldable pub pack_in : ℕ → ℤ → List ℤ → List ℕ
pack_in kind t0 zs = packed_header kind (job_count zs) t0 ++ flat (packed_job kind zs) (job_count zs)

-- and in the kind of the numbers.
abbrev pub pack_order : ℤ → List ℤ → List ℕ
pack_order t0 zs = pack_in (kind_for zs) t0 zs

-- ---- the jobs and the order

-- The job of its numbers.
unfoldable pub job_of : List ℤ → Job
job_of zs =
    one_rate (nat_abs (the_number zs)) (is_critical zs) (nat_abs (the_weight zs)) (the_ready zs) (nat_abs (the_length zs)) (the_deadline zs)

-- The job at a place, in numbers.
abbrev pub job_at : List ℤ → ℕ → Job
job_at zs k = job_of (fields_at zs k)

-- The job at a place, in bytes.
abbrev pub job_in : List ℕ → ℕ → Job
job_in bytes k = job_of (job_fields bytes k)

-- All jobs of some numbers.
unfoldable pub jobs_of : List ℤ → List Job
jobs_of zs = each (job_at zs) 0 (job_count zs)

-- All jobs of an order in bytes.
abbrev pub jobs_in : List ℕ → List Job
jobs_in bytes = jobs_of (numbers_of bytes)

-- The order of a bus-free time and numbers.
abbrev pub order_from : ℤ → List ℤ → Order
order_from t0 zs = record { t0 = t0; jobs = jobs_of zs }

-- The order that bytes say.
unfoldable pub order_of : List ℕ → Order
order_of bytes = order_from (t0_of bytes) (numbers_of bytes)
