-- What callers read by name: a job within its limits, a job and a header that were read.
use Rattle.std.specs.Prelude.{ℕ, ◌+◌, ◌*◌, ◌^◌, ◌≤◌, ◌<◌, ◌≡◌, true, false, ◌↔◌, List, eqb, ℤ, pos, negsuc, nat_abs, length, get_or, take, drop, ◌≤ℤ◌}
use Rattle.std.proofs.Common.{sym, ap, ◌∙◌, to_z-of_z, arith}
use Rattle.std.specs.Int.Signed.{le_z, mag}
use Rattle.std.specs.Int.{w32}
use mir.Val.{SFits, to_z, of_z, hbits}
use borrow.Table.Steps.{cases}
use Rattle.seconds.specs.Limits.{highest_pack, heaviest, longest}
use Rattle.seconds.specs.Signed.{signed}
use Rattle.seconds.specs.Ranges.{same, Between, InTime}
use Rattle.seconds.specs.RangesLaws.{between-true, same-yes, same-no, same-is, time-fits}
use Rattle.packed.specs.Layout.{decode, number_of, job_layout, record_bytes}
use Rattle.packed.specs.Packed.{header_of, count_of, t0_of, kind_of, job_fields, fields_at}
use Rattle.packed.proofs.PackedLaws.{fields-is, word-is}
use Rattle.packed.specs.Places.{part}
use Rattle.packed.specs.Refusals.{weight_test, fields_within}
use Rattle.packed.proofs.RefusalLaws.{within-is, HeaderFine}
use Rattle.packed.specs.PlacesLaws.{part-below}
use Rattle.fields.specs.Fields.{fields_of, header_fields}
use Rattle.fields.specs.Asked.{RecordIn}
use Rattle.fields.specs.Words.{record-size}
use Rattle.fields.specs.declared.Job.{Job}
use Rattle.fields.specs.declared.Header.{Header}

-- ---- a job

-- Each number of a job within its limits.
pub record JobFacts (j : Job) : Type 0 where
  pub number : Between (pos 0) (pos 63) j.number
  pub pack : Between (pos 0) (pos highest_pack) j.pack
  pub critical : Between (pos 0) (pos 1) j.critical
  pub weight : Between (pos 0) (pos heaviest) j.weight
  pub weightless : j.critical ≡ pos 1 → j.weight ≡ pos 0
  pub weighty : j.critical ≡ pos 0 → pos 1 ≤ℤ j.weight
  pub ready : InTime j.ready
  pub long : Between (pos 1) (pos longest) j.length
  pub deadline : InTime j.deadline

-- The weight, by the mark.
pub record WeightFacts (mark weight : ℤ) : Type 0 where
  pub range : Between (pos 0) (pos heaviest) weight
  pub weightless : mark ≡ pos 1 → weight ≡ pos 0
  pub weighty : mark ≡ pos 0 → pos 1 ≤ℤ weight

weight-facts : (mark weight : ℤ) → weight_test (same mark (pos 1)) weight ≡ true → WeightFacts mark weight
weight-facts mark weight h = cases (same mark (pos 1))
    (λ e. let one = (same-yes mark (pos 1)).0 e in
    let r : Between (pos 0) (pos 0) weight = (between-true _ _ _).0 (rw e at h) in
    record { range = omega signed; weightless = λ k. omega signed; weighty = λ k. omega signed })
    (λ e. let r : Between (pos 1) (pos heaviest) weight = (between-true _ _ _).0 (rw e at h) in
    record { range = omega signed; weightless = λ k. absurd ((same-no mark (pos 1)).0 e k); weighty = λ k. omega signed })

facts-weight : (mark weight : ℤ) → Between (pos 0) (pos 1) mark → WeightFacts mark weight
    → weight_test (same mark (pos 1)) weight ≡ true
facts-weight mark weight m f = cases (same mark (pos 1))
    (λ e. let z = f.weightless ((same-yes mark (pos 1)).0 e) in rw e ((between-true (pos 0) (pos 0) weight).1 (omega signed)))
    (λ e. let z = f.weighty (nought e) in rw e ((between-true (pos 1) (pos heaviest) weight).1 (omega signed)))
  where
    nought : same mark (pos 1) ≡ false → mark ≡ pos 0
    nought e = cases (le_z mark (pos 0)) (λ l. omega signed) (λ l. absurd ((same-no mark (pos 1)).0 e (omega signed)))

-- A mark of 0 or 1 is compared with 1 as its bits.
pub mark-bits : (mark : ℤ) → Between (pos 0) (pos 1) mark → eqb (of_z w32 mark) 1 ≡ same mark (pos 1)
mark-bits (pos n) b = sym (same-is n 1)
mark-bits (negsuc n) b = absurd (omega signed)

-- The test says so.
pub job-facts : (j : Job) → fields_within (fields_of j) ≡ true ↔ JobFacts j
job-facts j = (there, back)
  where
    there : fields_within (fields_of j) ≡ true → JobFacts j
    there e =
        let w = (within-is (fields_of j)).0 e in
        let f = weight-facts j.critical j.weight w.weight in
        record {
          number = w.number;
          pack = w.pack;
          critical = w.mark;
          weight = f.range;
          weightless = f.weightless;
          weighty = f.weighty;
          ready = w.ready;
          long = w.long;
          deadline = w.deadline;
        }

    back : JobFacts j → fields_within (fields_of j) ≡ true
    back f =
        let w : WeightFacts j.critical j.weight =
        record { range = f.weight; weightless = f.weightless; weighty = f.weighty } in
        (within-is (fields_of j)).1
        (record {
          number = f.number;
          pack = f.pack;
          mark = f.critical;
          weight = facts-weight j.critical j.weight f.critical w;
          ready = f.ready;
          long = f.long;
          deadline = f.deadline;
        })

-- Each number of a job is an i32, and so it is what its bits say.
pub record JobFits (j : Job) : Type 0 where
  pub number : SFits w32 j.number
  pub pack : SFits w32 j.pack
  pub critical : SFits w32 j.critical
  pub weight : SFits w32 j.weight
  pub ready : SFits w32 j.ready
  pub long : SFits w32 j.length
  pub deadline : SFits w32 j.deadline

-- The bounds of the seven say so.
pub bounds-fit : (j : Job) → mag j.number < 2 ^ hbits w32 → mag j.pack < 2 ^ hbits w32 → mag j.critical < 2 ^ hbits w32 → mag j.weight < 2 ^ hbits w32
    → mag j.ready < 2 ^ hbits w32 → mag j.length < 2 ^ hbits w32 → mag j.deadline < 2 ^ hbits w32 → JobFits j
bounds-fit j number pack critical weight ready long deadline =
    record {
      number = record { sfits = number };
      pack = record { sfits = pack };
      critical = record { sfits = critical };
      weight = record { sfits = weight };
      ready = record { sfits = ready };
      long = record { sfits = long };
      deadline = record { sfits = deadline };
    }

-- Within the limits they are.
pub facts-fit : (j : Job) → JobFacts j → JobFits j
facts-fit j f =
    record {
      number = omega (signed, f.number);
      pack = omega (signed, f.pack);
      critical = omega (signed, f.critical);
      weight = omega (signed, f.weight);
      ready = time-fits f.ready;
      long = omega (signed, f.long);
      deadline = time-fits f.deadline;
    }

-- A job made anew from the bits of its numbers.
abbrev pub from_bits : Job → Job
from_bits j =
    record {
      number = to_z w32 (of_z w32 j.number);
      pack = to_z w32 (of_z w32 j.pack);
      critical = to_z w32 (of_z w32 j.critical);
      weight = to_z w32 (of_z w32 j.weight);
      ready = to_z w32 (of_z w32 j.ready);
      length = to_z w32 (of_z w32 j.length);
      deadline = to_z w32 (of_z w32 j.deadline);
    }

-- It is the job.
pub fields-kept : (j : Job) → JobFits j → fields_of (from_bits j) ≡ fields_of j
fields-kept j f =
    rw (to_z-of_z f.number, to_z-of_z f.pack, to_z-of_z f.critical, to_z-of_z f.weight, to_z-of_z f.ready, to_z-of_z f.long, to_z-of_z f.deadline)

-- ---- a job that was read

module _ (bytes : List ℕ) (k kind : ℕ) (there : RecordIn bytes k) (e : kind ≡ kind_of bytes) where
  -- Its kind is known,
  pub record-known : kind ≤ 1
  record-known = rw e there.known

  size : record_bytes (kind_of bytes) ≡ 8 + kind
  size = rw (← e) (record-size kind record-known)

  -- the record stands at its place,
  pub record-room : 4 + (8 + kind) * k + (8 + kind) ≤ length bytes
  record-room = rw (← size) there.room

  -- and its number says the job's numbers.
  pub record-says : decode (job_layout kind) (number_of (take (8 + kind) (drop (4 + (8 + kind) * k) bytes))) ≡ job_fields bytes k
  record-says =
      sym (fields-is bytes k
      ∙ ap (decode (job_layout (kind_of bytes))) (word-is bytes k ∙ ap (λ n. number_of (take n (drop (4 + n * k) bytes))) size)
      ∙ ap (λ d. decode (job_layout d) (number_of (take (8 + kind) (drop (4 + (8 + kind) * k) bytes)))) (sym e))

-- A place below the count has its record, in bytes whose header is fine.
pub record-in : (bytes : List ℕ) (k : ℕ) → HeaderFine bytes → k < count_of bytes → RecordIn bytes k
record-in bytes k f h =
    record { header = f.long; known = f.known; room = omega (arith, f.whole, part-below (record_bytes (kind_of bytes)) h) }

-- The same among numbers.
pub read-from : (zs : List ℤ) (k at : ℕ) (j : Job) → at ≡ 7 * k → fields_of j ≡ take 7 (drop at zs) → fields_of j ≡ fields_at zs k
unfolding fields_at part
read-from zs k at j e r = r ∙ ap (λ i. take 7 (drop i zs)) e

-- ---- a header

-- What a header that was read from bytes says of them.
pub record HeaderRead (bytes : List ℕ) (h : Header) : Type 0 where
  pub count : h.count ≡ count_of bytes
  pub t0 : h.t0 ≡ t0_of bytes
  pub kind : h.kind ≡ kind_of bytes

-- Its numbers say so.
pub header_read : (bytes : List ℕ) (h : Header) → header_fields h ≡ header_of bytes → HeaderRead bytes h
unfolding count_of t0_of kind_of
header_read bytes h e =
    record {
      count = ap (λ zs. nat_abs (get_or zs 0 (pos 0))) e;
      t0 = ap (λ zs. get_or zs 1 (pos 0)) e;
      kind = ap (λ zs. nat_abs (get_or zs 2 (pos 0))) e;
    }
