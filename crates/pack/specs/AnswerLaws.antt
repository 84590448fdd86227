-- What the code of packing learns on its way, as the answer of the call and the lent bytes after it.
use Rattle.std.specs.Prelude.{ℕ, ◌+◌, ◌*◌, ◌/◌, ◌≤◌, ◌<◌, ◌≡◌, refl, List, ◌++◌, ℤ, length, drop, Ok, Err}
use Rattle.std.proofs.Common.{sym, ap, ◌∙◌, arith}
use borrow.Author.Tests.{lt-ltb}
use Rattle.packed.specs.declared.Refusal.{Refusal}
use Rattle.packed.specs.Judge.{plainly, Verdict as Judged, fine, refused, judge, or_else}
use Rattle.packed.specs.JudgeLaws.{judge-append}
use Rattle.packed.specs.Layout.{record_bytes}
use Rattle.packed.specs.Packed.{kind_for, job_count, packed_header, pack_order}
use Rattle.packed.proofs.PackedLaws.{length-packed, kind-few, kind-old}
use Rattle.packed.specs.Refusals.{number_checks, room_checks, pack_checks}
use Rattle.packed.proofs.RefusalLaws.{within-is, room-fine}
use Rattle.packed.proofs.Accepted.{numbers-fine}
use Rattle.fields.specs.Asked.{HeaderRoom}
use Rattle.jobs.specs.Held.{AllGiven}
use Rattle.pack.specs.Answer.{Packed, packed_by, bytes_by, pack_of, bytes_after}
use Rattle.pack.specs.Writing.{Packable, first_records}
use Rattle.pack.specs.WritingLaws.{all-written}

module _ (t0 : ℤ) (numbers : List ℤ) (was : List ℕ) where
  -- The answer and the lent bytes after the call are as they should be.
  abbrev pub Packs : Packed → List ℕ → Type 0
  Packs r bytes = (r ≡ pack_of t0 numbers (length was)) × (bytes ≡ bytes_after t0 numbers was)

  -- Both follow from the verdict.
  packs-by : (v : Judged) → judge (pack_checks t0 numbers (length was)) ≡ v
      → Packs (packed_by t0 numbers v) (bytes_by t0 numbers was v)
  packs-by v e = rw e (refl, refl)

  -- The verdict is that on the numbers, and on the room where it is fine.
  by-stages : judge (pack_checks t0 numbers (length was))
      ≡ or_else (judge (number_checks t0 numbers)) (judge (room_checks (4 + record_bytes (kind_for numbers) * job_count numbers) (length was)))
  by-stages = judge-append (number_checks t0 numbers) (room_checks (4 + record_bytes (kind_for numbers) * job_count numbers) (length was))

  -- The numbers are no order.
  pub packs-refused : (r : Refusal) → judge (number_checks t0 numbers) ≡ refused r → Packs (Err r) was
  packs-refused r e = packs-by (refused r) (by-stages ∙ rw e)

  -- They are one, and there is room.
  pub packs-order : judge (number_checks t0 numbers) ≡ fine → 4 + record_bytes (kind_for numbers) * job_count numbers ≤ length was
      → Packs (Ok (length (pack_order t0 numbers))) (pack_order t0 numbers ++ drop (length (pack_order t0 numbers)) was)
  packs-order order enough = packs-by fine (by-stages ∙ rw (order, (room-fine (4 + record_bytes (kind_for numbers) * job_count numbers) (length was)).1 enough))

  -- They are one, and are packed by the count of jobs that the code takes.
  module _ (order : judge (number_checks t0 numbers) ≡ fine) where
    -- They are of whole jobs.
    pub whole-jobs : AllGiven numbers
    unfolding job_count
    whole-jobs = let f = ((numbers-fine t0 numbers).0 order).list in record { few = f.few; whole = f.whole }

    -- There is too little room.
    pub packs-no-room : length was < 4 + record_bytes (kind_for numbers) * (length numbers / 7) → Packs (Err (plainly 10)) was
    unfolding job_count
    packs-no-room l =
        packs-by (refused (plainly 10)) (by-stages ∙ rw (order, lt-ltb (length was) (4 + record_bytes (kind_for numbers) * (length numbers / 7)) l))

    -- There is room
    module _ (room : 4 + record_bytes (kind_for numbers) * (length numbers / 7) ≤ length was) where
      -- for the header
      pub header-room : (t : ℤ) → t ≡ t0 → HeaderRoom was (kind_for numbers) (length numbers / 7) t
      unfolding job_count
      header-room t e =
          let f = ((numbers-fine t0 numbers).0 order).list in
          record { room = omega arith; known = kind-few numbers; few = f.few; timely = rw e f.timely }

      -- and for the bytes of all jobs, as writing asks,
      pub packable : (bytes : List ℕ) → length bytes ≡ length was → Packable numbers (kind_for numbers) (length numbers / 7) bytes
      unfolding job_count
      packable bytes e =
          let f = (numbers-fine t0 numbers).0 order in
          record {
            few = f.list.few;
            there = omega (arith, f.list.whole);
            within = λ k h. (within-is _).1 (f.jobs.within k h);
            kinded = λ k h e. (kind-old numbers).0 e k h;
            room = omega arith;
          }

      -- and they are written.
      pub packs-written : (bytes : List ℕ)
          → bytes ≡ first_records (kind_for numbers) numbers (length numbers / 7) (packed_header (kind_for numbers) (length numbers / 7) t0 ++ drop 4 was)
          → Packs (Ok (4 + record_bytes (kind_for numbers) * (length numbers / 7))) bytes
      unfolding job_count
      packs-written bytes e =
          let packs = packs-order order room in
          (ap (λ n. Ok n) (sym (length-packed (kind_for numbers) t0 numbers)) ∙ packs.0, e ∙ all-written (kind_for numbers) numbers was t0 ∙ packs.1)
