-- What the code of framing learns on its way, as the answer of the call and the lent bytes after it.
use Rattle.std.specs.Prelude.{ℕ, ◌+◌, ◌*◌, ◌≤◌, ◌<◌, ◌≡◌, refl, false, List, ◌++◌, ltb, ℤ, pos, length, drop, Ok, Err}
use Rattle.std.proofs.Common.{sym, ap, ap₂, ◌∙◌, arith}
use borrow.Author.Tests.{lt-ltb, le-ltb}
use Rattle.seconds.specs.Limits.{most_weight, most_jobs, longest_frame}
use Rattle.seconds.specs.Signed.{signed}
use Rattle.order.specs.Job.{weight_of}
use Rattle.packed.specs.declared.Refusal.{Refusal}
use Rattle.packed.specs.Judge.{plainly, Verdict as Judged, fine, refused, judge}
use Rattle.packed.specs.Layout.{record_bytes}
use Rattle.packed.specs.Packed.{job_count, jobs_of, packed_header}
use Rattle.packed.specs.Refusals.{weight_checks, room_checks}
use Rattle.packed.proofs.RefusalLaws.{weight-fine, room-fine}
use Rattle.fields.specs.Asked.{HeaderRoom}
use Rattle.judge.specs.Told.{told-next, stays}
use Rattle.pack.specs.Writing.{first_records}
use Rattle.pack.specs.WritingLaws.{all-written}
use Rattle.frames.specs.Frames.{frame_of, repeat_count, frame_numbers, frame_bytes, given_checks, made_checks, making_checks, frame_checks}
use Rattle.frames.specs.Facts.{GivenFine, MakingFine}
use Rattle.frames.proofs.GivenLaws.{given-fine}
use Rattle.frames.proofs.FrameLaws.{frame-count, frame-packed, frame-bytes}
use Rattle.repeating.specs.Repeating.{CanCount, Counts}
use Rattle.repeating.specs.declared.Totals.{Totals}
use Rattle.framing.specs.Answer.{Framed, framed_by, order_by, framed_of, order_after}
use Rattle.picking.specs.Picking.{CanWrite}

module _ (zs : List ℤ) (was : List ℕ) where
  -- The answer and the lent bytes after the call are as they should be.
  abbrev pub Frames : Framed → List ℕ → Type 0
  Frames r bytes = (r ≡ framed_of zs (length was)) × (bytes ≡ order_after zs was)

  abbrev checked : Judged
  checked = judge (frame_checks zs (length was))

  -- Both follow from the verdict.
  frames-by : (v : Judged) → checked ≡ v → Frames (framed_by zs v) (order_by zs was v)
  frames-by v e = rw e (refl, refl)

  -- A refusal by the stage of the jobs that are given stays the verdict, and so does one by the frame, or by the weights.
  by_weights : (r : Refusal) → judge (making_checks zs) ≡ refused r → Frames (Err r) was
  unfolding record_bytes
  by_weights r e = frames-by (refused r) (stays (making_checks zs) (room_checks (4 + 8 * repeat_count zs) (length was)) e)

  by-frame : (r : Refusal) → judge (given_checks zs ++ made_checks zs) ≡ refused r → Frames (Err r) was
  by-frame r e = by_weights r (stays (given_checks zs ++ made_checks zs) (weight_checks 0 (frame_numbers zs)) e)

  -- The jobs that are given may not repeat.
  pub frames-refused : (r : Refusal) → judge (given_checks zs) ≡ refused r → Frames (Err r) was
  frames-refused r e = by-frame r (stays (given_checks zs) (made_checks zs) e)

  -- They may, and the frame is too long.
  pub frames-long : GivenFine zs → longest_frame < frame_of zs → Frames (Err (plainly 17)) was
  unfolding made_checks
  frames-long g l =
      by-frame (plainly 17)
      (told-next (given_checks zs) (made_checks zs) ((given-fine zs).1 g) ∙ rw (lt-ltb longest_frame (frame_of zs) l))

  -- It is not, and its repeats are counted and weighed.
  module _ {frame : ℕ} (can : CanCount zs frame) {made : Totals} (all : Counts zs made) where
    short : ltb longest_frame (frame_of zs) ≡ false
    short = le-ltb longest_frame (frame_of zs) (omega (arith, can.is, can.short))

    -- There are too many.
    pub frames-many : most_jobs < made.count → Frames (Err (plainly 3)) was
    unfolding made_checks
    frames-many l =
        by-frame (plainly 3)
        (told-next (given_checks zs) (made_checks zs) ((given-fine zs).1 can.given)
        ∙ rw (short, lt-ltb most_jobs (repeat_count zs) (omega (arith, all.count))))

    module _ (few : made.count ≤ most_jobs) where
      frame-fine : judge (given_checks zs ++ made_checks zs) ≡ fine
      unfolding made_checks
      frame-fine =
          told-next (given_checks zs) (made_checks zs) ((given-fine zs).1 can.given)
          ∙ rw (short, le-ltb most_jobs (repeat_count zs) (omega (arith, all.count)))

      -- They weigh too much.
      pub frames-heavy : most_weight < made.weight → Frames (Err (plainly 9)) was
      unfolding weight_checks
      frames-heavy l =
          by_weights (plainly 9)
          (told-next (given_checks zs ++ made_checks zs) (weight_checks 0 (frame_numbers zs)) frame-fine
          ∙ rw (lt-ltb most_weight (0 + weight_of (jobs_of (frame_numbers zs))) (omega (arith, all.weight))))

      module _ (light : made.weight ≤ most_weight) where
        -- The order of the frame is one.
        making : MakingFine zs
        making =
            record {
              given = can.given;
              short = omega (arith, can.is, can.short);
              few = omega (arith, all.count);
              light = omega (arith, all.weight);
            }

        -- The verdict is then that on the room.
        on_room : judge (frame_checks zs (length was)) ≡ judge (room_checks (4 + 8 * repeat_count zs) (length was))
        unfolding record_bytes
        on_room =
            told-next (making_checks zs) (room_checks (4 + 8 * repeat_count zs) (length was))
            (told-next (given_checks zs ++ made_checks zs) (weight_checks 0 (frame_numbers zs)) frame-fine
            ∙ (weight-fine 0 (frame_numbers zs)).1 (omega (arith, all.weight)))

        -- There is too little,
        pub frames-no-room : length was < 4 + 8 * made.count → Frames (Err (plainly 10)) was
        frames-no-room l =
            frames-by (refused (plainly 10))
            (on_room ∙ rw (lt-ltb (length was) (4 + 8 * repeat_count zs) (omega (arith, all.count))))

        -- or there is room
        module _ (room : 4 + 8 * made.count ≤ length was) where
          -- for the header
          pub header-room : HeaderRoom was 0 made.count (pos 0)
          header-room = record { room = omega arith; known = omega arith; few = few; timely = omega signed }

          -- and for the repeats,
          pub can_write : (bytes : List ℕ) → length bytes ≡ length was → CanWrite zs made.count bytes
          can_write bytes e = record { making = making; all = all.count; room = omega (arith, all.count) }

          -- and they are written.
          pub frames-written : (bytes : List ℕ)
              → bytes ≡ first_records 0 (frame_numbers zs) made.count (packed_header 0 made.count (pos 0) ++ drop 4 was)
              → Frames (Ok (record { bytes = 4 + 8 * made.count; frame = frame })) bytes
          frames-written bytes e =
              let count : made.count ≡ job_count (frame_numbers zs) = all.count ∙ sym (frame-count zs) in
              let long : 4 + 8 * made.count ≡ length (frame_bytes zs) = omega (arith, all.count, frame-bytes zs) in
              let enough : 4 + 8 * repeat_count zs ≤ length was = omega (arith, all.count) in
              let by = frames-by fine (on_room ∙ (room-fine (4 + 8 * repeat_count zs) (length was)).1 enough) in
              let first : ℕ → List ℕ = λ n. first_records 0 (frame_numbers zs) n (packed_header 0 n (pos 0) ++ drop 4 was) in
              let told : ℕ → ℕ → Framed = λ n f. Ok (record { bytes = n; frame = f }) in
              let lent : List ℕ → List ℕ = λ bs. bs ++ drop (length bs) was in (
                ap₂ told long can.is ∙ by.0,
                e ∙ ap first count ∙ all-written 0 (frame_numbers zs) was (pos 0) ∙ ap lent (sym (frame-packed zs)) ∙ by.1,
              )
