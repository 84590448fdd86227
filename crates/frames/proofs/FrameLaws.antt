-- The order of a frame: what stands at each of its places, that it is of kind 0, what it weighs, that it is an order that planning
-- accepts, and that each of its jobs leaves the bus free by the frame's end.
use Prim.Native.Nat.{ℕ, zero, suc, ◌+◌, ◌*◌, ◌-◌, ◌≤◌, ◌<◌}
use Rattle.std.specs.Prelude.{◌≡◌, ℤ, pos, nat_abs, ◌+ℤ◌, length, get_or}
use Rattle.std.proofs.Math.Path.{refl, ap}
use Rattle.std.proofs.Common.{sym, ap₂, ◌∙◌, mul-one, arith, ltb-false}
use mathlib.Core.List.{List, [], ◌∷◌, ◌++◌, Memᴰ}
use Rattle.seconds.specs.Limits.{rest, most_jobs, longest_frame}
use Rattle.seconds.specs.Signed.{signed, add_is, abs_is}
use Rattle.order.specs.Job.{weight_of}
use Rattle.order.specs.Later.{InFrame, AllInFrame}
use Rattle.packed.proofs.LayoutLaws.{bytes-old}
use Rattle.packed.specs.Judge.{fine, judge}
use Rattle.packed.specs.JudgeLaws.{judge-at, stages-fine}
use Rattle.packed.specs.Places.{each_of, each}
use Rattle.packed.specs.PlacesLaws.{length-flat, part-flat, each-cong, ext-each}
use Rattle.packed.specs.Packed.{job_count, fields_at, has_pack, kind_for, pack_in, job_of, job_at, jobs_of}
use Rattle.packed.proofs.PackedLaws.{whole-count, kind-old, length-packed}
use Rattle.packed.specs.Refusals.{number_at, weight_checks, number_checks}
use Rattle.packed.proofs.RefusalLaws.{Within, weight-fine}
use Rattle.packed.proofs.Accepted.{numbers-fine}
use Rattle.frames.specs.Frames.{the_deadline, jobs_given, given_at, weight_at, frame_of, Repeat, times_at}
use Rattle.frames.specs.Frames.{sequence_of, repeat_count, numbers_for, repeat_at, frame_numbers, frame_bytes}
use Rattle.frames.specs.Frames.{given_checks, made_checks, making_checks}
use Rattle.frames.proofs.SequenceLaws.{tally, tally-length}
use Rattle.frames.specs.Facts.{GivenFine, MakingFine}
use Rattle.frames.proofs.GivenLaws.{given-fine}
use Rattle.frames.proofs.RepeatsLaws.{of-each, at-place, period-inside, IsRepeat, few-times, sequence-is, total, sequence-tally}

-- ---- what stands at a place

module _ (zs : List ℤ) where
  abbrev at : ℕ → List ℤ
  at k = numbers_for zs k (repeat_at zs k)

  -- Seven numbers a repeat.
  pub frame-length : length (frame_numbers zs) ≡ 7 * repeat_count zs
  unfolding frame_numbers
  frame-length = length-flat 7 at (λ k. refl) (repeat_count zs)

  pub frame-count : job_count (frame_numbers zs) ≡ repeat_count zs
  frame-count = whole-count (frame_numbers zs) (repeat_count zs) frame-length

  -- At each place those of the repeat there.
  pub frame_at : (k : ℕ) → k < repeat_count zs → fields_at (frame_numbers zs) k ≡ numbers_for zs k (repeat_at zs k)
  unfolding frame_numbers fields_at
  frame_at k h = part-flat 7 at (λ k. refl) (repeat_count zs) k h

  pub frame-jobs : jobs_of (frame_numbers zs) ≡ each (λ k. job_of (numbers_for zs k (repeat_at zs k))) 0 (repeat_count zs)
  unfolding jobs_of
  frame-jobs = rw frame-count
      (each-cong (job_at (frame_numbers zs)) (λ k. job_of (numbers_for zs k (repeat_at zs k))) 0 (repeat_count zs)
      (λ k a b. ap job_of (frame_at k b)))

  -- Every pack is 0, so the kind is,
  pub frame-kind : kind_for (frame_numbers zs) ≡ 0
  frame-kind = (kind-old (frame_numbers zs)).1 (λ k h. ap has_pack (frame_at k (omega (arith, frame-count))))

  -- the bytes are those of kind 0,
  pub frame-packed : frame_bytes zs ≡ pack_in 0 (pos 0) (frame_numbers zs)
  frame-packed = ap (λ kind. pack_in kind (pos 0) (frame_numbers zs)) frame-kind

  -- and they are 4, and 8 a repeat.
  pub frame-bytes : length (frame_bytes zs) ≡ 4 + 8 * repeat_count zs
  frame-bytes =
      ap length frame-packed ∙ length-packed 0 (pos 0) (frame_numbers zs) ∙ ap₂ (λ (size n : ℕ). 4 + size * n) bytes-old frame-count

  -- ---- how many there are, and their weight

  total-cong : (f g : ℕ → ℕ) → ((p : ℕ) → f p ≡ g p) → (n : ℕ) → total f n ≡ total g n
  total-cong f g same zero = refl
  total-cong f g same (suc n) = ap₂ ◌+◌ (total-cong f g same n) (same n)

  -- Each job repeats as often as its period fits in the frame.
  pub count-total : repeat_count zs ≡ total (times_at zs) (jobs_given zs)
  count-total =
      sym (tally-length (sequence_of zs)) ∙ sequence-tally zs (λ p. 1)
      ∙ total-cong (λ p. times_at zs p * 1) (times_at zs) (λ p. mul-one (times_at zs p)) (jobs_given zs)

  weigh-each : (f : ℕ → Repeat) (from m : ℕ)
      → weight_of (each_of (λ k. job_of (numbers_for zs k (f k))) from m) ≡ tally (λ a. weight_at zs a.place) (each_of f from m)
  unfolding job_of
  weigh-each f from zero = refl
  weigh-each f from (suc m) = ap (λ (n : ℕ). weight_at zs (f from).place + n) (weigh-each f (suc from) m)

  -- Their weight is that of each job as often as it repeats.
  pub weight-total : weight_of (jobs_of (frame_numbers zs)) ≡ total (λ p. times_at zs p * weight_at zs p) (jobs_given zs)
  weight-total =
      let nothing : Repeat = record { place = 0; ready = 0 } in
      let all : each (repeat_at zs) 0 (repeat_count zs) ≡ sequence_of zs = ext-each nothing (sequence_of zs) (repeat_count zs) refl in
      let weighed : weight_of (each (λ k. job_of (numbers_for zs k (repeat_at zs k))) 0 (repeat_count zs))
      ≡ tally (λ a. weight_at zs a.place) (each (repeat_at zs) 0 (repeat_count zs)) =
      unfold each in weigh-each (repeat_at zs) 0 (repeat_count zs - 0) in
      ap weight_of frame-jobs ∙ weighed ∙ ap (tally (λ a. weight_at zs a.place)) all ∙ sequence-tally zs (weight_at zs)

-- ---- each repeat is within the frame

get_d-in : {A : Type 0} (l : List A) (k : ℕ) (d : A) → k < length l → Memᴰ (get_or l k d) l
get_d-in [] k d h = absurd (omega arith)
get_d-in (a ∷ l) zero d h = Memᴰ.head refl
get_d-in (a ∷ l) (suc k) d h = Memᴰ.tail (get_d-in l k d (omega arith))

module _ {zs : List ℤ} (g : GivenFine zs) where
  pub repeat-there : (k : ℕ) → k < repeat_count zs → IsRepeat zs (repeat_at zs k)
  repeat-there k h = ((sequence-is g).repeats (repeat_at zs k)).0 (get_d-in (sequence_of zs) k (record { place = 0; ready = 0 }) h)

  -- A repeat's period ends within the frame, and so does its deadline with the rest behind it.
  pub done-inside : (a : Repeat) → IsRepeat zs a → a.ready + nat_abs (the_deadline (given_at zs a.place)) + rest ≤ frame_of zs
  done-inside a i =
      let c = at-place g a.place i.there in
      omega (arith, period-inside g a.place i.times i.there (few-times g a i), c.timely, i.ready)

  -- In the order of a frame that is not too long, its numbers are within their limits.
  repeat-within : (k : ℕ) (a : Repeat) → k < most_jobs → IsRepeat zs a → frame_of zs ≤ longest_frame → Within (numbers_for zs k a)
  repeat-within k a few i short =
      let job = given_at zs a.place in
      let m = g.repeat a.place i.there in
      let inside = done-inside a i in
      record {
        number = record { low = omega signed; high = omega (signed, few) };
        pack = record { low = omega signed; high = omega signed };
        mark = m.mark;
        weight = m.weight;
        ready = record { low = omega signed; high = omega (signed, i.inside) };
        long = m.long;
        deadline =
            record {
              low = omega (signed, m.deadline, add_is (pos a.ready) (the_deadline job));
              high = omega (signed, m.deadline, abs_is (the_deadline job), add_is (pos a.ready) (the_deadline job));
            };
      }

-- ---- what it is to pass all checks but that of the room

-- The checks say so.
pub making-fine : (zs : List ℤ) → judge (making_checks zs) ≡ fine → MakingFine zs
unfolding made_checks
making-fine zs e =
    let a = (stages-fine (given_checks zs ++ made_checks zs) (weight_checks 0 (frame_numbers zs))).0 e in
    let b = (stages-fine (given_checks zs) (made_checks zs)).0 a.0 in
    let w = (weight-fine 0 (frame_numbers zs)).0 a.1 in
    record {
      given = (given-fine zs).0 b.0;
      short = ltb-false _ _ (judge-at (made_checks zs) b.1 0);
      few = ltb-false _ _ (judge-at (made_checks zs) b.1 1);
      light = omega arith;
    }

module _ {zs : List ℤ} (f : MakingFine zs) where
  pub made-within : (k : ℕ) → k < repeat_count zs → Within (numbers_for zs k (repeat_at zs k))
  made-within k h =
      repeat-within f.given k (repeat_at zs k) (omega (arith, f.few)) (repeat-there f.given k h) f.short

  number_is : (k : ℕ) → k < repeat_count zs → number_at (frame_numbers zs) k ≡ pos k
  unfolding number_at
  number_is k h = rw (frame_at zs k h)

  -- The numbers of the frame are an order with the bus free at 0.
  pub made-fine : judge (number_checks (pos 0) (frame_numbers zs)) ≡ fine
  made-fine =
      let n : job_count (frame_numbers zs) ≡ repeat_count zs = frame-count zs in
      (numbers-fine (pos 0) (frame_numbers zs)).1
      (record {
        list = record { few = omega (arith, f.few); whole = rw n (frame-length zs); timely = omega signed };
        jobs =
            record {
              within = λ k h. let b : k < repeat_count zs = omega arith in rw (frame_at zs k b) (made-within k b);
              unlike = λ j k i h e.
                  let b : k < repeat_count zs = omega arith in
                  let same : pos j ≡ pos k = sym (number_is j (omega arith)) ∙ e ∙ number_is k b in
                  absurd (omega signed);
            };
        light = f.light;
      })

  job-inside : (k : ℕ) (a : Repeat) → IsRepeat zs a → InFrame (pos (frame_of zs)) (job_of (numbers_for zs k a))
  unfolding job_of
  job-inside k a i =
      let job = given_at zs a.place in
      let d = (f.given.repeat a.place i.there).deadline in
      record {
        from = omega signed;
        until =
            omega (
              signed,
              done-inside f.given a i,
              d,
              abs_is (the_deadline job),
              add_is (pos a.ready) (the_deadline job),
              add_is (pos a.ready +ℤ the_deadline job) (pos rest),
            );
      }

  -- Each of its jobs is ready at 0 or later, and leaves the bus free by the end of the frame.
  pub inside-frame : AllInFrame (pos (frame_of zs)) (jobs_of (frame_numbers zs))
  inside-frame j m =
      let r = of-each (λ k. job_of (numbers_for zs k (repeat_at zs k))) (repeat_count zs) (rw (frame-jobs zs) at m) in
      rw r.2 (job-inside r.0 (repeat_at zs r.0) (repeat-there f.given r.0 r.1))
