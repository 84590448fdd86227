-- An accepted order with its packs set to 0 is accepted and of kind 0, and says the same order; where it was of kind 0 it is the
-- same bytes.
use Rattle.std.specs.Prelude.{ℕ, ◌*◌, ◌<◌, ◌≡◌, refl, List, [], ◌∷◌, ℤ, pos, length}
use Rattle.std.proofs.Common.{sym, ◌∙◌, arith}
use Rattle.std.proofs.Math.Path.{ap}
use Rattle.std.proofs.lemmas.Bool.{not-false}
use Rattle.seconds.specs.Signed.{signed}
use Rattle.seconds.specs.RangesLaws.{same-yes}
use Rattle.order.specs.Job.{Order}
use Rattle.packed.specs.Judge.{fine, judge}
use Rattle.packed.proofs.LayoutLaws.{AreBytes}
use Rattle.packed.specs.Places.{each}
use Rattle.packed.specs.PlacesLaws.{length-flat, part-flat, flat-cong, each-cong, ext-each}
use Rattle.packed.specs.Packed.{count_of, t0_of, kind_of, numbers_of, job_count, fields_at, the_pack, has_pack, kind_for}
use Rattle.packed.specs.Packed.{the_number, the_mark, the_weight, the_ready, the_length, the_deadline}
use Rattle.packed.specs.Packed.{job_of, job_at, jobs_of, jobs_in, order_of}
use Rattle.packed.proofs.PackedLaws.{whole-count, length-fields_at, flat-fields_at, kind-old, kind-unpacked}
use Rattle.packed.specs.Refusals.{order_checks, number_at, number_checks}
use Rattle.packed.proofs.RefusalLaws.{Within}
use Rattle.packed.proofs.Accepted.{NumbersFine, numbers-fine, order-fine, order-numbers}
use Rattle.packed.proofs.RoundTrip.{unpack-pack, pack-kind, pack-unpack}
use Rattle.fields.specs.Places.{jobs-count}
use Rattle.packs_aside.specs.PacksAside.{pack_aside, packs_aside, order_aside}

-- ---- bytes that say the same order

module _ (a b : List ℕ) (same : order_of a ≡ order_of b) where
  -- They say the same jobs,
  pub same-jobs : jobs_in a ≡ jobs_in b
  unfolding order_of
  same-jobs = ap (λ (o : Order). o.jobs) same

  -- and as many.
  pub same_count : count_of a ≡ count_of b
  same_count = sym (jobs-count a) ∙ ap length same-jobs ∙ jobs-count b

-- ---- one job

-- It is the same job,
aside-job : (zs : List ℤ) → job_of (pack_aside zs) ≡ job_of zs
unfolding job_of
aside-job zs = refl

-- within its limits as before,
aside-within : {zs : List ℤ} → Within zs → Within (pack_aside zs)
aside-within w =
    record {
      number = w.number;
      pack = omega signed;
      mark = w.mark;
      weight = w.weight;
      ready = w.ready;
      long = w.long;
      deadline = w.deadline;
    }

-- and has the same numbers where it had no pack.
aside_none : (zs : List ℤ) → length zs ≡ 7 → the_pack zs ≡ pos 0 → pack_aside zs ≡ zs
unfolding each
aside_none zs seven e =
    ap (λ (p : ℤ). the_number zs ∷ p ∷ the_mark zs ∷ the_weight zs ∷ the_ready zs ∷ the_length zs ∷ the_deadline zs ∷ []) (sym e)
    ∙ ext-each (pos 0) zs 7 seven

-- ---- the numbers of all jobs

module _ (zs : List ℤ) where
  abbrev n : ℕ
  n = job_count zs

  abbrev aside : List ℤ
  aside = packs_aside zs

  aside-length : length aside ≡ 7 * n
  unfolding packs_aside
  aside-length = length-flat 7 (λ k. pack_aside (fields_at zs k)) (λ k. refl) n

  aside-job_count : job_count aside ≡ n
  aside-job_count = whole-count aside n aside-length

  aside-fields : (k : ℕ) → k < n → fields_at aside k ≡ pack_aside (fields_at zs k)
  unfolding packs_aside fields_at
  aside-fields k h = part-flat 7 (λ i. pack_aside (fields_at zs i)) (λ i. refl) n k h

  aside-jobs : jobs_of aside ≡ jobs_of zs
  unfolding jobs_of
  aside-jobs =
      rw aside-job_count
      (each-cong (job_at aside) (job_at zs) 0 n (λ k a b. ap job_of (aside-fields k b) ∙ aside-job (fields_at zs k)))

  -- No job has a pack.
  aside-kind_for : kind_for aside ≡ 0
  aside-kind_for = (kind-old aside).1 (λ k h. ap has_pack (aside-fields k (omega (arith, aside-job_count))))

  -- They are an order where the numbers were.
  aside-fine : (t0 : ℤ) → NumbersFine t0 zs → NumbersFine t0 aside
  unfolding number_at
  aside-fine t0 f =
      let count = aside-job_count in
      record {
        list = record { few = rw count f.list.few; whole = rw count aside-length; timely = f.list.timely };
        jobs =
            record {
              within = λ k h. let l : k < n = omega (arith, count) in
                  rw (aside-fields k l) (aside-within (f.jobs.within k l));
              unlike = λ j k i h. let l : k < n = omega (arith, count) in
                  rw (aside-fields j (omega arith), aside-fields k l) (f.jobs.unlike j k i l);
            };
        light = rw aside-jobs f.light;
      }

-- ---- the packed order

module _ (bytes : List ℕ) (accepted : judge (order_checks bytes) ≡ fine) where
  numbers-accepted : judge (number_checks (t0_of bytes) (packs_aside (numbers_of bytes))) ≡ fine
  numbers-accepted =
      (numbers-fine (t0_of bytes) (packs_aside (numbers_of bytes))).1
      (aside-fine (numbers_of bytes) (t0_of bytes) (order-numbers bytes ((order-fine bytes).0 accepted)))

  -- It is accepted,
  pub aside-accepted : judge (order_checks (order_aside bytes)) ≡ fine
  aside-accepted = (unpack-pack (t0_of bytes) (packs_aside (numbers_of bytes)) numbers-accepted).0

  -- of kind 0,
  pub aside-kind : kind_of (order_aside bytes) ≡ 0
  aside-kind = pack-kind (t0_of bytes) (packs_aside (numbers_of bytes)) numbers-accepted ∙ aside-kind_for (numbers_of bytes)

  -- and says the same order: bus-free time and jobs.
  pub aside-order : order_of (order_aside bytes) ≡ order_of bytes
  unfolding order_of
  aside-order =
      let back = unpack-pack (t0_of bytes) (packs_aside (numbers_of bytes)) numbers-accepted in
      let jobs : jobs_in (order_aside bytes) ≡ jobs_in bytes = ap jobs_of back.2 ∙ aside-jobs (numbers_of bytes) in
      λ i. record { t0 = back.1 i; jobs = jobs i }

  -- So it has as many jobs.
  pub aside-count : count_of (order_aside bytes) ≡ count_of bytes
  aside-count = same_count (order_aside bytes) bytes aside-order

  -- Where it was of kind 0 it is the same bytes.
  pub aside_same : AreBytes bytes → kind_of bytes ≡ 0 → order_aside bytes ≡ bytes
  unfolding packs_aside
  aside_same all old =
      let zs = numbers_of bytes in
      let whole = (order-numbers bytes ((order-fine bytes).0 accepted)).list.whole in
      let same : packs_aside zs ≡ zs =
      flat-cong (λ k. pack_aside (fields_at zs k)) (fields_at zs) (job_count zs)
      (λ k h. aside_none (fields_at zs k) (length-fields_at zs (job_count zs) whole k h)
      ((same-yes _ _).0 (not-false _ ((kind-old zs).0 (kind-unpacked bytes old) k h))))
      ∙ flat-fields_at zs (job_count zs) whole in
      rw same (pack-unpack bytes all accepted).1
