-- The laws of the refusals of orders: a job within its limits, what the searches find, and what it is to pass each stage.
use Rattle.std.specs.Prelude.{ℕ, zero, suc, ◌+◌, ◌*◌, ◌%◌, ◌^◌, ◌≤◌, ◌<◌, ◌≡◌, refl, Bool, true, false, not, ◌&&◌, ◌↔◌, ◌≢◌, List, [], ◌∷◌, T, leb, ltb, eqb, ℤ, pos, negsuc, nat_abs, length, get_or}
use Rattle.std.proofs.Common.{sym, ap, ◌∙◌, true≢false, arith, ltb-true, ltb-false, le-ltb, eqb-true, eq-eqb}
use Rattle.std.proofs.Math.Bool.{and-eq-true_iff}
use Rattle.std.specs.Float.Ieee.Bits.{is_true}
use Rattle.std.proofs.lemmas.Bool.{eqb-false, not-false}
use borrow.Table.Steps.{cases}
use Rattle.seconds.specs.Limits.{highest_pack, longest, heaviest, most_weight, most_jobs}
use Rattle.seconds.specs.Signed.{signed, abs_is}
use Rattle.seconds.specs.Ranges.{Between, is_between, InTime, same}
use Rattle.seconds.specs.RangesLaws.{between-true, same-yes, same-no}
use Rattle.seconds.proofs.TwosLaws.{time-in}
use Rattle.order.specs.Job.{weight_of, weight_within, job_within}
use Rattle.order.specs.Halves.{offends_at}
use Rattle.order.proofs.HalvesLaws.{OfHalves, of-halves, offends-below}
use Rattle.packed.specs.Layout.{plain, pack_bits, job_layout, record_bytes}
use Rattle.packed.proofs.LayoutLaws.{HeldBy, Held, no_field, held}
use Rattle.packed.specs.Places.{each}
use Rattle.packed.specs.PlacesLaws.{IsFirst, first-is, first-none, length-each, ext-each}
use Rattle.packed.specs.Packed.{count_of, t0_of, kind_of, numbers_of, kind_for, has_pack, job_count, fields_at, job_of, job_at, jobs_of}
use Rattle.packed.specs.Packed.{the_number, the_pack, the_mark, the_weight, the_ready, the_length, the_deadline, is_critical}
use Rattle.packed.proofs.PackedLaws.{kind-few, kind-unpacked}
use Rattle.packed.specs.Judge.{fine, judge}
use Rattle.packed.specs.JudgeLaws.{judge-at}
use Rattle.packed.specs.Refusals.{weight_test, field_tests, all_true, fields_within, bad_at, first_bad}
use Rattle.packed.specs.Refusals.{number_at, same_at, first_like, repeated_at, first_repeat}
use Rattle.packed.specs.Refusals.{first_offending, header_checks, list_checks, job_checks, weight_checks, halves_checks, room_checks}

-- ---- one job

-- The numbers of a job are within their limits.
pub record Within (zs : List ℤ) : Type 0 where
  pub number : Between (pos 0) (pos 63) (the_number zs)
  pub pack : Between (pos 0) (pos highest_pack) (the_pack zs)
  pub mark : Between (pos 0) (pos 1) (the_mark zs)
  pub weight : weight_test (is_critical zs) (the_weight zs) ≡ true
  pub ready : InTime (the_ready zs)
  pub long : Between (pos 1) (pos longest) (the_length zs)
  pub deadline : InTime (the_deadline zs)

-- If all tests are passed, the one at a place is.
pub all-at : (bs : List Bool) (i : ℕ) → all_true bs ≡ true → get_or bs i true ≡ true
all-at [] i e = refl
all-at (b ∷ bs) zero e = ((and-eq-true_iff b (all_true bs)).0 e).0
all-at (b ∷ bs) (suc i) e = all-at bs i ((and-eq-true_iff b (all_true bs)).0 e).1

pub test-is : {least greatest z : ℤ} → Between least greatest z → is_between least greatest z ≡ true
test-is {least} {greatest} {z} h = (between-true least greatest z).1 h

-- The tests say so.
pub within-is : (zs : List ℤ) → fields_within zs ≡ true ↔ Within zs
unfolding fields_within
within-is zs = (there, back)
  where
    there : all_true (field_tests zs) ≡ true → Within zs
    there e =
        record {
          number = (between-true _ _ _).0 (all-at (field_tests zs) 0 e);
          pack = (between-true _ _ _).0 (all-at (field_tests zs) 1 e);
          mark = (between-true _ _ _).0 (all-at (field_tests zs) 2 e);
          weight = all-at (field_tests zs) 3 e;
          ready = (between-true _ _ _).0 (all-at (field_tests zs) 4 e);
          long = (between-true _ _ _).0 (all-at (field_tests zs) 5 e);
          deadline = (between-true _ _ _).0 (all-at (field_tests zs) 6 e);
        }

    back : Within zs → all_true (field_tests zs) ≡ true
    back w =
        rw (test-is w.number, test-is w.pack, test-is w.mark, w.weight, test-is w.ready, test-is w.long, test-is w.deadline)

-- The weight of either kind of job.
pub weight-range : (c : Bool) (w : ℤ) → weight_test c w ≡ true → Between (pos 0) (pos heaviest) w
weight-range true w e = let h = (between-true (pos 0) (pos 0) w).0 e in omega signed
weight-range false w e = let h = (between-true (pos 1) (pos heaviest) w).0 e in omega signed

weight-within : (c : Bool) (w : ℤ) → weight_test c w ≡ true → weight_within c (nat_abs w) ≡ true
weight-within true w e = let h = (between-true (pos 0) (pos 0) w).0 e in omega (signed, abs_is w)
weight-within false w e =
    let h = (between-true (pos 1) (pos heaviest) w).0 e in
    let low : leb 1 (nat_abs w) ≡ true = omega (signed, abs_is w) in
    let high : leb (nat_abs w) heaviest ≡ true = omega (signed, abs_is w) in
    rw (low, high)

-- Such numbers are a job within the limits of R2.
pub job-within : (zs : List ℤ) → Within zs → T (job_within (job_of zs))
unfolding job_of
job-within zs w =
    let number : leb (nat_abs (the_number zs)) 63 ≡ true = omega (signed, w.number, abs_is (the_number zs)) in
    let low : leb 1 (nat_abs (the_length zs)) ≡ true = omega (signed, w.long, abs_is (the_length zs)) in
    let high : leb (nat_abs (the_length zs)) longest ≡ true = omega (signed, w.long, abs_is (the_length zs)) in
    let gain : leb (nat_abs (the_weight zs)) (nat_abs (the_weight zs)) ≡ true = omega signed in
    rw (
      number,
      weight-within (is_critical zs) (the_weight zs) w.weight,
      test-is w.ready,
      low,
      high,
      gain,
      test-is w.deadline,
    ) tt

-- The same from the tests.
pub fields_within_lem : (zs : List ℤ) → T (fields_within zs) → T (job_within (job_of zs))
fields_within_lem zs t = job-within zs ((within-is zs).0 (is_true (fields_within zs) t))

plain-held : (bits most : ℕ) (z : ℤ) → Between (pos 0) (pos most) z → most < 2 ^ bits → HeldBy (plain bits) z
plain-held bits most (pos n) h l = omega signed
plain-held bits most (negsuc n) h l = omega signed

-- A pack that its kind's field can hold: 0 where there is no field.
pub pack-held : (kind : ℕ) (z : ℤ) → Between (pos 0) (pos highest_pack) z → (kind ≡ 0 → not (same z (pos 0)) ≡ false)
    → HeldBy (plain (pack_bits kind)) z
pack-held zero z h none =
    let e : z ≡ pos 0 = (same-yes z (pos 0)).0 (not-false _ (none refl)) in
    plain-held 0 0 z (omega signed) (omega arith)
pack-held (suc kind) z h none = plain-held 8 highest_pack z h (omega arith)

-- Seven such numbers can be held by the fields of a job, of a kind that has its pack.
pub job-held : (kind : ℕ) (zs : List ℤ) → length zs ≡ 7 → Within zs → (kind ≡ 0 → has_pack zs ≡ false) → Held (job_layout kind) zs
unfolding each
job-held kind zs seven w none =
    let weight : Between (pos 0) (pos heaviest) (the_weight zs) = weight-range (is_critical zs) (the_weight zs) w.weight in
    let long : Between (pos 0) (pos longest) (the_length zs) = omega (signed, w.long) in
    let all : Held (job_layout kind) (each (λ k. get_or zs k (pos 0)) 0 7) =
    held (plain-held 6 63 (the_number zs) w.number (omega arith))
    (held (pack-held kind (the_pack zs) w.pack none)
    (held (plain-held 1 1 (the_mark zs) w.mark (omega arith))
    (held (plain-held 7 heaviest (the_weight zs) weight (omega arith))
    (held (time-in w.ready)
    (held (plain-held 14 longest (the_length zs) long (omega arith))
    (held (time-in w.deadline) no_field)))))) in
    rw (ext-each (pos 0) zs 7 seven) at all

-- ---- the searches

-- The place of 6 is the first whose job is out of range.
pub bad-is-first : (zs : List ℤ) → IsFirst (bad_at zs) 0 (job_count zs) (first_bad zs)
unfolding first_bad
bad-is-first zs = first-is (bad_at zs) 0 (job_count zs) (omega arith)

-- The place of 7 is the first whose number stood earlier.
pub repeat-is-first : (zs : List ℤ) → IsFirst (repeated_at zs) 0 (job_count zs) (first_repeat zs)
unfolding first_repeat
repeat-is-first zs = first-is (repeated_at zs) 0 (job_count zs) (omega arith)

-- The place of 13 is the first whose job offends.
pub offending-is-first : (zs : List ℤ) → IsFirst (offends_at (jobs_of zs)) 0 (job_count zs) (first_offending zs)
unfolding first_offending
offending-is-first zs = first-is (offends_at (jobs_of zs)) 0 (job_count zs) (omega arith)

-- A number that stood at no earlier place.
pub repeated-no : (zs : List ℤ) (k : ℕ) → repeated_at zs k ≡ false ↔ ((j : ℕ) → j < k → number_at zs j ≢ number_at zs k)
repeated-no zs k = (there, back)
  where
    there : repeated_at zs k ≡ false → (j : ℕ) → j < k → number_at zs j ≢ number_at zs k
    there e j h =
        let f = first-is (same_at zs k) 0 k (omega arith) in
        (same-no _ _).0 (f.before j (omega arith) (omega (arith, ltb-false (first_like zs k) k e)))

    back : ((j : ℕ) → j < k → number_at zs j ≢ number_at zs k) → repeated_at zs k ≡ false
    back h =
        rw (first-none (same_at zs k) 0 k (omega arith) (λ j a b. (same-no _ _).1 (h j b))) (le-ltb k k (omega arith))

-- ---- what it is to pass each stage

-- 1 to 5 and 19 on bytes.
pub record HeaderFine (bytes : List ℕ) : Type 0 where
  pub long : 4 ≤ length bytes
  pub known : kind_of bytes ≤ 1
  pub few : count_of bytes ≤ most_jobs
  pub whole : length bytes ≡ 4 + record_bytes (kind_of bytes) * count_of bytes
  pub timely : InTime (t0_of bytes)
  pub kinded : kind_for (numbers_of bytes) ≡ kind_of bytes

-- 19, where the kind is 0 or 1: it is the kind that the numbers are packed in.
kinded-is : (bytes : List ℕ) → kind_of bytes ≤ 1
    → (eqb (kind_of bytes) 1 && eqb (kind_for (numbers_of bytes)) 0) ≡ false ↔ (kind_for (numbers_of bytes) ≡ kind_of bytes)
kinded-is bytes few = (there, back)
  where
    k : ℕ
    k = kind_of bytes

    m : ℕ
    m = kind_for (numbers_of bytes)

    there : (eqb k 1 && eqb m 0) ≡ false → m ≡ k
    there e = cases (eqb k 1)
        (λ one. cases (eqb m 0)
        (λ z. absurd (true≢false (sym ((and-eq-true_iff (eqb k 1) (eqb m 0)).1 (one, z)) ∙ e)))
        (λ z. omega (arith, eqb-true k 1 one, eqb-false m 0 z, kind-few (numbers_of bytes))))
        (λ zero. let old : k ≡ 0 = omega (arith, eqb-false k 1 zero, few) in kind-unpacked bytes old ∙ sym old)

    back : m ≡ k → (eqb k 1 && eqb m 0) ≡ false
    back e = cases (eqb k 1 && eqb m 0)
        (λ y. let h = (and-eq-true_iff (eqb k 1) (eqb m 0)).0 y in
        absurd (omega (arith, eqb-true k 1 h.0, eqb-true m 0 h.1)))
        (λ n. n)

-- The checks say so.
pub header-fine : (bytes : List ℕ) → judge (header_checks bytes) ≡ fine ↔ HeaderFine bytes
unfolding header_checks
header-fine bytes = (there, back)
  where
    there : judge (header_checks bytes) ≡ fine → HeaderFine bytes
    there e =
        let at = judge-at (header_checks bytes) e in
        let known : kind_of bytes ≤ 1 = ltb-false _ _ (at 1) in
        record {
          long = ltb-false _ _ (at 0);
          known = known;
          few = ltb-false _ _ (at 2);
          whole = eqb-true _ _ (not-false _ (at 3));
          timely = (between-true _ _ _).0 (not-false _ (at 4));
          kinded = (kinded-is bytes known).0 (at 5);
        }

    back : HeaderFine bytes → judge (header_checks bytes) ≡ fine
    back f =
        rw (
          le-ltb (length bytes) 4 f.long,
          le-ltb 1 (kind_of bytes) f.known,
          le-ltb most_jobs (count_of bytes) f.few,
          eq-eqb (length bytes) (4 + record_bytes (kind_of bytes) * count_of bytes) f.whole,
          test-is f.timely,
          (kinded-is bytes f.known).1 f.kinded,
        )

-- 3 to 5 on a bus-free time and numbers.
pub record ListFine (t0 : ℤ) (zs : List ℤ) : Type 0 where
  pub few : job_count zs ≤ most_jobs
  pub whole : length zs ≡ 7 * job_count zs
  pub timely : InTime t0

-- The checks say so.
pub list-fine : (t0 : ℤ) (zs : List ℤ) → judge (list_checks t0 zs) ≡ fine ↔ ListFine t0 zs
unfolding list_checks job_count
list-fine t0 zs = (there, back)
  where
    there : judge (list_checks t0 zs) ≡ fine → ListFine t0 zs
    there e =
        let at = judge-at (list_checks t0 zs) e in
        let few : length zs ≤ 336 = ltb-false _ _ (at 0) in
        let whole : length zs % 7 ≡ 0 = eqb-true _ _ (not-false _ (at 1)) in
        record { few = omega arith; whole = omega arith; timely = (between-true _ _ _).0 (not-false _ (at 2)) }

    back : ListFine t0 zs → judge (list_checks t0 zs) ≡ fine
    back f = rw (le-ltb 336 (length zs) (omega arith), eq-eqb (length zs % 7) 0 (omega arith), test-is f.timely)

-- 6 and 7 on the numbers of all jobs.
pub record JobsFine (zs : List ℤ) : Type 0 where
  pub within : (k : ℕ) → k < job_count zs → Within (fields_at zs k)
  pub unlike : (j k : ℕ) → j < k → k < job_count zs → number_at zs j ≢ number_at zs k

bad-none : (zs : List ℤ) → ((k : ℕ) → k < job_count zs → Within (fields_at zs k)) → first_bad zs ≡ job_count zs
unfolding first_bad
bad-none zs h =
    first-none (bad_at zs) 0 (job_count zs) (omega arith) (λ k a b. ap not ((within-is (fields_at zs k)).1 (h k b)))

repeat-none : (zs : List ℤ) → ((j k : ℕ) → j < k → k < job_count zs → number_at zs j ≢ number_at zs k)
    → first_repeat zs ≡ job_count zs
unfolding first_repeat
repeat-none zs h =
    first-none (repeated_at zs) 0 (job_count zs) (omega arith) (λ k a b. (repeated-no zs k).1 (λ j i. h j k i b))

-- The checks say so.
pub jobs-fine : (zs : List ℤ) → judge (job_checks zs) ≡ fine ↔ JobsFine zs
unfolding job_checks
jobs-fine zs = (there, back)
  where
    there : judge (job_checks zs) ≡ fine → JobsFine zs
    there e =
        let b = bad-is-first zs in
        let r = repeat-is-first zs in
        let six : job_count zs ≤ first_bad zs = ltb-false _ _ (judge-at (job_checks zs) e 0) in
        let seven : job_count zs ≤ first_repeat zs = ltb-false _ _ (judge-at (job_checks zs) e 1) in
        record {
          within = λ k h. (within-is (fields_at zs k)).0 (not-false _ (b.before k (omega arith) (omega arith)));
          unlike = λ j k i h. (repeated-no zs k).0 (r.before k (omega arith) (omega arith)) j i;
        }

    back : JobsFine zs → judge (job_checks zs) ≡ fine
    back f =
        rw (bad-none zs f.within, repeat-none zs f.unlike, le-ltb (job_count zs) (job_count zs) (omega arith))

-- 9: the weights together.
pub weight-fine : (before : ℕ) (zs : List ℤ) → judge (weight_checks before zs) ≡ fine ↔ (before + weight_of (jobs_of zs) ≤ most_weight)
unfolding weight_checks
weight-fine before zs = (
  λ e. ltb-false _ _ (judge-at (weight_checks before zs) e 0),
  λ h. rw (le-ltb most_weight (before + weight_of (jobs_of zs)) h),
)

-- 13: the jobs are an order of halves.
pub halves-fine : (zs : List ℤ) → judge (halves_checks zs) ≡ fine ↔ OfHalves (jobs_of zs)
unfolding halves_checks first_offending jobs_of
halves-fine zs = (there, back)
  where
    n : ℕ
    n = job_count zs

    there : judge (halves_checks zs) ≡ fine → OfHalves (jobs_of zs)
    there e =
        let f = offending-is-first zs in
        let all : n ≤ first_offending zs = ltb-false _ _ (judge-at (halves_checks zs) e 0) in
        (of-halves (jobs_of zs)).1 (λ k. cases (ltb k n)
        (λ b. f.before k (omega arith) (omega (arith, ltb-true k n b)))
        (λ b. offends-below (jobs_of zs) k (omega (arith, length-each (job_at zs) 0 n, ltb-false k n b))))

    back : OfHalves (jobs_of zs) → judge (halves_checks zs) ≡ fine
    back h =
        let none : first_offending zs ≡ n =
        first-none (offends_at (jobs_of zs)) 0 n (omega arith) (λ k a b. (of-halves (jobs_of zs)).0 h k) in
        rw (none, le-ltb n n (omega arith))

-- 10: enough room.
pub room-fine : (need room : ℕ) → judge (room_checks need room) ≡ fine ↔ (need ≤ room)
room-fine need room = (λ e. ltb-false _ _ (judge-at (room_checks need room) e 0), λ h. rw (le-ltb room need h))
