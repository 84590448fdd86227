-- The laws of the trail: where it starts, that a step back keeps to it, and that at its end stands the mask of the walk.
use Rattle.std.specs.Prelude.{ℕ, zero, suc, ◌+◌, ◌*◌, ◌-◌, ◌^◌, ◌≤◌, ◌<◌, ◌≡◌, refl, List, [], ◌∷◌, reverse, ℤ, length, take}
use Rattle.std.proofs.Common.{sym, ap, ◌∙◌, pow-suc, add-zero, arith, pow_pos, pow_mono, take_all}
use Rattle.std.proofs.lemmas.List.{reverse-reverse, length-reverse}
use mathlib.Core.List.Memᴰ.{head}
use mathlib.Core.List.Memᴰ.{not-nil}
use mathlib.Core.List.Memᴰ.{tail}
use mathlib.Core.List.{Memᴰ as In}
use Rattle.std.proofs.Math.Option.{Option, none, some, map, some-injective}
use Rattle.std.proofs.Math.ListN.{get_elem?}
use Rattle.seconds.specs.Ranges.{InFree}
use Rattle.order.specs.Job.{Job, Point, gain_of}
use Rattle.order.specs.Choice.{Choice, bit_of, mask_of, mask}
use Rattle.order.proofs.Within.{JobWithin}
use Rattle.profile.specs.Profile.{lookup, extend, start_point}
use Rattle.profile.proofs.Rising.{rising-one}
use Rattle.packed.specs.Packed.{job_fields, count_of, t0_of, jobs_in}
use Rattle.fields.specs.declared.Job.{Job as Numbers}
use Rattle.fields.specs.Fields.{fields_of, as_job}
use Rattle.fields.specs.Places.{place-below, back_more, jobs-count, job-there, job-fine, job-limits}
use Rattle.rows.proofs.RowLaws.{nothing-there}
use Rattle.rows.specs.Walk.{Source, onward, Bits, with_pick}
use Rattle.rows.proofs.WalkLaws.{bits_of, bits-more, bits-mask}
use Rattle.points.specs.Steps.{list_after}
use Rattle.points.proofs.PrefixLaws.{Singles, list-is}
use Rattle.points.specs.Walk.{source_in, fold_lists, walk_lists}
use Rattle.points.proofs.WalkLaws.{fold-lists-is}
use Rattle.codes.specs.declared.Prefix.{Prefix}
use Rattle.codes.specs.Code.{points_at}
use Rattle.filling.specs.Lists.{noted}
use Rattle.reading.specs.declared.Found.{Found}
use Rattle.filling.specs.ListsLaws.{jobs-single, lists-stand}
use Rattle.walking.specs.declared.Trail.{Trail}
use Rattle.walking.specs.Trail.{StepsBack, trail_before, step_back, Walks, walk_mask}
use Rattle.walking.specs.Sources.{source-same, source-in-range}

-- The bits of a mask with so many empty places below, and the worth of the next one.
abbrev bits_at : ℕ → ℕ → Bits
bits_at k m = record { next = 2 ^ (64 - k); sum = m }

-- No picks have no bits.
mask-none : (n : ℕ) → mask_of n [] ≡ 0
mask-none zero = refl
mask-none (suc n) = refl

-- A mask below the worth of a bit has room for that bit.
one-bit-more : (x bit : ℕ) {m : ℕ} → m < bit → m + bit_of x * bit < bit * 2
one-bit-more zero bit h = omega arith
one-bit-more (suc x) bit h = omega arith

-- Where going on gives something, there was something to go on from.
gone-on {ℓ ℓ'} : {A : Type ℓ} {B : Type ℓ'} (o : Option A) (further : A → Option B) {b : B} → onward o further ≡ some b
    → (a : A) × (o ≡ some a)
gone-on none further e = nothing-there e
gone-on (some a) further e = (a, refl)

-- The walk gives a pick for each job.
walk-length : (before : List Job) (start : List Point) (w : ℕ) (by : ℤ) (after : Choice) {c : Choice}
    → walk_lists before start w by after ≡ some c → length c ≡ length before + length after
walk-length [] start w by after {c} e = omega (arith, ap length (some-injective after c e))
walk-length (j ∷ before) start w by after {c} e =
    go (source_in j (list_after (reverse before) start) w by)
    (λ (s : Source). walk-length before start (w - gain_of j s.pick) s.latest (s.pick ∷ after)) e
  where
    further : Source → Option Choice
    further s = walk_lists before start (w - gain_of j s.pick) s.latest (s.pick ∷ after)

    go : (o : Option Source) → ((s : Source) → further s ≡ some c → length c ≡ length before + suc (length after))
        → onward o further ≡ some c → length c ≡ suc (length before) + length after
    go none more e = nothing-there e
    go (some s) more e = omega (arith, more s e)

-- The trail after k jobs, of a walk from a weight and a time over all jobs: the walk from here ends as the whole walk.
pub record OnTrail (js : List Job) (P : List Point) (weight : ℕ) (by : ℤ) (k : ℕ) (trail : Trail) : Type 0 where
  pub few : k ≤ length js
  pub fits : trail.mask < 2 ^ (64 - k)
  pub free : InFree trail.by
  pub same : fold_lists with_pick (reverse (take k js)) P trail.weight trail.by (bits_at k trail.mask)
      ≡ fold_lists with_pick (reverse js) P weight by (bits_at (length js) 0)

module _ (js : List Job) (P : List Point) (weight : ℕ) (by : ℤ) where
  -- The trail starts after all jobs.
  on-start : InFree by → OnTrail js P weight by (length js) (record { mask = 0; weight = weight; by = by })
  on-start free =
      let all : take (length js) js ≡ js = take_all (length js) js (omega arith) in
      record { few = omega arith; fits = pow_pos (64 - length js); free = free; same = rw all }

  -- The bits are added up to those of the choice that the walk gives,
  module _ (few : length js ≤ 64) (choice : Choice) (walked : walk_lists (reverse js) P weight by [] ≡ some choice) where
    abbrev empty : ℕ
    empty = 64 - length js

    begun : bits_at (length js) 0 ≡ bits_of empty []
    begun = rw (add-zero empty, mask-none empty)

    bits_are : fold_lists with_pick (reverse js) P weight by (bits_at (length js) 0) ≡ some (bits_of empty choice)
    bits_are =
        ap (fold_lists with_pick (reverse js) P weight by) begun
        ∙ fold-lists-is with_pick (bits_of empty) (bits-more empty) (reverse js) P weight by []
        ∙ ap (map (bits_of empty)) walked

    long : length choice ≡ length js
    long = omega (arith, walk-length (reverse js) P weight by [] walked, length-reverse js)

    sum_is : (bits_of empty choice).sum ≡ mask choice
    sum_is = ap (λ (n : ℕ). (bits_of (64 - n) choice).sum) (sym long) ∙ bits-mask choice (omega (arith, long))

    -- and at the end of the trail stands their mask.
    on-end : {trail : Trail} → OnTrail js P weight by 0 trail → trail.mask ≡ mask choice
    on-end {trail} on =
        let same = some-injective (bits_at 0 trail.mask) (bits_of empty choice) (on.same ∙ bits_are) in
        ap (λ (b : Bits). b.sum) same ∙ sum_is

-- ---- one job back

module _ {js : List Job} {P : List Point} {weight : ℕ} {by : ℤ} {k : ℕ} {j : Job} {trail : Trail} (few : length js ≤ 64)
    (there : get_elem? js k ≡ some j) (on : OnTrail js P weight by (suc k) trail)
  where
    -- The worth of its bit, and of the next.
    bit_is : 64 - suc k ≡ 63 - k
    bit_is = omega arith

    next-is : 2 ^ (63 - k) * 2 ≡ 2 ^ (64 - k)
    next-is =
        let h = place-below js k there in
        let e : 64 - k ≡ suc (63 - k) = omega arith in
        rw (e, pow-suc 2 (63 - k))

    -- The mask has room for it.
    on_fits : trail.mask < 2 ^ (63 - k)
    on_fits = rw bit_is at on.fits

    -- A list is known that has the last point of the list before the job by the trail's time.
    module _ (list : List Point) (is : lookup (list_after (take k js) P) trail.by ≡ lookup list trail.by) where
      -- The jobs before it, from the last to the first, and the walk over them from a source.
      abbrev before : List Job
      before = reverse (take k js)

      abbrev further : Source → Option Bits
      further s =
          fold_lists with_pick before P (trail.weight - gain_of j s.pick) s.latest
          (with_pick s.pick (bits_at (suc k) trail.mask))

      goes_on : onward (source_in j list trail.weight trail.by) further
          ≡ fold_lists with_pick (reverse js) P weight by (bits_at (length js) 0)
      goes_on =
          let asked : lookup (list_after (reverse before) P) trail.by ≡ lookup list trail.by =
          rw (reverse-reverse (take k js)) is in
          ap (λ (o : Option Source). onward o further)
          (sym (source-same j (list_after (reverse before) P) list trail.weight trail.by asked))
          ∙ rw (back_more js k there) at on.same

      -- So where the whole walk gives a choice, a source is found,
      on-found : {choice : Choice} → walk_lists (reverse js) P weight by [] ≡ some choice
          → (s : Source) × (source_in j list trail.weight trail.by ≡ some s)
      on-found {choice} walked =
          gone-on (source_in j list trail.weight trail.by) further (goes_on ∙ bits_are js P weight by few choice walked)

      -- and the step by it keeps to the trail.
      module _ (s : Source) (found : source_in j list trail.weight trail.by ≡ some s) where
        abbrev next : Trail
        next = trail_before j (2 ^ (63 - k)) trail s

        made-is : with_pick s.pick (bits_at (suc k) trail.mask) ≡ bits_at k next.mask
        made-is =
            rw (bit_is, next-is)
            (ap (λ (m : ℕ). record { next = 2 ^ (64 - k); sum = m }) (omega arith))

        on-before : JobWithin j → OnTrail js P weight by k next
        on-before within =
            record {
              few = omega (arith, on.few);
              fits = rw (← next-is) (one-bit-more s.pick (2 ^ (63 - k)) on_fits);
              free = source-in-range j list trail.weight trail.by s found within on.free;
              same = ap (fold_lists with_pick before P next.weight next.by) (sym made-is) ∙ rw found at goes_on;
            }

        on_step : JobWithin j → (r : Trail) → some r ≡ step_back j (2 ^ (63 - k)) list trail → OnTrail js P weight by k r
        on_step within r given =
            let same : r ≡ next = some-injective r next (given ∙ rw found) in
            rw same (on-before within)

-- ---- the jobs of bytes, with their lists in the work area

-- One of the first k jobs is one of all.
in_take : (k : ℕ) (js : List Job) {j : Job} → In j (take k js) → In j js
in_take zero js m = absurd (not-nil m)
in_take (suc k) [] m = m
in_take (suc k) (i ∷ js) (head e) = head e
in_take (suc k) (i ∷ js) (tail m) = tail (in_take k js m)

-- The trail of a walk over the jobs of bytes.
abbrev pub Trails : List ℕ → ℕ → ℤ → ℕ → Trail → Type 0
Trails bytes weight by k trail = OnTrail (jobs_in bytes) (start_point (t0_of bytes) ∷ []) weight by k trail

-- From there the code can step back over the job that it read, by the list that stands at a place, and keeps to the trail.
pub record CanStep (work : List ℤ) (bytes : List ℕ) (list : Prefix) (weight : ℕ) (by : ℤ) (k : ℕ) (job : Numbers) (trail : Trail)
    : Type 0 where
  pub asks : StepsBack work list (2 ^ (63 - k)) job trail
  pub keeps : (r : Trail) → some r ≡ step_back (as_job job) (2 ^ (63 - k)) (points_at work list) trail
      → Trails bytes weight by k r

module _ {work : List ℤ} {bytes : List ℕ} {n : ℕ} {notes : List Prefix} {end : Found} (w : Walks work bytes n notes end) where
  abbrev weight : ℕ
  weight = end.weight

  abbrev by : ℤ
  by = end.time

  abbrev js : List Job
  js = jobs_in bytes

  abbrev P : List Point
  P = start_point (t0_of bytes) ∷ []

  few-jobs : length js ≤ 64
  few-jobs = omega (arith, jobs-count bytes, w.order.header.few)

  -- The trail starts after all jobs, and at its end stands the mask of the walk.
  pub trail-start : Trails bytes weight by n (record { mask = 0; weight = weight; by = by })
  trail-start =
      let all : n ≡ length js = omega (arith, jobs-count bytes, w.count) in
      rw all (on-start js P weight by w.free)

  pub trail-end : {trail : Trail} → Trails bytes weight by 0 trail → some trail.mask ≡ walk_mask (t0_of bytes) js weight by
  trail-end on = ap some (on-end js P weight by few-jobs w.choice w.walked on) ∙ sym (ap (map mask) w.walked)

  -- The trail, and the job that was read at the next place.
  module _ (k : ℕ) (trail : Trail) (on : Trails bytes weight by (suc k) trail) (numbers : Numbers)
      (read : fields_of numbers ≡ job_fields bytes k)
    where
      below : k < count_of bytes
      below = omega (arith, jobs-count bytes, on.few)

      there : get_elem? js k ≡ some (as_job numbers)
      there = job-there bytes k below numbers read

      -- The points of the list before the job stand in the work area.
      abbrev list : Prefix
      list = noted notes k

      within : k ≤ n
      within = omega (arith, below, w.count)

      -- They have the last point of the list that the walk asks, by every time.
      list-asked : (t : ℤ) → lookup (list_after (take k js) P) t ≡ lookup (points_at work list) t
      list-asked t =
          let one : Singles (take k js) = λ j m. jobs-single bytes w.order j (in_take k js m) in
          let is : list_after (take k js) P ≡ extend P (take k js) = list-is (take k js) one (rising-one (start_point (t0_of bytes))) in
          ap (λ (ps : List Point). lookup ps t) is ∙ sym ((w.lists.stands k within).says t)

      bit-fits : trail.mask + 2 ^ (63 - k) < 2 ^ 64
      bit-fits = omega (arith, on_fits few-jobs there on, pow_mono {i = 63 - k} {j = 63} (omega arith))

      -- So the code can step back.
      pub can-step : CanStep work bytes list weight by k numbers trail
      can-step =
          let points = points_at work list in
          let asked = list-asked trail.by in
          let f = on-found few-jobs there on points asked w.walked in
          record {
            asks =
                record {
                  within = job-fine bytes k below numbers read w.order;
                  stands = lists-stand w.lists w.room k within;
                  fits = bit-fits;
                  free = on.free;
                  source = f.0;
                  found = f.1;
                };
            keeps = on_step few-jobs there on points asked f.0 f.1 (job-limits bytes k below numbers read w.order);
          }
