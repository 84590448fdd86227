-- The laws of the search for an offending place: the numbers awaited say which jobs have a partner before them, one job more,
-- and the search from place to place.
use Rattle.std.specs.Prelude.{ℕ, suc, ◌+◌, ◌*◌, ◌≤◌, ◌<◌, ◌≡◌, refl, Bool, not, cond, ◌&&◌, ◌≢◌, List, [], ◌∷◌, ◌++◌, ltb, pos, length, take, get_or, set, replicate, Some, None}
use Rattle.std.proofs.Common.{sym, ap, ◌∙◌, arith, length-set, get_or-set_same, get_or-set_other, to_z, of_z}
use Rattle.std.proofs.Math.Bool.{true, false, not-not, or-true, or-false}
use Rattle.std.proofs.Math.Option.{some}
use Rattle.std.proofs.Math.Dec.{leb, eqb}
use Rattle.std.proofs.Math.IntN.{nat_abs}
use Rattle.std.proofs.Math.ListN.{get_elem?}
use Rattle.std.proofs.lemmas.List.{length-replicate, get_or-replicate}
use Rattle.std.specs.Int.{w32}
use Rattle.std.proofs.Math.Facts.{to_z-of_z}
use borrow.Author.Tests.{eqb-true, eqb-false, eq-eqb, ne_eqb, lt-ltb, le-ltb}
use borrow.Table.Steps.{cases}
use Rattle.seconds.specs.Limits.{highest_half, halves_apart, seconds_per_weight}
use Rattle.seconds.specs.Signed.{signed, abs_is}
use Rattle.seconds.specs.Ranges.{same}
use Rattle.order.specs.Job.{Job, length_of}
use Rattle.order.specs.Halves.{is_half, has_partner, offends, offends_at}
use Rattle.order.proofs.HalvesLaws.{has_more}
use Rattle.packed.specs.Places.{first, found_below}
use Rattle.packed.specs.PlacesLaws.{first_on, first-here, first-end, found-there, found-none}
use Rattle.packed.specs.Packed.{job_fields, count_of, numbers_of, job_of, jobs_in}
use Rattle.packed.proofs.PackedLaws.{numbers-count}
use Rattle.packed.specs.Refusals.{first_offending}
use Rattle.packed.proofs.Accepted.{OrderFine}
use Rattle.fields.specs.declared.Job.{Job as Fields}
use Rattle.fields.specs.Fields.{fields_of, as_job}
use Rattle.fields.specs.Facts.{JobFacts, JobFits, facts-fit, mark-bits}
use Rattle.fields.specs.Places.{take_more, job-there, job-fine, job-limits}
use Rattle.halves.specs.Awaiting.{CanTake, offends_by, awaited_after, CanSearch}

-- ---- the numbers awaited

-- They say of every number which jobs have a partner among the earlier ones.
abbrev pub Awaits : List Job → List ℕ → Type 0
Awaits earlier awaited = (j : Job) → j.number ≤ 63 → has_partner j earlier ≡ not (eqb (get_or awaited j.number 0) 0)

-- None at first.
pub awaits-none : Awaits [] (replicate 64 0)
awaits-none j h = rw (get_or-replicate {A = ℕ} 64 j.number 0 0 (omega arith))

-- Behind a job that is no critical half no other is awaited; behind one that is, the number 32 above its own is.
awaits-on : (earlier : List Job) (awaited : List ℕ) (p : Job) → Awaits earlier awaited → length awaited ≡ 64
    → Awaits (earlier ++ (p ∷ [])) (awaited_after p awaited)
awaits-on earlier awaited p h long j few = has_more j earlier p ∙ cases (is_half p)
    (λ half. cases (eqb j.number (p.number + halves_apart))
    (λ same. let at : ℕ = p.number + halves_apart in
    let here : j.number ≡ at = eqb-true _ _ same in
    let one : get_or (set awaited at 1) j.number 0 ≡ 1 =
    ap (λ (i : ℕ). get_or (set awaited at 1) i 0) here ∙ get_or-set_same awaited at 1 0 (omega arith) in
    rw (half, same, one) (or-true (has_partner j earlier)))
    (λ other. rw (half, other, get_or-set_other awaited (p.number + halves_apart) j.number 1 0 (λ e. eqb-false _ _ other e))
    (or-false (has_partner j earlier) ∙ h j few)))
    (λ none. rw none (or-false (has_partner j earlier) ∙ h j few))

-- By them a job offends or does not.
pub offends-told : (earlier : List Job) (awaited : List ℕ) (j : Job) → Awaits earlier awaited → j.number ≤ 63
    → offends_by awaited j ≡ offends earlier j
offends-told earlier awaited j h few =
    ap (λ (b : Bool). cond j.critical (ltb highest_half j.number) (not (eqb (length_of j) (seconds_per_weight * j.weight) && b)))
    (sym (h j few))

-- ---- one job, as the code tests it

module _ (job : Fields) (awaited : List ℕ) (f : JobFacts job) where
  -- Its numbers, cast to plain ones.
  abbrev pub number : ℕ
  number = nat_abs (to_z w32 (of_z w32 job.number))

  abbrev pub weight : ℕ
  weight = nat_abs (to_z w32 (of_z w32 job.weight))

  abbrev pub seconds : ℕ
  seconds = nat_abs (to_z w32 (of_z w32 job.length))

  fitting : JobFits job
  fitting = facts-fit job f

  -- Two of them are low.
  pub number-low : number ≤ 63
  number-low = rw (to_z-of_z fitting.number) (omega (signed, f.number, abs_is job.number))

  pub weight-low : weight ≤ 50
  weight-low = rw (to_z-of_z fitting.weight) (omega (signed, f.weight, abs_is job.weight))

  -- What the contract says of it.
  abbrev pub Taken : Bool → List ℕ → Type 0
  Taken told noted = (told ≡ offends_by awaited (as_job job)) × (noted ≡ awaited_after (as_job job) awaited)

  -- Critical, and numbered above 31 or not.
  module _ (critical : of_z w32 job.critical ≡ 1) where
    marked : same job.critical (pos 1) ≡ true
    marked = sym (mark-bits job.critical f.critical) ∙ eq-eqb _ _ critical

    pub high_taken : highest_half < number → Taken true awaited
    unfolding job_of
    high_taken h =
        let high : highest_half < nat_abs job.number = rw (to_z-of_z fitting.number) at h in
        let no-half : leb (nat_abs job.number) highest_half ≡ false = omega signed in
        rw (marked, lt-ltb highest_half (nat_abs job.number) high, no-half) (refl, refl)

    pub half-taken : number ≤ highest_half → Taken false (set awaited (number + halves_apart) 1)
    unfolding job_of
    half-taken h =
        let low : nat_abs job.number ≤ highest_half = rw (to_z-of_z fitting.number) at h in
        let half : leb (nat_abs job.number) highest_half ≡ true = omega signed in
        rw (to_z-of_z fitting.number, marked, le-ltb highest_half (nat_abs job.number) low, half) (refl, refl)

  -- Any other, of another length than 60 seconds a weight or of that.
  module _ (optional : of_z w32 job.critical ≢ 1) where
    unmarked : same job.critical (pos 1) ≡ false
    unmarked = sym (mark-bits job.critical f.critical) ∙ ne_eqb _ _ optional

    pub long-taken : seconds ≢ seconds_per_weight * weight → Taken true awaited
    unfolding job_of
    long-taken h =
        let other : eqb (nat_abs job.length) (seconds_per_weight * nat_abs job.weight) ≡ false =
        ne_eqb _ _ (rw (to_z-of_z fitting.long, to_z-of_z fitting.weight) at h) in
        rw (unmarked, other) (refl, refl)

    pub awaited-taken : seconds ≡ seconds_per_weight * weight → Taken (eqb (get_or awaited number 0) 0) awaited
    unfolding job_of
    awaited-taken h =
        let same : eqb (nat_abs job.length) (seconds_per_weight * nat_abs job.weight) ≡ true =
        eq-eqb _ _ (rw (to_z-of_z fitting.long, to_z-of_z fitting.weight) at h) in
        rw (to_z-of_z fitting.number, unmarked, same) (sym (not-not (eqb (get_or awaited (nat_abs job.number) 0) 0)), refl)

-- ---- the search

-- No place before this one offends, and the numbers awaited are those of the jobs before it.
pub record Searching (bytes : List ℕ) (n : ℕ) (awaited : List ℕ) (place : ℕ) : Type 0 where
  pub order : OrderFine bytes
  pub count : n ≡ count_of bytes
  pub going : place ≤ n
  pub room : length awaited ≡ 64
  pub search : first_offending (numbers_of bytes) ≡ first (offends_at (jobs_in bytes)) place n
  pub awaits : Awaits (take place (jobs_in bytes)) awaited

-- There is a place for each number,
pub search-room : (bytes : List ℕ) (n : ℕ) (awaited : List ℕ) → CanSearch bytes n awaited → length awaited ≡ 64
search-room bytes n awaited c = rw c.none (length-replicate {A = ℕ} 64 0)

-- and the search starts from the first place.
pub search-starts : (bytes : List ℕ) (n : ℕ) (awaited : List ℕ) → CanSearch bytes n awaited → Searching bytes n awaited 0
unfolding first_offending
search-starts bytes n awaited c =
    record {
      order = c.order;
      count = c.count;
      going = omega arith;
      room = search-room bytes n awaited c;
      search = ap (first (offends_at (jobs_in bytes)) 0) (numbers-count bytes ∙ sym c.count);
      awaits = rw c.none awaits-none;
    }

-- A job was read at a place.
module _ {bytes : List ℕ} {n : ℕ} {awaited : List ℕ} {place : ℕ} (s : Searching bytes n awaited place) (more : place < n)
    (job : Fields) (read : fields_of job ≡ job_fields bytes place) where
  below : place < count_of bytes
  below = omega (arith, s.count)

  there : get_elem? (jobs_in bytes) place ≡ some (as_job job)
  there = job-there bytes place below job read

  -- It can be taken,
  pub can-take : CanTake job awaited
  can-take = record { within = job-fine bytes place below job read s.order; room = s.room }

  place-told : offends_at (jobs_in bytes) place ≡ offends_by awaited (as_job job)
  place-told =
      let few = (job-limits bytes place below job read s.order).number in
      rw there (sym (offends-told (take place (jobs_in bytes)) awaited (as_job job) s.awaits few))

  room_by : (b : Bool) → length (cond b (set awaited ((as_job job).number + halves_apart) 1) awaited) ≡ 64
  room_by true = length-set awaited ((as_job job).number + halves_apart) 1 ∙ s.room
  room_by false = s.room

  -- no place for a number is lost by it,
  pub room-kept : (noted : List ℕ) → noted ≡ awaited_after (as_job job) awaited → length noted ≡ 64
  room-kept noted g = rw g (room_by (is_half (as_job job)))

  -- and where it offends the search ends;
  pub search-ends : true ≡ offends_by awaited (as_job job) → Some place ≡ found_below n (first_offending (numbers_of bytes))
  search-ends e =
      found-there n place more
      ∙ ap (found_below n) (sym (s.search ∙ first-here (offends_at (jobs_in bytes)) place n more (place-told ∙ sym e)))

  -- else it goes on behind it.
  pub search-on : (noted : List ℕ) → false ≡ offends_by awaited (as_job job) → noted ≡ awaited_after (as_job job) awaited
      → Searching bytes n noted (place + 1)
  search-on noted e g =
      let next : suc place ≡ place + 1 = omega arith in
      record {
        order = s.order;
        count = s.count;
        going = omega arith;
        room = room-kept noted g;
        search = s.search ∙ first_on (offends_at (jobs_in bytes)) place n more (place-told ∙ sym e);
        awaits = rw (g, ← next, take_more (jobs_in bytes) place there)
            (awaits-on (take place (jobs_in bytes)) awaited (as_job job) s.awaits s.room);
      }

-- No place is left.
pub search-none : {bytes : List ℕ} {n : ℕ} {awaited : List ℕ} {place : ℕ} → Searching bytes n awaited place → n ≤ place
    → place ≡ first_offending (numbers_of bytes)
search-none {bytes} {n} {awaited} {place} s h =
    let e : place ≡ n = omega (arith, s.going) in
    sym (s.search ∙ rw e (first-end (offends_at (jobs_in bytes)) n))

pub search-lacks : {bytes : List ℕ} {n : ℕ} {awaited : List ℕ} {place : ℕ} → Searching bytes n awaited place → n ≤ place
    → None ≡ found_below n (first_offending (numbers_of bytes))
search-lacks {bytes} {n} {awaited} {place} s h = found-none n place h ∙ ap (found_below n) (search-none s h)
