-- The loop that gathers all jobs: the search for a job out of range, with the numbers and the weights of those before it.
-- Over the numbers of all jobs, however a job is read.
use Rattle.std.specs.Prelude.{ℕ, ◌+◌, ◌*◌, ◌^◌, ◌≤◌, ◌<◌, ◌≡◌, true, false, not, Result, Ok, Err, List, T, ltb, ℤ, pos, nat_abs, length, set}
use Rattle.std.proofs.Common.{sym, ◌∙◌, arith, zero-add, length-set, get_or-set_same, get_or-set_other, to_z-of_z, lt-ltb, ltb-true, ltb-false}
use Rattle.std.proofs.Math.Path.{ap}
use Rattle.std.proofs.Math.ListN.{get_or}
use Rattle.std.specs.Int.Signed.{non_neg}
use Rattle.std.specs.Int.{Width, w32}
use mir.Val.{Fits, SFits, bits, to_z, of_z}
use borrow.Table.Steps.{cases}
use Rattle.seconds.specs.Signed.{signed, abs_is}
use Rattle.seconds.specs.Ranges.{Between}
use Rattle.order.specs.Job.{weight_of}
use Rattle.packed.specs.Places.{each, first}
use Rattle.packed.specs.PlacesLaws.{each-end, first_on, first-here, first-end}
use Rattle.packed.specs.declared.Refusal.{Refusal}
use Rattle.packed.specs.Judge.{in_field, refused, judge}
use Rattle.packed.specs.Packed.{job_count, fields_at, the_weight, job_at, jobs_of}
use Rattle.packed.specs.Refusals.{job_checks, fields_within, bad_field, bad_at, first_bad, number_at}
use Rattle.packed.proofs.Steps.{jobs-judge, bad-from-0, weights-on}
use Rattle.fields.specs.Fields.{fields_of}
use Rattle.fields.specs.Facts.{job-facts}
use Rattle.fields.specs.declared.Job.{Job}
use Rattle.judge.specs.Verdicts.{taken_in, noted_in, AllIn}

-- ---- a number of a job, from 0 to a greatest, as the code casts it

-- It is what its bits say.
pub kept : (greatest : ℕ) (z : ℤ) → Between (pos 0) (pos greatest) z → greatest < 1048576 → to_z w32 (of_z w32 z) ≡ z
kept greatest z b l = let f : SFits w32 z = omega signed in to_z-of_z f

-- It has room in any unsigned number that has room for the greatest.
pub casts : (w : Width) (greatest : ℕ) (z : ℤ) → Between (pos 0) (pos greatest) z → greatest < 1048576 → greatest < 2 ^ bits w
    → T (non_neg (to_z w32 (of_z w32 z))) × Fits w (nat_abs (to_z w32 (of_z w32 z)))
casts w greatest z b l h = rw (kept greatest z b l) (omega (signed, abs_is z))

-- ---- what taking in tells

-- Taken in, a job is within its limits, and its weight is told.
pub taken-ok : (j : Job) (k : ℕ) {w : ℕ} → taken_in j k ≡ Ok w → (fields_within (fields_of j) ≡ true) × (w ≡ nat_abs j.weight)
taken-ok j k {w} e = cases (fields_within (fields_of j))
    (λ t. (t, let s : ◌≡◌ {A = Result ℕ Refusal} (Ok (nat_abs j.weight)) (Ok w) = rw t at e in cc))
    (λ t. let s : ◌≡◌ {A = Result ℕ Refusal} (Err (in_field 6 k (bad_field (fields_of j)))) (Ok w) = rw t at e in
    let z : ◌≡◌ {A = ℕ} 0 1 = cc in
    absurd (omega arith))

-- Refused, it is out of range, and the refusal says where.
pub taken-err : (j : Job) (k : ℕ) {r : Refusal} → taken_in j k ≡ Err r
    → (fields_within (fields_of j) ≡ false) × (r ≡ in_field 6 k (bad_field (fields_of j)))
taken-err j k {r} e = cases (fields_within (fields_of j))
    (λ t. let s : ◌≡◌ {A = Result ℕ Refusal} (Ok (nat_abs j.weight)) (Err r) = rw t at e in
    let z : ◌≡◌ {A = ℕ} 0 1 = cc in
    absurd (omega arith))
    (λ t. (t, let s : ◌≡◌ {A = Result ℕ Refusal} (Err (in_field 6 k (bad_field (fields_of j)))) (Err r) = rw t at e in cc))

-- ---- on the way

-- No job before the place is out of range; their numbers are gathered, and their weights summed, at most 50 each.
pub record Passing (zs : List ℤ) (numbers : List ℕ) (place weight : ℕ) : Type 0 where
  pub room : job_count zs ≤ 48
  pub long : length numbers ≡ 48
  pub search : first_bad zs ≡ first (bad_at zs) place (job_count zs)
  pub gathered : (i : ℕ) → i < place → number_at zs i ≡ pos (get_or numbers i 0)
  pub light : weight ≤ 50 * place
  pub sum : weight + weight_of (each (job_at zs) place (job_count zs)) ≡ weight_of (jobs_of zs)

-- From the first place.
pub passing-starts : (zs : List ℤ) (numbers : List ℕ) → job_count zs ≤ 48 → length numbers ≡ 48 → Passing zs numbers 0 0
unfolding jobs_of
passing-starts zs numbers m l =
    record {
      room = m;
      long = l;
      search = bad-from-0 zs;
      gathered = λ i h. absurd (omega arith);
      light = omega arith;
      sum = zero-add (weight_of (each (job_at zs) 0 (job_count zs)));
    }

-- One number more is noted: what holds of each number at its place holds of it too.
pub noted-on : (Q : ℕ → ℕ → Type 0) (numbers : List ℕ) (k v : ℕ) → k < length numbers → Q k v
    → ((i : ℕ) → i < k → Q i (get_or numbers i 0)) → (i : ℕ) → i < k + 1 → Q i (get_or (set numbers k v) i 0)
noted-on Q numbers k v b e g i h = cases (ltb i k)
    (λ q. let l : i < k = ltb-true i k q in
    rw (get_or-set_other numbers k i v 0 (λ s. absurd (omega arith))) (g i l))
    (λ q. let s : i ≡ k = omega (arith, ltb-false i k q) in rw (s, get_or-set_same numbers k v 0 b) e)

-- A turn: a job was read, and is the job at the place.
pub record Turn (zs : List ℤ) (numbers : List ℕ) (place weight : ℕ) (j : Job) : Type 0 where
  pub more : place < job_count zs
  pub read : fields_of j ≡ fields_at zs place
  pub before : Passing zs numbers place weight

module _ {zs : List ℤ} {numbers : List ℕ} {place weight : ℕ} {j : Job} (t : Turn zs numbers place weight j) where
  -- There is room for the job's number.
  pub can-note : place < length numbers
  can-note = omega (arith, t.more, t.before.room, t.before.long)

  number-noted : fields_within (fields_of j) ≡ true → number_at zs place ≡ pos (nat_abs j.number)
  unfolding number_at
  number-noted w =
      let f = (job-facts j).0 w in
      let n : get_or (fields_at zs place) 0 (pos 0) ≡ j.number = ap (λ l. get_or l 0 (pos 0)) (sym t.read) in
      n ∙ omega (signed, f.number, abs_is j.number)

  -- Within its limits: its weight is at most 50,
  pub weight-light : {w : ℕ} → taken_in j place ≡ Ok w → w ≤ 50
  weight-light {w} e =
      let told = taken-ok j place e in
      let f = (job-facts j).0 told.0 in
      omega (signed, f.weight, abs_is j.weight, told.1)

  -- and it is on to the next place.
  pub passing-on : {w : ℕ} → taken_in j place ≡ Ok w → (noted : List ℕ) → noted ≡ noted_in j place numbers
      → Passing zs noted (place + 1) (weight + w)
  passing-on {w} e noted notes =
      let told = taken-ok j place e in
      let within = told.0 in
      let b = t.before in
      let s : noted ≡ set numbers place (nat_abs j.number) = rw within at notes in
      let its : nat_abs (the_weight (fields_at zs place)) ≡ nat_abs j.weight =
      ap (λ l. nat_abs (get_or l 3 (pos 0))) (sym t.read) in
      record {
        room = b.room;
        long = rw s (length-set numbers place (nat_abs j.number) ∙ b.long);
        search = b.search ∙ first_on (bad_at zs) place (job_count zs) t.more (ap not (ap fields_within (sym t.read) ∙ within));
        gathered =
            rw s (noted-on (λ i n. number_at zs i ≡ pos n) numbers place (nat_abs j.number) can-note (number-noted within)
            b.gathered);
        light = omega (arith, b.light, weight-light e);
        sum = omega (arith, weights-on zs place (job_count zs) t.more, its, b.sum, told.1);
      }

  -- Out of range: the first such, so refusal 6.
  pub refused-here : {r : Refusal} → taken_in j place ≡ Err r → judge (job_checks zs) ≡ refused r
  refused-here {r} e =
      let told = taken-err j place e in
      let b = t.before in
      let here : first_bad zs ≡ place =
      b.search ∙ first-here (bad_at zs) place (job_count zs) t.more (ap not (ap fields_within (sym t.read) ∙ told.0)) in
      rw (jobs-judge zs, here, lt-ltb place (job_count zs) t.more, ← t.read, told.1)

-- No job is left.
pub passing-ends : (zs : List ℤ) (numbers : List ℕ) (place weight : ℕ) → place ≡ job_count zs → Passing zs numbers place weight
    → AllIn zs numbers weight
passing-ends zs numbers place weight e p =
    record {
      none-bad = p.search ∙ rw e (first-end (bad_at zs) (job_count zs));
      gathered = λ k h. p.gathered k (omega arith);
      weighed =
          let none : weight_of (each (job_at zs) place (job_count zs)) ≡ 0 =
          rw e (ap weight_of (each-end (job_at zs) (job_count zs))) in
          omega (arith, p.sum, none);
    }
