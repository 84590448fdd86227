-- The laws of the reader: what a step says in each case, the refusals that the reader can give, and what reading an order
-- gives job by job.
use Rattle.std.specs.Prelude.{ℕ, ◌+◌, ◌≤◌, ◌<◌, ◌≡◌, Bool, true, false, ◌&&◌, ◌||◌, ◌↔◌, ◌≢◌, List, [], ◌∷◌, ltb, leb, eqb, ℤ, Some, None, Ok, Err}
use Rattle.std.proofs.Math.Path.{refl}
use Rattle.std.proofs.Common.{sym, ap, subst, ◌∙◌, arith, eqb→eq, ltb-true, lt-ltb, le-ltb}
use Rattle.std.proofs.Math.Bool.{and-eq-true_iff}
use Rattle.std.proofs.Math.Dec.{T}
use Rattle.std.specs.Float.Ieee.Fits.{and_l, and_r}
use Rattle.std.proofs.lemmas.Bool.{not-true}
use borrow.Table.Steps.{cases}
use Rattle.packed.specs.declared.Refusal.{Refusal}
use Rattle.packed.specs.Judge.{in_field, plainly, no_refusal, refusal_of, Check, Verdict, fine, refused, judge, or_else}
use Rattle.packed.specs.JudgeLaws.{judge-append, stages-fine, Tells, judge-tells, number-passes}
use Rattle.packed.proofs.LayoutLaws.{job-decode}
use Rattle.packed.specs.Places.{flat}
use Rattle.packed.specs.PlacesLaws.{flat-cong}
use Rattle.packed.specs.Packed.{kind_of, count_of, job_word, job_fields, numbers_of, fields_at}
use Rattle.packed.proofs.PackedLaws.{fields-is, numbers-is, numbers-count, fields-of-numbers}
use Rattle.packed.specs.Refusals.{fields_within, bad_field, header_checks, order_checks}
use Rattle.packed.proofs.RefusalLaws.{HeaderFine, header-fine, within-is}
use Rattle.packed.proofs.FieldLaws.{FieldIs, field-unique, bad-field-is}
use Rattle.packed.proofs.Accepted.{order-fine}
use Rattle.fields.specs.Fields.{fields_of}
use Rattle.fields.specs.declared.Job.{Job}
use Rattle.reader.specs.Reading.{opened_by, open_of, place_check, step_checks, job_from, stepped_by, step_of}
use Rattle.reader.specs.Reading.{open_count, read_refusal, read_numbers}
use Rattle.reader.specs.declared.Moved.{Moved}

-- A job is made again of its numbers.
pub made_again : (job : Job) {zs : List ℤ} → fields_of job ≡ zs → job ≡ job_from zs
made_again job e = ap job_from e

-- The bytes of a job say seven numbers.
pub seven-numbers : (bytes : List ℕ) (place : ℕ) → fields_of (job_from (job_fields bytes place)) ≡ job_fields bytes place
seven-numbers bytes place = rw (fields-is bytes place, job-decode (kind_of bytes) (job_word bytes place))

-- ---- each case

module _ (bytes : List ℕ) (place : ℕ) where
  stages : judge (step_checks bytes place) ≡ or_else (judge (header_checks bytes)) (judge (place_check bytes place ∷ []))
  stages = judge-append (header_checks bytes) (place_check bytes place ∷ [])

  -- Bytes that are not accepted: their refusal, and the reader stays.
  pub step-refused : {r : Refusal} → judge (header_checks bytes) ≡ refused r
      → step_of bytes place ≡ record { answer = Err r; place = place }
  step-refused e = rw (stages, e)

  module _ (accepted : judge (header_checks bytes) ≡ fine) where
    step_by_lem : {v : Verdict} → judge (place_check bytes place ∷ []) ≡ v → step_of bytes place ≡ stepped_by bytes place v
    step_by_lem e = rw (stages, accepted, e)

    -- At the count or above: the end, and the reader stays.
    pub step_end : count_of bytes ≤ place → step_of bytes place ≡ record { answer = Ok None; place = place }
    step_end h =
        let e = le-ltb place (count_of bytes) h in
        step_by_lem {v = fine} (rw e) ∙ rw e

    module _ (below : place < count_of bytes) where
      -- Below it, at a job within its limits: the job, and the reader moves on.
      pub step-job : fields_within (job_fields bytes place) ≡ true
          → step_of bytes place ≡ record { answer = Ok (Some (job_from (job_fields bytes place))); place = place + 1 }
      step-job w =
          let e = lt-ltb place (count_of bytes) below in
          step_by_lem {v = fine} (rw (e, w)) ∙ rw e

      -- At a job out of range: refusal 6 with its place and its first field that is, and the reader stays.
      pub step-bad : fields_within (job_fields bytes place) ≡ false → let r = in_field 6 place (bad_field (job_fields bytes place)) in
          step_of bytes place ≡ record { answer = Err r; place = place }
      step-bad w = step_by_lem {v = refused _} (rw (lt-ltb place (count_of bytes) below, w))

-- ---- the refusals that the reader gives

-- The numbers of the checks on a header: 1 to 5 and 19.
abbrev pub of_header : ℕ → Bool
of_header n = (leb 1 n && leb n 5) || eqb n 19

-- A refusal of bytes that are not accepted: one of these, with no place and no field.
pub record Unaccepted (r : Refusal) : Type 0 where
  pub number : T (of_header r.number)
  pub plain : r ≡ plainly r.number

-- Bytes that are accepted have a job at a place, it is out of range, and this is its first field that is.
pub record BadHere (bytes : List ℕ) (place f : ℕ) : Type 0 where
  pub passed : judge (header_checks bytes) ≡ fine
  pub below : place < count_of bytes
  pub out : fields_within (job_fields bytes place) ≡ false
  pub field : FieldIs (job_fields bytes place) f

-- A refusal of a step: of bytes that are not accepted, or 6 with the place at which the reader stands, where the job is out of
-- range, and the job's first field that is.
pub data StepRefusal (bytes : List ℕ) (place : ℕ) : Refusal → Type 0 where
  unaccepted : {r : Refusal} → Unaccepted r → StepRefusal bytes place r
  bad : {f : ℕ} → BadHere bytes place f → StepRefusal bytes place (in_field 6 place f)

-- Such checks, with no place and no field.
abbrev on_header : List Check → Bool
on_header [] = true
on_header (c ∷ cs) =
    of_header c.says.number && (eqb c.says.place 0 && (eqb c.says.field 0 && on_header cs))

on-header-tell : (cs : List Check) → T (on_header cs) → Tells Unaccepted cs
on-header-tell [] t = tt
on-header-tell (c ∷ cs) t =
    let number : T (of_header c.says.number) = search and_l in
    let place : c.says.place ≡ 0 = eqb→eq c.says.place 0 (search (and_l, and_r)) in
    let field : c.says.field ≡ 0 = eqb→eq c.says.field 0 (search (and_l, and_r)) in
    let plain : c.says ≡ plainly c.says.number = λ i. in_field c.says.number (place i) (field i) in
    (λ _. record { number = number; plain = plain }, on-header-tell cs (search (and_l, and_r)))

-- Opening is refused so.
pub open-refusal : (bytes : List ℕ) {r : Refusal} → judge (header_checks bytes) ≡ refused r → Unaccepted r
unfolding header_checks
open-refusal bytes = judge-tells Unaccepted (header_checks bytes) (on-header-tell (header_checks bytes) tt)

-- The numbers of a step.
abbrev pub of_reader : ℕ → Bool
of_reader n = leb n 6 || eqb n 19

module _ (bytes : List ℕ) (place : ℕ) where
  -- A step is refused so.
  pub step-refusal : {r : Refusal} → judge (step_checks bytes place) ≡ refused r → StepRefusal bytes place r
  step-refusal {r} e = go (judge (header_checks bytes)) refl
    where
      go : (v : Verdict) → judge (header_checks bytes) ≡ v → StepRefusal bytes place r
      go fine f =
          judge-tells (StepRefusal bytes place) (place_check bytes place ∷ []) (
            λ b.
                let both = (and-eq-true_iff _ _).0 b in
                let out = not-true _ both.1 in
                bad (record { passed = f; below = ltb-true _ _ both.0; out = out; field = bad-field-is _ out }),
            tt,
          )
          (rw (stages bytes place, f) at e)
      go (refused s) f =
          let same : refused s ≡ refused r = rw (stages bytes place, f) at e in
          unaccepted (open-refusal bytes (f ∙ same))

  -- What a step says: no refusal, or one of those.
  pub data StepSaid : Refusal → Type 0 where
    none : StepSaid no_refusal
    one : {r : Refusal} → StepRefusal bytes place r → StepSaid r

  pub step-said : StepSaid (read_refusal (step_of bytes place).answer)
  step-said = go (judge (step_checks bytes place)) refl
    where
      go : (v : Verdict) → judge (step_checks bytes place) ≡ v → StepSaid (read_refusal (stepped_by bytes place v).answer)
      go fine e = cases (ltb place (count_of bytes)) (λ t. rw t none) (λ t. rw t none)
      go (refused r) e = one (step-refusal e)

  -- Its number is at most 6, or 19: 7 and 9 are not judged.
  pub step-numbers : T (of_reader (read_refusal (step_of bytes place).answer).number)
  unfolding header_checks
  step-numbers = go (judge (step_checks bytes place)) refl
    where
      go : (v : Verdict) → judge (step_checks bytes place) ≡ v → T (of_reader (read_refusal (stepped_by bytes place v).answer).number)
      go fine e = cases (ltb place (count_of bytes)) (λ t. rw t tt) (λ t. rw t tt)
      go (refused r) e = number-passes of_reader (step_checks bytes place) tt e

  -- It is 6 with a place and a field exactly when the bytes are accepted, the reader stands at that place, the job there is out
  -- of range, and that is its first field that is.
  pub step-six : (p f : ℕ) → read_refusal (step_of bytes place).answer ≡ in_field 6 p f ↔ ((p ≡ place) × BadHere bytes place f)
  step-six p f = (λ e. there step-said e, back)
    where
      there : {r : Refusal} → StepSaid r → r ≡ in_field 6 p f → (p ≡ place) × BadHere bytes place f
      there none e = absurd (omega (arith, ap (λ (r : Refusal). r.number) e))
      there (one (unaccepted u)) e = absurd (rw (ap (λ (r : Refusal). r.number) e) at u.number)
      there (one (bad b)) e =
          (ap (λ (r : Refusal). r.place) (sym e), subst (BadHere bytes place) (ap (λ (r : Refusal). r.field) e) b)

      back : (p ≡ place) × BadHere bytes place f → read_refusal (step_of bytes place).answer ≡ in_field 6 p f
      back h =
          let b = h.1 in
          let its = field-unique (job_fields bytes place) _ f (bad-field-is (job_fields bytes place) b.out) b.field in
          ap (λ (m : Moved). read_refusal m.answer) (step-bad bytes place b.passed b.below b.out)
          ∙ (λ i. in_field 6 (sym h.0 i) (its i))

  -- No other answer names a field.
  pub step-field-0 : (read_refusal (step_of bytes place).answer).number ≢ 6 → (read_refusal (step_of bytes place).answer).field ≡ 0
  step-field-0 = told step-said
    where
      told : {r : Refusal} → StepSaid r → r.number ≢ 6 → r.field ≡ 0
      told none h = refl
      told (one (unaccepted u)) h = ap (λ (r : Refusal). r.field) u.plain
      told (one (bad b)) h = absurd (h refl)

-- ---- what the answer of opening says

-- Bytes that were accepted, with so many jobs.
pub record OpenFine (bytes : List ℕ) (count : ℕ) : Type 0 where
  pub header : HeaderFine bytes
  pub passed : judge (header_checks bytes) ≡ fine
  pub counted : count ≡ count_of bytes

module _ (bytes : List ℕ) where
  -- The answer says so.
  pub open-accepted : (count : ℕ) → open_of bytes ≡ Ok count → OpenFine bytes count
  open-accepted count e = go (judge (header_checks bytes)) refl e
    where
      go : (v : Verdict) → judge (header_checks bytes) ≡ v → opened_by (count_of bytes) v ≡ Ok count
          → OpenFine bytes count
      go fine f h = record { header = (header-fine bytes).0 f; passed = f; counted = sym (ap open_count h) }
      go (refused r) f h = let z : ◌≡◌ {A = ℕ} 0 1 = cc in absurd (omega arith)

  -- Bytes that were not: the refusal has no place and no field, and a step says the same.
  pub open-refused : (place : ℕ) {r : Refusal} → open_of bytes ≡ Err r
      → (r ≡ plainly r.number) × (step_of bytes place ≡ record { answer = Err r; place = place })
  open-refused place {r} e = go (judge (header_checks bytes)) refl e
    where
      go : (v : Verdict) → judge (header_checks bytes) ≡ v → opened_by (count_of bytes) v ≡ Err r
          → (r ≡ plainly r.number) × (step_of bytes place ≡ record { answer = Err r; place = place })
      go fine f h = let z : ◌≡◌ {A = ℕ} 0 1 = cc in absurd (omega arith)
      go (refused s) f h =
          let same : s ≡ r = ap refusal_of h in (
            subst (λ (q : Refusal). q ≡ plainly q.number) same (open-refusal bytes f).plain,
            step-refused bytes place f ∙ (λ i. record { answer = Err (same i); place = place }),
          )

-- ---- where the reader stands after a step

-- A job is given below the count, and the reader moves on.
pub record JobGiven (bytes : List ℕ) (place : ℕ) : Type 0 where
  pub few : place < 48
  pub next : (step_of bytes place).place ≡ place + 1

-- The answer tells it; any other leaves the reader where it stands.
module _ (bytes : List ℕ) (place : ℕ) where
  given-by : {job : Job} (v : Verdict) → judge (step_checks bytes place) ≡ v → (stepped_by bytes place v).answer ≡ Ok (Some job)
      → JobGiven bytes place
  given-by fine e g =
      let few = ((header-fine bytes).0 ((stages-fine (header_checks bytes) (place_check bytes place ∷ [])).0 e).0).few in
      cases (ltb place (count_of bytes))
      (λ t. record { few = omega (arith, few, ltb-true place (count_of bytes) t); next = rw (e, t) })
      (λ t. let none = rw t at g in
      let z : ◌≡◌ {A = ℕ} 0 1 = cc none in absurd (omega arith))
  given-by (refused r) e g = let z : ◌≡◌ {A = ℕ} 0 1 = cc in absurd (omega arith)

  pub job-given : {job : Job} → (step_of bytes place).answer ≡ Ok (Some job) → JobGiven bytes place
  job-given g = given-by (judge (step_checks bytes place)) refl g

-- ---- an order, read job by job

module _ (bytes : List ℕ) (order : judge (order_checks bytes) ≡ fine) where
  -- The job at a place has the numbers that unpacking gives for that place.
  pub read-numbers : (place : ℕ) → place < count_of bytes
      → read_numbers (step_of bytes place).answer ≡ fields_at (numbers_of bytes) place
  read-numbers place h =
      let ok = (order-fine bytes).0 order in
      let here = fields-of-numbers bytes place h in
      let w = (within-is (fields_at (numbers_of bytes) place)).1 (ok.jobs.within place (rw (numbers-count bytes) h)) in
      ap (λ (m : Moved). read_numbers m.answer) (step-job bytes place ((header-fine bytes).1 ok.header) h (rw here at w))
      ∙ seven-numbers bytes place ∙ sym here

  -- All of them are all numbers of the order.
  pub read_all : flat (λ place. read_numbers (step_of bytes place).answer) (count_of bytes) ≡ numbers_of bytes
  read_all =
      flat-cong (λ place. read_numbers (step_of bytes place).answer) (job_fields bytes) (count_of bytes)
      (λ place h. read-numbers place h ∙ fields-of-numbers bytes place h)
      ∙ sym (numbers-is bytes)
