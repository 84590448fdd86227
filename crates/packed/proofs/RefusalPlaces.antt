-- The place and the field that each refusal names, and when refusal 6 is given.
use Rattle.std.specs.Prelude.{ℕ, ◌+◌, ◌*◌, ◌≤◌, ◌<◌, ◌≡◌, refl, Bool, true, false, not, ◌&&◌, ◌||◌, ◌↔◌, ◌≢◌, List, [], ◌∷◌, ◌++◌, T, eqb, ℤ}
use Rattle.std.proofs.Common.{sym, ap, subst, ◌∙◌, true≢false, arith, eqb→eq, ltb-true, lt-ltb}
use Rattle.std.proofs.Math.Logic.Iff
use Rattle.std.specs.Float.Ieee.Bits.{is_true}
use Rattle.std.specs.Float.Ieee.Fits.{and_l, and_r}
use Rattle.std.proofs.lemmas.Bool.{not-true}
use Rattle.order.specs.Halves.{offends_at}
use Rattle.packed.specs.declared.Refusal.{Refusal}
use Rattle.packed.specs.Layout.{record_bytes}
use Rattle.packed.proofs.LayoutLaws.{AreBytes}
use Rattle.packed.specs.PlacesLaws.{IsFirst, first-unique}
use Rattle.packed.specs.Packed.{count_of, numbers_of, kind_for, job_count, fields_at, jobs_of}
use Rattle.packed.proofs.PackedLaws.{numbers-count, fields-of-numbers}
use Rattle.packed.specs.Judge.{in_field, at_place, plainly, Check, Verdict, fine, refused, judge}
use Rattle.packed.specs.JudgeLaws.{Tells, tells-append, judge-tells, without, given-before, given-behind}
use Rattle.packed.specs.Refusals.{bad_field, bad_at, first_bad, repeated_at, header_checks, list_checks, job_checks, weight_checks}
use Rattle.packed.specs.Refusals.{halves_checks, room_checks, order_checks, number_checks, unpack_checks, pack_checks}
use Rattle.packed.proofs.RefusalLaws.{bad-is-first, repeat-is-first, offending-is-first}
use Rattle.packed.proofs.FieldLaws.{FieldIs, field-unique, bad-field-is, bytes-field}
use Rattle.packed.proofs.Steps.{jobs-judge}

-- The first job out of range stands at a place, and this is its first field that is.
pub record BadField (zs : List ℤ) (p f : ℕ) : Type 0 where
  pub first : IsFirst (bad_at zs) 0 (job_count zs) p
  pub there : p < job_count zs
  pub field : FieldIs (fields_at zs p) f

-- In bytes the field is that of the weight or one behind it.
pub bytes-bad-field : (bytes : List ℕ) → AreBytes bytes → (p f : ℕ) → BadField (numbers_of bytes) p f → (4 ≤ f) × (f ≤ 7)
bytes-bad-field bytes all p f b =
    let there : p < count_of bytes = omega (arith, b.there, numbers-count bytes) in
    bytes-field bytes all p f (rw (fields-of-numbers bytes p there) at b.field)

-- The refusals that have a place.
abbrev pub has_place : ℕ → Bool
has_place n = eqb n 6 || (eqb n 7 || eqb n 13)

-- With 6 it is the first job out of range, and the field is its first that is; with 7 the first number that stood earlier, with
-- 13 the first job that offends in an order of halves, else 0. No refusal but 6 names a field.
pub data RefusalIs (zs : List ℤ) : Refusal → Type 0 where
  bad : {p f : ℕ} → BadField zs p f → RefusalIs zs (in_field 6 p f)
  repeated : {p : ℕ} → IsFirst (repeated_at zs) 0 (job_count zs) p → p < job_count zs → RefusalIs zs (at_place 7 p)
  offending : {p : ℕ} → IsFirst (offends_at (jobs_of zs)) 0 (job_count zs) p → p < job_count zs → RefusalIs zs (at_place 13 p)
  nowhere : {n : ℕ} → has_place n ≡ false → RefusalIs zs (plainly n)

-- With 6 a job is out of range, and place and field are as they should be.
pub six-bad : {zs : List ℤ} {r : Refusal} → RefusalIs zs r → r.number ≡ 6 → BadField zs r.place r.field
six-bad (bad b) e = b
six-bad (repeated i l) e = absurd (omega arith)
six-bad (offending i l) e = absurd (omega arith)
six-bad (nowhere none) e = absurd (true≢false (rw e at none))

-- The field is 0 with every other number.
pub no_field : {zs : List ℤ} {r : Refusal} → RefusalIs zs r → r.number ≢ 6 → r.field ≡ 0
no_field (bad b) h = absurd (h refl)
no_field (repeated i l) h = refl
no_field (offending i l) h = refl
no_field (nowhere e) h = refl

-- ---- the stages

-- Checks that have no place and no field.
abbrev unplaced : List Check → Bool
unplaced [] = true
unplaced (c ∷ cs) =
    eqb c.says.place 0 && (eqb c.says.field 0 && (not (has_place c.says.number) && unplaced cs))

unplaced-tell : (zs : List ℤ) (cs : List Check) → T (unplaced cs) → Tells (RefusalIs zs) cs
unplaced-tell zs [] t = tt
unplaced-tell zs (c ∷ cs) t =
    let place : c.says.place ≡ 0 = eqb→eq c.says.place 0 (search and_l) in
    let field : c.says.field ≡ 0 = eqb→eq c.says.field 0 (search (and_l, and_r)) in
    let none : T (not (has_place c.says.number)) = search (and_l, and_r) in
    let same : plainly c.says.number ≡ c.says = λ i. in_field c.says.number (sym place i) (sym field i) in (
      λ e. subst (RefusalIs zs) same (nowhere {n = c.says.number} (not-true _ (is_true _ none))),
      unplaced-tell zs cs (search (and_l, and_r)),
    )

-- A place that the search for a job out of range found is that of a bad field.
bad-found : (zs : List ℤ) {p : ℕ} → IsFirst (bad_at zs) 0 (job_count zs) p → p < job_count zs
    → BadField zs p (bad_field (fields_at zs p))
bad-found zs i l =
    record { first = i; there = l; field = bad-field-is (fields_at zs _) (not-true _ (i.passes l)) }

jobs-tell : (zs : List ℤ) → Tells (RefusalIs zs) (job_checks zs)
unfolding job_checks
jobs-tell zs = (
  λ e. bad (bad-found zs (bad-is-first zs) (ltb-true _ _ e)),
  (λ e. repeated (repeat-is-first zs) (ltb-true _ _ e), tt),
)

pub halves-tell : (zs : List ℤ) → Tells (RefusalIs zs) (halves_checks zs)
unfolding halves_checks
halves-tell zs = (λ e. offending (offending-is-first zs) (ltb-true _ _ e), tt)

-- A stage with no places, then 6, 7, 9 and 10.
module _ (zs : List ℤ) (cs : List Check) (none : T (unplaced cs)) (need room : ℕ) where
  jobs-stage : Tells (RefusalIs zs) (cs ++ job_checks zs)
  jobs-stage = tells-append (RefusalIs zs) cs (job_checks zs) (unplaced-tell zs cs none) (jobs-tell zs)

  weight-stage : Tells (RefusalIs zs) (cs ++ job_checks zs ++ weight_checks 0 zs)
  unfolding weight_checks
  weight-stage =
      tells-append (RefusalIs zs) (cs ++ job_checks zs) (weight_checks 0 zs) jobs-stage (unplaced-tell zs (weight_checks 0 zs) tt)

  room-stage : Tells (RefusalIs zs) (cs ++ job_checks zs ++ weight_checks 0 zs ++ room_checks need room)
  room-stage =
      tells-append (RefusalIs zs) (cs ++ job_checks zs ++ weight_checks 0 zs) (room_checks need room) weight-stage
      (unplaced-tell zs (room_checks need room) tt)

-- The refusals of unpacking.
pub unpack-refusal : (bytes : List ℕ) (room : ℕ) {r : Refusal} → judge (unpack_checks bytes room) ≡ refused r
    → RefusalIs (numbers_of bytes) r
unfolding header_checks
unpack-refusal bytes room e =
    judge-tells (RefusalIs (numbers_of bytes)) (unpack_checks bytes room)
    (room-stage (numbers_of bytes) (header_checks bytes) tt (7 * count_of bytes) room) e

-- The refusals of packing.
pub pack-refusal : (t0 : ℤ) (zs : List ℤ) (room : ℕ) {r : Refusal} → judge (pack_checks t0 zs room) ≡ refused r → RefusalIs zs r
unfolding list_checks
pack-refusal t0 zs room e =
    judge-tells (RefusalIs zs) (pack_checks t0 zs room) (room-stage zs (list_checks t0 zs) tt (4 + record_bytes (kind_for zs) * job_count zs) room) e

-- ---- exactly when 6 is given

-- Checks give 6 exactly when a first stage is passed and a job is out of range, with the first such place and its first field.
abbrev pub SixIs : List ℤ → List Check → List Check → Type 0
SixIs zs before cs = (p f : ℕ) → judge cs ≡ refused (in_field 6 p f) ↔ ((judge before ≡ fine) × BadField zs p f)

-- So do checks with a stage behind them that has no 6.
pub six-behind : (zs : List ℤ) (before cs ds : List Check) → T (without 6 ds) → SixIs zs before cs → SixIs zs before (cs ++ ds)
six-behind zs before cs ds none six p f = Iff.trans (given-before cs ds (in_field 6 p f) none) (six p f)

-- 6 and 7 behind a stage that has no 6.
pub six-jobs : (zs : List ℤ) (before : List Check) → T (without 6 before) → SixIs zs before (before ++ job_checks zs)
six-jobs zs before none p f =
    let behind = given-behind before (job_checks zs) (in_field 6 p f) none in
    (λ e. ((behind.0 e).0, found (behind.0 e).1), λ h. behind.1 (h.0, back h.1))
  where
    found : judge (job_checks zs) ≡ refused (in_field 6 p f) → BadField zs p f
    found e = six-bad (judge-tells (RefusalIs zs) (job_checks zs) (jobs-tell zs) e) refl

    back : BadField zs p f → judge (job_checks zs) ≡ refused (in_field 6 p f)
    back b =
        let here : first_bad zs ≡ p = first-unique (bad_at zs) 0 (job_count zs) (first_bad zs) p (bad-is-first zs) b.first in
        let its : bad_field (fields_at zs p) ≡ f =
        field-unique (fields_at zs p) _ f (bad-found zs b.first b.there).field b.field in
        rw (jobs-judge zs, here, lt-ltb p (job_count zs) b.there, its)

-- 9 behind them.
six-weighed : (zs : List ℤ) (before : List Check) → T (without 6 before)
    → SixIs zs before (before ++ job_checks zs ++ weight_checks 0 zs)
unfolding weight_checks
six-weighed zs before none = six-behind zs before (before ++ job_checks zs) (weight_checks 0 zs) tt (six-jobs zs before none)

-- Those of an order, in bytes
pub six-order : (bytes : List ℕ) → SixIs (numbers_of bytes) (header_checks bytes) (order_checks bytes)
unfolding header_checks
six-order bytes = six-weighed (numbers_of bytes) (header_checks bytes) tt

-- and in numbers.
pub six-numbers : (t0 : ℤ) (zs : List ℤ) → SixIs zs (list_checks t0 zs) (number_checks t0 zs)
unfolding list_checks
six-numbers t0 zs = six-weighed zs (list_checks t0 zs) tt

-- ---- what an answer tells by its verdict

-- A refusal of the checks is the answer's own, and what is told where they are passed names what it should.
module _ (zs : List ℤ) (told : Verdict → Refusal) (own : (r : Refusal) → told (refused r) ≡ r) (passed : RefusalIs zs (told fine)) where
  -- Then the answer's refusal names what it should,
  pub answer-refusal : (v : Verdict) → ((r : Refusal) → v ≡ refused r → RefusalIs zs r) → RefusalIs zs (told v)
  answer-refusal fine named = passed
  answer-refusal (refused r) named = rw (own r) (named r refl)

  -- and it is a refusal that is never told past the checks exactly when they give it.
  pub answer-says : (s : Refusal) → (told fine).number ≢ s.number → (v : Verdict) → told v ≡ s ↔ (v ≡ refused s)
  answer-says s other v = (there v, λ e. rw e (own s))
    where
      there : (v : Verdict) → told v ≡ s → v ≡ refused s
      there fine e = absurd (other (ap (λ (r : Refusal). r.number) e))
      there (refused r) e = ap refused (sym (own r) ∙ e)
