-- The checks as the code makes them: of a header that was read, of the searches that were made, and stage by stage; and what
-- place and field a refusal by stages has.
use Rattle.std.specs.Prelude.{ℕ, ◌+◌, ◌*◌, ◌≤◌, ◌<◌, refl, Bool, false, not, cond, List, [], ◌∷◌, ◌++◌, ltb, eqb, ℤ, pos, length, take}
use Rattle.std.proofs.Math.Path.{◌≡◌}
use Rattle.std.proofs.Common.{sym, ap, ◌∙◌, arith, length-take-le, get_or-take, lt-ltb, le-ltb}
use Rattle.seconds.specs.Ranges.{is_time}
use Rattle.packed.specs.declared.Refusal.{Refusal}
use Rattle.packed.specs.Judge.{plainly, Check, Verdict, fine, refused, judge, or_else, check}
use Rattle.packed.specs.JudgeLaws.{judge-append, judge-tells}
use Rattle.order.specs.Job.{weight_of}
use Rattle.packed.specs.Layout.{record_bytes}
use Rattle.packed.specs.Packed.{header_of, count_of, numbers_of, job_count, jobs_of}
use Rattle.packed.specs.Refusals.{header_checks, list_checks, job_checks, weight_checks, room_checks, order_checks, first_repeat}
use Rattle.packed.proofs.RefusalLaws.{header-fine, list-fine}
use Rattle.packed.proofs.RefusalPlaces.{has_place, RefusalIs, nowhere, unpack-refusal, SixIs, six-behind}
use Rattle.packed.proofs.Steps.{header-judge, jobs-judge}
use Rattle.fields.specs.Facts.{HeaderRead, header_read, record-in}
use Rattle.fields.specs.Fields.{header_fields}
use Rattle.fields.specs.declared.Header.{Header}
use Rattle.jobs.specs.Held.{RecordsStand, AllGiven}
use Rattle.judge.specs.Verdicts.{kind_judged, AllIn, repeats_judged, sum_judged}
use Rattle.repeats.specs.Repeats.{first_again}
use Rattle.repeats.specs.RepeatLaws.{repeat-again}

-- ---- the header

-- 1 to 5 and 19 of the header that was read.
pub header-told : (bytes : List ℕ) (h : Header) → HeaderRead bytes h → judge (header_checks bytes)
    ≡ cond (ltb (length bytes) 4) (refused (plainly 1))
    (cond (ltb 1 h.kind) (refused (plainly 2))
    (cond (ltb 48 h.count) (refused (plainly 3))
    (cond (not (eqb (length bytes) (4 + record_bytes h.kind * h.count))) (refused (plainly 4))
    (cond (not (is_time h.t0)) (refused (plainly 5)) (kind_judged bytes)))))
header-told bytes h r = rw (r.count, r.t0, r.kind) (header-judge bytes)

-- Past 3 to 5, the numbers are those of jobs.
pub given-told : (t0 : ℤ) (zs : List ℤ) → judge (list_checks t0 zs) ≡ fine → AllGiven zs
unfolding job_count
given-told t0 zs passed = let f = (list-fine t0 zs).0 passed in record { few = f.few; whole = f.whole }

-- Past 1 to 5, the records stand in the bytes.
pub records-told : (bytes : List ℕ) (h : Header) → header_fields h ≡ header_of bytes → judge (header_checks bytes) ≡ fine
    → RecordsStand bytes h.count h.kind
records-told bytes h e passed =
    let f = (header-fine bytes).0 passed in
    let r = header_read bytes h e in
    record {
      few = omega (arith, r.count, f.few);
      counted = r.count;
      kinded = r.kind;
      there = λ k b. record-in bytes k f (omega (arith, r.count));
    }

-- ---- stages

-- Past the first of two stages, the second tells.
pub told-next : (cs ds : List Check) → judge cs ≡ fine → judge (cs ++ ds) ≡ judge ds
told-next cs ds e = rw (judge-append cs ds, e)

-- A refusal stays the verdict, whatever is judged behind it.
pub stays : (cs ds : List Check) {r : Refusal} → judge cs ≡ refused r → judge (cs ++ ds) ≡ refused r
stays cs ds e = rw (judge-append cs ds, e)

-- Of three.
pub first-refused : (cs ds es : List Check) {r : Refusal} → judge cs ≡ refused r → judge (cs ++ ds ++ es) ≡ refused r
first-refused cs ds es e = stays (cs ++ ds) es (stays cs ds e)

-- ---- 6, 7 and 9

-- None is out of range, and the jobs are gathered: 6 and 7 are judged by their numbers.
pub jobs-told : (zs : List ℤ) (numbers : List ℕ) (weight count : ℕ) → AllIn zs numbers weight → count ≡ job_count zs
    → count ≤ length numbers → judge (job_checks zs) ≡ repeats_judged (take count numbers)
jobs-told zs numbers weight count all counted room =
    let long : length (take count numbers) ≡ count = length-take-le count numbers room in
    let again : first_repeat zs ≡ first_again (take count numbers) =
    repeat-again zs (take count numbers) (long ∙ counted)
    (λ k h. let b : k < count = omega arith in
    all.gathered k (omega (arith, counted)) ∙ ap pos (sym (get_or-take count numbers k 0 b))) in
    rw (
      jobs-judge zs,
      all.none-bad,
      le-ltb (job_count zs) (job_count zs) (omega arith),
      again,
      long ∙ counted,
    )

-- Past 6 and 7, 9 is judged by the weight.
pub weight-told : (zs : List ℤ) (before weight : ℕ) → weight ≡ weight_of (jobs_of zs)
    → judge (weight_checks before zs) ≡ sum_judged before weight
unfolding weight_checks
weight-told zs before weight e = rw e

-- The stages of an order: what is judged first, 6 and 7, and 9.
module _ (cs : List Check) (zs : List ℤ) (before : ℕ) where
  abbrev pub three : List Check
  three = cs ++ job_checks zs ++ weight_checks before zs

  -- Refused at first (`first-refused`),
  module _ (passed : judge cs ≡ fine) where
    -- by 6 or 7,
    pub jobs-refused : {r : Refusal} → judge (job_checks zs) ≡ refused r → judge three ≡ refused r
    jobs-refused e = stays (cs ++ job_checks zs) (weight_checks before zs) (told-next cs (job_checks zs) passed ∙ e)

    -- and past them by 9 alone.
    pub sum-left : {weight : ℕ} → (judge (job_checks zs) ≡ fine) × (weight ≡ weight_of (jobs_of zs)) → judge three ≡ sum_judged before weight
    sum-left {weight} told =
        told-next (cs ++ job_checks zs) (weight_checks before zs) (told-next cs (job_checks zs) passed ∙ told.0)
        ∙ weight-told zs before weight told.1

-- The last two stages, of any call: there is not enough room in the first buffer, or in the second, or there is in both.
module _ (cs : List Check) (passed : judge cs ≡ fine) (need room more space : ℕ) where
  abbrev pub with_rooms : List Check
  with_rooms = cs ++ room_checks need room ++ room_checks more space

  pub no_room : room < need → judge with_rooms ≡ refused (plainly 10)
  no_room h =
      stays (cs ++ room_checks need room) (room_checks more space)
      (told-next cs (room_checks need room) passed ∙ rw (lt-ltb room need h))

  module _ (enough : need ≤ room) where
    first_fine : judge (cs ++ room_checks need room) ≡ fine
    first_fine = told-next cs (room_checks need room) passed ∙ rw (le-ltb room need enough)

    pub no-space : space < more → judge with_rooms ≡ refused (plainly 10)
    no-space h = told-next (cs ++ room_checks need room) (room_checks more space) first_fine ∙ rw (lt-ltb space more h)

    pub all-fine : more ≤ space → judge with_rooms ≡ fine
    all-fine h = told-next (cs ++ room_checks need room) (room_checks more space) first_fine ∙ rw (le-ltb space more h)

-- ---- the place and the field of a refusal

-- P holds of every refusal of some checks.
abbrev pub Holds : (Refusal → Type 0) → List Check → Type 0
Holds P cs = (r : Refusal) → judge cs ≡ refused r → P r

-- One stage behind another.
pub holds-behind : (P : Refusal → Type 0) (cs ds : List Check) → Holds P cs → Holds P ds → Holds P (cs ++ ds)
holds-behind P cs ds first second r e = go (judge cs) refl (sym (judge-append cs ds) ∙ e)
  where
    go : (v : Verdict) → judge cs ≡ v → or_else v (judge ds) ≡ refused r → P r
    go fine d f = second r f
    go (refused s) d f = first r (d ∙ f)

-- Each names what it should: a place with 6, 7 or 13, a field with 6.
abbrev pub Named : List ℤ → List Check → Type 0
Named zs cs = Holds (RefusalIs zs) cs

-- A check with no place.
pub named-check : (zs : List ℤ) (m : ℕ) (b : Bool) → has_place m ≡ false → Named zs (check m b ∷ [])
named-check zs m b none r = judge-tells (RefusalIs zs) (check m b ∷ []) (λ e. nowhere none, tt)

pub named-rooms : (zs : List ℤ) (cs : List Check) (need room more space : ℕ) → Named zs cs
    → Named zs (cs ++ room_checks need room ++ room_checks more space)
named-rooms zs cs need room more space first =
    holds-behind (RefusalIs zs) (cs ++ room_checks need room) (room_checks more space)
    (holds-behind (RefusalIs zs) cs (room_checks need room) first (named-check zs 10 (ltb room need) refl))
    (named-check zs 10 (ltb space more) refl)

-- The order's own checks name what unpacking names.
pub named-order : (bytes : List ℕ) → Named (numbers_of bytes) (order_checks bytes)
named-order bytes r e = unpack-refusal bytes 0 (stays (order_checks bytes) (room_checks (7 * count_of bytes) 0) e)

-- The two rooms keep when 6 is given.
pub six-rooms : (zs : List ℤ) (before cs : List Check) (need room more space : ℕ) → SixIs zs before cs
    → SixIs zs before (cs ++ room_checks need room ++ room_checks more space)
six-rooms zs before cs need room more space six =
    six-behind zs before (cs ++ room_checks need room) (room_checks more space) tt (six-behind zs before cs (room_checks need room) tt six)
