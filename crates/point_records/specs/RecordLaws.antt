-- What copying records and laying them out keeps, and that as many records as are read decide the answer.
use Rattle.std.specs.Prelude.{ℕ, suc, ◌+◌, ◌*◌, ◌≤◌, ◌<◌, min, ◌≡◌, refl, Bool, true, false, List, [], ◌∷◌, ◌++◌, leb, ℤ, length, get_or, set, take, drop, Err}
use Rattle.std.proofs.Common.{sym, ap, ◌∙◌, append-nil, arith, drop_of_length-le, take-suc, take-suc-set, take_all, length-take-le, drop-cons, get_or-take}
use Rattle.std.proofs.Math.Seq.{take-length}
use Rattle.seconds.specs.Limits.{most_points}
use Rattle.seconds.specs.Signed.{signed}
use Rattle.refusals.specs.declared.Reason.TheVariants.{ProfileNotValid}
use Rattle.profiles.specs.Answer.{lookup_of}
use Rattle.profiles.specs.AnswerLaws.{lookup-refused}
use Rattle.profiles.specs.OnePass.{holds-long}
use Rattle.profiles.specs.Writing.{Writing, writing-two}
use Rattle.point_records.specs.Records.{flattened, most_read, most_passed}
use Rattle.point_records.specs.declared.Point.{Point}

-- ---- copying

-- A record copied to the next place: one more is alike.
pub copy_more : (rs ps : List Point) (i : ℕ) (d : Point) → i < length rs → i < length ps → take i rs ≡ take i ps
    → take (i + 1) (set rs i (get_or ps i d)) ≡ take (i + 1) ps
copy_more rs ps i d there here alike =
    let p : Point = get_or ps i d in
    let e : i + 1 ≡ suc i = omega arith in
    rw e (take-suc-set rs i p there ∙ ap (λ (l : List Point). l ++ (p ∷ [])) alike ∙ sym (take-suc ps i d here))

-- ---- laying out

-- The numbers of the records from a place on begin with the two of the record there.
flattened-next : (ps : List Point) (i : ℕ) (d : Point) → i < length ps
    → flattened (drop i ps) ≡ (get_or ps i d).time ∷ (get_or ps i d).weight ∷ flattened (drop (i + 1) ps)
flattened-next ps i d h =
    let e : i + 1 ≡ suc i = omega arith in
    rw e (ap flattened (drop-cons ps i d h))

-- With i of the first n records written as numbers, the others are still to be written.
abbrev pub Laid : List Point → ℕ → ℕ → List ℤ → List ℤ → Type 0
Laid rs n i out was = Writing (flattened (take n rs)) (flattened (drop i (take n rs))) (2 * i) out was

-- The next record's two numbers put in their places: one more is written.
pub lay-more : (rs : List Point) (n i : ℕ) (d : Point) {out was : List ℤ} → i < n → n ≤ length rs → 2 * i + 1 < length out
    → Laid rs n i out was → Laid rs n (i + 1) (set (set out (2 * i) (get_or rs i d).time) (2 * i + 1) (get_or rs i d).weight) was
lay-more rs n i d below few room laid =
    let f : 2 * (i + 1) ≡ 2 * i + 2 = omega arith in
    let next = flattened-next (take n rs) i d (rw (length-take-le n rs few) below) in
    let laid' = rw (next, get_or-take n rs i d below) at laid in
    rw f (writing-two (get_or rs i d).time (get_or rs i d).weight room laid')

-- With all of them written, their numbers stand in front.
pub laid-all : (rs : List Point) (n : ℕ) {out was : List ℤ} → n ≤ length rs → Laid rs n n out was
    → take (2 * n) out ≡ flattened (take n rs)
laid-all rs n {out = out} few laid =
    let done : drop n (take n rs) ≡ [] = drop_of_length-le (take n rs) {i = n} (omega (arith, length-take-le n rs few)) in
    sym (laid.front ∙ rw done (append-nil (take (2 * n) out)))

-- ---- how many are read

-- Two numbers a record.
flattened-length : (ps : List Point) → length (flattened ps) ≡ 2 * length ps
flattened-length [] = refl
flattened-length (p ∷ ps) = omega (arith, flattened-length ps)

-- More records than a profile has points are no valid profile,
too_many_lem : (ps : List Point) (t : ℤ) → most_points < length ps → lookup_of (flattened ps) t ≡ Err ProfileNotValid
too_many_lem ps t h = lookup-refused (flattened ps) t (holds-long (flattened ps) (omega (arith, flattened-length ps)))

-- so the records that are read decide the answer.
pub read-decides : (ps : List Point) (t : ℤ)
    → lookup_of (flattened (take (min (length ps) most_read) ps)) t ≡ lookup_of (flattened ps) t
read-decides ps t = go (leb (length ps) most_read) refl
  where
    go : (b : Bool) → leb (length ps) most_read ≡ b
        → lookup_of (flattened (take (min (length ps) most_read) ps)) t ≡ lookup_of (flattened ps) t
    go true e =
        let all : min (length ps) most_read ≡ length ps = omega signed in
        rw (all, take-length ps) refl
    go false e =
        let some : min (length ps) most_read ≡ most_read = omega signed in
        let cut = too_many_lem (take most_read ps) t (rw (length-take-le most_read ps (omega signed)) (omega arith)) in
        rw some (cut ∙ sym (too_many_lem ps t (omega signed)))

-- Of records that are passed by value no more are taken than there are.
pub few-taken : (ps : List Point) (n : ℕ) → length ps ≡ most_passed → take (min n most_passed) ps ≡ take n ps
few-taken ps n full = go (leb n most_passed) refl
  where
    go : (b : Bool) → leb n most_passed ≡ b → take (min n most_passed) ps ≡ take n ps
    go true e =
        let few : min n most_passed ≡ n = omega signed in
        rw few refl
    go false e =
        let all : min n most_passed ≡ most_passed = omega signed in
        rw all (take_all most_passed ps (omega (arith, full)) ∙ sym (take_all n ps (omega (signed, full))))
