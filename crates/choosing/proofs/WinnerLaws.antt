-- What it is to win, in the words of the rules: the winner is worth the greater of both, and 11 is given exactly when the other
-- checks are passed and neither opening has a point by the time; and what a refusal names. By every tie rule.
use Rattle.std.specs.Prelude.{ℕ, ◌*◌, ◌≤◌, ◌≡◌, Bool, true, false, cond, List, ◌++◌, ◌↔◌, ◌≢◌, ◌⊎◌, ltb, ℤ, length, drop, ◌≤ℤ◌, Ok, Err}
use Rattle.std.proofs.Math.Path.{refl}
use Rattle.std.proofs.Common.{sym, ap, ◌∙◌, ⊎_elim}
use Rattle.std.proofs.Math.Logic.{inl, inr}
use Rattle.std.proofs.Math.Logic.Iff
use Rattle.std.proofs.Math.Option.{Option, none, some, map}
use Rattle.seconds.specs.Signed.{signed}
use Rattle.order.specs.Job.{Point}
use Rattle.profile.specs.Profile.{greater, worth, order_profile}
use Rattle.profile.proofs.Worth.{lookup-worth, order-rises, Reaches, reaches-from}
use Rattle.packed.specs.declared.Refusal.{Refusal}
use Rattle.packed.specs.Judge.{in_field, Verdict as Judged, fine, refused, judge, or_else, refusal_of}
use Rattle.packed.specs.JudgeLaws.{judge-append, stages-fine, never, given-before}
use Rattle.packed.specs.Layout.{header_bytes, record_bytes}
use Rattle.packed.specs.Places.{flat}
use Rattle.packed.specs.Packed.{count_of, kind_of, numbers_of, record_at, order_of}
use Rattle.packed.proofs.PackedLaws.{flat-records, records-length as all-records}
use Rattle.packed.specs.Refusals.{header_checks, job_checks, weight_checks, room_checks, order_checks}
use Rattle.packed.proofs.RefusalLaws.{room-fine}
use Rattle.packed.proofs.RefusalPlaces.{BadField, no_field, six-order}
use Rattle.packed.proofs.Accepted.{order-fine}
use Rattle.area.specs.Area.{area, cleared}
use Rattle.judge.specs.Told.{stays, told-next, Holds, holds-behind, named-check, named-order}
use Rattle.ties.specs.Winning.{Chosen, opening_point, TieRule, by_points, winner_by}
use Rattle.choosing.specs.Choosing.{choosing_checks, choosing_verdict}
use Rattle.choosing.specs.Choosing.{chosen_by, chosen_of, Asked}
use Rattle.choosing.proofs.ChoosingLaws.{cleared-past}
use Rattle.choosing.proofs.AnswerSays.{won-by, neither-won, plain}
use Rattle.ties.specs.declared.Winner.TheVariants.{First, Second}

-- ---- the winner

-- What an opening is worth at a time: the greatest weight of its profile by then,
abbrev pub opening_worth : List ℕ → ℤ → Option ℕ
opening_worth bytes t = worth (order_profile (order_of bytes)) t

-- which is the weight of its point;
abbrev weight_of : Option Point → Option ℕ
weight_of = map (λ (p : Point). p.weight)

pub point-worth : (bytes : List ℕ) (t : ℤ) → weight_of (opening_point bytes t) ≡ opening_worth bytes t
point-worth bytes t = lookup-worth (order-rises (order_of bytes)) t

-- and the time of its point is the first at which it is worth as much.
pub point-first : (bytes : List ℕ) (t : ℤ) {p : Point} → opening_point bytes t ≡ some p
    → (u : ℤ) → Reaches (order_profile (order_of bytes)) u p.weight ↔ p.time ≤ℤ u
point-first bytes t = reaches-from (order-rises (order_of bytes)) t

-- What the winner is worth, of what each is worth; nothing without a winner.
abbrev pub won_worth : Chosen → Option ℕ → Option ℕ → Option ℕ
won_worth (Err r) a b = none
won_worth (Ok First) a b = a
won_worth (Ok Second) a b = b

won-greater : (rule : TieRule) (a b : Option Point)
    → won_worth (by_points rule a b) (weight_of a) (weight_of b) ≡ greater (weight_of a) (weight_of b)
won-greater rule none none = refl
won-greater rule none (some q) = refl
won-greater rule (some p) none = refl
won-greater rule (some p) (some q) =
    go (ltb q.weight p.weight) refl (ltb p.weight q.weight) refl (rule p.time q.time)
  where
    go : (x : Bool) → ltb q.weight p.weight ≡ x → (y : Bool) → ltb p.weight q.weight ≡ y → (e : Bool)
        → won_worth (Ok (cond x First (cond y Second (cond e First Second)))) (some p.weight) (some q.weight)
        ≡ greater (some p.weight) (some q.weight)
    go true c y d e = ap some (omega signed)
    go false c true d e = ap some (omega signed)
    go false c false d true = ap some (omega signed)
    go false c false d false = ap some (omega signed)

-- By any tie rule the winner is worth the greater of both.
pub winner-greater : (rule : TieRule) (first second : List ℕ) (t : ℤ)
    → won_worth (winner_by rule first second t) (opening_worth first t) (opening_worth second t)
    ≡ greater (opening_worth first t) (opening_worth second t)
winner-greater rule first second t =
    rw (← point-worth first t, ← point-worth second t) (won-greater rule (opening_point first t) (opening_point second t))

-- ---- 11

-- Neither opening has a point by the time: both orders are accepted, and there is room for the lists.
pub record NeitherInTime (first second : List ℕ) (t : ℤ) (work : List ℤ) : Type 0 where
  pub one : judge (order_checks first) ≡ fine
  pub other : judge (order_checks second) ≡ fine
  pub room : area ≤ length work
  pub first-late : opening_point first t ≡ none
  pub second-late : opening_point second t ≡ none

module _ (first second : List ℕ) (work : List ℤ) where
  -- The checks never give 11,
  checks-other : {r : Refusal} → choosing_verdict first second work ≡ refused r → r.number ≢ 11
  unfolding choosing_checks header_checks job_checks weight_checks
  checks-other = never 11 (choosing_checks first second work) tt

  -- and are passed exactly when both orders are accepted and there is room.
  pub checks-passed : choosing_verdict first second work ≡ fine
      ↔ ((judge (order_checks first) ≡ fine) × (judge (order_checks second) ≡ fine) × (area ≤ length work))
  unfolding choosing_checks
  checks-passed =
      let all = stages-fine (order_checks first ++ order_checks second) (room_checks area (length work)) in
      let orders = stages-fine (order_checks first) (order_checks second) in
      let enough = room-fine area (length work) in (
        λ e. ((orders.0 (all.0 e).0).0, (orders.0 (all.0 e).0).1, enough.0 (all.0 e).1),
        λ h. all.1 (orders.1 (h.0, h.1), enough.1 h.2),
      )

module _ (rule : TieRule) (first second : List ℕ) (t : ℤ) (work : List ℤ) where
  -- Every outcome of the question that its contract allows has refusal 11 exactly when neither opening has a point by the time,
  module _ {r : Chosen} {work' : List ℤ} (asked : Asked rule first second t work r work') where
    pub asked-eleven : (refusal_of r).number ≡ 11 ↔ NeitherInTime first second t work
    asked-eleven = (λ e. there (choosing_verdict first second work) refl (ap number (sym asked.answer) ∙ e), back)
      where
        number : Chosen → ℕ
        number c = (refusal_of c).number

        there : (v : Judged) → choosing_verdict first second work ≡ v
            → (refusal_of (chosen_by v (winner_by rule first second t))).number ≡ 11 → NeitherInTime first second t work
        there fine d e =
            let passed = (checks-passed first second work).0 d in
            let late = neither-won (won-by rule (opening_point first t) (opening_point second t)) e in
            record {
              one = passed.0;
              other = passed.1;
              room = passed.2;
              first-late = late.0;
              second-late = late.1;
            }
        there (refused s) d e = absurd (checks-other first second work d e)

        back : NeitherInTime first second t work → (refusal_of r).number ≡ 11
        back h =
            ap number asked.answer
            ∙ rw ((checks-passed first second work).1 (h.one, h.other, h.room), h.first-late, h.second-late)

    -- and the work area is cleared then too.
    pub eleven-clears : (refusal_of r).number ≡ 11 → work' ≡ cleared work
    eleven-clears e =
        let h = asked-eleven.0 e in
        asked.area
        ∙ rw ((checks-passed first second work).1 (h.one, h.other, h.room)) (cleared-past (winner_by rule first second t) work)

-- ---- 6, and what a refusal names

-- Some job of an order that passes 1 to 5 and 19 is out of range; of the first such job this is the first field that is.
abbrev pub BadIn : List ℕ → ℕ → Type 0
BadIn bytes f = (judge (header_checks bytes) ≡ fine) × ((p : ℕ) × BadField (numbers_of bytes) p f)

module _ (first second : List ℕ) (work : List ℤ) where
  -- The checks give it for the first order, or for the second where the first is accepted.
  verdict-six : (p f : ℕ) → choosing_verdict first second work ≡ refused (in_field 6 p f)
      ↔ ((judge (order_checks first) ≡ refused (in_field 6 p f))
      ⊎ ((judge (order_checks first) ≡ fine) × (judge (order_checks second) ≡ refused (in_field 6 p f))))
  unfolding choosing_checks
  verdict-six p f =
      let orders = order_checks first ++ order_checks second in
      Iff.trans (given-before orders (room_checks area (length work)) (in_field 6 p f) tt) (there, back)
    where
      go : (v : Judged) → judge (order_checks first) ≡ v → or_else v (judge (order_checks second)) ≡ refused (in_field 6 p f)
          → (judge (order_checks first) ≡ refused (in_field 6 p f))
          ⊎ ((judge (order_checks first) ≡ fine) × (judge (order_checks second) ≡ refused (in_field 6 p f)))
      go fine d e = inr (d, e)
      go (refused r) d e = inl (d ∙ e)

      there : judge (order_checks first ++ order_checks second) ≡ refused (in_field 6 p f)
          → (judge (order_checks first) ≡ refused (in_field 6 p f))
          ⊎ ((judge (order_checks first) ≡ fine) × (judge (order_checks second) ≡ refused (in_field 6 p f)))
      there e = go (judge (order_checks first)) refl (sym (judge-append (order_checks first) (order_checks second)) ∙ e)

      back : (judge (order_checks first) ≡ refused (in_field 6 p f))
          ⊎ ((judge (order_checks first) ≡ fine) × (judge (order_checks second) ≡ refused (in_field 6 p f)))
          → judge (order_checks first ++ order_checks second) ≡ refused (in_field 6 p f)
      back (inl e) = stays (order_checks first) (order_checks second) e
      back (inr h) = told-next (order_checks first) (order_checks second) h.0 ∙ h.1

  -- The checks name no field but with 6.
  verdict-field : Holds (λ r. r.number ≢ 6 → r.field ≡ 0) (choosing_checks first second work)
  unfolding choosing_checks
  verdict-field =
      let P : Refusal → Type 0 = λ r. r.number ≢ 6 → r.field ≡ 0 in
      holds-behind P (order_checks first ++ order_checks second) (room_checks area (length work))
      (holds-behind P (order_checks first) (order_checks second) (λ r e. no_field (named-order first r e)) (λ r e. no_field (named-order second r e)))
      (λ r e. no_field (named-check (numbers_of first) 10 (ltb (length work) area) refl r e))

module _ (rule : TieRule) (first second : List ℕ) (t : ℤ) (work : List ℤ) where
  module _ {r : Chosen} {work' : List ℤ} (asked : Asked rule first second t work r work') where
    -- Every outcome that the contract allows has 6 with a field exactly when that is the first bad field of the first order, or of
    -- the second where the first is accepted.
    pub asked-six : (f : ℕ) → refusal_of r ≡ in_field 6 0 f ↔ (BadIn first f ⊎ ((judge (order_checks first) ≡ fine) × BadIn second f))
    asked-six f =
        (λ e. there (choosing_verdict first second work) refl (ap refusal_of (sym asked.answer) ∙ e), λ h. ap refusal_of asked.answer ∙ back h)
      where
        either : (p : ℕ) → choosing_verdict first second work ≡ refused (in_field 6 p f)
            → BadIn first f ⊎ ((judge (order_checks first) ≡ fine) × BadIn second f)
        either p e =
            ⊎_elim (λ a. let b = (six-order first p f).0 a in inl (b.0, (p, b.1)))
            (λ h. let b = (six-order second p f).0 h.1 in inr (h.0, (b.0, (p, b.1)))) ((verdict-six first second work p f).0 e)

        there : (v : Judged) → choosing_verdict first second work ≡ v
            → refusal_of (chosen_by v (winner_by rule first second t)) ≡ in_field 6 0 f
            → BadIn first f ⊎ ((judge (order_checks first) ≡ fine) × BadIn second f)
        there fine d e = absurd ((plain (won-by rule (opening_point first t) (opening_point second t))).0 (ap (λ (s : Refusal). s.number) e))
        there (refused s) d e =
            let is : s ≡ in_field 6 s.place f = λ i. in_field (e i).number s.place (e i).field in
            either s.place (d ∙ ap refused is)

        told : {p : ℕ} → choosing_verdict first second work ≡ refused (in_field 6 p f) → refusal_of (chosen_of rule first second t work) ≡ in_field 6 0 f
        told e = rw e

        back : BadIn first f ⊎ ((judge (order_checks first) ≡ fine) × BadIn second f)
            → refusal_of (chosen_of rule first second t work) ≡ in_field 6 0 f
        back (inl b) = told ((verdict-six first second work b.1.0 f).1 (inl ((six-order first b.1.0 f).1 (b.0, b.1.1))))
        back (inr h) =
            let b = h.1 in
            told ((verdict-six first second work b.1.0 f).1 (inr (h.0, (six-order second b.1.0 f).1 (b.0, b.1.1))))

    -- With any other number it names no field, and it never names a place.
    pub asked-names : ((refusal_of r).number ≢ 6 → (refusal_of r).field ≡ 0) × ((refusal_of r).place ≡ 0)
    asked-names = rw asked.answer (go (choosing_verdict first second work) refl)
      where
        go : (v : Judged) → choosing_verdict first second work ≡ v → let s = refusal_of (chosen_by v (winner_by rule first second t)) in
            (s.number ≢ 6 → s.field ≡ 0) × (s.place ≡ 0)
        go fine d = let h = (plain (won-by rule (opening_point first t) (opening_point second t))).1 in (λ e. h.0, h.1)
        go (refused s) d = (verdict-field first second work s d, refl)

-- ---- the part

-- The part of an opening behind its header is the records of all its jobs.
pub records-part : (bytes : List ℕ) → judge (order_checks bytes) ≡ fine
    → drop header_bytes bytes ≡ flat (record_at bytes) (count_of bytes)
records-part bytes e = sym (flat-records bytes (count_of bytes) ((order-fine bytes).0 e).header.whole)

-- It has as many bytes for each of them as its kind says.
pub records-length : (bytes : List ℕ) → judge (order_checks bytes) ≡ fine
    → length (drop header_bytes bytes) ≡ record_bytes (kind_of bytes) * count_of bytes
records-length bytes e = all-records bytes (count_of bytes) ((order-fine bytes).0 e).header.whole
