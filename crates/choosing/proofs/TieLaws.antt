-- What the tie rule does: where the weights differ all rules agree; the two rules differ exactly when the weights are equal and the
-- second opening reaches it earlier; and the sooner rule is fair, exchanging the openings exchanges the winner unless both reach
-- the same weight at once.
use Rattle.std.specs.Prelude.{ℕ, ◌≡◌, refl, Bool, true, false, List, ◌↔◌, ◌≢◌, ltb, ℤ, ◌<ℤ◌, Ok, Err}
use Rattle.std.proofs.Common.{sym, ap, ◌∙◌, arith}
use Rattle.std.proofs.Math.Option.{Option, none, some}
use Rattle.std.specs.Int.Signed.{le_z}
use Rattle.seconds.specs.Signed.{signed}
use Rattle.order.specs.Job.{Point}
use Rattle.packed.specs.Judge.{Verdict as Judged, fine, refused}
use Rattle.ties.specs.Winning.{Chosen, opening_point, TieRule, sooner, to_first, by_points, winner_by}
use Rattle.choosing.specs.Choosing.{choosing_verdict, chosen_by, Asked, winner_of}
use Rattle.ties.proofs.WinningLaws.{first-wins, second-wins, even-first, even-second}
use Rattle.choosing.proofs.WinnerLaws.{checks-passed}
use Rattle.ties.specs.declared.Winner.TheVariants.{First, Second}

-- Both openings have the same weight at the time.
pub record Even (first second : List ℕ) (t : ℤ) : Type 0 where
  pub one : Point
  pub other : Point
  pub first-at : opening_point first t ≡ some one
  pub second_at : opening_point second t ≡ some other
  pub weight : one.weight ≡ other.weight

-- The second reaches it earlier,
pub record SecondSooner (first second : List ℕ) (t : ℤ) : Type 0 where
  pub even : Even first second t
  pub earlier : even.other.time <ℤ even.one.time

-- or both reach it at once.
pub record AtOnce (first second : List ℕ) (t : ℤ) : Type 0 where
  pub even : Even first second t
  pub time : even.one.time ≡ even.other.time

-- The other of two winners.
abbrev pub exchanged : Chosen → Chosen
exchanged (Err r) = Err r
exchanged (Ok First) = Ok Second
exchanged (Ok Second) = Ok First

-- ---- by weight

-- Both are even, or else all tie rules agree and each is fair.
data ByWeight (first second : List ℕ) (t : ℤ) : Type 0 where
  even : Even first second t → ByWeight first second t
  uneven : ((a b : TieRule) → winner_by a first second t ≡ winner_by b first second t)
      → ((rule : TieRule) → winner_by rule second first t ≡ exchanged (winner_by rule first second t)) → ByWeight first second t

module _ (first second : List ℕ) (t : ℤ) where
  by-weight : ByWeight first second t
  by-weight = go (opening_point first t) refl (opening_point second t) refl
    where
      two : (p q : Point) → opening_point first t ≡ some p → opening_point second t ≡ some q
          → (x : Bool) → ltb q.weight p.weight ≡ x → (y : Bool) → ltb p.weight q.weight ≡ y → ByWeight first second t
      two p q d e true f y g =
          let wins : (rule : TieRule) → Ok First ≡ by_points rule (some p) (some q) = λ rule. first-wins rule p q (omega signed) in
          let loses : (rule : TieRule) → Ok Second ≡ by_points rule (some q) (some p) = λ rule. second-wins rule q p (omega signed) in
          uneven (λ a b. rw (d, e) (sym (wins a) ∙ wins b))
          (λ rule. rw (d, e) (sym (loses rule) ∙ ap exchanged (wins rule)))
      two p q d e false f true g =
          let wins : (rule : TieRule) → Ok Second ≡ by_points rule (some p) (some q) = λ rule. second-wins rule p q (omega signed) in
          let loses : (rule : TieRule) → Ok First ≡ by_points rule (some q) (some p) = λ rule. first-wins rule q p (omega signed) in
          uneven (λ a b. rw (d, e) (sym (wins a) ∙ wins b))
          (λ rule. rw (d, e) (sym (loses rule) ∙ ap exchanged (wins rule)))
      two p q d e false f false g =
          even (record { one = p; other = q; first-at = d; second_at = e; weight = omega signed })

      go : (a : Option Point) → opening_point first t ≡ a → (b : Option Point) → opening_point second t ≡ b → ByWeight first second t
      go none d none e = uneven (λ a b. rw (d, e)) (λ rule. rw (d, e))
      go (some p) d none e = uneven (λ a b. rw (d, e)) (λ rule. rw (d, e))
      go none d (some q) e = uneven (λ a b. rw (d, e)) (λ rule. rw (d, e))
      go (some p) d (some q) e = two p q d e (ltb q.weight p.weight) refl (ltb p.weight q.weight) refl

  -- Where the weights differ, or an opening has no point, all tie rules agree.
  pub rules-agree : ¬ Even first second t → (a b : TieRule) → winner_by a first second t ≡ winner_by b first second t
  rules-agree not a b = go by-weight
    where
      go : ByWeight first second t → winner_by a first second t ≡ winner_by b first second t
      go (even e) = absurd (not e)
      go (uneven same fair) = same a b

-- ---- of the same weight

-- The tie rule says who wins.
module _ (rule : TieRule) {first second : List ℕ} {t : ℤ} (e : Even first second t) where
  to_one : rule e.one.time e.other.time ≡ true → winner_by rule first second t ≡ Ok First
  to_one h =
      rw (e.first-at, e.second_at)
      (sym (even-first rule e.one e.other (omega (arith, e.weight)) (omega (arith, e.weight)) h))

  to-other : rule e.one.time e.other.time ≡ false → winner_by rule first second t ≡ Ok Second
  to-other h =
      rw (e.first-at, e.second_at)
      (sym (even-second rule e.one e.other (omega (arith, e.weight)) (omega (arith, e.weight)) h))

abbrev turned : {first second : List ℕ} {t : ℤ} → Even first second t → Even second first t
turned e = record { one = e.other; other = e.one; first-at = e.second_at; second_at = e.first-at; weight = sym e.weight }

-- First and second are two.
two-winners : {X : Type 0} → ◌≡◌ {A = Chosen} (Ok First) (Ok Second) → X
two-winners e = absurd (omega (arith, ap winner_of e))

module _ (first second : List ℕ) (t : ℤ) where
  -- At once: the first, under both rules.
  pub at-once-first : AtOnce first second t → (winner_by sooner first second t ≡ Ok First) × (winner_by to_first first second t ≡ Ok First)
  at-once-first h = (to_one sooner h.even (omega (signed, h.time)), to_one to_first h.even refl)

  -- The second sooner: it wins by the sooner rule, the first by the other.
  pub second-sooner : SecondSooner first second t → (winner_by sooner first second t ≡ Ok Second) × (winner_by to_first first second t ≡ Ok First)
  second-sooner h = (to-other sooner h.even (omega (signed, h.earlier)), to_one to_first h.even refl)

  -- The two rules differ exactly then.
  pub rules-differ : winner_by sooner first second t ≢ winner_by to_first first second t ↔ SecondSooner first second t
  rules-differ = (λ differ. there differ (by-weight first second t), back)
    where
      timed : winner_by sooner first second t ≢ winner_by to_first first second t → (e : Even first second t)
          → (b : Bool) → le_z e.one.time e.other.time ≡ b → SecondSooner first second t
      timed differ e true d = absurd (differ (to_one sooner e d ∙ sym (to_one to_first e refl)))
      timed differ e false d = record { even = e; earlier = omega signed }

      there : winner_by sooner first second t ≢ winner_by to_first first second t → ByWeight first second t → SecondSooner first second t
      there differ (even e) = timed differ e (le_z e.one.time e.other.time) refl
      there differ (uneven same fair) = absurd (differ (same sooner to_first))

      back : SecondSooner first second t → winner_by sooner first second t ≢ winner_by to_first first second t
      back h e = let w = second-sooner h in two-winners (sym w.1 ∙ (sym e ∙ w.0))

  -- The sooner rule is fair: exchanging the openings exchanges the winner, but where both reach the same weight at once.
  pub fair : winner_by sooner second first t ≡ exchanged (winner_by sooner first second t) ↔ ¬ AtOnce first second t
  fair = (there, λ not. back not (by-weight first second t))
    where
      there : winner_by sooner second first t ≡ exchanged (winner_by sooner first second t) → ¬ AtOnce first second t
      there e h =
          let once = to_one sooner (turned h.even) (omega (signed, h.time)) in
          two-winners (sym once ∙ (e ∙ ap exchanged (at-once-first h).0))

      timed : ¬ AtOnce first second t → (e : Even first second t) → (x : Bool) → le_z e.one.time e.other.time ≡ x
          → (y : Bool) → le_z e.other.time e.one.time ≡ y
          → winner_by sooner second first t ≡ exchanged (winner_by sooner first second t)
      timed not e false d y f =
          to_one sooner (turned e) (omega signed) ∙ ap exchanged (sym (to-other sooner e d))
      timed not e true d false f =
          to-other sooner (turned e) f ∙ ap exchanged (sym (to_one sooner e d))
      timed not e true d true f = absurd (not (record { even = e; time = omega signed }))

      back : ¬ AtOnce first second t → ByWeight first second t
          → winner_by sooner second first t ≡ exchanged (winner_by sooner first second t)
      back not (even e) =
          timed not e (le_z e.one.time e.other.time) refl (le_z e.other.time e.one.time) refl
      back not (uneven same fairly) = fairly sooner

-- ---- the calls

-- On the same inputs the answers by the two rules differ exactly when they pass the checks and the second is sooner.
pub asked-differ : {first second : List ℕ} {t : ℤ} {work left end : List ℤ} {r s : Chosen}
    → Asked sooner first second t work r left → Asked to_first first second t work s end
    → r ≢ s ↔ ((choosing_verdict first second work ≡ fine) × SecondSooner first second t)
asked-differ {first} {second} {t} {work} {r = r} {s = s} a b =
    (λ d. there (choosing_verdict first second work) refl (λ e. d (a.answer ∙ (e ∙ sym b.answer))), back)
  where
    there : (v : Judged) → choosing_verdict first second work ≡ v
        → chosen_by v (winner_by sooner first second t) ≢ chosen_by v (winner_by to_first first second t)
        → (choosing_verdict first second work ≡ fine) × SecondSooner first second t
    there fine e d = (e, (rules-differ first second t).0 d)
    there (refused q) e d = absurd (d refl)

    back : (choosing_verdict first second work ≡ fine) × SecondSooner first second t → r ≢ s
    back h e = (rules-differ first second t).1 h.1 (rw h.0 at (sym a.answer ∙ (e ∙ b.answer)))

-- Exchanged openings pass the same checks.
turned-fine : (first second : List ℕ) (work : List ℤ) → choosing_verdict first second work ≡ fine → choosing_verdict second first work ≡ fine
turned-fine first second work e =
    let h = (checks-passed first second work).0 e in
    (checks-passed second first work).1 (h.1, h.0, h.2)

-- With the openings exchanged, past the checks, the answer is the other winner, but where both reach the same weight at once.
pub asked-fair : {first second : List ℕ} {t : ℤ} {work left end : List ℤ} {r s : Chosen}
    → choosing_verdict first second work ≡ fine
    → Asked sooner first second t work r left → Asked sooner second first t work s end
    → s ≡ exchanged r ↔ ¬ AtOnce first second t
asked-fair {first} {second} {t} {work} {r = r} {s = s} passed a b =
    let told : r ≡ winner_by sooner first second t = a.answer ∙ rw passed in
    let other : s ≡ winner_by sooner second first t = b.answer ∙ rw (turned-fine first second work passed) in
    rw (told, other) (fair first second t)
