-- The laws of orders of halves: a partner, an offending place and an order of halves in plain words, and that the optional
-- seconds lost are 60 for each weight lost.
use Rattle.std.specs.Prelude.{ℕ, zero, suc, ◌+◌, ◌*◌, ◌≤◌, ◌<◌, ◌≡◌, refl, Bool, true, false, not, cond, ◌&&◌, ◌||◌, ◌↔◌, ◌≢◌, List, [], ◌∷◌, ◌++◌, leb, ltb, eqb, ℤ, length, take}
use Rattle.std.proofs.Common.{sym, ◌∙◌, true≢false, arith, eqb-true, eq-eqb, ltb-true, ltb-false}
use Rattle.std.proofs.Math.Bool.{or-false, and-eq-true_iff}
use Rattle.std.proofs.lemmas.Bool.{false≢true, eqb-false, not-false}
use Rattle.std.proofs.Math.Option.{Option, none, some, none-ne-some, some-injective}
use Rattle.std.proofs.Math.ListN.{get_elem?}
use borrow.Table.Steps.{cases}
use Rattle.seconds.specs.Limits.{highest_half, halves_apart, seconds_per_weight}
use Rattle.seconds.specs.Signed.{signed}
use Rattle.order.specs.Job.{Rate, Job, length_of, rate_of, allowed, bus_free, loss_of}
use Rattle.order.specs.Choice.{Choice, feasible, lost_weight}
use Rattle.order.proofs.Moves.{left-out-loses, kept-loses-none}
use Rattle.order.specs.Halves.{is_half, is_partner, has_partner, offends, offends_at, lost_by, seconds_lost}

-- ---- partners

-- p is the critical half that j belongs to.
pub record Partner (j p : Job) : Type 0 where
  pub critical : p.critical ≡ true
  pub half : p.number ≤ highest_half
  pub apart : j.number ≡ p.number + halves_apart

-- The test says so.
pub partner-is : (j p : Job) → is_partner j p ≡ true ↔ Partner j p
partner-is j p = (there, back)
  where
    there : is_partner j p ≡ true → Partner j p
    there e =
        let a = (and-eq-true_iff (is_half p) _).0 e in
        let b = (and-eq-true_iff p.critical _).0 a.0 in
        record { critical = b.0; half = omega (signed, b.1); apart = eqb-true _ _ a.1 }

    back : Partner j p → is_partner j p ≡ true
    back h =
        let half : leb p.number highest_half ≡ true = omega (signed, h.half) in
        rw (h.critical, half, eq-eqb _ _ h.apart)

-- One of the jobs before a place is.
pub record PartnerBefore (js : List Job) (k : ℕ) (j : Job) : Type 0 where
  pub place : ℕ
  pub partner : Job
  pub earlier : place < k
  pub stands : get_elem? js place ≡ some partner
  pub belongs : Partner j partner

-- The search among them says so.
pub has-is : (j : Job) (js : List Job) (k : ℕ) → has_partner j (take k js) ≡ true ↔ PartnerBefore js k j
has-is j js k = (there js k, back js k)
  where
    there : (js : List Job) (k : ℕ) → has_partner j (take k js) ≡ true → PartnerBefore js k j
    there [] zero e = absurd (false≢true e)
    there [] (suc k) e = absurd (false≢true e)
    there (q ∷ js) zero e = absurd (false≢true e)
    there (q ∷ js) (suc k) e = cases (is_partner j q)
        (λ y. record { place = 0; partner = q; earlier = omega arith; stands = refl; belongs = (partner-is j q).0 y })
        (λ n. let h = there js k (rw n at e) in
        record {
          place = suc h.place;
          partner = h.partner;
          earlier = omega (arith, h.earlier);
          stands = h.stands;
          belongs = h.belongs;
        })

    at-place : (js : List Job) (k i : ℕ) (p : Job) → i < k → get_elem? js i ≡ some p → Partner j p
        → has_partner j (take k js) ≡ true
    at-place [] k i p l s b = absurd (none-ne-some p s)
    at-place (q ∷ js) zero i p l s b = absurd (omega arith)
    at-place (q ∷ js) (suc k) zero p l s b =
        let yes : is_partner j q ≡ true = (partner-is j q).1 (rw (some-injective q p s) b) in
        rw yes
    at-place (q ∷ js) (suc k) (suc i) p l s b =
        let later = at-place js k i p (omega arith) s b in
        cases (is_partner j q) (λ y. rw y) (λ n. rw n later)

    back : (js : List Job) (k : ℕ) → PartnerBefore js k j → has_partner j (take k js) ≡ true
    back js k h = at-place js k h.place h.partner h.earlier h.stands h.belongs

-- Among one job more: it was there, or that job is.
pub has_more : (j : Job) (l : List Job) (p : Job) → has_partner j (l ++ (p ∷ [])) ≡ (has_partner j l || is_partner j p)
has_more j [] p = or-false (is_partner j p)
has_more j (q ∷ l) p = cases (is_partner j q) (λ y. rw y) (λ n. rw n (has_more j l p))

-- ---- an offending place

-- A place offends: its critical job is numbered above 31, or its non-critical job has another length than 60 seconds times its
-- weight, or no partner before it.
pub data Offends (js : List Job) (k : ℕ) : Type 0 where
  high : (j : Job) → get_elem? js k ≡ some j → j.critical ≡ true → highest_half < j.number → Offends js k
  long : (j : Job) → get_elem? js k ≡ some j → j.critical ≡ false → length_of j ≢ seconds_per_weight * j.weight → Offends js k
  alone : (j : Job) → get_elem? js k ≡ some j → j.critical ≡ false → ¬ PartnerBefore js k j → Offends js k

-- A place does not: its critical job is numbered 0 to 31, its non-critical job has that length and a partner before it.
pub record Agrees (js : List Job) (k : ℕ) (j : Job) : Type 0 where
  pub critical : j.critical ≡ true → j.number ≤ highest_half
  pub takes : j.critical ≡ false → length_of j ≡ seconds_per_weight * j.weight
  pub partner : j.critical ≡ false → PartnerBefore js k j

-- What the test asks of a critical job, and of any other.
first_taken : (c x y : Bool) → c ≡ true → cond c x y ≡ x
first_taken c x y e = rw e

second-taken : (c x y : Bool) → c ≡ false → cond c x y ≡ y
second-taken c x y e = rw e

module _ (earlier : List Job) (j : Job) where
  abbrev high-test : Bool
  high-test = ltb highest_half j.number

  abbrev half-test : Bool
  half-test = eqb (length_of j) (seconds_per_weight * j.weight) && has_partner j earlier

  critical-asks : j.critical ≡ true → offends earlier j ≡ high-test
  critical-asks c = first_taken j.critical high-test (not half-test) c

  optional-asks : j.critical ≡ false → offends earlier j ≡ not half-test
  optional-asks c = second-taken j.critical high-test (not half-test) c

-- A job that the test passes agrees, and one that it does not offends.
agrees : (js : List Job) (k : ℕ) (j : Job) → offends (take k js) j ≡ false → Agrees js k j
agrees js k j e = cases j.critical
    (λ c. record {
      critical = λ h. ltb-false _ _ (sym (critical-asks (take k js) j c) ∙ e);
      takes = λ h. absurd (true≢false (sym c ∙ h));
      partner = λ h. absurd (true≢false (sym c ∙ h));
    })
    (λ c. let both = (and-eq-true_iff (eqb (length_of j) (seconds_per_weight * j.weight)) (has_partner j (take k js))).0
    (not-false _ (sym (optional-asks (take k js) j c) ∙ e)) in
    record {
      critical = λ h. absurd (true≢false (sym h ∙ c));
      takes = λ h. eqb-true _ _ both.0;
      partner = λ h. (has-is j js k).0 both.1;
    })

offending : (js : List Job) (k : ℕ) (j : Job) → get_elem? js k ≡ some j → offends (take k js) j ≡ true → Offends js k
offending js k j s e = cases j.critical
    (λ c. high j s c (ltb-true _ _ (sym (critical-asks (take k js) j c) ∙ e)))
    (λ c. cases (eqb (length_of j) (seconds_per_weight * j.weight))
    (λ same. alone j s c (λ p. false≢true (rw (same, (has-is j js k).1 p) at (sym (optional-asks (take k js) j c) ∙ e))))
    (λ other. long j s c (eqb-false _ _ other)))

-- A place cannot do both.
agrees-not : (js : List Job) (k : ℕ) (j : Job) → get_elem? js k ≡ some j → Agrees js k j → ¬ Offends js k
agrees-not js k j s a (high i t c h) =
    let same : i ≡ j = some-injective i j (sym t ∙ s) in
    omega (arith, a.critical (rw same at c), rw same at h)
agrees-not js k j s a (long i t c h) =
    let same : i ≡ j = some-injective i j (sym t ∙ s) in
    (rw same at h) (a.takes (rw same at c))
agrees-not js k j s a (alone i t c h) =
    let same : i ≡ j = some-injective i j (sym t ∙ s) in
    (rw same at h) (a.partner (rw same at c))

-- The test of a place says whether it offends.
pub offends-is : (js : List Job) (k : ℕ) → offends_at js k ≡ true ↔ Offends js k
offends-is js k = (there (get_elem? js k) refl, λ o. back o (get_elem? js k) refl)
  where
    there : (o : Option Job) → get_elem? js k ≡ o → offends_at js k ≡ true → Offends js k
    there none s e = absurd (false≢true (rw s at e))
    there (some j) s e = offending js k j s (rw s at e)

    back : Offends js k → (o : Option Job) → get_elem? js k ≡ o → offends_at js k ≡ true
    back f none s = absurd (nowhere f s)
      where
        nowhere : Offends js k → get_elem? js k ≡ none → ⊥
        nowhere (high j t c h) s = none-ne-some j (sym s ∙ t)
        nowhere (long j t c h) s = none-ne-some j (sym s ∙ t)
        nowhere (alone j t c h) s = none-ne-some j (sym s ∙ t)
    back f (some j) s = cases (offends (take k js) j)
        (λ y. rw s y)
        (λ n. absurd (agrees-not js k j s (agrees js k j n) f))

-- No place behind the last job offends.
pub offends-below : (js : List Job) (k : ℕ) → length js ≤ k → offends_at js k ≡ false
offends-below js k h = rw (past js k h)
  where
    past : (js : List Job) (k : ℕ) → length js ≤ k → get_elem? js k ≡ none
    past [] k h = refl
    past (j ∷ js) zero h = absurd (omega arith)
    past (j ∷ js) (suc k) h = past js k (omega arith)

-- ---- an order of halves

-- Every place agrees.
abbrev pub OfHalves : List Job → Type 0
OfHalves js = (k : ℕ) (j : Job) → get_elem? js k ≡ some j → Agrees js k j

-- So it is exactly when no place offends.
pub of-halves : (js : List Job) → OfHalves js ↔ ((k : ℕ) → offends_at js k ≡ false)
of-halves js = (
  λ h k. cases (offends_at js k) (λ y. absurd (there h k ((offends-is js k).0 y))) (λ n. n),
  λ h k j s. agrees js k j (rw s at (h k)),
)
  where
    there : OfHalves js → (k : ℕ) → ¬ Offends js k
    there h k (high j s c b) = agrees-not js k j s (h k j s) (high j s c b)
    there h k (long j s c b) = agrees-not js k j s (h k j s) (long j s c b)
    there h k (alone j s c b) = agrees-not js k j s (h k j s) (alone j s c b)

-- ---- the seconds lost

-- Every rate of a job counts its whole weight, and an optional job takes 60 seconds for each weight.
pub record Measured (j : Job) : Type 0 where
  pub whole : (k : ℕ) (r : Rate) → rate_of j k ≡ some r → r.gain ≡ j.weight
  pub takes : j.critical ≡ false → length_of j ≡ seconds_per_weight * j.weight

-- Then a pick that is allowed loses 60 seconds for each weight that it loses,
lost-by : (j : Job) (x : ℕ) (t : ℤ) → Measured j → allowed j x t ≡ true → lost_by j x ≡ seconds_per_weight * loss_of j x
lost-by j zero t m a =
    let l = left-out-loses j t a in
    rw (l.0, l.1) (m.takes l.0)
lost-by j (suc k) t m a = omega (arith, kept-loses-none j k t (m.whole k) a)

-- and so does a feasible choice.
pub seconds-lost : (js : List Job) (c : Choice) (t : ℤ) → ((k : ℕ) (j : Job) → get_elem? js k ≡ some j → Measured j)
    → feasible js c t ≡ true → seconds_lost js c ≡ seconds_per_weight * lost_weight js c
seconds-lost [] c t m f = refl
seconds-lost (j ∷ js) [] t m f = refl
seconds-lost (j ∷ js) (x ∷ c) t m f =
    let both = (and-eq-true_iff (allowed j x t) (feasible js c (bus_free j x t))).0 f in
    omega (arith, lost-by j x t (m 0 j refl) both.0, seconds-lost js c (bus_free j x t) (λ k. m (suc k)) both.1)
