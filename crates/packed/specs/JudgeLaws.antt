-- The laws of judging: stages one behind the other, what it is to be fine, and what a refusal says.
use Rattle.std.specs.Prelude.{ℕ, zero, suc, ◌≡◌, refl, Bool, true, false, not, ◌&&◌, ◌↔◌, ◌≢◌, List, [], ◌∷◌, ◌++◌, T, eqb, get_or}
use Rattle.std.proofs.Common.{sym, ap, subst, ◌∙◌, arith}
use Rattle.std.specs.Float.Ieee.Bits.{is_true}
use Rattle.std.specs.Float.Ieee.Fits.{and_l, and_r}
use Rattle.std.proofs.lemmas.Bool.{not-true, eqb-false}
use borrow.Table.Steps.{cases}
use Rattle.packed.specs.declared.Refusal.{Refusal}
use Rattle.packed.specs.Judge.{Check, Verdict, fine, refused, judge, or_else, check}

-- ---- stages

-- Two stages, one behind the other.
pub judge-append : (cs ds : List Check) → judge (cs ++ ds) ≡ or_else (judge cs) (judge ds)
judge-append [] ds = refl
judge-append (c ∷ cs) ds = cases c.applies (λ e. rw e) (λ e. rw e (judge-append cs ds))

-- A refusal is not fine.
pub refused-fine : {r : Refusal} → refused r ≡ fine → ⊥
refused-fine e = let z : ◌≡◌ {A = ℕ} 0 1 = cc in omega arith

both-fine : (v w : Verdict) → or_else v w ≡ fine → (v ≡ fine) × (w ≡ fine)
both-fine fine w e = (refl, e)
both-fine (refused r) w e = absurd (refused-fine e)

-- Two stages are passed exactly when each is.
pub stages-fine : (cs ds : List Check) → judge (cs ++ ds) ≡ fine ↔ ((judge cs ≡ fine) × (judge ds ≡ fine))
stages-fine cs ds = (
  λ e. both-fine (judge cs) (judge ds) (sym (judge-append cs ds) ∙ e),
  λ h. rw (judge-append cs ds, h.0) h.1,
)

-- ---- fine

judge-cons : (c : Check) (cs : List Check) → judge (c ∷ cs) ≡ fine → (c.applies ≡ false) × (judge cs ≡ fine)
judge-cons c cs h = cases c.applies (λ e. absurd (refused-fine (rw e at h))) (λ e. (e, rw e at h))

-- No check applies, wherever it stands in the list.
pub judge-at : (cs : List Check) → judge cs ≡ fine → (i : ℕ) → (get_or cs i (check 0 false)).applies ≡ false
judge-at [] h i = refl
judge-at (c ∷ cs) h zero = (judge-cons c cs h).0
judge-at (c ∷ cs) h (suc i) = judge-at cs (judge-cons c cs h).1 i

-- ---- refused

-- A verdict's refusal is one.
pub refused-same : {r s : Refusal} → refused r ≡ refused s → r ≡ s
refused-same {r} {s} e = ap told e
  where
    told : Verdict → Refusal
    told fine = r
    told (refused t) = t

-- Whichever check applies, P holds of what it says.
abbrev pub Tells : (Refusal → Type 0) → List Check → Type 0
Tells P [] = Unit {0}
Tells P (c ∷ cs) = (c.applies ≡ true → P c.says) × Tells P cs

-- Two stages that tell it.
pub tells-append : (P : Refusal → Type 0) (cs ds : List Check) → Tells P cs → Tells P ds → Tells P (cs ++ ds)
tells-append P [] ds f g = g
tells-append P (c ∷ cs) ds f g = (f.0, tells-append P cs ds f.1 g)

-- Then P holds of the refusal.
pub judge-tells : (P : Refusal → Type 0) (cs : List Check) {r : Refusal} → Tells P cs → judge cs ≡ refused r → P r
judge-tells P [] f h = absurd (refused-fine (sym h))
judge-tells P (c ∷ cs) {r} f h = cases c.applies
    (λ e. subst P (refused-same (rw e at h)) (f.0 e))
    (λ e. judge-tells P cs f.1 (rw e at h))

-- ---- the number of a refusal

-- The number of every check passes a test.
abbrev pub every_number : (ℕ → Bool) → List Check → Bool
every_number test [] = true
every_number test (c ∷ cs) = test c.says.number && every_number test cs

every-tells : (test : ℕ → Bool) (cs : List Check) → T (every_number test cs) → Tells (λ r. T (test r.number)) cs
every-tells test [] t = tt
every-tells test (c ∷ cs) t = (λ e. search and_l, every-tells test cs (search and_r))

-- Then that of the refusal does.
pub number-passes : (test : ℕ → Bool) (cs : List Check) → T (every_number test cs) → {r : Refusal} → judge cs ≡ refused r
    → T (test r.number)
number-passes test cs t = judge-tells (λ r. T (test r.number)) cs (every-tells test cs t)

-- No check has a number,
abbrev pub without : ℕ → List Check → Bool
without n cs = every_number (λ k. not (eqb k n)) cs

-- so no refusal has.
pub never : (n : ℕ) (cs : List Check) → T (without n cs) → {r : Refusal} → judge cs ≡ refused r → r.number ≢ n
never n cs t e = eqb-false _ _ (not-true _ (is_true _ (number-passes (λ k. not (eqb k n)) cs t e)))

-- A refusal that the second of two stages cannot give is given exactly when the first gives it,
pub given-before : (cs ds : List Check) (s : Refusal) → T (without s.number ds) → judge (cs ++ ds) ≡ refused s ↔ (judge cs ≡ refused s)
given-before cs ds s none = (λ e. go (judge cs) refl (sym (judge-append cs ds) ∙ e), λ e. rw (judge-append cs ds, e))
  where
    go : (v : Verdict) → judge cs ≡ v → or_else v (judge ds) ≡ refused s → judge cs ≡ refused s
    go fine d e = absurd (never s.number ds none e refl)
    go (refused r) d e = d ∙ e

-- and one that the first cannot give, exactly when the first is passed and the second gives it.
pub given-behind : (cs ds : List Check) (s : Refusal) → T (without s.number cs)
    → judge (cs ++ ds) ≡ refused s ↔ ((judge cs ≡ fine) × (judge ds ≡ refused s))
given-behind cs ds s none =
    (λ e. go (judge cs) refl (sym (judge-append cs ds) ∙ e), λ h. rw (judge-append cs ds, h.0) h.1)
  where
    go : (v : Verdict) → judge cs ≡ v → or_else v (judge ds) ≡ refused s → (judge cs ≡ fine) × (judge ds ≡ refused s)
    go fine d e = (d, e)
    go (refused r) d e = absurd (never s.number cs none (d ∙ e) refl)
