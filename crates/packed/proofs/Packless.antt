-- Exactly when 19 is given: 1 to 5 do not apply, the kind is 1, and no pack differs from 0.
use Rattle.std.specs.Prelude.{ℕ, ◌<◌, ◌≡◌, refl, not, ◌&&◌, ◌↔◌, ◌≢◌, ◌⊎◌, List, ◌++◌, T, eqb, pos}
use Rattle.std.proofs.Common.{sym, ap, ◌∙◌, inl, inr, arith, eqb-true, eq-eqb}
use Rattle.std.proofs.Math.Bool.{and-eq-true_iff}
use Rattle.std.proofs.Math.Logic.Iff
use Rattle.std.proofs.lemmas.Bool.{not-false}
use borrow.Table.Steps.{cases}
use Rattle.seconds.specs.RangesLaws.{same-yes}
use Rattle.packed.specs.declared.Refusal.{Refusal}
use Rattle.packed.specs.Judge.{plainly, Check, Verdict, fine, refused, judge, or_else}
use Rattle.packed.specs.JudgeLaws.{judge-append, judge-tells, without, never, given-before, given-behind}
use Rattle.packed.specs.Packed.{count_of, kind_of, numbers_of, job_fields, the_pack, has_pack, kind_for}
use Rattle.packed.proofs.PackedLaws.{numbers-count, fields-of-numbers, kind-old}
use Rattle.packed.specs.Refusals.{first_five, kind_checks, header_checks, job_checks, weight_checks, order_checks}

-- Bytes of kind 1 that pass 1 to 5, in which no pack differs from 0.
pub record Packless (bytes : List ℕ) : Type 0 where
  pub passed : judge (first_five bytes) ≡ fine
  pub new : kind_of bytes ≡ 1
  pub none : (k : ℕ) → k < count_of bytes → the_pack (job_fields bytes k) ≡ pos 0

-- Checks give 19 exactly for such bytes, and with no place and no field.
pub record NineteenIs (bytes : List ℕ) (cs : List Check) : Type 0 where
  pub given : judge cs ≡ refused (plainly 19) ↔ Packless bytes
  pub plain : {r : Refusal} → judge cs ≡ refused r → r.number ≡ 19 → r ≡ plainly 19

-- So do checks with a stage behind them that has no 19.
pub nineteen-behind : {bytes : List ℕ} {cs : List Check} (ds : List Check) → T (without 19 ds) → NineteenIs bytes cs
    → NineteenIs bytes (cs ++ ds)
nineteen-behind {bytes} {cs} ds none is =
    record { given = Iff.trans (given-before cs ds (plainly 19) none) is.given; plain = λ e n. go (judge cs) refl (sym (judge-append cs ds) ∙ e) n }
  where
    go : (v : Verdict) → judge cs ≡ v → {r : Refusal} → or_else v (judge ds) ≡ refused r → r.number ≡ 19 → r ≡ plainly 19
    go fine d e n = absurd (never 19 ds none e n)
    go (refused s) d e n = is.plain (d ∙ e) n

-- An answer by a verdict is 19 exactly for such bytes.
pub nineteen-told : {bytes : List ℕ} {cs : List Check} → NineteenIs bytes cs → (number : Verdict → ℕ) → number fine ≢ 19
    → ((r : Refusal) → number (refused r) ≡ r.number) → number (judge cs) ≡ 19 ↔ Packless bytes
nineteen-told {bytes} {cs} is number other own = (go (judge cs) refl, λ p. ap number (is.given.1 p) ∙ own (plainly 19))
  where
    go : (v : Verdict) → judge cs ≡ v → number v ≡ 19 → Packless bytes
    go fine d e = absurd (other e)
    go (refused r) d e = is.given.0 (d ∙ ap refused (is.plain d (sym (own r) ∙ e)))

-- Of two packed orders, one judged behind the other, it is the first, or the second where the first is accepted.
pub nineteen-either : {first second : List ℕ} {cs ds : List Check} → NineteenIs first cs → NineteenIs second ds
    → (number : Verdict → ℕ) → number fine ≢ 19 → ((r : Refusal) → number (refused r) ≡ r.number)
    → number (judge (cs ++ ds)) ≡ 19 ↔ (Packless first ⊎ ((judge cs ≡ fine) × Packless second))
nineteen-either {first} {second} {cs} {ds} one two number other own =
    (λ e. there (judge cs) refl (rw (judge-append cs ds) at e), λ p. ap number (judge-append cs ds) ∙ back p)
  where
    there : (v : Verdict) → judge cs ≡ v → number (or_else v (judge ds)) ≡ 19 → Packless first ⊎ ((judge cs ≡ fine) × Packless second)
    there fine d e = inr (d, (nineteen-told two number other own).0 e)
    there (refused r) d e = inl (one.given.0 (d ∙ ap refused (one.plain d (sym (own r) ∙ e))))

    back : Packless first ⊎ ((judge cs ≡ fine) × Packless second) → number (or_else (judge cs) (judge ds)) ≡ 19
    back (inl p) = rw (one.given.1 p) (own (plainly 19))
    back (inr p) = rw p.0 ((nineteen-told two number other own).1 p.1)

module _ (bytes : List ℕ) where
  -- No pack in the numbers is none in the bytes.
  abbrev NoPack : Type 0
  NoPack = (k : ℕ) → k < count_of bytes → the_pack (job_fields bytes k) ≡ pos 0

  kind-none : kind_for (numbers_of bytes) ≡ 0 ↔ NoPack
  kind-none = (there, back)
    where
      there : kind_for (numbers_of bytes) ≡ 0 → NoPack
      there e k h =
          let none = (kind-old (numbers_of bytes)).0 e k (omega (arith, numbers-count bytes)) in
          (same-yes _ _).0 (not-false _ (ap has_pack (sym (fields-of-numbers bytes k h)) ∙ none))

      back : NoPack → kind_for (numbers_of bytes) ≡ 0
      back n =
          (kind-old (numbers_of bytes)).1
          (λ k h. let below : k < count_of bytes = omega (arith, numbers-count bytes) in
          ap has_pack (fields-of-numbers bytes k below) ∙ ap not ((same-yes _ _).1 (n k below)))

  -- The kind's own check gives it exactly so,
  kind-given : judge (kind_checks bytes) ≡ refused (plainly 19) ↔ ((kind_of bytes ≡ 1) × NoPack)
  kind-given = (there, λ h. rw (eq-eqb (kind_of bytes) 1 h.0, kind-none.1 h.1))
    where
      there : judge (kind_checks bytes) ≡ refused (plainly 19) → (kind_of bytes ≡ 1) × NoPack
      there e = cases (eqb (kind_of bytes) 1 && eqb (kind_for (numbers_of bytes)) 0)
          (λ y. let h = (and-eq-true_iff (eqb (kind_of bytes) 1) (eqb (kind_for (numbers_of bytes)) 0)).0 y in
          (eqb-true _ _ h.0, kind-none.0 (eqb-true _ _ h.1)))
          (λ n. let odd : fine ≡ refused (plainly 19) = rw n at e in
          let z : ◌≡◌ {A = ℕ} 0 1 = cc in
          absurd (omega arith))

  -- and so do the checks of a header,
  pub nineteen-header : NineteenIs bytes (header_checks bytes)
  unfolding header_checks
  nineteen-header = record { given = (there, back); plain = λ e n. plain e n }
    where
      behind : judge (header_checks bytes) ≡ refused (plainly 19)
          ↔ ((judge (first_five bytes) ≡ fine) × (judge (kind_checks bytes) ≡ refused (plainly 19)))
      behind = given-behind (first_five bytes) (kind_checks bytes) (plainly 19) tt

      there : judge (header_checks bytes) ≡ refused (plainly 19) → Packless bytes
      there e = let k = kind-given.0 (behind.0 e).1 in record { passed = (behind.0 e).0; new = k.0; none = k.1 }

      back : Packless bytes → judge (header_checks bytes) ≡ refused (plainly 19)
      back p = behind.1 (p.passed, kind-given.1 (p.new, p.none))

      plain : {r : Refusal} → judge (header_checks bytes) ≡ refused r → r.number ≡ 19 → r ≡ plainly 19
      plain = judge-tells (λ (r : Refusal). r.number ≡ 19 → r ≡ plainly 19) (header_checks bytes)
          (λ _ n. absurd (omega arith), (λ _ n. absurd (omega arith), (λ _ n. absurd (omega arith), (λ _ n. absurd (omega arith), (λ _ n. absurd (omega arith), (λ _ n. refl, tt))))))

  -- and those of an order.
  pub nineteen-order : NineteenIs bytes (order_checks bytes)
  unfolding job_checks weight_checks
  nineteen-order =
      nineteen-behind (weight_checks 0 (numbers_of bytes)) tt (nineteen-behind (job_checks (numbers_of bytes)) tt nineteen-header)
