-- 19 by the first pack that is found.
use Rattle.std.specs.Prelude.{ℕ, ◌+◌, ◌*◌, ◌≤◌, ◌≡◌, refl, cond, ◌≢◌, Some, None, List, eqb, length}
use Rattle.std.proofs.Common.{sym, ◌∙◌, arith, ne_eqb}
use Rattle.packed.specs.Layout.{record_bytes}
use Rattle.packed.specs.Places.{found_below}
use Rattle.packed.specs.PlacesLaws.{part-below}
use Rattle.packed.specs.Judge.{plainly, fine, refused}
use Rattle.packed.specs.Packed.{kind_of, count_of, numbers_of, job_count, first_packed, kind_for}
use Rattle.kinds.specs.KindsLaws.{kind-one, kind-none}
use Rattle.jobs.specs.Held.{RecordsStand}
use Rattle.judge.specs.Verdicts.{kind_judged}

-- The records stand in bytes that have passed 2 to 4.
pub records-stand : (bytes : List ℕ) (count kind : ℕ) → count ≡ count_of bytes → kind ≡ kind_of bytes → kind ≤ 1 → count ≤ 48
    → length bytes ≡ 4 + record_bytes kind * count → RecordsStand bytes count kind
records-stand bytes count kind c k known few whole =
    record {
      few = few;
      counted = c;
      kinded = k;
      there = λ i h.
          record {
            header = omega (arith, whole);
            known = omega (arith, known, k);
            room = rw (← k) (omega (arith, whole, part-below (record_bytes kind) h));
          };
    }

module _ (bytes : List ℕ) (kind : ℕ) (is : kind ≡ kind_of bytes) where
  -- Another kind passes,
  pub kind-passes : kind ≢ 1 → fine ≡ kind_judged bytes
  kind-passes n = rw (ne_eqb (kind_of bytes) 1 (λ e. n (is ∙ e)))

  judged : kind ≡ 1 → (m : ℕ) → m ≡ kind_for (numbers_of bytes) → kind_judged bytes ≡ cond (eqb m 0) (refused (plainly 19)) fine
  judged e m s = rw (sym is ∙ e, ← s)

  -- kind 1 with a pack does,
  pub kind-has : kind ≡ 1 → {k : ℕ} → Some k ≡ found_below (job_count (numbers_of bytes)) (first_packed (numbers_of bytes))
      → fine ≡ kind_judged bytes
  kind-has e {k} h = sym (judged e 1 (kind-one (numbers_of bytes) (job_count (numbers_of bytes)) refl h))

  -- and kind 1 without one does not.
  pub kind-lacks : kind ≡ 1 → None ≡ found_below (job_count (numbers_of bytes)) (first_packed (numbers_of bytes))
      → refused (plainly 19) ≡ kind_judged bytes
  kind-lacks e h = sym (judged e 0 (kind-none (numbers_of bytes) (job_count (numbers_of bytes)) refl h))
