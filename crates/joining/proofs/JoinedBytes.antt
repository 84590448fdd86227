-- Two orders joined as bytes are the two orders joined (R16): where packing accepts the numbers of both, the bytes say the joined
-- order, and all three are accepted as orders.
use Rattle.std.specs.Prelude.{ℕ, ◌+◌, ◌-◌, ◌<◌, ◌≡◌, ◌↔◌, List, ◌++◌, ltb, ℤ}
use Rattle.std.proofs.Common.{sym, ◌∙◌, arith, ltb-true, ltb-false}
use Rattle.std.proofs.Math.Path.{ap}
use borrow.Table.Steps.{cases}
use Rattle.order.specs.Job.{joined, weight_of}
use Rattle.order.proofs.Within.{weight_of-append}
use Rattle.packed.specs.Judge.{fine, judge}
use Rattle.packed.specs.Packed.{count_of, t0_of, kind_of, numbers_of, job_count, fields_at, has_pack, kind_for, jobs_of, order_of, jobs_in}
use Rattle.packed.specs.PlacesLaws.{part-first, part-second}
use Rattle.packed.proofs.PackedLaws.{length-numbers, numbers-count, count-append, jobs-append, kind-old}
use Rattle.packed.specs.Refusals.{order_checks, number_at}
use Rattle.packed.proofs.RefusalLaws.{header-fine, JobsFine}
use Rattle.packed.proofs.Accepted.{numbers-fine, order-fine}
use Rattle.packed.proofs.RoundTrip.{unpack-pack, pack-kind}
use Rattle.joining.specs.Demand3.{Joins, joined_bytes, Joinable}

module _ {A B : List ℕ} (j : Joinable A B) where
  abbrev numbers : List ℤ
  numbers = numbers_of A ++ numbers_of B

  jobs : jobs_of numbers ≡ jobs_in A ++ jobs_in B
  jobs = jobs-append (numbers_of A) (numbers_of B) (count_of A) (length-numbers A)

  count : job_count numbers ≡ count_of A + count_of B
  count = count-append (numbers_of A) (numbers_of B) (count_of A) (length-numbers A) ∙ rw (numbers-count B)

  -- The bytes say the first order's bus-free time, and the jobs of the first and then of the second.
  pub joined-order : order_of (joined_bytes A B) ≡ joined (order_of A) (order_of B)
  unfolding order_of
  joined-order =
      let back = unpack-pack (t0_of A) numbers j.packs in
      let time : t0_of (joined_bytes A B) ≡ t0_of A = back.1 in
      let both : jobs_in (joined_bytes A B) ≡ jobs_in A ++ jobs_in B = ap jobs_of back.2 ∙ jobs in
      λ i. record { t0 = time i; jobs = both i }

  -- What refusals 6 and 7 say of the joined order they say of both.
  all-fine : JobsFine numbers
  all-fine = ((numbers-fine (t0_of A) numbers).0 j.packs).jobs

  first-fields : (k : ℕ) → k < count_of A → fields_at numbers k ≡ fields_at (numbers_of A) k
  unfolding fields_at
  first-fields k h = part-first 7 (numbers_of A) (numbers_of B) k (omega (arith, length-numbers A))

  second-fields : (k : ℕ) → fields_at numbers (count_of A + k) ≡ fields_at (numbers_of B) k
  unfolding fields_at
  second-fields k = part-second 7 (numbers_of A) (numbers_of B) (count_of A) k (length-numbers A)

  first-jobs : JobsFine (numbers_of A)
  unfolding number_at
  first-jobs =
      record {
        within = λ k h. let l : k < count_of A = omega (arith, numbers-count A) in
            rw (first-fields k l) at (all-fine.within k (omega (arith, count)));
        unlike = λ i k h l.
            let m : k < count_of A = omega (arith, numbers-count A) in
            rw (first-fields i (omega arith), first-fields k m) at (all-fine.unlike i k h (omega (arith, count)));
      }

  second-jobs : JobsFine (numbers_of B)
  unfolding number_at
  second-jobs =
      record {
        within = λ k h. rw (second-fields k) at (all-fine.within (count_of A + k) (omega (arith, count, numbers-count B)));
        unlike = λ i k h l.
            rw (second-fields i, second-fields k)
            at (all-fine.unlike (count_of A + i) (count_of A + k) (omega arith) (omega (arith, count, numbers-count B)));
      }

  -- So both are orders, and the bytes are their joined order,
  pub joined_bytes_lem : Joins A B (joined_bytes A B)
  joined_bytes_lem =
      let light = ((numbers-fine (t0_of A) numbers).0 j.packs).light in
      let weight = ap weight_of jobs ∙ weight_of-append (jobs_in A) (jobs_in B) in
      record {
        first = (order-fine A).1 (record { header = (header-fine A).0 j.first; jobs = first-jobs; light = omega arith });
        second = (order-fine B).1 (record { header = (header-fine B).0 j.second; jobs = second-jobs; light = omega arith });
        both = joined-order;
      }

  -- which is accepted.
  pub joined-accepted : judge (order_checks (joined_bytes A B)) ≡ fine
  joined-accepted = (unpack-pack (t0_of A) numbers j.packs).0

  -- It is of kind 0 exactly when both are.
  pub joined-kind : kind_of (joined_bytes A B) ≡ 0 ↔ ((kind_of A ≡ 0) × (kind_of B ≡ 0))
  joined-kind = (λ e. there (sym as-kind ∙ e), λ h. as-kind ∙ back h)
    where
      as-kind : kind_of (joined_bytes A B) ≡ kind_for numbers
      as-kind = pack-kind (t0_of A) numbers j.packs

      first_kind : kind_for (numbers_of A) ≡ kind_of A
      first_kind = ((header-fine A).0 j.first).kinded

      second-kind : kind_for (numbers_of B) ≡ kind_of B
      second-kind = ((header-fine B).0 j.second).kinded

      there : kind_for numbers ≡ 0 → (kind_of A ≡ 0) × (kind_of B ≡ 0)
      there e =
          let none = (kind-old numbers).0 e in
          let first = (kind-old (numbers_of A)).1
          (λ k h. let l : k < count_of A = omega (arith, numbers-count A) in
          ap has_pack (sym (first-fields k l)) ∙ none k (omega (arith, count))) in
          let second = (kind-old (numbers_of B)).1
          (λ k h. ap has_pack (sym (second-fields k)) ∙ none (count_of A + k) (omega (arith, count, numbers-count B))) in
          (sym first_kind ∙ first, sym second-kind ∙ second)

      back : (kind_of A ≡ 0) × (kind_of B ≡ 0) → kind_for numbers ≡ 0
      back h =
          let first = (kind-old (numbers_of A)).0 (first_kind ∙ h.0) in
          let second = (kind-old (numbers_of B)).0 (second-kind ∙ h.1) in
          (kind-old numbers).1 (λ k l. cases (ltb k (count_of A))
          (λ e. let m : k < count_of A = ltb-true k (count_of A) e in
          ap has_pack (first-fields k m) ∙ first k (omega (arith, numbers-count A)))
          (λ e. let past : k ≡ count_of A + (k - count_of A) = omega (arith, ltb-false k (count_of A) e) in
          ap (λ i. has_pack (fields_at numbers i)) past ∙ ap has_pack (second-fields (k - count_of A))
          ∙ second (k - count_of A) (omega (arith, count, numbers-count B, ltb-false k (count_of A) e))))
