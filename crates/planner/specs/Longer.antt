-- Bytes past the longest order: they are refused by their header and their length, so what is said of them does not depend on what
-- stands behind, and whoever has more than the longest order's bytes has enough.
use Rattle.std.specs.Prelude.{ℕ, ◌+◌, ◌*◌, ◌≤◌, ◌<◌, ◌≡◌, refl, cond, List, ◌++◌, ltb, length, take, drop}
use Rattle.std.proofs.Common.{sym, ap, ◌∙◌, mul-le-mul, arith, length-append, take-append-drop, take_all, length-take-le, le-ltb, ltb-true, ltb-false, ne_eqb}
use Rattle.std.proofs.lemmas.List.{take-append-le}
use borrow.Table.Steps.{cases}
use Rattle.seconds.specs.Limits.{most_jobs}
use Rattle.packed.specs.declared.Refusal.{Refusal}
use Rattle.packed.specs.Layout.{record_bytes}
use Rattle.packed.proofs.LayoutLaws.{bytes-few}
use Rattle.packed.specs.Judge.{plainly, refused, judge}
use Rattle.packed.specs.JudgeLaws.{judge-append}
use Rattle.packed.specs.Packed.{header_word, count_of, kind_of, numbers_of}
use Rattle.packed.proofs.PackedLaws.{count-is, kind-is}
use Rattle.packed.specs.Refusals.{header_checks, job_checks, weight_checks, order_checks}
use Rattle.packed.proofs.Steps.{header-judge}
use Rattle.planner.specs.Calls.{longest_order}

-- The longest order is of kind 1.
pub longest-is : longest_order ≡ 436
unfolding longest_order record_bytes
longest-is = refl

-- No order of at most 48 jobs is longer.
records-fit : (kind count : ℕ) → count ≤ most_jobs → 4 + record_bytes kind * count ≤ longest_order
records-fit kind count few =
    rw longest-is (let most : record_bytes kind * count ≤ 9 * most_jobs = mul-le-mul (bytes-few kind).1 few in omega arith)

-- What longer bytes are refused by: 2 or 3 where they apply, else 4.
abbrev too_long : List ℕ → ℕ
too_long bytes = cond (ltb 1 (kind_of bytes)) 2 (cond (ltb most_jobs (count_of bytes)) 3 4)

module _ (bytes : List ℕ) (long : longest_order < length bytes) where
  -- Their header refuses them,
  header-long : judge (header_checks bytes) ≡ refused (plainly (too_long bytes))
  header-long =
      header-judge bytes
      ∙ rw (le-ltb (length bytes) 4 (omega (arith, longest-is)))
      (cases (ltb 1 (kind_of bytes))
      (λ e. rw e)
      (λ e. cases (ltb most_jobs (count_of bytes))
      (λ f. rw (e, f))
      (λ f. let fit = records-fit (kind_of bytes) (count_of bytes) (ltb-false most_jobs (count_of bytes) f) in
      rw (e, f, ne_eqb (length bytes) (4 + record_bytes (kind_of bytes) * count_of bytes) (λ q. omega (arith, fit, long))))))

  -- before any other check.
  long-judged : judge (order_checks bytes) ≡ refused (plainly (too_long bytes))
  long-judged =
      rw (
        judge-append (header_checks bytes ++ job_checks (numbers_of bytes)) (weight_checks 0 (numbers_of bytes)),
        judge-append (header_checks bytes) (job_checks (numbers_of bytes)),
        header-long,
      )

-- What stands behind such bytes changes nothing: the header is the same.
refused-same : (bytes more : List ℕ) → longest_order < length bytes → too_long (bytes ++ more) ≡ too_long bytes
unfolding header_word
refused-same bytes more long =
    let word : header_word (bytes ++ more) ≡ header_word bytes = rw (take-append-le 4 bytes more (omega (arith, longest-is))) in
    rw (kind-is (bytes ++ more), count-is (bytes ++ more), kind-is bytes, count-is bytes, word)

-- Whatever is told of bytes by their refusal is then told by the first of them, if they are more than the longest order has.
module _ {A : Type 0} (f : List ℕ → A) (told : Refusal → A)
    (by-refusal : (bytes : List ℕ) (r : Refusal) → judge (order_checks bytes) ≡ refused r → f bytes ≡ told r) where
  longer-same : (bytes more : List ℕ) → longest_order < length bytes → f (bytes ++ more) ≡ f bytes
  longer-same bytes more long =
      by-refusal (bytes ++ more) (plainly (too_long (bytes ++ more)))
      (long-judged (bytes ++ more) (let n = length-append bytes more in omega arith))
      ∙ ap (λ n. told (plainly n)) (refused-same bytes more long)
      ∙ sym (by-refusal bytes (plainly (too_long bytes)) (long-judged bytes long))

  pub front-enough : (size : ℕ) → longest_order < size → (input : List ℕ) → f (take size input) ≡ f input
  front-enough size h input = cases (ltb size (length input))
      (λ e. let long : length (take size input) ≡ size = length-take-le size input (omega (arith, ltb-true size (length input) e)) in
      sym (longer-same (take size input) (drop size input) (omega arith)) ∙ ap f (take-append-drop size input))
      (λ e. ap f (take_all size input (ltb-false size (length input) e)))
