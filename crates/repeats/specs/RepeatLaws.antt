-- One step of the search for a number that stood earlier, over a list of numbers; and that it is the search of check 7.
use Rattle.std.specs.Prelude.{ℕ, ◌+◌, ◌<◌, ◌≡◌, refl, Bool, true, false, ◌≢◌, List, ltb, eqb, ℤ, pos, length, get_or, set}
use Rattle.std.proofs.Common.{true≢false, sym, ap, ◌∙◌, arith, get_or-set_same, get_or-set_other, ltb-true, ltb-false, le-ltb, eq-eqb, ne_eqb, eqb-true}
use Rattle.std.proofs.lemmas.Bool.{eqb-false}
use borrow.Table.Steps.{cases}
use Rattle.seconds.specs.RangesLaws.{same-is}
use Rattle.packed.specs.Places.{first}
use Rattle.packed.specs.PlacesLaws.{IsFirst, first-is, first-unique, first_on, first-here}
use Rattle.packed.specs.Packed.{job_count}
use Rattle.packed.specs.Refusals.{number_at, same_at, repeated_at, first_repeat}
use Rattle.repeats.specs.Repeats.{alike, stood_earlier, first_again}

-- ---- the steps

-- From the first place.
pub again-from-0 : (ns : List ℕ) → first_again ns ≡ first (stood_earlier ns) 0 (length ns)
unfolding first_again
again-from-0 ns = refl

-- Unlike the number at an earlier place: on to the next of them.
pub alike-on : (ns : List ℕ) (earlier later : ℕ) → earlier < later → get_or ns earlier 0 ≢ get_or ns later 0
    → first (alike ns later) earlier later ≡ first (alike ns later) (earlier + 1) later
alike-on ns earlier later h n = first_on (alike ns later) earlier later h (ne_eqb (get_or ns earlier 0) (get_or ns later 0) n)

-- Like the number at an earlier place: the search ends.
pub again-here : (ns : List ℕ) (earlier later : ℕ) → later < length ns → earlier < later → get_or ns earlier 0 ≡ get_or ns later 0
    → first (stood_earlier ns) later (length ns) ≡ later
again-here ns earlier later b h e =
    cases (stood_earlier ns later)
    (λ t. first-here (stood_earlier ns) later (length ns) b t)
    (λ t. let none = ltb-false (first (alike ns later) 0 later) later t in
    let passed = (first-is (alike ns later) 0 later (omega arith)).before earlier (omega arith) (omega arith) in
    absurd (true≢false (sym (eq-eqb (get_or ns earlier 0) (get_or ns later 0) e) ∙ passed)))

-- Unlike all of them: on to the next place.
pub again-on : (ns : List ℕ) (later : ℕ) → later < length ns → first (alike ns later) 0 later ≡ later
    → first (stood_earlier ns) later (length ns) ≡ first (stood_earlier ns) (later + 1) (length ns)
again-on ns later b s = first_on (stood_earlier ns) later (length ns) b (rw s (le-ltb later later (omega arith)))

-- The same by each of them.
pub unlike-on : (ns : List ℕ) (k : ℕ) → k < length ns → ((i : ℕ) → i < k → get_or ns i 0 ≢ get_or ns k 0)
    → first (stood_earlier ns) k (length ns) ≡ first (stood_earlier ns) (k + 1) (length ns)
unlike-on ns k b unlike = again-on ns k b (first-unique (alike ns k) 0 k (first (alike ns k) 0 k) k (first-is (alike ns k) 0 k (omega arith)) here)
  where
    here : IsFirst (alike ns k) 0 k k
    here =
        record {
          from = omega arith;
          to = omega arith;
          passes = λ b. absurd (omega arith);
          before = λ i a b. ne_eqb (get_or ns i 0) (get_or ns k 0) (unlike i b);
        }

-- ---- marks

-- The numbers of the first places have a mark.
abbrev pub Marked : List ℕ → ℕ → List Bool → Type 0
Marked ns k met = (i : ℕ) → i < k → get_or met (get_or ns i 0) false ≡ true

-- One more.
pub marked_more : (ns : List ℕ) (k : ℕ) (met : List Bool) → get_or ns k 0 < length met → Marked ns k met
    → Marked ns (k + 1) (set met (get_or ns k 0) true)
marked_more ns k met room m i h =
    cases (eqb (get_or ns i 0) (get_or ns k 0))
    (λ e. rw (eqb-true (get_or ns i 0) (get_or ns k 0) e) (get_or-set_same met (get_or ns k 0) true false room))
    (λ e. let apart = eqb-false (get_or ns i 0) (get_or ns k 0) e in
    get_or-set_other met (get_or ns k 0) (get_or ns i 0) true false apart
    ∙ m i (lt-of-other (λ (same : i ≡ k). apart (ap (λ (z : ℕ). get_or ns z 0) same)) h))
  where
    lt-of-other : i ≢ k → i < k + 1 → i < k
    lt-of-other n b = cases (ltb i k) (λ e. ltb-true i k e) (λ e. let le = ltb-false i k e in absurd (n (omega arith)))

-- A number without a mark is unlike all before it: on to the next place.
pub unmarked-on : (ns : List ℕ) (k : ℕ) (met : List Bool) → k < length ns → Marked ns k met → get_or met (get_or ns k 0) false ≢ true
    → first (stood_earlier ns) k (length ns) ≡ first (stood_earlier ns) (k + 1) (length ns)
unmarked-on ns k met b m new = unlike-on ns k b λ i h e. new (rw (sym e) (m i h))

-- ---- check 7

-- The same search by a test that agrees.
first_cong : (p q : ℕ → Bool) (n : ℕ) → ((k : ℕ) → k < n → p k ≡ q k) → first p 0 n ≡ first q 0 n
first_cong p q n e =
    let f = first-is q 0 n (omega arith) in
    let same_first : IsFirst p 0 n (first q 0 n) =
    record {
      from = f.from;
      to = f.to;
      passes = λ b. e (first q 0 n) b ∙ f.passes b;
      before = λ k a b. e k (omega (arith, f.to)) ∙ f.before k a b;
    } in
    first-unique p 0 n (first p 0 n) (first q 0 n) (first-is p 0 n (omega arith)) same_first

-- Over the numbers of all jobs the search is that of check 7.
pub repeat-again : (zs : List ℤ) (ns : List ℕ) → length ns ≡ job_count zs
    → ((k : ℕ) → k < length ns → number_at zs k ≡ pos (get_or ns k 0)) → first_repeat zs ≡ first_again ns
unfolding first_repeat first_again
repeat-again zs ns l g =
    rw (← l)
    (first_cong (repeated_at zs) (stood_earlier ns) (length ns)
    (λ k b. ap (λ f. ltb f k)
    (first_cong (same_at zs k) (alike ns k) k
    (λ j a. rw (g j (omega arith), g k b) (same-is (get_or ns j 0) (get_or ns k 0))))))
